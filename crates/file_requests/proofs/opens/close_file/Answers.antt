use Rattle.std.proofs.Common.{◌≡◌, ◌∙◌, Ok, refl, ap, rules}
use Rattle.library_model.specs.declared.replies.Reply.TheVariants.{Done}
use Rattle.library_steps.specs.State.{OpenState, memory_of, open_named, with_job}
use Rattle.library_steps.specs.Refusals.{named_or_refused}
use Rattle.library_steps.specs.Change.{does, unjournaled}
use Rattle.library_steps.specs.Opens.{closed, without_open}
use Rattle.file_requests.proofs.opens.close_file.Goals as goal

pub returns-clause-answers : goal.returns-clause-answers
returns-clause-answers c =
    let old = c.args.contents.now.state in
    let m = memory_of old in
    let job = c.args.job in
    let args = c.args.args.now in
    let opened = c.in_ok-opened.opened.now.state in
    let shown : named_or_refused args.open_id (open_named args.open_id job m) ≡ Ok opened = search rules in
    let freed = rw (c.level_of-level.ensures, c.holder_of-holder.ensures, c.record_of-at.ensures, c.here-here.ensures) at c.free_for.ensures.memory in
    let memory : memory_of c.remove_open.new.self.state ≡ closed job args opened m = c.remove_open.ensures.memory ∙ ap (with_job job (without_open args.open_id)) freed in
    c.effects_answer.ensures.unjournaled old c.remove_open.new.self.state Done (closed job args opened m) _
    (ap (does (λ (o : OpenState). unjournaled Done (closed job args o m))) shown) memory refl (c.remove_open.ensures.entries ∙ c.free_for.ensures.entries)
