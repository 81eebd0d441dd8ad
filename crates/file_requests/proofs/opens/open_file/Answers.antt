use Rattle.std.proofs.Common.{ℕ, List, refl, ap}
use Rattle.library_model.specs.declared.replies.Reply.TheVariants.{Done}
use Rattle.library_steps.specs.State.{memory_of, with_job}
use Rattle.library_steps.specs.Change.{does, unjournaled}
use Rattle.library_steps.specs.Opens.{with_open}
use Rattle.file_requests.proofs.opens.open_file.Goals as goal

pub returns : goal.returns
returns c =
    let old = c.args.contents.now.state in
    let m = memory_of old in
    let job = c.args.job in
    let args = c.args.args.now in
    record {
      answers = c.effects_answer.ensures.unjournaled old c.add_open.new.self.state Done (with_job job (with_open args c.in_ok-members.members) m) _
          (ap (does (λ (members : List ℕ). unjournaled Done (with_job job (with_open args members) m))) c.in_ok-members.ensures.plan) c.add_open.ensures.memory refl c.add_open.ensures.entries;
    }
