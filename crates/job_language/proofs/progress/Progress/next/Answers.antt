use Rattle.std.proofs.Common.{◌≡◌, ◌∙◌, sym, ap, rules, option_copied, ◌++◌, ◌∷◌, []}
use Rattle.job_language.specs.Asks.{JobState, state_after, asks_in, progress_of}
use Rattle.job_language.specs.Positions.{state_at}
use Rattle.job_language.proofs.StateLemmas.{after_replies-more}
use Rattle.job_language.proofs.FallLemmas.{next-falls}
use Rattle.job_language.proofs.progress.Progress.next.Goals as goal

pub returns-in-Ok-clause-falls : goal.returns-in-Ok-clause-falls
returns-in-Ok-clause-falls c =
    let new : JobState = state_at c.in-Ok.field-0.position c.settle.new.self.now in
    let is : new ≡ state_after c.args.script.now c.args.self.now (option_copied c.args.last) = search rules in
    let asked : c.in-Ok.field-0.request ≡ asks_in c.args.script.now new c.args.full = search rules in
    next-falls c.args.script.now c.args.self.now new (option_copied c.args.last) c.args.full c.in-Ok.field-0.request is asked

pub returns-in-Ok-clause-later_state : goal.returns-in-Ok-clause-later_state
returns-in-Ok-clause-later_state c replies reply before last =
    let is : state_at c.in-Ok.field-0.position c.settle.new.self.now ≡ state_after c.args.script.now c.args.self.now (option_copied c.args.last) = search rules in
    is ∙ rw (last, before) (sym (after_replies-more c.args.script.now _ replies reply))

pub returns-in-Ok-clause-later_request : goal.returns-in-Ok-clause-later_request
returns-in-Ok-clause-later_request c replies reply before last =
    let is : state_at c.in-Ok.field-0.position c.settle.new.self.now ≡ state_after c.args.script.now c.args.self.now (option_copied c.args.last) = search rules in
    let asked : c.in-Ok.field-0.request ≡ asks_in c.args.script.now (state_at c.in-Ok.field-0.position c.settle.new.self.now) c.args.full = search rules in
    let later : state_at c.in-Ok.field-0.position c.settle.new.self.now ≡ progress_of c.args.script.now (replies ++ reply ∷ []) =
    is ∙ rw (last, before) (sym (after_replies-more c.args.script.now _ replies reply)) in
    asked ∙ ap (λ state. asks_in c.args.script.now state c.args.full) later
