-- How what was planned answers the request once it is done.
use Rattle.std.proofs.Common.{◌≡◌, ◌∙◌, Result, Ok, Err, sym, ap, subst}
use Rattle.library_model.specs.declared.replies.Reply.{Reply}
use Rattle.library_steps.specs.State.{State, Memory, memory_of}
use Rattle.library_steps.specs.Change.{Change, does}
use Rattle.library_parts.specs.Answers.{Answers}
use Rattle.record_changes.specs.Plans.{as_read}

-- an effect that reads no more of the plan than was planned
as_read-does : {A : Type 0} (bare : A → A) (wanted : Result A Reply) (planned : A) (effect : A → Change) → ((a : A) → effect (bare a) ≡ effect a) → as_read bare wanted ≡ Ok planned
    → does effect wanted ≡ Ok (effect planned)
as_read-does bare (Ok a) planned effect reads is = let same : bare a ≡ planned = cc in ap (λ (c : Change). Ok c) (sym (reads a) ∙ ap effect same)
as_read-does bare (Err reply) planned effect reads is = absurd cc

module _ {A : Type 0} (bare : A → A) (effect : Memory → A → Change) (reads : (m : Memory) (a : A) → effect m (bare a) ≡ effect m a) where
  -- it is done in a state that is as it was when it was planned
  pub Answers-planned : (before ready after : State) (reply : Reply) (plan : Result A Reply) (planned : A) → as_read bare plan ≡ Ok planned → ready ≡ before
      → Answers ready after (Ok reply) (Ok (effect (memory_of ready) planned))
      → Answers before after (Ok reply) (does (effect (memory_of before)) plan)
  Answers-planned before ready after reply plan planned is same answers =
      let here : Answers before after (Ok reply) (Ok (effect (memory_of before) planned)) =
      subst (λ (s : State). Answers s after (Ok reply) (Ok (effect (memory_of s) planned))) same answers in
      subst (λ (wanted : Result Change Reply). Answers before after (Ok reply) wanted) (sym (as_read-does bare plan planned (effect (memory_of before)) (reads (memory_of before)) is)) here
