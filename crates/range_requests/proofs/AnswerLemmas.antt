-- What is answered once the slots of a plan were put and its entries deposited.
use Rattle.std.proofs.Common.{◌≡◌, Bool, Result, Ok, Err, true, refl, sym, ap, subst, ◌∙◌}
use Rattle.member_slots.specs.Members.{NumberedMembers}
use Rattle.library_model.specs.declared.replies.Reply.{Reply}
use Rattle.library_model.specs.declared.replies.Reply.TheVariants as replies
use Rattle.library_steps.specs.State.{State, memory_of}
use Rattle.library_steps.specs.UniqueKeys.{all_apart, unique_paths}
use Rattle.library_steps.specs.Change.{Change, does, journaled}
use Rattle.library_steps.specs.Ranges.{RangeWork, range_change, with_range}
use Rattle.library_parts.specs.Answers.{Answers, MayAllow}
use Rattle.library_parts.below.parts_model.specs.declared.stop.Stop.{Stop}
use Rattle.library_parts.below.parts_model.specs.declared.stop.Stop.TheVariants.{NoMemory, Refused}
use Rattle.library_steps.specs.Refusals.{◌>>=◌}
use Rattle.library_parts.specs.Deposits.{Leaves}
use Rattle.range_requests.specs.declared.plans.Plan.{Plan}
use Rattle.library_parts.specs.Given.{with_given}
use Rattle.range_requests.specs.Plans.{IsPlanOf, keys_apart, range_answer}
use Rattle.range_requests.proofs.PlanLemmas.{same-members}

abbrev pub plan_change : State → Plan → Change
plan_change s plan = journaled plan.drafts.items true (replies.Range plan.first plan.last plan.changes) (with_given plan.member plan.given.items (memory_of s))

memory-given : (s : State) (work : RangeWork) (plan : Plan) → IsPlanOf s work plan → with_range work.range work.done (memory_of s) ≡ with_given plan.member plan.given.items (memory_of s)
memory-given s work plan is = ap (λ (ms : NumberedMembers). record (memory_of s) { members = ms }) (same-members s work plan is)

change-is : (s : State) (work : RangeWork) (plan : Plan) → IsPlanOf s work plan → range_change (memory_of s) work ≡ plan_change s plan
change-is s work plan is =
    let memory = memory-given s work plan is in
    (λ i. journaled (is.drafts i) true (replies.Range (is.first i) (is.last i) (is.count i)) (memory i))

-- the keys of the work are those of what the plan gives
pub keys-given : (s : State) (work : RangeWork) (plan : Plan) → IsPlanOf s work plan
    → keys_apart s work ≡ all_apart (unique_paths plan.member (memory_of s)) (with_given plan.member plan.given.items (memory_of s))
keys-given s work plan is =
    let memory = memory-given s work plan is in
    (λ i. all_apart (unique_paths (is.number i) (memory_of s)) (memory i))

pub give-answers : (old new : State) (work : RangeWork) (plan : Plan) → IsPlanOf old work plan → Leaves old new (plan_change old plan)
    → Answers old new (Ok (replies.Range plan.first plan.last plan.changes)) (Ok (range_change (memory_of old) work))
give-answers old new work plan is left =
    let same = change-is old work plan is in
    (range_change (memory_of old) work, refl, ap (λ (c : Change). c.reply) same, subst (Leaves old new) (sym same) left)

-- where the keys are apart, what is done is the change
pub kept-answers : (old new : State) (result : Result Reply Stop) (work : RangeWork) → keys_apart old work ≡ Ok true → Answers old new result (Ok (range_change (memory_of old) work))
    → Answers old new result (range_answer old work)
kept-answers old new result work apart answers =
    subst (Answers old new result) (sym (ap (λ (r : Result Bool Reply). r >>= λ v. Ok (range_change (memory_of old) work)) apart)) answers

-- where the keys of what is given are apart, the change is what the work does
pub given-answers : (old new : State) (work : RangeWork) (plan : Plan) → IsPlanOf old work plan → all_apart (unique_paths plan.member (memory_of old)) (with_given plan.member plan.given.items (memory_of old)) ≡ Ok true
    → Leaves old new (plan_change old plan) → Answers old new (Ok (replies.Range plan.first plan.last plan.changes)) (range_answer old work)
given-answers old new work plan is apart left =
    kept-answers old new (Ok (replies.Range plan.first plan.last plan.changes)) work (keys-given old work plan is ∙ apart) (give-answers old new work plan is left)

-- where it was refused or memory was wanting, nothing has changed
pub stopped-answers : (old new : State) (work : RangeWork) (plan : Plan) → IsPlanOf old work plan → (stop : Stop) → new ≡ old
    → MayAllow (Err stop) (all_apart (unique_paths plan.member (memory_of old)) (with_given plan.member plan.given.items (memory_of old))) → Answers old new (Err stop) (range_answer old work)
stopped-answers old new work plan is NoMemory same apart = same
stopped-answers old new work plan is (Refused reply) same apart =
    (same, ap (λ (r : Result Bool Reply). r >>= λ v. Ok (range_change (memory_of old) work)) (keys-given old work plan is ∙ apart))

pub done-answers : (old new : State) (result : Result Reply Stop) (plan : Result RangeWork Reply) (work : RangeWork) → plan ≡ (keys_apart old work >>= λ apart. Ok work)
    → Answers old new result (range_answer old work)
    → Answers old new result (does (range_change (memory_of old)) plan)
done-answers old new result plan work is answers =
    subst (Answers old new result) (sym (ap (does (range_change (memory_of old))) is ∙ through (keys_apart old work))) answers
  where
    through : (r : Result Bool Reply) → does (range_change (memory_of old)) (r >>= λ apart. Ok work) ≡ (r >>= λ apart. Ok (range_change (memory_of old) work))
    through (Ok b) = refl
    through (Err reply) = refl
