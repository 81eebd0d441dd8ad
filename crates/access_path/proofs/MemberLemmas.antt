-- The members with one of them in another state.
use Rattle.std.proofs.Common.{ℕ, ◌≡◌, ◌≢◌, ◌==◌, Bool, true, false, cond, List, [], ◌∷◌, Option, Some, None, IsSome, refl, sym, ap, arith, ◌∙◌}
use Rattle.std.specs.Prelude.{unwrap_or}
use Rattle.std.proofs.lemmas.Bool.{cond-true, cond-false}
use Rattle.std.proofs.lemmas.Bool.Decides.{nat_tests}
use Rattle.member_slots.specs.Member.{MemberState, empty_member}
use Rattle.member_slots.specs.Members.{Numbered, NumberedMembers, item_at, with_item, member_at, member_of, with_member}

at-with_same : (number : ℕ) (item : MemberState) (entries : NumberedMembers) → IsSome (item_at number entries) → item_at number (with_item number item entries) ≡ Some item
at-with_same number item [] there = absurd cc
at-with_same number item (entry ∷ entries) there = by (entry.number == number) refl there (at-with_same number item entries)
  where
    itself : (number == number) ≡ true
    itself = grind (arith, nat_tests)

    by : (b : Bool) → (entry.number == number) ≡ b → IsSome (cond b (Some entry.item) (item_at number entries))
        → (IsSome (item_at number entries) → item_at number (with_item number item entries) ≡ Some item)
        → item_at number (cond b (record { number = number; item = item } ∷ entries) (entry ∷ with_item number item entries)) ≡ Some item
    by true is found rest = cond-true (number == number) (Some item) (item_at number entries) itself
    by false is found rest = cond-false (entry.number == number) (Some entry.item) (item_at number (with_item number item entries)) is ∙ rest found

at-with_other : (number other : ℕ) (item : MemberState) (entries : NumberedMembers) → other ≢ number → item_at other (with_item number item entries) ≡ item_at other entries
at-with_other number other item [] differs = refl
at-with_other number other item (entry ∷ entries) differs = grind (arith, nat_tests, at-with_other number other item entries differs)

-- the member has that state
pub with-here : (other number : ℕ) (member : MemberState) (members : NumberedMembers) → IsSome (member_at number members) → other ≡ number
    → member_of other (with_member number member members) ≡ member
with-here other number member members there same =
    ap (λ (n : ℕ). member_of n (with_member number member members)) same
    ∙ ap (λ (o : Option MemberState). unwrap_or o (empty_member 0)) (at-with_same number member members there)

-- each other one has its own
pub with-others : (other number : ℕ) (member : MemberState) (members : NumberedMembers) → other ≢ number → member_of other (with_member number member members) ≡ member_of other members
with-others other number member members differs = ap (λ (o : Option MemberState). unwrap_or o (empty_member 0)) (at-with_other number other member members differs)
