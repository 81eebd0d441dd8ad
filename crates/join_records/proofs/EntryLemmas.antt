-- The record of an entry of the primary's path is the one with its number.
use Rattle.std.proofs.Common.{◌≡◌, ℕ, zero, suc, ◌+◌, ◌-◌, ◌<◌, ◌==◌, cond, List, [], ◌∷◌, None, refl, sym, ◌∙◌, ap, arith}
use Rattle.std.specs.List.{slice_get}
use Rattle.std.specs.declared.cmp.Ordering.{Ordering}
use Rattle.std.specs.declared.cmp.Ordering.TheVariants.{Less, Equal, Greater}
use Rattle.std.specs.Ordering.{MatchOrdering, nat_cmp, is_eq}
use Rattle.std.proofs.lemmas.Cmp.{ranked}
use Rattle.std.proofs.lemmas.Bool.{cond-false, ne_eqb}
use Rattle.member_slots.specs.declared.slot.Slot.{Slot}
use Rattle.member_slots.specs.declared.slot.Slot.TheVariants.{Live, Deleted}
use Rattle.member_slots.specs.Member.{MemberState, records, records_from}
use Rattle.file_model.specs.Joins.{image_of_entry}
use Rattle.file_model.specs.Paths.{PathEntry}
use Rattle.join_rows.specs.Numbers.{image_of, image_at}

other-image : (entry : PathEntry) (n : ℕ) (slots : List Slot) → entry.rrn < n → image_of_entry entry (records_from n slots) ≡ []
other-image entry n [] low = refl
other-image entry n (Deleted ∷ slots) low = other-image entry (n + 1) slots (omega (arith, low))
other-image entry n (Live image ∷ slots) low =
    by (other-image entry (n + 1) slots (omega (arith, low))) (nat_cmp n entry.rrn) (ranked n entry.rrn (nat_cmp n entry.rrn) refl)
  where
    by : image_of_entry entry (records_from (n + 1) slots) ≡ [] → (o : Ordering) → MatchOrdering o (n < entry.rrn) (n ≡ entry.rrn) (entry.rrn < n)
        → cond (is_eq o) image (image_of_entry entry (records_from (n + 1) slots)) ≡ []
    by rest Less h = rest
    by rest Equal h = absurd (omega (arith, low, h))
    by rest Greater h = rest

slot-image : (entry : PathEntry) (n k : ℕ) (slots : List Slot) → entry.rrn ≡ n + k → image_of_entry entry (records_from n slots) ≡ image_of (slice_get slots k)
slot-image entry n k [] at = refl
slot-image entry n zero (Deleted ∷ slots) at = other-image entry (n + 1) slots (omega (arith, at))
slot-image entry n (suc k) (Deleted ∷ slots) at = slot-image entry (n + 1) k slots (omega (arith, at))
slot-image entry n zero (Live image ∷ slots) at = by (nat_cmp n entry.rrn) (ranked n entry.rrn (nat_cmp n entry.rrn) refl)
  where
    by : (o : Ordering) → MatchOrdering o (n < entry.rrn) (n ≡ entry.rrn) (entry.rrn < n) → cond (is_eq o) image (image_of_entry entry (records_from (n + 1) slots)) ≡ image
    by Less h = absurd (omega (arith, at, h))
    by Equal h = refl
    by Greater h = absurd (omega (arith, at, h))
slot-image entry n (suc k) (Live image ∷ slots) at =
    by (slot-image entry (n + 1) k slots (omega (arith, at))) (nat_cmp n entry.rrn) (ranked n entry.rrn (nat_cmp n entry.rrn) refl)
  where
    by : image_of_entry entry (records_from (n + 1) slots) ≡ image_of (slice_get slots k) → (o : Ordering) → MatchOrdering o (n < entry.rrn) (n ≡ entry.rrn) (entry.rrn < n)
        → cond (is_eq o) image (image_of_entry entry (records_from (n + 1) slots)) ≡ image_of (slice_get slots k)
    by rest Less h = rest
    by rest Equal h = absurd (omega (arith, at, h))
    by rest Greater h = absurd (omega (arith, at, h))

pub entry-image : (entry : PathEntry) (member : MemberState) → image_of_entry entry (records member) ≡ image_at member entry.rrn
entry-image entry member = by entry.rrn refl
  where
    by : (r : ℕ) → entry.rrn ≡ r → image_of_entry entry (records member) ≡ image_at member r
    by zero none = other-image entry 1 member.slots (omega (arith, none))
    by (suc k) some = slot-image entry 1 k member.slots (omega (arith, some)) ∙ ap (λ i. image_of (slice_get member.slots i)) (let e : k ≡ suc k - 1 = omega arith in e)
        ∙ ap image_of (sym (cond-false (suc k == 0) None (slice_get member.slots (suc k - 1)) (ne_eqb (suc k) 0 (λ e. absurd (omega arith)))))
