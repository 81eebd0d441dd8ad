-- A member that isn't journaled changes: the journal tells nothing of it.
use Rattle.std.proofs.Common.{◌≡◌, ℕ, ◌==◌, Bool, true, false, cond, Option, Some, None, List, [], ◌∷◌, map, unwrap_or, refl, sym, ap, ◌∙◌, subst, arith}
use Rattle.std.specs.Option.{is_some, option_map}
use Rattle.std.proofs.lemmas.Bool.{eqb-true}
use Rattle.std.proofs.lemmas.Bool.Decides.{nat_tests}
use Rattle.member_slots.specs.Member.{MemberState, empty_member}
use Rattle.member_slots.specs.Members.{NumberedMembers, member_at, member_of, with_member}
use Rattle.journal_replay.specs.Standing.{HeldMember}
use Rattle.library_model.specs.Named.{Named}
use Rattle.library_steps.specs.State.{FileState, MemberStatus}
use Rattle.library_steps.specs.SlotChange.{status_among}
use Rattle.replayed_histories.specs.Replayed.{MemberStands}
use Rattle.replayed_histories.proofs.MemberLemmas.{statuses_changed}
use Rattle.replayed_histories.proofs.StatusLemmas.{among-changed, among-number}

-- ---- the members

pub at-other : (n number : ℕ) (item : MemberState) (members : NumberedMembers) → (number == n) ≡ false → member_at n (with_member number item members) ≡ member_at n members
at-other n number item [] other = refl
at-other n number item (entry ∷ members) other = by (entry.number == number) refl (at-other n number item members other) where
  by : (b : Bool) → (entry.number == number) ≡ b → member_at n (with_member number item members) ≡ member_at n members
      → member_at n (cond b (record { number = number; item = item } ∷ members) (entry ∷ with_member number item members)) ≡ member_at n (entry ∷ members)
  by true is rest =
      let its : (entry.number == n) ≡ false = ap (λ (x : ℕ). x == n) (eqb-true entry.number number is) ∙ other in
      ap (λ (c : Bool). cond c (Some item) (member_at n members)) other ∙ sym (ap (λ (c : Bool). cond c (Some entry.item) (member_at n members)) its)
  by false is rest = ap (λ (o : Option MemberState). cond (entry.number == n) (Some entry.item) o) rest

pub numbers-same : (number : ℕ) (item : MemberState) (members : NumberedMembers) → map (λ entry. entry.number) (with_member number item members) ≡ map (λ entry. entry.number) members
numbers-same number item [] = refl
numbers-same number item (entry ∷ members) = by (entry.number == number) refl (numbers-same number item members) where
  by : (b : Bool) → (entry.number == number) ≡ b → map (λ x. x.number) (with_member number item members) ≡ map (λ x. x.number) members
      → map (λ x. x.number) (cond b (record { number = number; item = item } ∷ members) (entry ∷ with_member number item members)) ≡ map (λ x. x.number) (entry ∷ members)
  by true is rest = ap (λ (n : ℕ). n ∷ map (λ x. x.number) members) (sym (eqb-true entry.number number is))
  by false is rest = ap (λ (t : List ℕ). entry.number ∷ t) rest

-- ---- what the journal leaves of it

module _ (files : Named FileState) (members : NumberedMembers) (status : MemberStatus) (item : MemberState) (h : MemberStatus → MemberStatus)
    (found : status_among status.number files ≡ Some status) (untold : status.images ≡ None) (number-same : (st : MemberStatus) → (h st).number ≡ st.number)
    (images-same : (st : MemberStatus) → (h st).images ≡ st.images) (records-same : (st : MemberStatus) → (h st).records_then ≡ st.records_then) (changed : (h status).changed ≡ true) where
  abbrev g : MemberStatus → MemberStatus
  g st = cond (st.number == status.number) (h st) st

  g-number : (st : MemberStatus) → (g st).number ≡ st.number
  g-number st = elim (st.number == status.number) as (λ b. (cond b (h st) st).number ≡ st.number) [ true ↦ number-same st | false ↦ refl ]

  pub untold-stands : (m : HeldMember) → MemberStands files members m → MemberStands (map (statuses_changed g) files) (with_member status.number item members) m
  untold-stands m stands = by (status.number == m.number) refl where
    here : stands.status.number ≡ m.number
    here = among-number m.number files stands.status stands.found

    by : (b : Bool) → (status.number == m.number) ≡ b → MemberStands (map (statuses_changed g) files) (with_member status.number item members) m
    by true is =
        let same : status.number ≡ m.number = eqb-true status.number m.number is in
        let both : ◌≡◌ {A = Option MemberStatus} (Some stands.status) (Some status) =
        sym stands.found ∙ subst (λ (n : ℕ). status_among n files ≡ Some status) same found
        in
        let its : stands.status ≡ status = cc in
        let one : (stands.status.number == status.number) ≡ true = grind (arith, nat_tests, here, same) in
        let none : m.images ≡ None = stands.images ∙ ap (λ (x : MemberStatus). x.images) its ∙ untold in
        let moved : (h stands.status).changed ≡ true = subst (λ (x : MemberStatus). (h x).changed ≡ true) (sym its) changed in
        record {
          counted = stands.counted;
          status = h stands.status;
          found = among-changed g g-number m.number files ∙ ap (option_map g) stands.found ∙ ap (λ (b : Bool). Some (cond b (h stands.status) stands.status)) one;
          images = stands.images ∙ sym (images-same stands.status);
          journaled = λ on. absurd (let off : is_some m.images ≡ false = ap is_some none in let clash : ◌≡◌ {A = Bool} true false = sym on ∙ off in cc);
          ended = λ off. record {
            records_then = records-same stands.status ∙ (stands.ended off).records_then;
            unchanged = λ so. absurd (let clash : ◌≡◌ {A = Bool} true false = sym moved ∙ so in cc);
          };
        }
    by false is =
        let other : (stands.status.number == status.number) ≡ false = grind (arith, nat_tests, here, is) in
        let same : member_of m.number (with_member status.number item members) ≡ member_of m.number members =
        ap (λ (o : Option MemberState). unwrap_or o (empty_member 0)) (at-other m.number status.number item members is)
        in
        let slots = ap (λ (x : MemberState). x.slots) (sym same) in
        record {
          counted = stands.counted;
          status = stands.status;
          found = among-changed g g-number m.number files ∙ ap (option_map g) stands.found ∙ ap (λ (b : Bool). Some (cond b (h stands.status) stands.status)) other;
          images = stands.images;
          journaled = λ on. stands.journaled on ∙ slots;
          ended = λ off. record { records_then = (stands.ended off).records_then; unchanged = λ so. (stands.ended off).unchanged so ∙ slots };
        }
