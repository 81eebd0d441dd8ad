-- While changes are taken back one after the other, what is left to take back leads to where all of them would have led.
use Rattle.std.proofs.Common.{◌≡◌, ◌∙◌, ℕ, ◌+◌, ◌*◌, ◌≤◌, List, [], ◌∷◌, length, Some, subst, sym, refl, ap, arith}
use Rattle.std.specs.List.{AllByRecursion}
use Rattle.member_slots.specs.Members.{NumberedMembers, RoomyMembers}
use Rattle.journal_model.specs.Replay.{before_of}
use Rattle.journal_model.specs.Rollback.{MemberChange, change_drafts, undo_drafts, undo_kinds}
use Rattle.memory_journal.specs.Journal.{Held, deposited}
use Rattle.lawful_states.specs.Back.{member_back, members_back}
use Rattle.lawful_states.specs.Lawful.{FitsPlace}
use Rattle.parts_model.proofs.BoundaryLemmas.{deposited-append, deposited-none}
use Rattle.lawful_states.proofs.BoundaryLemmas.{places-back}

-- these changes are left, with the members and the journal as they are now
pub record IsUnderway (job : List ℕ) (moment : ℕ) (all : List MemberChange) (first : RoomyMembers) (begun : Held) (left : List MemberChange) (now : RoomyMembers) (held : Held) : Type 0 where
  pub fit : AllByRecursion (FitsPlace now.members) left
  pub room : 2 * length left ≤ held.room
  pub members : members_back left now.members ≡ members_back all first.members
  pub spares : now.spares ≡ first.spares
  pub member_room : now.room ≡ first.room
  pub journal : deposited (undo_drafts (Some job) moment left) held.journal ≡ deposited (undo_drafts (Some job) moment all) begun.journal
  pub kept : begun.room + 2 * length left ≤ held.room + 2 * length all

module _ (job : List ℕ) (moment : ℕ) (all : List MemberChange) (first : RoomyMembers) (begun : Held) where
  pub IsUnderway-first : AllByRecursion (FitsPlace first.members) all → 2 * length all ≤ begun.room → IsUnderway job moment all first begun all first begun
  IsUnderway-first fit room = record { fit = fit; room = room; members = refl; spares = refl; member_room = refl; journal = refl; kept = omega arith }

  -- the next change that is taken back
  pub IsUnderway-next : (left rest : List MemberChange) (undo : MemberChange) (now after : RoomyMembers) (held next : Held) → IsUnderway job moment all first begun left now held → left ≡ undo ∷ rest
      → after.members ≡ member_back undo now.members → after.spares ≡ now.spares → after.room ≡ now.room
      → next.journal ≡ deposited (change_drafts (Some job) moment undo (undo_kinds (before_of undo.change) undo.change.after)) held.journal → held.room ≤ next.room + 2
      → IsUnderway job moment all first begun rest after next
  IsUnderway-next left rest undo now after held next is out members spares member_room journal room =
      let here : IsUnderway job moment all first begun (undo ∷ rest) now held = subst (λ (l : List MemberChange). IsUnderway job moment all first begun l now held) out is in
      let before = here.room in
      let kept = here.kept in
      record {
        fit = subst (λ (ms : NumberedMembers). AllByRecursion (FitsPlace ms) rest) (sym members) (places-back now.members undo rest here.fit.1);
        room = omega (arith, before, room);
        members = ap (λ (ms : NumberedMembers). members_back rest ms) members ∙ here.members;
        spares = spares ∙ here.spares;
        member_room = member_room ∙ here.member_room;
        journal = ap (deposited (undo_drafts (Some job) moment rest)) journal
            ∙ deposited-append (change_drafts (Some job) moment undo (undo_kinds (before_of undo.change) undo.change.after)) (undo_drafts (Some job) moment rest) held.journal ∙ here.journal;
        kept = omega (arith, kept, room);
      }

  -- the place of the change that is next, and room for its entries
  pub next-fits : (left rest : List MemberChange) (undo : MemberChange) (now : RoomyMembers) (held : Held) → IsUnderway job moment all first begun left now held → left ≡ undo ∷ rest
      → FitsPlace now.members undo × (2 ≤ held.room)
  next-fits left rest undo now held is out =
      let here : IsUnderway job moment all first begun (undo ∷ rest) now held = subst (λ (l : List MemberChange). IsUnderway job moment all first begun l now held) out is in
      let before = here.room in
      (here.fit.0, omega (arith, before))

  -- none is left
  pub IsUnderway-none : (left : List MemberChange) (now : RoomyMembers) (held : Held) → IsUnderway job moment all first begun left now held → left ≡ []
      → IsUnderway job moment all first begun [] now held
  IsUnderway-none left now held is none = subst (λ (l : List MemberChange). IsUnderway job moment all first begun l now held) none is

  pub journal-none : (now : RoomyMembers) (held : Held) → IsUnderway job moment all first begun [] now held → held.journal ≡ deposited (undo_drafts (Some job) moment all) begun.journal
  journal-none now held is = sym (deposited-none held.journal) ∙ is.journal
