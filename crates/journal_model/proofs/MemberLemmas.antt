-- What the entries of a journal do to many members is what they do to each; entries are read alike in whole and in parts.
use Rattle.std.proofs.Common.{◌≡◌, ℕ, Bool, true, false, ◌==◌, cond, List, [], ◌∷◌, ◌++◌, Option, Some, None, refl, sym, ap, ◌∙◌, subst, inl, inr}
use Rattle.std.proofs.lemmas.Bool.{cases_eq, eq-eqb, ne_eqb, eqb-true}
use Rattle.entry_codec.specs.declared.entries.Entry.{Entry}
use Rattle.entry_codec.specs.declared.kinds.EntryKind.{EntryKind}
use Rattle.entry_codec.specs.declared.kinds.EntryKind.TheVariants.{FileCreated, FileDeleted, MemberAdded, JournalingStarted, InitialSlot, JournalingEnded, MemberCleared, MemberReorganized, ChangesApplied, ChangesRemoved, RecordAdded, RecordAddedAtNumber, BeforeImage, AfterImage, RecordDeleted, UndoBeforeImage, UndoAfterImage, UndoDelete, CommitmentStarted, CommitCycleStarted, CommitCycleCommitted, CommitCycleRolledBack, CommitmentEnded, AbnormalEnd, NextReceiver, PreviousReceiver}
use Rattle.member_slots.specs.declared.slot.Slot.{Slot}
use Rattle.journal_model.specs.Acts.{act, acts, act_there, act_elsewhere, is_number, entry_before}
use Rattle.journal_model.specs.Replay.{moved, all_moved}
use Rattle.journal_model.specs.ManyMembers.{NumberedSlots, slots_in, with_slots, member_moved, members_after}

pub acts-append : (member : ℕ) (prior : Option Entry) (xs ys : List Entry) → acts member prior (xs ++ ys) ≡ acts member prior xs ++ acts member (entry_before prior xs) ys
acts-append member prior [] ys = refl
acts-append member prior (e ∷ xs) ys = ap (λ rest. act member prior e ∷ rest) (acts-append member (Some e) xs ys)

elsewhere : (kind : EntryKind) (e : Entry) (slots : List Slot) → moved slots (act_elsewhere kind e) ≡ slots
elsewhere CommitCycleStarted e slots = refl
elsewhere CommitCycleCommitted e slots = refl
elsewhere CommitCycleRolledBack e slots = refl
elsewhere (RecordAdded image) e slots = refl
elsewhere (RecordAddedAtNumber image) e slots = refl
elsewhere (BeforeImage image) e slots = refl
elsewhere (AfterImage has_before image) e slots = refl
elsewhere (RecordDeleted before) e slots = refl
elsewhere (UndoBeforeImage image) e slots = refl
elsewhere (UndoAfterImage has_before image) e slots = refl
elsewhere (UndoDelete image) e slots = refl
elsewhere (JournalingStarted images number) e slots = refl
elsewhere (InitialSlot image) e slots = refl
elsewhere JournalingEnded e slots = refl
elsewhere MemberCleared e slots = refl
elsewhere MemberReorganized e slots = refl
elsewhere (ChangesApplied first last changes) e slots = refl
elsewhere (ChangesRemoved first last changes) e slots = refl
elsewhere (FileCreated kind name source) e slots = refl
elsewhere (FileDeleted name) e slots = refl
elsewhere (MemberAdded file name) e slots = refl
elsewhere (CommitmentStarted level) e slots = refl
elsewhere CommitmentEnded e slots = refl
elsewhere AbnormalEnd e slots = refl
elsewhere (NextReceiver number) e slots = refl
elsewhere (PreviousReceiver number) e slots = refl

slots_in-with_same : (number : ℕ) (slots : List Slot) (members : List NumberedSlots) → slots_in number (with_slots number slots members) ≡ slots
slots_in-with_same number slots [] = rw (eq-eqb number number refl) refl
slots_in-with_same number slots (m ∷ members) = at (m.number == number) refl (slots_in-with_same number slots members) where
  at : (b : Bool) → m.number == number ≡ b → slots_in number (with_slots number slots members) ≡ slots
      → slots_in number (cond b (record { number = number; slots = slots } ∷ members) (m ∷ with_slots number slots members)) ≡ slots
  at true e more = rw (eq-eqb number number refl) refl
  at false e more = rw e more

slots_in-with_other : (number other : ℕ) (slots : List Slot) (members : List NumberedSlots) → (number ≡ other → ⊥) → slots_in other (with_slots number slots members) ≡ slots_in other members
slots_in-with_other number other slots [] differs = rw (ne_eqb number other differs) refl
slots_in-with_other number other slots (m ∷ members) differs = at (m.number == number) refl (slots_in-with_other number other slots members differs) where
  at : (b : Bool) → m.number == number ≡ b → slots_in other (with_slots number slots members) ≡ slots_in other members
      → slots_in other (cond b (record { number = number; slots = slots } ∷ members) (m ∷ with_slots number slots members)) ≡ cond (m.number == other) m.slots (slots_in other members)
  at true e more = rw (ne_eqb number other differs, ne_eqb m.number other (λ f. differs (sym (eqb-true m.number number e) ∙ f))) refl
  at false e more = ap (λ (r : List Slot). cond (m.number == other) m.slots r) more

act_not_there : (number : ℕ) (prior : Option Entry) (e : Entry) (slots : List Slot) → is_number e.member number ≡ false → moved slots (act number prior e) ≡ slots
act_not_there number prior e slots h = ap (λ (b : Bool). moved slots (cond b (act_there e.kind prior e) (act_elsewhere e.kind e))) h ∙ elsewhere e.kind e slots

member_moved-at : (number : ℕ) (named : Option ℕ) (prior : Option Entry) (e : Entry) (members : List NumberedSlots) → e.member ≡ named
    → slots_in number (member_moved named prior e members) ≡ moved (slots_in number members) (act number prior e)
member_moved-at number None prior e members h = sym (act_not_there number prior e (slots_in number members) (ap (λ (o : Option ℕ). is_number o number) h))
member_moved-at number (Some own) prior e members h = elim (cases_eq own number) [
  | inl same ↦ subst (λ (q : ℕ). slots_in q (with_slots own (moved (slots_in own members) (act own prior e)) members) ≡ moved (slots_in q members) (act q prior e)) same
      (slots_in-with_same own (moved (slots_in own members) (act own prior e)) members)
  | inr differs ↦ slots_in-with_other own number (moved (slots_in own members) (act own prior e)) members differs
      ∙ sym (act_not_there number prior e (slots_in number members) (ap (λ (o : Option ℕ). is_number o number) h ∙ ne_eqb own number differs))
]

pub members_after-each : (number : ℕ) (members : List NumberedSlots) (prior : Option Entry) (entries : List Entry)
    → slots_in number (members_after members prior entries) ≡ all_moved (slots_in number members) (acts number prior entries)
members_after-each number members prior [] = refl
members_after-each number members prior (e ∷ entries) =
    members_after-each number (member_moved e.member prior e members) (Some e) entries
    ∙ ap (λ (slots : List Slot). all_moved slots (acts number (Some e) entries)) (member_moved-at number e.member prior e members refl)
