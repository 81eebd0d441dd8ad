-- What is given behind the last slot is a record, told of the slot changes that the entries make.
use Rattle.std.proofs.Common.{◌≡◌, ℕ, ◌+◌, ◌-◌, ◌<◌, ◌&&◌, nat_le, Bool, true, false, cond, List, [], ◌∷◌, length, Option, Some, None, Ok, Err, refl, sym, ap, ◌∙◌, subst, arith}
use Rattle.std.specs.List.{AllByRecursion}
use Rattle.entry_codec.specs.declared.entries.Entry.{Entry}
use Rattle.entry_codec.specs.declared.kinds.EntryKind.{EntryKind}
use Rattle.entry_codec.specs.declared.kinds.EntryKind.TheVariants.{FileCreated, FileDeleted, MemberAdded, JournalingStarted, InitialSlot, JournalingEnded, MemberCleared, MemberReorganized, ChangesApplied, ChangesRemoved, RecordAdded, RecordAddedAtNumber, BeforeImage}
use Rattle.entry_codec.specs.declared.kinds.EntryKind.TheVariants.{AfterImage, RecordDeleted, UndoBeforeImage, UndoAfterImage, UndoDelete, CommitmentStarted, CommitCycleStarted, CommitCycleCommitted, CommitCycleRolledBack, CommitmentEnded, AbnormalEnd, NextReceiver, PreviousReceiver}
use Rattle.member_slots.specs.declared.slot.Slot.{Slot}
use Rattle.member_slots.specs.declared.slot.Slot.TheVariants.{Live, Deleted}
use Rattle.member_slots.specs.Member.{is_live}
use Rattle.journal_model.specs.Acts.{Change, act, acts, act_there, act_elsewhere, change_of, is_number}
use Rattle.journal_model.specs.Places.{slot_of, put_slot}
use Rattle.journal_model.specs.Walks.{Numbered, number_change, numbered, is_met, misfit, apply, ◌then◌}
use Rattle.range_images.specs.declared.slot_given.SlotGiven.{SlotGiven}
use Rattle.range_images.specs.Given.{given_forward, AreInPlace, place_given}
use Rattle.range_images.proofs.GivenLemmas.{slot_of-past}
use Rattle.library_parts.specs.Given.{AddRecords}

elsewhere-none : (kind : EntryKind) (e : Entry) → change_of (act_elsewhere kind e) ≡ None
elsewhere-none (FileCreated kind name source) e = refl
elsewhere-none (FileDeleted name) e = refl
elsewhere-none (MemberAdded file name) e = refl
elsewhere-none (JournalingStarted images slots) e = refl
elsewhere-none (InitialSlot image) e = refl
elsewhere-none JournalingEnded e = refl
elsewhere-none MemberCleared e = refl
elsewhere-none MemberReorganized e = refl
elsewhere-none (ChangesApplied first last changes) e = refl
elsewhere-none (ChangesRemoved first last changes) e = refl
elsewhere-none (RecordAdded image) e = refl
elsewhere-none (RecordAddedAtNumber image) e = refl
elsewhere-none (BeforeImage image) e = refl
elsewhere-none (AfterImage has_before image) e = refl
elsewhere-none (RecordDeleted before) e = refl
elsewhere-none (UndoBeforeImage image) e = refl
elsewhere-none (UndoAfterImage has_before image) e = refl
elsewhere-none (UndoDelete image) e = refl
elsewhere-none (CommitmentStarted level) e = refl
elsewhere-none CommitCycleStarted e = refl
elsewhere-none CommitCycleCommitted e = refl
elsewhere-none CommitCycleRolledBack e = refl
elsewhere-none CommitmentEnded e = refl
elsewhere-none AbnormalEnd e = refl
elsewhere-none (NextReceiver number) e = refl
elsewhere-none (PreviousReceiver number) e = refl

-- a change that leaves no record wasn't made where none stood
abbrev pub Lives : Change → Type 0
Lives c = c.after ≡ Deleted → is_met c.before Deleted ≡ false

abbrev LivesIfSome : Option Change → Type 0
LivesIfSome None = Unit {0}
LivesIfSome (Some c) = Lives c

there-lives : (kind : EntryKind) (prior : Option Entry) (e : Entry) → LivesIfSome (change_of (act_there kind prior e))
there-lives (FileCreated kind name source) prior e = tt
there-lives (FileDeleted name) prior e = tt
there-lives (MemberAdded file name) prior e = tt
there-lives (JournalingStarted images slots) prior e = tt
there-lives (InitialSlot image) prior e = tt
there-lives JournalingEnded prior e = tt
there-lives MemberCleared prior e = tt
there-lives MemberReorganized prior e = tt
there-lives (ChangesApplied first last changes) prior e = tt
there-lives (ChangesRemoved first last changes) prior e = tt
there-lives (RecordAdded image) prior e = λ gone. absurd cc
there-lives (RecordAddedAtNumber image) prior e = λ gone. absurd cc
there-lives (BeforeImage image) prior e = tt
there-lives (AfterImage true image) prior e = λ gone. absurd cc
there-lives (AfterImage false image) prior e = λ gone. absurd cc
there-lives (RecordDeleted None) prior e = λ gone. refl
there-lives (RecordDeleted (Some image)) prior e = λ gone. refl
there-lives (UndoBeforeImage image) prior e = tt
there-lives (UndoAfterImage true image) prior e = λ gone. absurd cc
there-lives (UndoAfterImage false image) prior e = λ gone. absurd cc
there-lives (UndoDelete image) prior e = λ gone. refl
there-lives (CommitmentStarted level) prior e = tt
there-lives CommitCycleStarted prior e = tt
there-lives CommitCycleCommitted prior e = tt
there-lives CommitCycleRolledBack prior e = tt
there-lives CommitmentEnded prior e = tt
there-lives AbnormalEnd prior e = tt
there-lives (NextReceiver number) prior e = tt
there-lives (PreviousReceiver number) prior e = tt

change-lives : (number : ℕ) (prior : Option Entry) (e : Entry) → LivesIfSome (change_of (act number prior e))
change-lives number prior e =
    elim (is_number e.member number) as (λ b. LivesIfSome (change_of (cond b (act_there e.kind prior e) (act_elsewhere e.kind e)))) [
      | true ↦ there-lives e.kind prior e
      | false ↦ subst LivesIfSome (sym (elsewhere-none e.kind e)) tt
    ]

abbrev LivesNumbered : Numbered → Type 0
LivesNumbered n = Lives n.change

lives-more : (first : ℕ) (o : Option Change) (rest : List Numbered) → LivesIfSome o → AllByRecursion LivesNumbered rest → AllByRecursion LivesNumbered (number_change first o rest)
lives-more first None rest lives all = all
lives-more first (Some c) rest lives all = (lives, all)

numbered-lives : (number first : ℕ) (prior : Option Entry) (entries : List Entry) → AllByRecursion LivesNumbered (numbered first (acts number prior entries))
numbered-lives number first prior [] = tt
numbered-lives number first prior (e ∷ entries) =
    lives-more first (change_of (act number prior e)) (numbered (first + 1) (acts number (Some e) entries)) (change-lives number prior e) (numbered-lives number (first + 1) (Some e) entries)

live-behind : (n : Numbered) (slots : List Slot) (after : Slot) → n.change.after ≡ after → Lives n.change → is_met n.change.before (slot_of slots n.change.place) ≡ true → length slots < n.change.place + 1
    → is_live after ≡ true
live-behind n slots (Live image) is lives met past = refl
live-behind n slots Deleted is lives met past =
    let none : slot_of slots n.change.place ≡ Deleted = slot_of-past slots n.change.place (omega arith) in
    let not_met = lives is in
    let is_met_there : is_met n.change.before Deleted ≡ true = ap (is_met n.change.before) (sym none) ∙ met in
    absurd cc

second-true : (a b : Bool) → (a && b) ≡ true → b ≡ true
second-true true b h = h
second-true false b h = absurd cc

redone-adds : (changes : List Numbered) (slots after : List Slot) → AllByRecursion LivesNumbered changes → apply changes slots ≡ Ok after → AddRecords (given_forward changes) slots
redone-adds [] slots after lives went = tt
redone-adds (n ∷ changes) slots after lives went =
    at (nat_le n.change.place (length slots) && is_met n.change.before (slot_of slots n.change.place)) refl (λ h. redone-adds changes (put_slot slots n.change.place n.change.after) after lives.1 h) went
  where
    same : n.change.place + 1 - 1 ≡ n.change.place
    same = omega arith

    at : (b : Bool) → (nat_le n.change.place (length slots) && is_met n.change.before (slot_of slots n.change.place)) ≡ b
        → (apply changes (put_slot slots n.change.place n.change.after) ≡ Ok after → AddRecords (given_forward changes) (put_slot slots n.change.place n.change.after))
        → (cond b (Ok (put_slot slots n.change.place n.change.after)) (Err (misfit n)) then apply changes) ≡ Ok after → AddRecords (given_forward (n ∷ changes)) slots
    at true is more went = (
      live-behind n slots n.change.after refl lives.0 (second-true (nat_le n.change.place (length slots)) (is_met n.change.before (slot_of slots n.change.place)) is),
      subst (λ (p : ℕ). AddRecords (given_forward changes) (put_slot slots p n.change.after)) (sym same) (more went),
    )
    at false is more went = absurd cc

pub applied-adds : (number first : ℕ) (prior : Option Entry) (entries : List Entry) (slots after : List Slot) → apply (numbered first (acts number prior entries)) slots ≡ Ok after
    → AddRecords (given_forward (numbered first (acts number prior entries))) slots
applied-adds number first prior entries slots after went = redone-adds (numbered first (acts number prior entries)) slots after (numbered-lives number first prior entries) went

pub within-adds : (given : List SlotGiven) (slots : List Slot) → AreInPlace 0 given slots → AddRecords given slots
within-adds [] slots places = tt
within-adds (g ∷ given) slots places = ((λ past. absurd (omega (arith, places.1))), within-adds given (put_slot slots (place_given g) g.slot) places.2)

pub within-behind : (given : List SlotGiven) (slots : List Slot) → AreInPlace 0 given slots → AreInPlace 1 given slots
within-behind [] slots places = tt
within-behind (g ∷ given) slots places = (places.0, omega (arith, places.1), within-behind given (put_slot slots (place_given g) g.slot) places.2)
