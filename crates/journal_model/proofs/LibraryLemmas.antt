-- The changes that are open in a library are, member by member, those that replaying leaves open.
use Rattle.std.proofs.Common.{◌≡◌, ℕ, Bool, true, false, ◌||◌, cond, List, [], ◌∷◌, Option, Some, None, is_none, IsTrue, refl, sym, ap, ◌∙◌, subst, inl, inr}
use Rattle.std.specs.Prelude.{⊤}
use Rattle.std.specs.List.{AllByRecursion}
use Rattle.std.proofs.lemmas.Bool.{cases_eq, eq-eqb, ne_eqb}
use Rattle.entry_codec.specs.declared.entries.Entry.{Entry}
use Rattle.entry_codec.specs.declared.kinds.EntryKind.{EntryKind}
use Rattle.entry_codec.specs.declared.kinds.EntryKind.TheVariants.{FileCreated, FileDeleted, MemberAdded, JournalingStarted, InitialSlot, JournalingEnded, MemberCleared, MemberReorganized, ChangesApplied, ChangesRemoved, RecordAdded, RecordAddedAtNumber, BeforeImage, AfterImage, RecordDeleted, UndoBeforeImage, UndoAfterImage, UndoDelete, CommitmentStarted, CommitCycleStarted, CommitCycleCommitted, CommitCycleRolledBack, CommitmentEnded, AbnormalEnd, NextReceiver, PreviousReceiver}
use Rattle.member_slots.specs.declared.slot.Slot.{Slot}
use Rattle.journal_model.specs.Acts.{Act, Changed, Began, Committed, RolledBack, Journaled, Stood, Cleared, Reorganized, Ended, Nothing, Change, act, acts, act_there, act_elsewhere, is_number, cycle_of}
use Rattle.journal_model.specs.Places.{slot_of}
use Rattle.journal_model.specs.Replay.{State, step, replay, cycles_after, undos_after, noted, is_not_in}
use Rattle.journal_model.specs.Replayable.{AgreesBefore, MayChange, MayFollow, CanReplay}
use Rattle.journal_model.specs.Rollback.{MemberChange, of_member, is_real, noted_of, undos_by, undos_of, named}
use Rattle.journal_model.proofs.EachLemmas.{each-filter}
use Rattle.journal_model.proofs.RollbackLemmas.{of_member-filter}

-- ---- commit cycles are of no member

cycles_there : (kind : EntryKind) (prior : Option Entry) (e : Entry) (cycles : List ℕ) → cycles_after cycles (act_there kind prior e) ≡ cycles_after cycles (act_elsewhere kind e)
cycles_there (FileCreated kind name source) prior e cycles = refl
cycles_there (FileDeleted name) prior e cycles = refl
cycles_there (MemberAdded file name) prior e cycles = refl
cycles_there (JournalingStarted images slots) prior e cycles = refl
cycles_there (InitialSlot image) prior e cycles = refl
cycles_there JournalingEnded prior e cycles = refl
cycles_there MemberCleared prior e cycles = refl
cycles_there MemberReorganized prior e cycles = refl
cycles_there (ChangesApplied first last changes) prior e cycles = refl
cycles_there (ChangesRemoved first last changes) prior e cycles = refl
cycles_there (RecordAdded image) prior e cycles = refl
cycles_there (RecordAddedAtNumber image) prior e cycles = refl
cycles_there (BeforeImage image) prior e cycles = refl
cycles_there (AfterImage true image) prior e cycles = refl
cycles_there (AfterImage false image) prior e cycles = refl
cycles_there (RecordDeleted None) prior e cycles = refl
cycles_there (RecordDeleted (Some image)) prior e cycles = refl
cycles_there (UndoBeforeImage image) prior e cycles = refl
cycles_there (UndoAfterImage true image) prior e cycles = refl
cycles_there (UndoAfterImage false image) prior e cycles = refl
cycles_there (UndoDelete image) prior e cycles = refl
cycles_there (CommitmentStarted level) prior e cycles = refl
cycles_there CommitCycleStarted prior e cycles = refl
cycles_there CommitCycleCommitted prior e cycles = refl
cycles_there CommitCycleRolledBack prior e cycles = refl
cycles_there CommitmentEnded prior e cycles = refl
cycles_there AbnormalEnd prior e cycles = refl
cycles_there (NextReceiver number) prior e cycles = refl
cycles_there (PreviousReceiver number) prior e cycles = refl

cycles_alike : (member : ℕ) (prior : Option Entry) (e : Entry) (cycles : List ℕ) → cycles_after cycles (act member prior e) ≡ cycles_after cycles (act_elsewhere e.kind e)
cycles_alike member prior e cycles = elim (is_number e.member member) as
    (λ b. cycles_after cycles (cond b (act_there e.kind prior e) (act_elsewhere e.kind e)) ≡ cycles_after cycles
    (act_elsewhere e.kind e)) [ true ↦ cycles_there e.kind prior e cycles | false ↦ refl ]

-- ---- changes are of their member

noted_of_own : (member : ℕ) (cycle : Option ℕ) (c : Change) (undos : List MemberChange)
    → noted cycle c (of_member member undos) ≡ of_member member (noted_of cycle (record { member = member; change = c }) undos)
noted_of_own member None c undos = refl
noted_of_own member (Some n) c undos = ap (λ (b : Bool). cond b (c ∷ of_member member undos) (of_member member undos)) (sym (eq-eqb member member refl))

noted_of_other : (member own : ℕ) (cycle : Option ℕ) (c : Change) (undos : List MemberChange) → (own ≡ member → ⊥)
    → of_member member undos ≡ of_member member (noted_of cycle (record { member = own; change = c }) undos)
noted_of_other member own None c undos differs = refl
noted_of_other member own (Some n) c undos differs = ap (λ (b : Bool). cond b (c ∷ of_member member undos) (of_member member undos)) (sym (ne_eqb own member differs))

undos_own : (member : ℕ) (a : Act) (undos : List MemberChange) → undos_after (of_member member undos) a ≡ of_member member (undos_by a member undos)
undos_own member (Changed c) undos = noted_of_own member c.cycle c undos
undos_own member (Began n) undos = refl
undos_own member (Committed n) undos = sym (of_member-filter member (is_not_in n) undos)
undos_own member (RolledBack n) undos = sym (of_member-filter member (is_not_in n) undos)
undos_own member (Journaled images number) undos = refl
undos_own member (Stood place image) undos = refl
undos_own member Cleared undos = refl
undos_own member Reorganized undos = refl
undos_own member Ended undos = refl
undos_own member Nothing undos = refl

undos_elsewhere : (member own : ℕ) (kind : EntryKind) (e : Entry) (undos : List MemberChange)
    → undos_after (of_member member undos) (act_elsewhere kind e) ≡ of_member member (undos_by (act_elsewhere kind e) own undos)
undos_elsewhere member own (FileCreated kind name source) e undos = refl
undos_elsewhere member own (FileDeleted name) e undos = refl
undos_elsewhere member own (MemberAdded file name) e undos = refl
undos_elsewhere member own (JournalingStarted images slots) e undos = refl
undos_elsewhere member own (InitialSlot image) e undos = refl
undos_elsewhere member own JournalingEnded e undos = refl
undos_elsewhere member own MemberCleared e undos = refl
undos_elsewhere member own MemberReorganized e undos = refl
undos_elsewhere member own (ChangesApplied first last changes) e undos = refl
undos_elsewhere member own (ChangesRemoved first last changes) e undos = refl
undos_elsewhere member own (RecordAdded image) e undos = refl
undos_elsewhere member own (RecordAddedAtNumber image) e undos = refl
undos_elsewhere member own (BeforeImage image) e undos = refl
undos_elsewhere member own (AfterImage has_before image) e undos = refl
undos_elsewhere member own (RecordDeleted before) e undos = refl
undos_elsewhere member own (UndoBeforeImage image) e undos = refl
undos_elsewhere member own (UndoAfterImage has_before image) e undos = refl
undos_elsewhere member own (UndoDelete image) e undos = refl
undos_elsewhere member own (CommitmentStarted level) e undos = refl
undos_elsewhere member own CommitCycleStarted e undos = refl
undos_elsewhere member own CommitCycleCommitted e undos = sym (of_member-filter member (is_not_in (cycle_of e.group)) undos)
undos_elsewhere member own CommitCycleRolledBack e undos = sym (of_member-filter member (is_not_in (cycle_of e.group)) undos)
undos_elsewhere member own CommitmentEnded e undos = refl
undos_elsewhere member own AbnormalEnd e undos = refl
undos_elsewhere member own (NextReceiver number) e undos = refl
undos_elsewhere member own (PreviousReceiver number) e undos = refl

undos_there_other : (member own : ℕ) (kind : EntryKind) (prior : Option Entry) (e : Entry) (undos : List MemberChange) → (own ≡ member → ⊥)
    → undos_after (of_member member undos) (act_elsewhere kind e) ≡ of_member member (undos_by (act_there kind prior e) own undos)
undos_there_other member own (FileCreated kind name source) prior e undos differs = refl
undos_there_other member own (FileDeleted name) prior e undos differs = refl
undos_there_other member own (MemberAdded file name) prior e undos differs = refl
undos_there_other member own (JournalingStarted images slots) prior e undos differs = refl
undos_there_other member own (InitialSlot image) prior e undos differs = refl
undos_there_other member own JournalingEnded prior e undos differs = refl
undos_there_other member own MemberCleared prior e undos differs = refl
undos_there_other member own MemberReorganized prior e undos differs = refl
undos_there_other member own (ChangesApplied first last changes) prior e undos differs = refl
undos_there_other member own (ChangesRemoved first last changes) prior e undos differs = refl
undos_there_other member own (RecordAdded image) prior e undos differs = noted_of_other member own e.group _ undos differs
undos_there_other member own (RecordAddedAtNumber image) prior e undos differs = noted_of_other member own e.group _ undos differs
undos_there_other member own (BeforeImage image) prior e undos differs = refl
undos_there_other member own (AfterImage true image) prior e undos differs = noted_of_other member own e.group _ undos differs
undos_there_other member own (AfterImage false image) prior e undos differs = noted_of_other member own e.group _ undos differs
undos_there_other member own (RecordDeleted None) prior e undos differs = noted_of_other member own e.group _ undos differs
undos_there_other member own (RecordDeleted (Some image)) prior e undos differs = noted_of_other member own e.group _ undos differs
undos_there_other member own (UndoBeforeImage image) prior e undos differs = refl
undos_there_other member own (UndoAfterImage true image) prior e undos differs = noted_of_other member own e.group _ undos differs
undos_there_other member own (UndoAfterImage false image) prior e undos differs = noted_of_other member own e.group _ undos differs
undos_there_other member own (UndoDelete image) prior e undos differs = noted_of_other member own e.group _ undos differs
undos_there_other member own (CommitmentStarted level) prior e undos differs = refl
undos_there_other member own CommitCycleStarted prior e undos differs = refl
undos_there_other member own CommitCycleCommitted prior e undos differs = sym (of_member-filter member (is_not_in (cycle_of e.group)) undos)
undos_there_other member own CommitCycleRolledBack prior e undos differs = sym (of_member-filter member (is_not_in (cycle_of e.group)) undos)
undos_there_other member own CommitmentEnded prior e undos differs = refl
undos_there_other member own AbnormalEnd prior e undos differs = refl
undos_there_other member own (NextReceiver number) prior e undos differs = refl
undos_there_other member own (PreviousReceiver number) prior e undos differs = refl

undos_alike : (member : ℕ) (own : Option ℕ) (prior : Option Entry) (e : Entry) (undos : List MemberChange) → e.member ≡ own
    → undos_after (of_member member undos) (act member prior e) ≡ of_member member (undos_by (act (named own) prior e) (named own) undos)
undos_alike member None prior e undos h =
    let here = λ (k : ℕ). ap (λ (o : Option ℕ). cond (is_number o k) (act_there e.kind prior e) (act_elsewhere e.kind e)) h in
    ap (undos_after (of_member member undos)) (here member) ∙ undos_elsewhere member 0 e.kind e undos ∙ ap (λ (a : Act). of_member member (undos_by a 0 undos)) (sym (here 0))
undos_alike member (Some own) prior e undos h =
    let own_act : act own prior e ≡ act_there e.kind prior e = ap (λ (o : Option ℕ). cond (is_number o own) (act_there e.kind prior e) (act_elsewhere e.kind e)) h
    ∙ ap (λ (b : Bool). cond b (act_there e.kind prior e) (act_elsewhere e.kind e)) (eq-eqb own own refl) in
    elim (cases_eq own member) [
      | inl same ↦ subst (λ (k : ℕ). undos_after (of_member k undos) (act k prior e) ≡ of_member k (undos_by (act own prior e) own undos)) same (undos_own own (act own prior e) undos)
      | inr differs ↦
          ap (undos_after (of_member member undos)) (ap (λ (o : Option ℕ). cond (is_number o member) (act_there e.kind prior e) (act_elsewhere e.kind e)) h
          ∙ ap (λ (b : Bool). cond b (act_there e.kind prior e) (act_elsewhere e.kind e)) (ne_eqb own member differs))
          ∙ undos_there_other member own e.kind prior e undos differs
          ∙ ap (λ (a : Act). of_member member (undos_by a own undos)) (sym own_act)
    ]

-- ---- a change of an open commit cycle has a record on one side

IsRealIfTold : Act → Type 0
IsRealIfTold (Changed c) = is_none c.before ≡ false → is_real c ≡ true
IsRealIfTold (Began n) = ⊤
IsRealIfTold (Committed n) = ⊤
IsRealIfTold (RolledBack n) = ⊤
IsRealIfTold (Journaled images number) = ⊤
IsRealIfTold (Stood place image) = ⊤
IsRealIfTold Cleared = ⊤
IsRealIfTold Reorganized = ⊤
IsRealIfTold Ended = ⊤
IsRealIfTold Nothing = ⊤

or_true : (b : Bool) → b || true ≡ true
or_true true = refl
or_true false = refl

real_there : (kind : EntryKind) (prior : Option Entry) (e : Entry) → IsRealIfTold (act_there kind prior e)
unfolding IsRealIfTold
real_there (FileCreated kind name source) prior e = tt
real_there (FileDeleted name) prior e = tt
real_there (MemberAdded file name) prior e = tt
real_there (JournalingStarted images slots) prior e = tt
real_there (InitialSlot image) prior e = tt
real_there JournalingEnded prior e = tt
real_there MemberCleared prior e = tt
real_there MemberReorganized prior e = tt
real_there (ChangesApplied first last changes) prior e = tt
real_there (ChangesRemoved first last changes) prior e = tt
real_there (RecordAdded image) prior e = λ h. refl
real_there (RecordAddedAtNumber image) prior e = λ h. refl
real_there (BeforeImage image) prior e = tt
real_there (AfterImage true image) prior e = λ h. or_true _
real_there (AfterImage false image) prior e = λ h. absurd (cc)
real_there (RecordDeleted None) prior e = λ h. absurd (cc)
real_there (RecordDeleted (Some image)) prior e = λ h. refl
real_there (UndoBeforeImage image) prior e = tt
real_there (UndoAfterImage true image) prior e = λ h. or_true _
real_there (UndoAfterImage false image) prior e = λ h. refl
real_there (UndoDelete image) prior e = λ h. refl
real_there (CommitmentStarted level) prior e = tt
real_there CommitCycleStarted prior e = tt
real_there CommitCycleCommitted prior e = tt
real_there CommitCycleRolledBack prior e = tt
real_there CommitmentEnded prior e = tt
real_there AbnormalEnd prior e = tt
real_there (NextReceiver number) prior e = tt
real_there (PreviousReceiver number) prior e = tt

real_elsewhere : (kind : EntryKind) (e : Entry) → IsRealIfTold (act_elsewhere kind e)
unfolding IsRealIfTold
real_elsewhere (FileCreated kind name source) e = tt
real_elsewhere (FileDeleted name) e = tt
real_elsewhere (MemberAdded file name) e = tt
real_elsewhere (JournalingStarted images slots) e = tt
real_elsewhere (InitialSlot image) e = tt
real_elsewhere JournalingEnded e = tt
real_elsewhere MemberCleared e = tt
real_elsewhere MemberReorganized e = tt
real_elsewhere (ChangesApplied first last changes) e = tt
real_elsewhere (ChangesRemoved first last changes) e = tt
real_elsewhere (RecordAdded image) e = tt
real_elsewhere (RecordAddedAtNumber image) e = tt
real_elsewhere (BeforeImage image) e = tt
real_elsewhere (AfterImage has_before image) e = tt
real_elsewhere (RecordDeleted before) e = tt
real_elsewhere (UndoBeforeImage image) e = tt
real_elsewhere (UndoAfterImage has_before image) e = tt
real_elsewhere (UndoDelete image) e = tt
real_elsewhere (CommitmentStarted level) e = tt
real_elsewhere CommitCycleStarted e = tt
real_elsewhere CommitCycleCommitted e = tt
real_elsewhere CommitCycleRolledBack e = tt
real_elsewhere CommitmentEnded e = tt
real_elsewhere AbnormalEnd e = tt
real_elsewhere (NextReceiver number) e = tt
real_elsewhere (PreviousReceiver number) e = tt

real_act : (member : ℕ) (prior : Option Entry) (e : Entry) → IsRealIfTold (act member prior e)
real_act member prior e = elim (is_number e.member member) as (λ b. IsRealIfTold
    (cond b (act_there e.kind prior e) (act_elsewhere e.kind e))) [ true ↦ real_there e.kind prior e | false ↦ real_elsewhere e.kind e ]

AreReal : List MemberChange → Type 0
AreReal undos = AllByRecursion (λ (c : MemberChange). is_real c.change ≡ true) undos

real_noted : (s : State) (member : ℕ) (cycle : Option ℕ) (c : Change) (undos : List MemberChange) → c.cycle ≡ cycle → MayChange s c → (is_none c.before ≡ false → is_real c ≡ true)
    → AreReal undos → AreReal (noted_of cycle (record { member = member; change = c }) undos)
unfolding AreReal
real_noted s member None c undos e h r all = all
real_noted s member (Some n) c undos e h r all = (r (told c.before c.cycle e h.before), all) where
  told : (before : Option Slot) (cycle : Option ℕ) → cycle ≡ Some n → AgreesBefore before cycle (slot_of s.slots c.place) → is_none before ≡ false
  told None cycle f g = let k : None ≡ Some n = sym g.0 ∙ f in absurd (cc)
  told (Some side) cycle f g = refl

real_by : (s : State) (member : ℕ) (a : Act) (undos : List MemberChange) → MayFollow s a → IsRealIfTold a → AreReal undos → AreReal (undos_by a member undos)
unfolding AreReal IsRealIfTold
real_by s member (Changed c) undos h r all = real_noted s member c.cycle c undos refl h r all
real_by s member (Began n) undos h r all = all
real_by s member (Committed n) undos h r all = each-filter (λ (c : MemberChange). is_real c.change ≡ true) (λ (c : MemberChange). is_real c.change ≡ true)
    (λ (c : MemberChange). is_not_in n c.change) undos (λ c _ w. w) all
real_by s member (RolledBack n) undos h r all = each-filter (λ (c : MemberChange). is_real c.change ≡ true) (λ (c : MemberChange). is_real c.change ≡ true)
    (λ (c : MemberChange). is_not_in n c.change) undos (λ c _ w. w) all
real_by s member (Journaled images number) undos h r all = all
real_by s member (Stood place image) undos h r all = all
real_by s member Cleared undos h r all = all
real_by s member Reorganized undos h r all = all
real_by s member Ended undos h r all = all
real_by s member Nothing undos h r all = all

-- ---- all entries

pub record IsLinked (s : ℕ → State) (all : List MemberChange) : Type 0 where
  pub cycles : (member : ℕ) → (s member).cycles ≡ (s 0).cycles
  pub undos : (member : ℕ) → (s member).undos ≡ of_member member all
  pub real : AllByRecursion (λ (c : MemberChange). IsTrue (is_real c.change)) all

linked_step : (s : ℕ → State) (undos : List MemberChange) (prior : Option Entry) (e : Entry) → IsLinked s undos → ((member : ℕ) → MayFollow (s member) (act member prior e))
    → IsLinked (λ member. step (s member) (act member prior e)) (undos_by (act (named e.member) prior e) (named e.member) undos)
unfolding AreReal
linked_step s undos prior e l h = record {
  cycles = λ member.
      cycles_alike member prior e (s member).cycles
      ∙ ap (λ (cycles : List ℕ). cycles_after cycles (act_elsewhere e.kind e)) (l.cycles member)
      ∙ sym (cycles_alike 0 prior e (s 0).cycles);
  undos = λ member. ap (λ (us : List Change). undos_after us (act member prior e)) (l.undos member) ∙ undos_alike member e.member prior e undos refl;
  real = real_by (s (named e.member)) (named e.member) (act (named e.member) prior e) undos (h (named e.member)) (real_act (named e.member) prior e) l.real;
}

pub linked : (entries : List Entry) (s : ℕ → State) (undos : List MemberChange) (prior : Option Entry) → IsLinked s undos → ((member : ℕ) → CanReplay (s member) (acts member prior entries))
    → IsLinked (λ member. replay (s member) (acts member prior entries)) (undos_of undos prior entries)
linked [] s undos prior l h = l
linked (e ∷ entries) s undos prior l h =
    linked entries (λ member. step (s member) (act member prior e)) (undos_by (act (named e.member) prior e) (named e.member) undos) (Some e)
    (linked_step s undos prior e l (λ member. (h member).0)) (λ member. (h member).1)
