-- What the drafts of a request do to a member, once they are entries behind others: whatever entry is before them, and whatever sequence the first gets.
use Rattle.std.proofs.Common.{◌≡◌, ◌≢◌, ◌⊎◌, ℕ, suc, ◌+◌, ◌-◌, Bool, true, false, ◌==◌, ◌&&◌, cond, List, [], ◌∷◌, ◌++◌, length, map, Option, Some, None, refl, sym, ap, ◌∙◌, subst, arith, inl, inr}
use Rattle.std.specs.List.{AllByRecursion}
use Rattle.std.proofs.lemmas.Bool.{cases_eq, eq-eqb, ne_eqb, eqb-true}
use Rattle.entry_codec.specs.declared.entries.Entry.{Entry}
use Rattle.entry_codec.specs.declared.entries.Draft.{Draft}
use Rattle.entry_codec.specs.declared.kinds.EntryKind.{EntryKind}
use Rattle.entry_codec.specs.declared.kinds.EntryKind.TheVariants.{FileCreated, FileDeleted, MemberAdded, JournalingStarted, InitialSlot, JournalingEnded, MemberCleared, MemberReorganized, ChangesApplied, ChangesRemoved, RecordAdded, RecordAddedAtNumber, BeforeImage, AfterImage, RecordDeleted, UndoBeforeImage, UndoAfterImage, UndoDelete, CommitmentStarted, CommitCycleStarted, CommitCycleCommitted, CommitCycleRolledBack, CommitmentEnded, AbnormalEnd, NextReceiver, PreviousReceiver}
use Rattle.entry_codec.specs.Drafts.{numbered}
use Rattle.member_slots.specs.declared.slot.Slot.{Slot}
use Rattle.member_slots.specs.declared.slot.Slot.TheVariants.{Live, Deleted}
use Rattle.journal_model.specs.Acts.{Act, Changed, Stood, Nothing, Change, act, act_there, act_elsewhere, acts, cycle_of, entry_before, is_number}
use Rattle.journal_model.specs.AtSequence.{IsSo}
use Rattle.journal_model.specs.Places.{slot_of, put_slot}
use Rattle.journal_model.specs.Replay.{before_of}
use Rattle.journal_model.specs.Rollback.{MemberChange, change_drafts, numbered_from, undo_kinds}
use Rattle.journal_model.proofs.MemberLemmas.{acts-append}
use Rattle.journal_model.proofs.PlaceLemmas.{slot_of-put_same, slot_of-put_other}
use Rattle.library_steps.specs.Drafts.{Author, initial_drafts, record_draft, slot_drafts, slot_kinds}
use Rattle.library_steps.specs.Ranges.{Given, given_drafts}
use Rattle.journal_kept.proofs.KnownLemmas.{IsQuiet, quiet-nothing, quiet-began, quiet-committed, quiet-rolled_back, Leads, leads-append, leads-quiet, leads-changed, so-changed}

-- ---- one entry

pub elsewhere : (kind : EntryKind) (e : Entry) → IsQuiet (act_elsewhere kind e)
elsewhere (FileCreated kind name source) e = quiet-nothing
elsewhere (FileDeleted name) e = quiet-nothing
elsewhere (MemberAdded file name) e = quiet-nothing
elsewhere (JournalingStarted images slots) e = quiet-nothing
elsewhere (InitialSlot image) e = quiet-nothing
elsewhere JournalingEnded e = quiet-nothing
elsewhere MemberCleared e = quiet-nothing
elsewhere MemberReorganized e = quiet-nothing
elsewhere (ChangesApplied first last changes) e = quiet-nothing
elsewhere (ChangesRemoved first last changes) e = quiet-nothing
elsewhere (RecordAdded image) e = quiet-nothing
elsewhere (RecordAddedAtNumber image) e = quiet-nothing
elsewhere (BeforeImage image) e = quiet-nothing
elsewhere (AfterImage has_before image) e = quiet-nothing
elsewhere (RecordDeleted before) e = quiet-nothing
elsewhere (UndoBeforeImage image) e = quiet-nothing
elsewhere (UndoAfterImage has_before image) e = quiet-nothing
elsewhere (UndoDelete image) e = quiet-nothing
elsewhere (CommitmentStarted level) e = quiet-nothing
elsewhere CommitCycleStarted e = quiet-began (cycle_of e.group)
elsewhere CommitCycleCommitted e = quiet-committed (cycle_of e.group)
elsewhere CommitCycleRolledBack e = quiet-rolled_back (cycle_of e.group)
elsewhere CommitmentEnded e = quiet-nothing
elsewhere AbnormalEnd e = quiet-nothing
elsewhere (NextReceiver number) e = quiet-nothing
elsewhere (PreviousReceiver number) e = quiet-nothing

-- an entry of this kind tells nothing of the member that it names either
abbrev pub IsQuietKind : EntryKind → Type 0
IsQuietKind kind = (prior : Option Entry) (e : Entry) → IsQuiet (act_there kind prior e)

pub act-elsewhere : (member : ℕ) (prior : Option Entry) (e : Entry) → is_number e.member member ≡ false → IsQuiet (act member prior e)
act-elsewhere member prior e away = subst (λ (b : Bool). IsQuiet (cond b (act_there e.kind prior e) (act_elsewhere e.kind e))) (sym away) (elsewhere e.kind e)

pub act-quiet : (member : ℕ) (prior : Option Entry) (e : Entry) → IsQuietKind e.kind → IsQuiet (act member prior e)
act-quiet member prior e quiet =
    elim (is_number e.member member) as (λ b. IsQuiet (cond b (act_there e.kind prior e) (act_elsewhere e.kind e))) [ true ↦ quiet prior e | false ↦ elsewhere e.kind e ]

pub act-own : (member : ℕ) (prior : Option Entry) (e : Entry) → is_number e.member member ≡ true → act member prior e ≡ act_there e.kind prior e
act-own member prior e own = ap (λ (b : Bool). cond b (act_there e.kind prior e) (act_elsewhere e.kind e)) own

pub own-number : (member : ℕ) → is_number (Some member) member ≡ true
own-number member = eq-eqb member member refl

-- ---- drafts

pub record DraftsLead (member place : ℕ) (known : Option Slot) (drafts : List Draft) (to : Option Slot) : Type 0 where
  pub lead : (prior : Option Entry) (n : ℕ) → Leads place known (acts member prior (numbered_from n drafts)) to

numbered_from-split : (n : ℕ) (xs ys : List Draft) → (k : ℕ) × (numbered_from n (xs ++ ys) ≡ numbered_from n xs ++ numbered_from k ys)
numbered_from-split n [] ys = (n, refl)
numbered_from-split n (d ∷ xs) ys = let rest = numbered_from-split (n + 1) xs ys in (rest.0, ap (λ (es : List Entry). numbered d n ∷ es) rest.1)

pub drafts-append : (member place : ℕ) (known middle to : Option Slot) (xs ys : List Draft) → DraftsLead member place known xs middle → DraftsLead member place middle ys to
    → DraftsLead member place known (xs ++ ys) to
drafts-append member place known middle to xs ys front back = record {
  lead = λ prior n.
      let split = numbered_from-split n xs ys in
      let all = acts-append member prior (numbered_from n xs) (numbered_from split.0 ys) in
      subst (λ (es : List Entry). Leads place known (acts member prior es) to) (sym split.1)
      (subst (λ (list : List Act). Leads place known list to) (sym all)
      (leads-append place known middle to (acts member prior (numbered_from n xs)) (acts member (entry_before prior (numbered_from n xs)) (numbered_from split.0 ys)) (front.lead prior n)
      (back.lead (entry_before prior (numbered_from n xs)) split.0)));
}

-- a draft that tells nothing of this member
abbrev pub IsSilent : ℕ → Draft → Type 0
IsSilent member d = (is_number d.member member ≡ false) ⊎ IsQuietKind d.kind

pub silent-acts : (member : ℕ) (prior : Option Entry) (n : ℕ) (drafts : List Draft) → AllByRecursion (IsSilent member) drafts → AllByRecursion IsQuiet (acts member prior (numbered_from n drafts))
silent-acts member prior n [] all = tt
silent-acts member prior n (d ∷ drafts) all =
    (first all.0, silent-acts member (Some (numbered d n)) (n + 1) drafts all.1)
  where
    first : IsSilent member d → IsQuiet (act member prior (numbered d n))
    first (inl away) = act-elsewhere member prior (numbered d n) away
    first (inr quiet) = act-quiet member prior (numbered d n) quiet

pub drafts-silent : (member place : ℕ) (known : Option Slot) (drafts : List Draft) → AllByRecursion (IsSilent member) drafts → DraftsLead member place known drafts known
drafts-silent member place known drafts all = record { lead = λ prior n. leads-quiet place known (acts member prior (numbered_from n drafts)) (silent-acts member prior n drafts all) }

pub drafts-none : (member place : ℕ) (known : Option Slot) → DraftsLead member place known [] known
drafts-none member place known = drafts-silent member place known [] tt

-- drafts of one member are silent on the others
abbrev pub AreOf : ℕ → List Draft → Type 0
AreOf member drafts = AllByRecursion (λ (d : Draft). d.member ≡ Some member) drafts

pub of-others : (member other : ℕ) (drafts : List Draft) → other ≢ member → AreOf member drafts → AllByRecursion (IsSilent other) drafts
of-others member other [] differs all = tt
of-others member other (d ∷ drafts) differs all =
    let away : is_number d.member other ≡ false = ap (λ (o : Option ℕ). is_number o other) all.0 ∙ ne_eqb member other (λ e. differs (sym e)) in
    (inl away, of-others member other drafts differs all.1)

pub all-append : {X : Type 0} (P : X → Type 0) (xs ys : List X) → AllByRecursion P xs → AllByRecursion P ys → AllByRecursion P (xs ++ ys)
all-append P [] ys front back = back
all-append P (x ∷ xs) ys front back = (front.0, all-append P xs ys front.1 back)

-- ---- a draft or two of the member

pub single : (member place : ℕ) (known to : Option Slot) (d : Draft) (a : Act) → d.member ≡ Some member → ((prior : Option Entry) (n : ℕ) → act_there d.kind prior (numbered d n) ≡ a)
    → Leads place known (a ∷ []) to → DraftsLead member place known (d ∷ []) to
single member place known to d a own reads leads = record {
  lead = λ prior n.
      let here : act member prior (numbered d n) ≡ a = act-own member prior (numbered d n) (ap (λ (o : Option ℕ). is_number o member) own ∙ own-number member) ∙ reads prior n in
      subst (λ (x : Act). Leads place known (x ∷ []) to) (sym here) leads;
}

pub pair : (member place : ℕ) (known to : Option Slot) (d e : Draft) (a : Act) → d.member ≡ Some member → e.member ≡ Some member
    → ((prior : Option Entry) (n : ℕ) → act_there d.kind prior (numbered d n) ≡ Nothing) → ((n k : ℕ) → act_there e.kind (Some (numbered d n)) (numbered e k) ≡ a)
    → Leads place known (a ∷ []) to → DraftsLead member place known (d ∷ e ∷ []) to
pair member place known to d e a own same quiet reads leads = record {
  lead = λ prior n.
      let first : act member prior (numbered d n) ≡ Nothing = act-own member prior (numbered d n) (ap (λ (o : Option ℕ). is_number o member) own ∙ own-number member) ∙ quiet prior n in
      let second : act member (Some (numbered d n)) (numbered e (n + 1)) ≡ a
      = act-own member (Some (numbered d n)) (numbered e (n + 1)) (ap (λ (o : Option ℕ). is_number o member) same ∙ own-number member) ∙ reads n (n + 1) in
      subst (λ (x : Act). Leads place known (x ∷ act member (Some (numbered d n)) (numbered e (n + 1)) ∷ []) to) (sym first)
      (subst (λ (x : Act). Leads place known (Nothing ∷ x ∷ []) to) (sym second)
      (leads-append place known known to (Nothing ∷ []) (a ∷ []) (leads-quiet place known (Nothing ∷ []) (quiet-nothing, tt)) leads));
}

-- ---- slots that are given

-- the drafts lead to something that is so of the slot after them
pub record SlotLeads (member place : ℕ) (known : Option Slot) (drafts : List Draft) (slot : Slot) : Type 0 where
  pub to : Option Slot
  pub lead : DraftsLead member place known drafts to
  pub so : IsSo to slot

pub slots-append : (member place : ℕ) (known : Option Slot) (middle slot : Slot) (xs ys : List Draft) → SlotLeads member place known xs middle
    → ((next : Option Slot) → IsSo next middle → SlotLeads member place next ys slot) → SlotLeads member place known (xs ++ ys) slot
slots-append member place known middle slot xs ys front back =
    let rest = back front.to front.so in
    record { to = rest.to; lead = drafts-append member place known front.to rest.to xs ys front.lead rest.lead; so = rest.so }

pub slots-silent : (member place : ℕ) (known : Option Slot) (slot : Slot) (drafts : List Draft) → IsSo known slot → AllByRecursion (IsSilent member) drafts → SlotLeads member place known drafts slot
slots-silent member place known slot drafts so all = record { to = known; lead = drafts-silent member place known drafts all; so = so }

module _ (member place : ℕ) (known : Option Slot) (slot : Slot) (so : IsSo known slot) where
  one-change : (d : Draft) (c : Change) → d.member ≡ Some member → ((prior : Option Entry) (n : ℕ) → act_there d.kind prior (numbered d n) ≡ Changed c) → (c.place ≡ place → IsSo c.before slot)
      → SlotLeads member place known (d ∷ []) (cond (c.place == place) c.after slot)
  one-change d c own reads was = record {
    to = cond (c.place == place) (Some c.after) known;
    lead = single member place known (cond (c.place == place) (Some c.after) known) d (Changed c) own reads (leads-changed place known slot c so was);
    so = so-changed place known slot c.after c.place so;
  }

  two-images : (d e : Draft) (c : Change) → d.member ≡ Some member → e.member ≡ Some member → ((prior : Option Entry) (n : ℕ) → act_there d.kind prior (numbered d n) ≡ Nothing)
      → ((n k : ℕ) → act_there e.kind (Some (numbered d n)) (numbered e k) ≡ Changed c) → (c.place ≡ place → IsSo c.before slot)
      → SlotLeads member place known (d ∷ e ∷ []) (cond (c.place == place) c.after slot)
  two-images d e c own same quiet reads was = record {
    to = cond (c.place == place) (Some c.after) known;
    lead = pair member place known (cond (c.place == place) (Some c.after) known) d e (Changed c) own same quiet reads (leads-changed place known slot c so was);
    so = so-changed place known slot c.after c.place so;
  }

  -- nothing is deposited where the slot becomes what it was
  same-slot : (other : ℕ) (given : Slot) → (other ≡ place → given ≡ slot) → SlotLeads member place known [] (cond (other == place) given slot)
  same-slot other given was = record { to = known; lead = drafts-none member place known; so = at (other == place) refl } where
    at : (b : Bool) → (other == place) ≡ b → IsSo known (cond b given slot)
    at true e = subst (λ (x : Slot). IsSo known x) (sym (was (eqb-true other place e))) so
    at false e = so

  -- a slot change
  pub slot_drafts-lead : (author : Author) (cycle : Option ℕ) (both behind : Bool) (rrn : ℕ) (old new : Slot) → (rrn - 1 ≡ place → old ≡ slot)
      → SlotLeads member place known (slot_drafts author cycle both behind member rrn old new) (cond (rrn - 1 == place) new slot)
  slot_drafts-lead author cycle both behind rrn Deleted Deleted was = same-slot (rrn - 1) Deleted was
  slot_drafts-lead author cycle both true rrn Deleted (Live image) was =
      one-change (record_draft author cycle member rrn (RecordAdded image)) (record { place = rrn - 1; cycle = cycle; before = Some Deleted; after = Live image }) refl (λ prior n. refl) was
  slot_drafts-lead author cycle both false rrn Deleted (Live image) was =
      one-change (record_draft author cycle member rrn (RecordAddedAtNumber image)) (record { place = rrn - 1; cycle = cycle; before = Some Deleted; after = Live image }) refl (λ prior n. refl) was
  slot_drafts-lead author cycle true behind rrn (Live before) Deleted was =
      one-change (record_draft author cycle member rrn (RecordDeleted (Some before))) (record { place = rrn - 1; cycle = cycle; before = Some (Live before); after = Deleted }) refl
      (λ prior n. refl) was
  slot_drafts-lead author cycle false behind rrn (Live before) Deleted was =
      one-change (record_draft author cycle member rrn (RecordDeleted None)) (record { place = rrn - 1; cycle = cycle; before = None; after = Deleted }) refl (λ prior n. refl) (λ e. tt)
  slot_drafts-lead author cycle false behind rrn (Live before) (Live image) was =
      one-change (record_draft author cycle member rrn (AfterImage false image)) (record { place = rrn - 1; cycle = cycle; before = None; after = Live image }) refl (λ prior n. refl) (λ e. tt)
  slot_drafts-lead author cycle true behind rrn (Live before) (Live image) was =
      two-images (record_draft author cycle member rrn (BeforeImage before)) (record_draft author cycle member rrn (AfterImage true image))
      (record { place = rrn - 1; cycle = cycle; before = Some (Live before); after = Live image }) refl refl (λ prior n. refl)
      (λ n k. ap (λ (b : Bool). Changed (record { place = rrn - 1; cycle = cycle; before = cond b (Some (Live before)) None; after = Live image })) (own-record member rrn)) was
    where
      own-record : (member rrn : ℕ) → ((member == member) && (rrn == rrn)) ≡ true
      own-record member rrn = (λ i. eq-eqb member member refl i && eq-eqb rrn rrn refl i)

  -- a change that is taken back
  undo-lead : (job : Option (List ℕ)) (moment : ℕ) (c : MemberChange) (given changed : Slot) → c.member ≡ member → (c.change.place + 1 - 1 ≡ place → changed ≡ slot)
      → SlotLeads member place known (change_drafts job moment c (undo_kinds given changed)) (cond (c.change.place + 1 - 1 == place) given slot)
  undo-lead job moment c Deleted Deleted own was = same-slot (c.change.place + 1 - 1) Deleted was
  undo-lead job moment c (Live before) Deleted own was =
      one-change (record { job = job; moment = moment; group = c.change.cycle; member = Some c.member; rrn = Some (c.change.place + 1); kind = UndoAfterImage false before })
      (record { place = c.change.place + 1 - 1; cycle = c.change.cycle; before = Some Deleted; after = Live before }) (ap Some own) (λ prior n. refl) was
  undo-lead job moment c Deleted (Live after) own was =
      one-change (record { job = job; moment = moment; group = c.change.cycle; member = Some c.member; rrn = Some (c.change.place + 1); kind = UndoDelete after })
      (record { place = c.change.place + 1 - 1; cycle = c.change.cycle; before = Some (Live after); after = Deleted }) (ap Some own) (λ prior n. refl) was
  undo-lead job moment c (Live before) (Live after) own was =
      two-images (record { job = job; moment = moment; group = c.change.cycle; member = Some c.member; rrn = Some (c.change.place + 1); kind = UndoBeforeImage after })
      (record { job = job; moment = moment; group = c.change.cycle; member = Some c.member; rrn = Some (c.change.place + 1); kind = UndoAfterImage true before })
      (record { place = c.change.place + 1 - 1; cycle = c.change.cycle; before = Some (Live after); after = Live before }) (ap Some own) (ap Some own) (λ prior n. refl)
      (λ n k. ap (λ (b : Bool). Changed (record { place = c.change.place + 1 - 1; cycle = c.change.cycle; before = cond b (Some (Live after)) None; after = Live before }))
      (own-record c.member (c.change.place + 1))) was
    where
      own-record : (member rrn : ℕ) → ((member == member) && (rrn == rrn)) ≡ true
      own-record member rrn = (λ i. eq-eqb member member refl i && eq-eqb rrn rrn refl i)

  pub change_drafts-lead : (job : Option (List ℕ)) (moment : ℕ) (c : MemberChange) → c.member ≡ member → (c.change.place + 1 - 1 ≡ place → c.change.after ≡ slot)
      → SlotLeads member place known (change_drafts job moment c (undo_kinds (before_of c.change) c.change.after)) (cond (c.change.place + 1 - 1 == place) (before_of c.change) slot)
  change_drafts-lead job moment c own was = undo-lead job moment c (before_of c.change) c.change.after own was

-- ---- whose drafts they are

record_drafts-of : (author : Author) (cycle : Option ℕ) (member rrn : ℕ) (kinds : List EntryKind) → AreOf member (map (record_draft author cycle member rrn) kinds)
record_drafts-of author cycle member rrn [] = tt
record_drafts-of author cycle member rrn (kind ∷ kinds) = (refl, record_drafts-of author cycle member rrn kinds)

pub slot_drafts-of : (author : Author) (cycle : Option ℕ) (both behind : Bool) (member rrn : ℕ) (old new : Slot) → AreOf member (slot_drafts author cycle both behind member rrn old new)
slot_drafts-of author cycle both behind member rrn old new = record_drafts-of author cycle member rrn (slot_kinds both behind old new)

pub change_drafts-of : (job : Option (List ℕ)) (moment : ℕ) (c : MemberChange) (kinds : List EntryKind) → AreOf c.member (change_drafts job moment c kinds)
change_drafts-of job moment c [] = tt
change_drafts-of job moment c (kind ∷ kinds) = (refl, change_drafts-of job moment c kinds)

pub initial_drafts-of : (author : Author) (member rrn : ℕ) (slots : List Slot) → AreOf member (initial_drafts author member rrn slots)
initial_drafts-of author member rrn [] = tt
initial_drafts-of author member rrn (Live image ∷ slots) = (refl, initial_drafts-of author member (rrn + 1) slots)
initial_drafts-of author member rrn (Deleted ∷ slots) = initial_drafts-of author member (rrn + 1) slots

pub given_drafts-of : (author : Author) (cycle member : ℕ) (slots : List Slot) (given : List Given) → AreOf member (given_drafts author cycle member slots given)
given_drafts-of author cycle member slots [] = tt
given_drafts-of author cycle member slots (g ∷ given) =
    all-append (λ (d : Draft). d.member ≡ Some member) (slot_drafts author (Some cycle) true (g.place == length slots) member (g.place + 1) (slot_of slots g.place) g.slot)
    (given_drafts author cycle member (put_slot slots g.place g.slot) given)
    (slot_drafts-of author (Some cycle) true (g.place == length slots) member (g.place + 1) (slot_of slots g.place) g.slot)
    (given_drafts-of author cycle member (put_slot slots g.place g.slot) given)

-- ---- many slots

-- the slots with each of these put
abbrev pub put_all : List Slot → List Given → List Slot
put_all slots [] = slots
put_all slots (g ∷ given) = put_all (put_slot slots g.place g.slot) given

pub place-back : (place : ℕ) → place + 1 - 1 ≡ place
place-back place = omega arith

pub put-at : (slots : List Slot) (place other : ℕ) (new : Slot) → cond (place + 1 - 1 == other) new (slot_of slots other) ≡ slot_of (put_slot slots place new) other
put-at slots place other new =
    ap (λ (p : ℕ). cond (p == other) new (slot_of slots other)) (place-back place)
    ∙ elim (cases_eq place other) [
      | inl same ↦ ap (λ (b : Bool). cond b new (slot_of slots other)) (eq-eqb place other same)
          ∙ sym (subst (λ (q : ℕ). slot_of (put_slot slots place new) q ≡ new) same (slot_of-put_same slots place new))
      | inr differs ↦ ap (λ (b : Bool). cond b new (slot_of slots other)) (ne_eqb place other differs) ∙ sym (slot_of-put_other slots place other new differs)
    ]

pub given_drafts-lead : (author : Author) (cycle member place : ℕ) (given : List Given) (slots : List Slot) (known : Option Slot) → IsSo known (slot_of slots place)
    → SlotLeads member place known (given_drafts author cycle member slots given) (slot_of (put_all slots given) place)
given_drafts-lead author cycle member place [] slots known so = slots-silent member place known (slot_of slots place) [] so tt
given_drafts-lead author cycle member place (g ∷ given) slots known so =
    slots-append member place known (slot_of (put_slot slots g.place g.slot) place) (slot_of (put_all (put_slot slots g.place g.slot) given) place)
    (slot_drafts author (Some cycle) true (g.place == length slots) member (g.place + 1) (slot_of slots g.place) g.slot)
    (given_drafts author cycle member (put_slot slots g.place g.slot) given)
    (subst (λ (x : Slot). SlotLeads member place known (slot_drafts author (Some cycle) true (g.place == length slots) member (g.place + 1) (slot_of slots g.place) g.slot) x)
    (put-at slots g.place place g.slot)
    (slot_drafts-lead member place known (slot_of slots place) so author (Some cycle) true (g.place == length slots) (g.place + 1) (slot_of slots g.place) g.slot
    (λ e. ap (slot_of slots) (sym (place-back g.place) ∙ e))))
    (λ next so. given_drafts-lead author cycle member place given (put_slot slots g.place g.slot) next so)

-- the records that stand when journaling begins; the slot is that of the list, where it reaches the place
pub initial_drafts-lead : (author : Author) (member place : ℕ) (slots : List Slot) (base : ℕ) (known : Option Slot) (slot : Slot) → ((k : ℕ) → place ≡ base + k → slot_of slots k ≡ slot)
    → IsSo known slot
    → SlotLeads member place known (initial_drafts author member (base + 1) slots) slot
initial_drafts-lead author member place [] base known slot at so = slots-silent member place known slot [] so tt
initial_drafts-lead author member place (Deleted ∷ slots) base known slot at so = initial_drafts-lead author member place slots (base + 1) known slot (λ k e. at (suc k) (omega (arith, e))) so
initial_drafts-lead author member place (Live image ∷ slots) base known slot at so =
    slots-append member place known slot slot (record_draft author None member (base + 1) (InitialSlot image) ∷ []) (initial_drafts author member (base + 1 + 1) slots)
    (record {
      to = cond (base + 1 - 1 == place) (Some (Live image)) known;
      lead = single member place known (cond (base + 1 - 1 == place) (Some (Live image)) known) (record_draft author None member (base + 1) (InitialSlot image))
          (Stood (base + 1 - 1) image) refl (λ prior n. refl)
          (record { chained = (tt, tt); after = refl });
      so = here (base + 1 - 1 == place) refl;
    })
    (λ next so. initial_drafts-lead author member place slots (base + 1) next slot (λ k e. at (suc k) (omega (arith, e))) so)
  where
    here : (b : Bool) → (base + 1 - 1 == place) ≡ b → IsSo (cond b (Some (Live image)) known) slot
    here true e = let same : base + 1 - 1 ≡ place = eqb-true (base + 1 - 1) place e in at 0 (omega (arith, same))
    here false e = so
