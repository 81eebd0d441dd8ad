-- What the journal told of records holds of the files after a request, and so does what the request's drafts tell.
use Rattle.std.proofs.Common.{◌≡◌, ℕ, ◌+◌, ◌-◌, ◌*◌, ◌<◌, ◌≤◌, ◌||◌, cond, if◌then◌else◌, Bool, true, false, Option, Some, None, is_some, IfSome, List, [], ◌∷◌, ◌++◌, length, filter, refl, sym, ◌∙◌, ap, subst, arith, inl, inr}
use Rattle.std.proofs.lemmas.Bool.{cases_lt}
use Rattle.std.proofs.Math.Nat.{mul-le-mul_right}
use Rattle.std.specs.List.{AllByRecursion}
use Rattle.entry_codec.specs.declared.entries.Draft.{Draft}
use Rattle.entry_codec.specs.declared.entries.Entry.{Entry}
use Rattle.entry_codec.specs.declared.kinds.EntryKind.{EntryKind}
use Rattle.entry_codec.specs.declared.kinds.EntryKind.TheVariants.{CommitCycleStarted, CommitCycleRolledBack, CommitmentEnded, JournalingStarted}
use Rattle.entry_codec.specs.declared.kinds.Images.{Images}
use Rattle.entry_codec.specs.Drafts.{numbered}
use Rattle.entry_codec.specs.Placing.{place}
use Rattle.commit_level.specs.declared.Level.{Level}
use Rattle.lawful_states.specs.Owners.{Owns}
use Rattle.journal_model.specs.Images.{images_of}
use Rattle.journal_model.specs.Replay.{before_of, is_in}
use Rattle.journal_model.specs.Rollback.{MemberChange, change_drafts, undo_drafts, undo_kinds, numbered_from}
use Rattle.member_slots.specs.declared.member.TheConstants.{MOST_SLOTS, MOST_BYTES}
use Rattle.member_slots.specs.declared.slot.Slot.{Slot}
use Rattle.member_slots.specs.declared.slot.Slot.TheVariants.{Live, Deleted}
use Rattle.member_slots.specs.Member.{changed}
use Rattle.member_slots.specs.Members.{NumberedMembers, member_at, member_of}
use Rattle.record_fmt.specs.declared.formats.Field.{Field}
use Rattle.record_fmt.specs.Layout.{record_length}
use Rattle.library_model.specs.Named.{Named}
use Rattle.library_steps.specs.Change.{Change}
use Rattle.library_steps.specs.Commitment.{end_drafts, undo_entries}
use Rattle.library_steps.specs.Drafts.{Author, cycle_draft, initial_drafts, library_draft, member_draft, slot_drafts}
use Rattle.library_steps.specs.EndJob.{definition_entries}
use Rattle.library_steps.specs.MemberCommands.{if_journaled}
use Rattle.library_steps.specs.Records.{slot_there}
use Rattle.library_steps.specs.SlotChange.{NewSlot, are_both, begins_cycle, cycle_number, drafts_of, is_behind_last}
use Rattle.library_steps.specs.State.{State, Memory, FileState, CycleState, JobState, memory_of, fields_of}
use Rattle.library_steps.specs.Uses.{changes_in}
use Rattle.lawful_states.specs.Back.{member_back}
use Rattle.lawful_states.specs.Lawful.{HoldsValues, IsThere, GoesBack, CycleGoesBack}
use Rattle.lawful_states.proofs.FileLemmas.{Owns-below, number-below}
use Rattle.lawful_states.proofs.MemberLemmas.{HasRecords-changed, HasRecords-member_of, IsThere-with_member}
use Rattle.joint_state.specs.Cycles.{StandAsMade}
use Rattle.journaled_entries.specs.Deposited.{is_of_record}
use Rattle.joint_state.specs.Told.{AreTold, IsRecordOf, IsTold, MayHavePlace, TellsRecord}
use Rattle.joint_state.specs.Sound.{IsSound, after}
use Rattle.library_kept.proofs.ChangeLemmas.{MayChange}
use Rattle.library_kept.proofs.DraftLemmas.{DraftTold, KindTold, record-of, initial-told, slot_drafts-told}
use Rattle.library_kept.proofs.FileKeepLemmas.{KeepsFiles}
use Rattle.library_kept.proofs.ListLemmas.{each-append, each-drop, each-weaker}
use Rattle.library_kept.proofs.PlanLemmas.{same-file}
use Rattle.library_kept.proofs.RangeLemmas.{HoldsValues-slot_of}
use Rattle.library_kept.proofs.SlotLemmas.{its-records, there-stands}
use Rattle.library_kept.proofs.StandLemmas.{Stands-memory_of, within-of}
use Rattle.library_kept.proofs.WorkLemmas.{member-told, cycle-told}

-- an entry names no member that isn't made yet
abbrev pub IsBelow : ℕ → Entry → Type 0
IsBelow next e = IfSome e.member (λ n. n < next)

-- what the entries that are new tell
pub record TellsNew (s : State) (done : Change) : Type 0 where
  pub further : s.next_member ≤ done.memory.next_member
  pub records : AllByRecursion (IsTold done.memory.files) done.entries
  pub members : AllByRecursion (IsBelow done.memory.next_member) done.entries

-- ---- the entries that were there

below-named : (next : ℕ) (e : Entry) (number : ℕ) → IsBelow next e → e.member ≡ Some number → number < next
below-named next e number below named = subst (λ (o : Option ℕ). IfSome o (λ n. n < next)) named below

below-more : (next more : ℕ) (o : Option ℕ) → next ≤ more → IfSome o (λ n. n < next) → IfSome o (λ n. n < more)
below-more next more None le below = tt
below-more next more (Some n) le below = omega (arith, le, below)

-- what it told of a member that was there, it tells of the files that there are now
still-told : (s : State) (files : Named FileState) (e : Entry) → KeepsFiles s files → IsBelow s.next_member e → IsTold s.files e → IsTold files e
still-told s files e keeps below told name file number owns named =
    let had = keeps.owners name file number owns (below-named s.next_member e number below named) in
    subst (λ (fields : List Field). TellsRecord fields e) had.fields (told name had.before number had.owned named)

both-told : (s : State) (files : Named FileState) (entries : List Entry) → KeepsFiles s files → AllByRecursion (IsBelow s.next_member) entries → AllByRecursion (IsTold s.files) entries
    → AllByRecursion (IsTold files) entries
both-told s files [] keeps below told = tt
both-told s files (e ∷ entries) keeps below told = (still-told s files e keeps below.0 told.0, both-told s files entries keeps below.1 told.1)

pub told-after : (s : State) (done : Change) → IsSound s → KeepsFiles s done.memory.files → TellsNew s done → AreTold (after s done)
told-after s done sound keeps new =
    let was = sound.joint.told in record {
      records = each-drop (IsTold done.memory.files) (done.memory.gone - s.gone) (s.entries ++ done.entries)
          (each-append (IsTold done.memory.files) s.entries done.entries (both-told s done.memory.files s.entries keeps was.members was.records) new.records);
      members = each-drop (IsBelow done.memory.next_member) (done.memory.gone - s.gone) (s.entries ++ done.entries)
          (each-append (IsBelow done.memory.next_member) s.entries done.entries
          (each-weaker (IsBelow s.next_member) (IsBelow done.memory.next_member) s.entries
          (λ e below. below-more s.next_member done.memory.next_member e.member new.further below) was.members) new.members);
    }

-- ---- drafts that tell of no record

pub record IsPlain (next : ℕ) (d : Draft) : Type 0 where
  pub member : IfSome d.member (λ n. n < next)
  pub images : images_of d.kind ≡ []
  pub place : is_of_record (place d.kind) ≡ false

plain-told : (files : Named FileState) (next k : ℕ) (drafts : List Draft) → AllByRecursion (IsPlain next) drafts → AllByRecursion (IsTold files) (numbered_from k drafts)
plain-told files next k [] all = tt
plain-told files next k (d ∷ drafts) all = (
  λ name file number owns named. record {
    images = subst (λ (images : List (List ℕ)). AllByRecursion (IsRecordOf (fields_of file)) images) (sym all.0.images) tt;
    place = λ h. (let plain = all.0.place in absurd cc);
  },
  plain-told files next (k + 1) drafts all.1,
)

plain-below : (next k : ℕ) (drafts : List Draft) → AllByRecursion (IsPlain next) drafts → AllByRecursion (IsBelow next) (numbered_from k drafts)
plain-below next k [] all = tt
plain-below next k (d ∷ drafts) all = (all.0.member, plain-below next (k + 1) drafts all.1)

-- a change whose drafts are such
pub plain-new : (s : State) (done : Change) (k : ℕ) (drafts : List Draft) → s.next_member ≤ done.memory.next_member → done.entries ≡ numbered_from k drafts
    → AllByRecursion (IsPlain done.memory.next_member) drafts → TellsNew s done
plain-new s done k drafts further is all = record {
  further = further;
  records = subst (AllByRecursion (IsTold done.memory.files)) (sym is) (plain-told done.memory.files done.memory.next_member k drafts all);
  members = subst (AllByRecursion (IsBelow done.memory.next_member)) (sym is) (plain-below done.memory.next_member k drafts all);
}

pub library-plain : (next : ℕ) (author : Author) (kind : EntryKind) → images_of kind ≡ [] → is_of_record (place kind) ≡ false → IsPlain next (library_draft author kind)
library-plain next author kind none plain = record { member = tt; images = none; place = plain }

pub definition-plain : (next : ℕ) (author : Author) (level : Option Level) → AllByRecursion (IsPlain next) (definition_entries author level)
definition-plain next author None = tt
definition-plain next author (Some level) = (library-plain next author CommitmentEnded refl refl, tt)

pub end-plain : (next : ℕ) (author : Author) (cycle : Option CycleState) → AllByRecursion (IsPlain next) (end_drafts author cycle)
end-plain next author None = tt
end-plain next author (Some cycle) = (record { member = tt; images = refl; place = refl }, tt)

pub if_journaled-plain : (next number : ℕ) (author : Author) (kind : EntryKind) (b : Bool) → number < next → images_of kind ≡ [] → is_of_record (place kind) ≡ false
    → AllByRecursion (IsPlain next) (if_journaled b (member_draft author number kind))
if_journaled-plain next number author kind true below none plain = (record { member = below; images = none; place = plain }, tt)
if_journaled-plain next number author kind false below none plain = tt

-- ---- drafts of one member

module _ (s : State) (sound : IsSound s) (files : Named FileState) (keeps : KeepsFiles s files) (name : List ℕ) (file : FileState) (number : ℕ) (owns : Owns s.files name file number) where
  is-below : number < s.next_member
  is-below = Owns-below s name file number sound.library owns

  draft-told : (d : Draft) (k : ℕ) → DraftTold (fields_of file) number d → IsTold files (numbered d k)
  draft-told d k told other another n its named =
      let same : n ≡ number = told.member n named in
      let had = keeps.owners other another n its (subst (λ (o : ℕ). o < s.next_member) (sym same) is-below) in
      let alike : file ≡ had.before = same-file s.files name other file had.before n sound.apart (subst (Owns s.files name file) (sym same) owns) had.owned in
      subst (λ (fields : List Field). TellsRecord fields (numbered d k)) (ap (λ (f : FileState). fields_of f) alike ∙ had.fields) (record { images = told.images; place = told.place })

  draft-below : (o : Option ℕ) → ((n : ℕ) → o ≡ Some n → n ≡ number) → IfSome o (λ n. n < s.next_member)
  draft-below None is = tt
  draft-below (Some n) is = subst (λ (k : ℕ). k < s.next_member) (sym (is n refl)) is-below

  pub drafts-told : (k : ℕ) (drafts : List Draft) → AllByRecursion (DraftTold (fields_of file) number) drafts → AllByRecursion (IsTold files) (numbered_from k drafts)
  drafts-told k [] all = tt
  drafts-told k (d ∷ drafts) all = (draft-told d k all.0, drafts-told (k + 1) drafts all.1)

  pub drafts-below : (k : ℕ) (drafts : List Draft) → AllByRecursion (DraftTold (fields_of file) number) drafts → AllByRecursion (IsBelow s.next_member) (numbered_from k drafts)
  drafts-below k [] all = tt
  drafts-below k (d ∷ drafts) all = (draft-below d.member all.0.member, drafts-below (k + 1) drafts all.1)

pub member-new : (s : State) (done : Change) (k : ℕ) (drafts : List Draft) (name : List ℕ) (file : FileState) (number : ℕ) → IsSound s → KeepsFiles s done.memory.files
    → done.memory.next_member ≡ s.next_member → done.entries ≡ numbered_from k drafts → Owns s.files name file number → AllByRecursion (DraftTold (fields_of file) number) drafts → TellsNew s done
member-new s done k drafts name file number sound keeps next is owns all = record {
  further = omega (arith, next);
  records = subst (AllByRecursion (IsTold done.memory.files)) (sym is) (drafts-told s sound done.memory.files keeps name file number owns k drafts all);
  members = subst (AllByRecursion (IsBelow done.memory.next_member)) (sym is) (subst (λ (n : ℕ). AllByRecursion (IsBelow n) (numbered_from k drafts)) (sym next)
      (drafts-below s sound done.memory.files keeps name file number owns k drafts all));
}

-- ---- the drafts of a changed slot

-- a place that a slot is put at is one that the member may have
may-have : (s : State) (new : NewSlot) → IsSound s → (change : MayChange s new) → MayHavePlace (fields_of change.file) new.rrn
may-have s new sound change =
    let member = member_of new.opened.member s.members in
    let records = its-records (memory_of s) change.name change.file new.opened.member 0 (Stands-memory_of s sound) change.owns in
    let within = within-of new.opened.member s.members sound.within in
    let few = within.few in
    let near = change.may.near in
    elim (cases_lt (length member.slots) new.rrn) [
      | inl past ↦ (
          let behind : new.rrn ≡ length member.slots + 1 = omega (arith, past, near) in
          let room = change.may.added behind in
          record {
            counted = change.may.first;
            few = subst (λ n. n ≤ MOST_SLOTS) (sym behind) room.few;
            small = subst (λ n. n * record_length (fields_of change.file) ≤ MOST_BYTES) (sym behind)
                (subst (λ n. (length member.slots + 1) * n ≤ MOST_BYTES) records.long room.small);
          })
      | inr here ↦ (
          let less : new.rrn * member.record_length ≤ length member.slots * member.record_length = mul-le-mul_right member.record_length here in
          let small = within.small in
          record {
            counted = change.may.first;
            few = omega (arith, here, few);
            small = subst (λ n. new.rrn * n ≤ MOST_BYTES) records.long (omega (arith, less, small));
          })
    ]

begins-told : (fields : List Field) (member : ℕ) (author : Author) (m : Memory) (job : JobState) → AllByRecursion (DraftTold fields member) (begins_cycle author m job)
begins-told fields member author m job =
    elim (is_some job.cycle) as (λ b. AllByRecursion (DraftTold fields member) (if b then [] else cycle_draft author (m.last_entry + 1) CommitCycleStarted ∷ [])) [
      | true ↦ tt
      | false ↦ (cycle-told fields author (m.last_entry + 1) member CommitCycleStarted refl refl, tt)
    ]

pub change-told : (s : State) (author : Author) (job : JobState) (new : NewSlot) → IsSound s → (change : MayChange s new) (images : Option Images)
    → AllByRecursion (DraftTold (fields_of change.file) new.opened.member) (drafts_of author job new images (memory_of s))
change-told s author job new sound change None = tt
change-told s author job new sound change (Some images) =
    let m = memory_of s in
    let fields = fields_of change.file in
    let member = new.opened.member in
    let old = slot_there member new.rrn m in
    let both = new.opened.commit || are_both images in
    let behind = is_behind_last member new.rrn m in
    let cycle = cycle_number new.opened.commit m job in
    each-append (DraftTold fields member) (if new.opened.commit then begins_cycle author m job else []) (slot_drafts author cycle both behind member new.rrn old new.slot)
    (elim new.opened.commit as (λ b. AllByRecursion (DraftTold fields member) (if b then begins_cycle author m job else [])) [ true ↦ begins-told fields member author m job | false ↦ tt ])
    (slot_drafts-told fields author cycle both behind member new.rrn old new.slot (may-have s new sound change)
    (there-stands m member new.rrn (Stands-memory_of s sound) change.name change.file (record { there = change.owns.there; has = change.owns.has }))
    (change.may.values change.name change.file (record { there = change.owns.there; has = change.owns.has })))

-- ---- the records of a member as they stand

initial-all : (fields : List Field) (author : Author) (member rrn most : ℕ) (slots : List Slot) → 1 ≤ rrn → rrn + length slots ≤ most + 1 → most ≤ MOST_SLOTS → most * record_length fields ≤ MOST_BYTES
    → AllByRecursion (HoldsValues fields) slots → AllByRecursion (DraftTold fields member) (initial_drafts author member rrn slots)
initial-all fields author member rrn most [] first near few small all = tt
initial-all fields author member rrn most (Live image ∷ slots) first near few small all =
    let within : rrn ≤ most = omega (arith, near) in
    let less : rrn * record_length fields ≤ most * record_length fields = mul-le-mul_right (record_length fields) within in (
      initial-told fields author member rrn image (record { counted = first; few = omega (arith, within, few); small = omega (arith, less, small) }) all.0,
      initial-all fields author member (rrn + 1) most slots (omega arith) (omega (arith, near)) few small all.1,
    )
initial-all fields author member rrn most (Deleted ∷ slots) first near few small all = initial-all fields author member (rrn + 1) most slots (omega arith) (omega (arith, near)) few small all.1

pub start-told : (s : State) (author : Author) (images : Images) (name : List ℕ) (file : FileState) (number : ℕ) → IsSound s → Owns s.files name file number
    → AllByRecursion (DraftTold (fields_of file) number)
    (member_draft author number (JournalingStarted images (length (member_of number s.members).slots)) ∷ initial_drafts author number 1 (member_of number s.members).slots)
start-told s author images name file number sound owns =
    let member = member_of number s.members in
    let records = its-records (memory_of s) name file number 0 (Stands-memory_of s sound) owns in
    let within = within-of number s.members sound.within in (
      member-told (fields_of file) author number (JournalingStarted images (length member.slots)) refl refl,
      initial-all (fields_of file) author number 1 (length member.slots) member.slots (omega arith) (omega arith) within.few
          (subst (λ n. length member.slots * n ≤ MOST_BYTES) records.long within.small) records.values,
    )

-- ---- the drafts of changes taken back

-- both slots of a change are those of the member's file, at a place that it may have
record UndoTold (files : Named FileState) (next : ℕ) (undo : MemberChange) : Type 0 where
  below : undo.member < next
  before : (name : List ℕ) (file : FileState) → Owns files name file undo.member → HoldsValues (fields_of file) (before_of undo.change)
  after : (name : List ℕ) (file : FileState) → Owns files name file undo.member → HoldsValues (fields_of file) undo.change.after
  place : (name : List ℕ) (file : FileState) → Owns files name file undo.member → MayHavePlace (fields_of file) (undo.change.place + 1)

-- members of these files are there
abbrev AreThere : Named FileState → NumberedMembers → Type 0
AreThere files members = (name : List ℕ) (file : FileState) (number : ℕ) → Owns files name file number → IsThere (fields_of file) (member_at number members)

abbrev BeforeHolds : Named FileState → MemberChange → Type 0
BeforeHolds files undo = (name : List ℕ) (file : FileState) → Owns files name file undo.member → HoldsValues (fields_of file) (before_of undo.change)

abbrev AfterHolds : Named FileState → MemberChange → Type 0
AfterHolds files undo = (name : List ℕ) (file : FileState) → Owns files name file undo.member → HoldsValues (fields_of file) undo.change.after

there-back : (files : Named FileState) (members : NumberedMembers) (undo : MemberChange) → AreThere files members → BeforeHolds files undo → AreThere files (member_back undo members)
there-back files members undo there holds name file number owns =
    IsThere-with_member (fields_of file) members number undo.member (changed (member_of undo.member members) (undo.change.place + 1) (before_of undo.change)) (there name file number owns)
    (λ same. let its = subst (Owns files name file) same owns in
    HasRecords-changed (fields_of file) (member_of undo.member members) (undo.change.place + 1) (before_of undo.change)
    (HasRecords-member_of (fields_of file) undo.member members (there name file undo.member its)) (holds name file its))

made-holds : (files : Named FileState) (members : NumberedMembers) (undos : List MemberChange) → AreThere files members → AllByRecursion (BeforeHolds files) undos → StandAsMade undos members
    → AllByRecursion (AfterHolds files) undos
made-holds files members [] there before made = tt
made-holds files members (undo ∷ undos) there before made = (
  λ name file owns. subst (HoldsValues (fields_of file)) made.0
      (HoldsValues-slot_of (fields_of file) (member_of undo.member members).slots undo.change.place
      (HasRecords-member_of (fields_of file) undo.member members (there name file undo.member owns)).values),
  made-holds files (member_back undo members) undos (there-back files members undo there before.0) before.1 made.1,
)

before-all : (files : Named FileState) (members : NumberedMembers) (n : ℕ) (undos : List MemberChange) → AllByRecursion (GoesBack files members n) undos → AllByRecursion (BeforeHolds files) undos
before-all files members n undos all = each-weaker (GoesBack files members n) (BeforeHolds files) undos (λ undo back. back.values) all

undo-place : (s : State) (n : ℕ) (undo : MemberChange) → IsSound s → GoesBack s.files s.members n undo → (name : List ℕ) (file : FileState) → Owns s.files name file undo.member
    → MayHavePlace (fields_of file) (undo.change.place + 1)
undo-place s n undo sound back name file owns =
    let member = member_of undo.member s.members in
    let records = its-records (memory_of s) name file undo.member 0 (Stands-memory_of s sound) owns in
    let within = within-of undo.member s.members sound.within in
    let few = within.few in
    let small = within.small in
    let place = back.place.place in
    let here : undo.change.place + 1 ≤ length member.slots = omega (arith, place) in
    let less : (undo.change.place + 1) * member.record_length ≤ length member.slots * member.record_length = mul-le-mul_right member.record_length here in
    record {
      counted = omega arith;
      few = omega (arith, here, few);
      small = subst (λ n. (undo.change.place + 1) * n ≤ MOST_BYTES) records.long (omega (arith, less, small));
    }

undos-all : (s : State) (n : ℕ) (undos : List MemberChange) → IsSound s → AllByRecursion (GoesBack s.files s.members n) undos → AllByRecursion (AfterHolds s.files) undos
    → AllByRecursion (UndoTold s.files s.next_member) undos
undos-all s n [] sound back holds = tt
undos-all s n (undo ∷ undos) sound back holds = (
  record {
    below = number-below s.members undo.member s.next_member sound.library.numbers back.0.place.there;
    before = back.0.values;
    after = holds.0;
    place = undo-place s n undo sound back.0;
  },
  undos-all s n undos sound back.1 holds.1,
)

-- the changes of a job's open commit cycle are such
cycle-told_back : (s : State) (cycle : CycleState) → IsSound s → CycleGoesBack s.files s.members (Some cycle) → StandAsMade cycle.undos s.members
    → AllByRecursion (UndoTold s.files s.next_member) cycle.undos
cycle-told_back s cycle sound back made =
    undos-all s cycle.sequence cycle.undos sound back
    (made-holds s.files s.members cycle.undos sound.library.members (before-all s.files s.members cycle.sequence cycle.undos back) made)

undo_kinds-told : (fields : List Field) (given changed : Slot) → HoldsValues fields given → HoldsValues fields changed → AllByRecursion (KindTold fields) (undo_kinds given changed)
undo_kinds-told fields (Live before) (Live after) holds also = ((record-of fields after also, tt), ((record-of fields before holds, tt), tt))
undo_kinds-told fields (Live before) Deleted holds also = ((record-of fields before holds, tt), tt)
undo_kinds-told fields Deleted (Live after) holds also = ((record-of fields after also, tt), tt)
undo_kinds-told fields Deleted Deleted holds also = tt

-- the entries of one such change, whatever file has its member
module _ (files : Named FileState) (next : ℕ) (job : Option (List ℕ)) (moment : ℕ) (undo : MemberChange) where
  kinds-all : (kinds : List EntryKind) (k : ℕ)
      → ((name : List ℕ) (file : FileState) → Owns files name file undo.member → AllByRecursion (KindTold (fields_of file)) kinds × MayHavePlace (fields_of file) (undo.change.place + 1))
      → AllByRecursion (IsTold files) (numbered_from k (change_drafts job moment undo kinds))
  kinds-all [] k each = tt
  kinds-all (kind ∷ kinds) k each = (
    λ name file number owns named. (
        let same : undo.member ≡ number = cc in
        let it = each name file (subst (Owns files name file) (sym same) owns) in
        record { images = it.0.0; place = λ h. it.1 }),
    kinds-all kinds (k + 1) (λ name file owns. let it = each name file owns in (it.0.1, it.1)),
  )

  kinds-below : (kinds : List EntryKind) (k : ℕ) → undo.member < next → AllByRecursion (IsBelow next) (numbered_from k (change_drafts job moment undo kinds))
  kinds-below [] k below = tt
  kinds-below (kind ∷ kinds) k below = (below, kinds-below kinds (k + 1) below)

-- entries of drafts, one list behind the other
numbered-each : (P : Entry → Type 0) (former later : List Draft) (k : ℕ) → AllByRecursion P (numbered_from k former) → ((j : ℕ) → AllByRecursion P (numbered_from j later))
    → AllByRecursion P (numbered_from k (former ++ later))
numbered-each P [] later k all more = more k
numbered-each P (d ∷ former) later k all more = (all.0, numbered-each P former later (k + 1) all.1 more)

undo_drafts-told : (files : Named FileState) (next : ℕ) (job : Option (List ℕ)) (moment : ℕ) (undos : List MemberChange) → AllByRecursion (UndoTold files next) undos → (k : ℕ)
    → AllByRecursion (IsTold files) (numbered_from k (undo_drafts job moment undos)) × AllByRecursion (IsBelow next) (numbered_from k (undo_drafts job moment undos))
undo_drafts-told files next job moment [] all k = (tt, tt)
undo_drafts-told files next job moment (undo ∷ undos) all k =
    let kinds = undo_kinds (before_of undo.change) undo.change.after in (
      numbered-each (IsTold files) (change_drafts job moment undo kinds) (undo_drafts job moment undos) k
          (kinds-all files next job moment undo kinds k
          (λ name file owns. (undo_kinds-told (fields_of file) (before_of undo.change) undo.change.after (all.0.before name file owns) (all.0.after name file owns), all.0.place name file owns)))
          (λ j. (undo_drafts-told files next job moment undos all.1 j).0),
      numbered-each (IsBelow next) (change_drafts job moment undo kinds) (undo_drafts job moment undos) k (kinds-below files next job moment undo kinds k all.0.below)
          (λ j. (undo_drafts-told files next job moment undos all.1 j).1),
    )

each-filter : {X : Type 0} (P : X → Type 0) (test : X → Bool) (xs : List X) → AllByRecursion P xs → AllByRecursion P (filter test xs)
each-filter P test [] all = tt
each-filter P test (x ∷ xs) all =
    elim (test x) as (λ b. AllByRecursion P (cond b (x ∷ filter test xs) (filter test xs))) [
      | true ↦ (all.0, each-filter P test xs all.1)
      | false ↦ each-filter P test xs all.1
    ]

pub undo_entries-told : (s : State) (author : Author) (cycle : Option CycleState) → IsSound s → CycleGoesBack s.files s.members cycle → StandAsMade (changes_in cycle) s.members → (k : ℕ)
    → AllByRecursion (IsTold s.files) (numbered_from k (undo_entries author cycle)) × AllByRecursion (IsBelow s.next_member) (numbered_from k (undo_entries author cycle))
undo_entries-told s author None sound back made k = (tt, tt)
undo_entries-told s author (Some cycle) sound back made k =
    let undos = filter (λ (c : MemberChange). is_in cycle.sequence c.change) cycle.undos in
    let all = each-filter (UndoTold s.files s.next_member) (λ (c : MemberChange). is_in cycle.sequence c.change) cycle.undos (cycle-told_back s cycle sound back made) in
    let told = undo_drafts-told s.files s.next_member (Some author.job) author.moment undos all k in
    let end : AllByRecursion (IsPlain s.next_member) (cycle_draft author cycle.sequence CommitCycleRolledBack ∷ []) = (record { member = tt; images = refl; place = refl }, tt) in (
      numbered-each (IsTold s.files) (undo_drafts (Some author.job) author.moment undos) (cycle_draft author cycle.sequence CommitCycleRolledBack ∷ []) k told.0
          (λ j. plain-told s.files s.next_member j (cycle_draft author cycle.sequence CommitCycleRolledBack ∷ []) end),
      numbered-each (IsBelow s.next_member) (undo_drafts (Some author.job) author.moment undos) (cycle_draft author cycle.sequence CommitCycleRolledBack ∷ []) k told.1
          (λ j. plain-below s.next_member j (cycle_draft author cycle.sequence CommitCycleRolledBack ∷ []) end),
    )

-- with the end of commitment control behind them
pub end_entries-told : (s : State) (author : Author) (cycle : Option CycleState) (level : Option Level) → IsSound s → CycleGoesBack s.files s.members cycle → StandAsMade (changes_in cycle) s.members
    → (k : ℕ)
    → AllByRecursion (IsTold s.files) (numbered_from k (undo_entries author cycle ++ definition_entries author level))
    × AllByRecursion (IsBelow s.next_member) (numbered_from k (undo_entries author cycle ++ definition_entries author level))
end_entries-told s author cycle level sound back made k =
    let told = undo_entries-told s author cycle sound back made k in
    let end = definition-plain s.next_member author level in (
      numbered-each (IsTold s.files) (undo_entries author cycle) (definition_entries author level) k told.0 (λ j. plain-told s.files s.next_member j (definition_entries author level) end),
      numbered-each (IsBelow s.next_member) (undo_entries author cycle) (definition_entries author level) k told.1 (λ j. plain-below s.next_member j (definition_entries author level) end),
    )
