-- APYJRNCHG and RMVJRNCHG leave a library, and deposit entries with records of the member's fields.
use Rattle.std.proofs.Common.{◌≡◌, ℕ, ◌+◌, ◌-◌, ◌*◌, ◌≤◌, ◌==◌, nat_lt, true, false, Option, Some, None, unwrap_or, Result, Ok, Err, List, [], ◌∷◌, length, map, reverse, take, drop, refl, sym, ap, subst}
use Rattle.std.proofs.lemmas.Bool.{ltb-false}
use Rattle.std.specs.Option.{is_none}
use Rattle.std.specs.List.{AllByRecursion}
use Rattle.entry_codec.specs.declared.entries.Entry.{Entry}
use Rattle.entry_codec.specs.declared.kinds.EntryKind.{EntryKind}
use Rattle.entry_codec.specs.declared.kinds.EntryKind.TheVariants.{ChangesApplied, ChangesRemoved, CommitCycleStarted, CommitCycleCommitted}
use Rattle.entry_codec.specs.Placing.{place}
use Rattle.lawful_states.specs.Owners.{Owns}
use Rattle.journal_model.specs.Acts.{entry_before}
use Rattle.journal_model.specs.Images.{images_of}
use Rattle.journal_model.specs.Places.{slot_of, put_slot}
use Rattle.journal_model.specs.Ranges.{RangeDone, apply_range, remove_range}
use Rattle.journal_model.specs.Walks.{RangeFault, Numbered}
use Rattle.member_slots.specs.declared.member.TheConstants.{MOST_BYTES}
use Rattle.member_slots.specs.declared.slot.Slot.{Slot}
use Rattle.member_slots.specs.declared.slot.Slot.TheVariants.{Deleted}
use Rattle.member_slots.specs.Member.{MemberState}
use Rattle.member_slots.specs.Members.{member_of, with_member}
use Rattle.record_fmt.specs.declared.formats.Field.{Field}
use Rattle.library_model.specs.declared.requests.JournaledChanges.{JournaledChanges}
use Rattle.library_model.specs.declared.requests.RangeEnd.{RangeEnd}
use Rattle.library_model.specs.declared.replies.Reply.TheVariants as replies
use Rattle.library_model.specs.declared.replies.LimitKind.TheVariants.{LibraryBytes, BlockBytes}
use Rattle.library_steps.specs.declared.limits.TheConstants.{MOST_LIBRARY_BYTES, MOST_BLOCK_BYTES}
use Rattle.library_steps.specs.Change.{deposited}
use Rattle.library_steps.specs.Drafts.{Author, author_of, cycle_draft, member_draft, slot_drafts}
use Rattle.library_steps.specs.EntrySizes.{entry_bytes}
use Rattle.library_steps.specs.JournalReads.{are_there, are_kept, first_kept, entries_between}
use Rattle.library_steps.specs.Ranges.{range_between, Range, RangeWork, Given, end_named, range_named, done_or_refused, library_bytes, with_range, before_or_deleted, given_forward, given_back, given_drafts, told, allowed, slots_now, work_of, apply_plan, remove_plan}
use Rattle.library_steps.specs.Refusals.{refuse_if, sequences_left, member_of_file}
use Rattle.library_steps.specs.State.{State, Memory, FileState, memory_of, fields_of}
use Rattle.library_steps.specs.UniqueKeys.{unique_paths, all_apart}
use Rattle.library_steps.specs.Uses.{user_of, unused}
use Rattle.lawful_states.specs.Lawful.{HoldsValues, HasRecords}
use Rattle.lawful_states.proofs.BackLemmas.{AllGoBack-unused}
use Rattle.lawful_states.proofs.LawfulLemmas.{AreOne-with_member}
use Rattle.journaled_entries.specs.Deposited.{is_of_record}
use Rattle.joint_state.specs.Told.{MayHavePlace, IsRecordOf, IsTold}
use Rattle.joint_state.specs.Sound.{IsSound, MayBeRead}
use Rattle.library_kept.proofs.DraftLemmas.{DraftTold, slot_drafts-told}
use Rattle.library_kept.proofs.ListLemmas.{each-append, each-drop, each-reverse, each-take, each-weaker}
use Rattle.library_kept.proofs.PlanLemmas.{named-member, same-file}
use Rattle.library_kept.proofs.RangeLemmas.{Fits, NumberedFits, DoneFits, ActFits, TellsOf, Fits-put, HoldsValues-slot_of, acts-fit, entry_before-tells, apply_range-fits, remove_range-fits}
use Rattle.library_kept.proofs.ResultLemmas.{ok-equal, bind-ok, none-refused, not-refused}
use Rattle.library_kept.proofs.SlotLemmas.{its-records}
use Rattle.library_kept.proofs.StandLemmas.{bare, Stands, one-of, Stands-memory_of, within-of, within-with}

-- ---- the entries that tell of it

-- a slot that was given is one of the member's, at a place that it may have
pub record GivenFits (fields : List Field) (g : Given) : Type 0 where
  pub slot : HoldsValues fields g.slot
  pub place : MayHavePlace fields (g.place + 1)

module _ (fields : List Field) where
  forward-fits : (changes : List Numbered) → AllByRecursion (NumberedFits fields) changes → AllByRecursion (GivenFits fields) (given_forward changes)
  forward-fits [] all = tt
  forward-fits (n ∷ changes) all = (record { slot = all.0.after; place = all.0.place }, forward-fits changes all.1)

  before-holds : (o : Option Slot) → HoldsValues fields (unwrap_or o Deleted) → HoldsValues fields (before_or_deleted o)
  before-holds None holds = tt
  before-holds (Some slot) holds = holds

  back-given : (changes : List Numbered) → AllByRecursion (NumberedFits fields) changes
      → AllByRecursion (GivenFits fields) (map (λ n. record { place = n.change.place; slot = before_or_deleted n.change.before }) changes)
  back-given [] all = tt
  back-given (n ∷ changes) all = (record { slot = before-holds n.change.before all.0.before; place = all.0.place }, back-given changes all.1)

  back-fits : (changes : List Numbered) → AllByRecursion (NumberedFits fields) changes → AllByRecursion (GivenFits fields) (given_back changes)
  back-fits changes all = back-given (reverse changes) (each-reverse (NumberedFits fields) changes all)

  given-told : (author : Author) (cycle member : ℕ) (slots : List Slot) (given : List Given) → Fits fields slots → AllByRecursion (GivenFits fields) given
      → AllByRecursion (DraftTold fields member) (given_drafts author cycle member slots given)
  given-told author cycle member slots [] fits all = tt
  given-told author cycle member slots (g ∷ given) fits all =
      each-append (DraftTold fields member)
      (slot_drafts author (Some cycle) true (g.place == length slots) member (g.place + 1) (slot_of slots g.place) g.slot) (given_drafts author cycle member (put_slot slots g.place g.slot) given)
      (slot_drafts-told fields author (Some cycle) true (g.place == length slots) member (g.place + 1) (slot_of slots g.place) g.slot all.0.place
      (HoldsValues-slot_of fields slots g.place fits.values) all.0.slot)
      (given-told author cycle member (put_slot slots g.place g.slot) given (Fits-put fields slots g.place g.slot fits all.0.slot all.0.place) all.1)

  -- an entry of a member that has no record, or of a commit cycle
  pub member-told : (author : Author) (member : ℕ) (kind : EntryKind) → images_of kind ≡ [] → is_of_record (place kind) ≡ false → DraftTold fields member (member_draft author member kind)
  member-told author member kind none plain = record {
    member = λ n e. (let same : member ≡ n = cc in sym same);
    images = subst (λ (images : List (List ℕ)). AllByRecursion (IsRecordOf fields) images) (sym none) tt;
    place = λ h. absurd cc;
  }

  pub cycle-told : (author : Author) (cycle member : ℕ) (kind : EntryKind) → images_of kind ≡ [] → is_of_record (place kind) ≡ false → DraftTold fields member (cycle_draft author cycle kind)
  cycle-told author cycle member kind none plain = record {
    member = λ n e. absurd cc;
    images = subst (λ (images : List (List ℕ)). AllByRecursion (IsRecordOf fields) images) (sym none) tt;
    place = λ h. absurd cc;
  }

  told-told : (author : Author) (cycle member : ℕ) (kind : EntryKind) (slots : List Slot) (given : List Given) → images_of kind ≡ [] → is_of_record (place kind) ≡ false → Fits fields slots
      → AllByRecursion (GivenFits fields) given → AllByRecursion (DraftTold fields member) (told author cycle member kind slots given)
  told-told author cycle member kind slots [] none plain fits all = (member-told author member kind none plain, tt)
  told-told author cycle member kind slots (g ∷ given) none plain fits all = (
    member-told author member kind none plain,
    (
      cycle-told author cycle member CommitCycleStarted refl refl,
      each-append (DraftTold fields member) (given_drafts author cycle member slots (g ∷ given)) (cycle_draft author cycle CommitCycleCommitted ∷ [])
          (given-told author cycle member slots (g ∷ given) fits all) (cycle-told author cycle member CommitCycleCommitted refl refl, tt),
    ),
  )

-- ---- what the plans tell

pub record MayGo (s : State) (work : RangeWork) : Type 0 where
  pub name : List ℕ
  pub file : FileState
  pub owns : Owns s.files name file work.range.status.number
  pub unused : user_of work.range.status.number (memory_of s) ≡ None
  pub slots : Fits (fields_of file) work.done.slots
  pub bytes : library_bytes (with_range work.range work.done (memory_of s)).members ≤ MOST_LIBRARY_BYTES
  pub drafts : AllByRecursion (DraftTold (fields_of file) work.range.status.number) work.drafts

-- a range of a member that isn't used, by acts that fit it
record IsRange (s : State) (range : Range) : Type 0 where
  name : List ℕ
  file : FileState
  owns : Owns s.files name file range.status.number
  unused : user_of range.status.number (memory_of s) ≡ None
  acts : AllByRecursion (ActFits (fields_of file)) range.acts

range-is : (s : State) (read : List Entry) (args : JournaledChanges) (first last : RangeEnd) (range : Range) → IsSound s → MayBeRead s read
    → range_named args first last read (memory_of s) ≡ Ok range → IsRange s range
range-is s read args first last range sound reads h =
    let m = memory_of s in
    let left = bind-ok (sequences_left m) _ range h in
    let it = bind-ok (member_of_file args.file args.member m) _ range left.2 in
    let number = it.0.status.number in
    let from = end_named first number read m in
    let to = end_named last number read m in
    let free = bind-ok (unused (user_of number m)) _ range it.2 in
    let journaled = bind-ok (refuse_if (is_none it.0.status.images) (replies.NotJournaled number)) _ range free.2 in
    let there = bind-ok (are_there from to m) _ range journaled.2 in
    let kept = bind-ok (are_kept from m) _ range there.2 in
    let has = named-member s args.file args.member it.0 sound it.1 in
    let tells = each-weaker (IsTold s.files) (TellsOf (fields_of it.0.file) number) read (λ e told named. told args.file it.0.file number has.owns named) reads.told in
    let before = take (from - first_kept m) read in
    let between = entries_between from to m read in
    subst (IsRange s) (ok-equal (range_between it.0.status from to read m) range kept.2) (record {
      name = args.file;
      file = it.0.file;
      owns = has.owns;
      unused = none-refused _ (user_of number m) free.0 free.1;
      acts = acts-fit (fields_of it.0.file) number (entry_before None before) between
          (entry_before-tells (fields_of it.0.file) number None before tt (each-take (TellsOf (fields_of it.0.file) number) (from - first_kept m) read tells))
          (each-take (TellsOf (fields_of it.0.file) number) (to + 1 - from) (drop (from - first_kept m) read)
          (each-drop (TellsOf (fields_of it.0.file) number) (from - first_kept m) read tells));
    })

-- the slots of a member fit it
slots-fit : (s : State) (name : List ℕ) (file : FileState) (number : ℕ) → IsSound s → Owns s.files name file number → Fits (fields_of file) (member_of number s.members).slots
slots-fit s name file number sound owns =
    let records = its-records (memory_of s) name file number 0 (Stands-memory_of s sound) owns in
    let within = within-of number s.members sound.within in
    record {
      values = records.values;
      few = within.few;
      small = subst (λ (n : ℕ). length (member_of number s.members).slots * n ≤ MOST_BYTES) records.long within.small;
    }

record IsAllowed (work given : RangeWork) (m : Memory) : Type 0 where
  same : work ≡ given
  bytes : library_bytes (with_range work.range work.done m).members ≤ MOST_LIBRARY_BYTES

allowed-is : (work given : RangeWork) (m : Memory) → allowed work m ≡ Ok given → IsAllowed work given m
allowed-is work given m h =
    let bytes = library_bytes (with_range work.range work.done m).members in
    let few = bind-ok (refuse_if (nat_lt MOST_LIBRARY_BYTES bytes) (replies.LimitReached LibraryBytes MOST_LIBRARY_BYTES)) _ given h in
    let block = bind-ok (refuse_if (nat_lt MOST_BLOCK_BYTES (entry_bytes (deposited m work.drafts))) (replies.LimitReached BlockBytes MOST_BLOCK_BYTES)) _ given few.2 in
    let apart = bind-ok (all_apart (unique_paths work.range.status.number m) (with_range work.range work.done m)) _ given block.2 in
    record { same = ok-equal work given apart.2; bytes = ltb-false MOST_LIBRARY_BYTES bytes (not-refused _ _ few.0 few.1) }

done-is : (r : Result RangeDone RangeFault) (d : RangeDone) → done_or_refused r ≡ Ok d → r ≡ Ok d
done-is (Ok other) d h = let same : other ≡ d = ok-equal other d h in ap (λ (x : RangeDone). Ok x) same
done-is (Err fault) d h = absurd cc

-- how each of the two tells of what it does
module _ (s : State) (sound : IsSound s) (range : Range) (is : IsRange s range) (author : Author) (kind : RangeDone → EntryKind) (given : RangeDone → List Given)
    (none : (d : RangeDone) → images_of (kind d) ≡ []) (plain : (d : RangeDone) → is_of_record (place (kind d)) ≡ false)
    (fit : (d : RangeDone) → AllByRecursion (NumberedFits (fields_of is.file)) d.changes → AllByRecursion (GivenFits (fields_of is.file)) (given d)) where
  may-go : (d : RangeDone) (work : RangeWork) → DoneFits (fields_of is.file) d → allowed (work_of author kind given range (memory_of s) d) (memory_of s) ≡ Ok work → MayGo s work
  may-go d work fits h =
      let m = memory_of s in
      let allows = allowed-is (work_of author kind given range m d) work m h in
      subst (MayGo s) allows.same (record {
        name = is.name;
        file = is.file;
        owns = is.owns;
        unused = is.unused;
        slots = fits.slots;
        bytes = allows.bytes;
        drafts = told-told (fields_of is.file) author (m.last_entry + 2) range.status.number (kind d) (slots_now range m) (given d) (none d) (plain d)
            (slots-fit s is.name is.file range.status.number sound is.owns) (fit d fits.changes);
      })

pub apply-may : (s : State) (read : List Entry) (job timestamp : ℕ) (args : JournaledChanges) (work : RangeWork) → IsSound s → MayBeRead s read
    → apply_plan read (memory_of s) job timestamp args ≡ Ok work → MayGo s work
unfolding apply_plan
apply-may s read job timestamp args work sound reads h =
    let m = memory_of s in
    let range = bind-ok (range_named args args.from args.to read m) _ work h in
    let did = bind-ok (done_or_refused (apply_range range.0.first range.0.acts (slots_now range.0 m))) _ work range.2 in
    let is = range-is s read args args.from args.to range.0 sound reads range.1 in
    let fits = apply_range-fits (fields_of is.file) range.0.first range.0.acts (slots_now range.0 m) did.0 is.acts
    (slots-fit s is.name is.file range.0.status.number sound is.owns) (done-is _ did.0 did.1) in
    may-go s sound range.0 is (author_of m job timestamp) (λ d. ChangesApplied d.first d.last (length d.changes)) (λ d. given_forward d.changes) (λ d. refl) (λ d. refl)
    (λ d all. forward-fits (fields_of is.file) d.changes all) did.0 work fits did.2

pub remove-may : (s : State) (read : List Entry) (job timestamp : ℕ) (args : JournaledChanges) (work : RangeWork) → IsSound s → MayBeRead s read
    → remove_plan read (memory_of s) job timestamp args ≡ Ok work → MayGo s work
unfolding remove_plan
remove-may s read job timestamp args work sound reads h =
    let m = memory_of s in
    let range = bind-ok (range_named args args.to args.from read m) _ work h in
    let did = bind-ok (done_or_refused (remove_range range.0.first range.0.acts (slots_now range.0 m))) _ work range.2 in
    let is = range-is s read args args.to args.from range.0 sound reads range.1 in
    let fits = remove_range-fits (fields_of is.file) range.0.first range.0.acts (slots_now range.0 m) did.0 is.acts
    (slots-fit s is.name is.file range.0.status.number sound is.owns) (done-is _ did.0 did.1) in
    may-go s sound range.0 is (author_of m job timestamp) (λ d. ChangesRemoved d.first d.last (length d.changes)) (λ d. given_back d.changes) (λ d. refl) (λ d. refl)
    (λ d all. back-fits (fields_of is.file) d.changes all) did.0 work fits did.2

-- ---- what they leave

pub range-stands : (s : State) (work : RangeWork) → IsSound s → MayGo s work → Stands (with_range work.range work.done (memory_of s))
range-stands s work sound may =
    let m = memory_of s in
    let stands = Stands-memory_of s sound in
    let number = work.range.status.number in
    let now : MemberState = record (member_of number s.members) { slots = work.done.slots } in
    let its = its-records m may.name may.file number 0 stands may.owns in
    record {
      library = (AreOne-with_member (bare m) (library_bytes s.members) (library_bytes (with_member number now s.members)) number now (one-of (bare m) stands.library)
          (λ name file owns. subst (λ (f : FileState). HasRecords (fields_of f) now)
          (same-file s.files may.name name may.file file number sound.apart may.owns (record { there = owns.there; has = owns.has }))
          (record { long = its.long; values = may.slots.values }))
          refl may.bytes (AllGoBack-unused s.files s.members number now s.locks s.jobs may.unused sound.library.changes)).lawful;
      within = within-with s.members number now
          (record { few = may.slots.few; small = subst (λ (n : ℕ). length work.done.slots * n ≤ MOST_BYTES) (sym its.long) may.slots.small }) sound.within;
    }
