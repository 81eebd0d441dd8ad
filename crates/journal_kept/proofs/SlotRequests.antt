-- WRITE, UPDATE and DELETE: one slot of a member becomes another, and the journal tells of it where it keeps the member's images.
use Rattle.std.proofs.Common.{◌≡◌, ◌≢◌, ◌⊎◌, ℕ, ◌+◌, ◌-◌, ◌≤◌, nat_lt, ◌==◌, ◌||◌, Bool, true, false, cond, suc, slice_get, List, [], ◌∷◌, length, Option, Some, None, IsSome, Ok, refl, sym, ap, ◌∙◌, subst, arith, inl, inr}
use Rattle.std.specs.List.{AllByRecursion}
use Rattle.std.specs.Option.{is_some}
use Rattle.std.proofs.lemmas.Bool.{cases_eq, or_parts}
use Rattle.std.proofs.lemmas.Bool.Decides.{nat_tests}
use Rattle.entry_codec.specs.declared.kinds.Images.{Images}
use Rattle.member_slots.specs.declared.slot.Slot.{Slot}
use Rattle.member_slots.specs.declared.slot.Slot.TheVariants.{Live, Deleted}
use Rattle.member_slots.specs.Member.{MemberState}
use Rattle.member_slots.specs.Members.{NumberedMembers, member_at, member_of, with_member}
use Rattle.journal_model.specs.Acts.{cycle_of}
use Rattle.journal_model.specs.AtSequence.{IsSo}
use Rattle.journal_model.specs.Places.{slot_of}
use Rattle.journal_model.specs.Rollback.{MemberChange}
use Rattle.logical_model.specs.Formats.{given_in}
use Rattle.lock_table.specs.declared.levels.Call.TheVariants.{WriteAt}
use Rattle.lock_table.specs.declared.levels.Call.TheVariants as calls
use Rattle.library_model.specs.Named.{Named, named}
use Rattle.library_model.specs.declared.replies.Reply.{Reply}
use Rattle.library_model.specs.declared.replies.Reply.TheVariants.{Added, Done, NoCurrentRecord, NotFound, PlaceInUse, WrongOpen}
use Rattle.library_model.specs.declared.requests.OpenName.{OpenName}
use Rattle.library_model.specs.declared.requests.UpdateRecord.{UpdateRecord}
use Rattle.library_model.specs.declared.requests.WriteRecord.{WriteRecord}
use Rattle.library_steps.specs.State.{State, Memory, FileState, OpenState, CycleState, JobState, job_of, memory_of, open_named, with_job, with_opens}
use Rattle.library_steps.specs.Change.{Change, journaled}
use Rattle.library_steps.specs.Refusals.{OpenedFile, found, opened_file, named_or_refused, refuse_if, sequences_left}
use Rattle.library_steps.specs.Drafts.{Author, author_of, slot_drafts}
use Rattle.library_steps.specs.Records.{live_record, slot_there}
use Rattle.library_steps.specs.LogicalFiles.{bases_of}
use Rattle.library_steps.specs.Reads.{at_format, open_changed, with_opened}
use Rattle.library_steps.specs.SlotChange.{NewSlot, are_both, begins_cycle, change_made, cycle_for, cycle_number, drafts_of, few_changes, images_of, is_behind_last, not_held, noted, slot_change, slot_changed, slot_put, touched, with_cycle, with_undo}
use Rattle.library_steps.specs.UniqueKeys.{keys_free}
use Rattle.library_steps.specs.Locking.{few_locks, locks_left, not_locked, with_locks}
use Rattle.library_steps.specs.WriteRecord.{format_asked, has_room, is_input, next_place, packed, place_asked, place_plan, write_call, write_change, write_plan, write_record}
use Rattle.library_steps.specs.ChangeRecord.{delete_change, delete_plan, delete_record, is_current, update_change, update_plan, update_record, without_current, without_record}
use Rattle.lawful_states.proofs.FindLemmas.{IsMember}
use Rattle.lawful_states.proofs.MemberLemmas.{item_at-with_item_other, member_of-with}
use Rattle.range_histories.specs.Agreed.{Agrees, AreAllJournaled, StaysJournaled, is_journaled}
use Rattle.range_histories.specs.CurrentRecords.{CurrentStands}
use Rattle.range_histories.specs.Sound.{IsSound, after}
use Rattle.range_histories.proofs.OpenLemmas.{IsAmong, among-format, each-among, member-there, opened-stands}
use Rattle.range_histories.proofs.ResultLemmas.{bind-ok, found-ok, ok-same, refuse_if-ok}
use Rattle.journal_kept.proofs.KnownLemmas.{quiet-began}
use Rattle.journal_kept.proofs.DraftLemmas.{IsSilent, all-append, drafts-none, of-others, slot_drafts-lead, slot_drafts-of, slots-append, slots-silent}
use Rattle.journal_kept.proofs.StatusLemmas.{all_changed, journaled-same}
use Rattle.journal_kept.proofs.StepLemmas.{IsFollowed, given-followed, kept-journaled, known_of, stays-followed, wider-jobs}
use Rattle.journal_kept.proofs.PutLemmas.{MayPut, live-within, slot_of-put, slot_there-is}
use Rattle.journal_kept.proofs.JobLemmas.{IsOpenJournaled, all-job_changed, all-named, changes-noted, job-of, job-opened, job-opens, none-open}
use Rattle.journal_kept.proofs.JobRequests.{does-each}

-- ---- one slot

module _ (s : State) (sound : IsSound s) (job timestamp : ℕ) (new : NewSlot) (counted : 1 ≤ new.rrn) (may : MayPut (member_of new.opened.member s.members) new.rrn new.slot)
    (there : is_some (member_at new.opened.member s.members) ≡ true) where
  begins_silent : (member : ℕ) (commit : Bool) (author : Author) (j : JobState) → AllByRecursion (IsSilent member) (cond commit (begins_cycle author (memory_of s) j) [])
  begins_silent member false author j = tt
  begins_silent member true author j = by j.cycle where
    by : (cycle : Option CycleState) → AllByRecursion (IsSilent member) (begins_cycle author (memory_of s) (record j { cycle = cycle }))
    by None = (inr (λ prior e. quiet-began (cycle_of e.group)), tt)
    by (Some cycle) = tt

  members_after : NumberedMembers
  members_after = with_member new.opened.member (slot_put new.rrn new.slot (member_of new.opened.member s.members)) s.members

  slots_after : (place : ℕ) → cond (new.rrn - 1 == place) new.slot (slot_of (member_of new.opened.member s.members).slots place) ≡ slot_of (member_of new.opened.member members_after).slots place
  unfolding members_after
  slots_after place =
      slot_of-put (member_of new.opened.member s.members) new.rrn place new.slot counted may
      ∙ ap (λ (m : MemberState). slot_of m.slots place) (sym (member_of-with new.opened.member (slot_put new.rrn new.slot (member_of new.opened.member s.members)) s.members there))

  -- the member itself, by whether images of it are kept
  here : (images : Option Images) (place : ℕ) → images_of new.opened.member (memory_of s) ≡ images
      → IsFollowed s (drafts_of (author_of (memory_of s) job timestamp) (job_of job (memory_of s)) new images (memory_of s)) members_after
      (all_changed new.opened.member touched s.files) new.opened.member place
  here None place off =
      let none = (sound.agreed.told new.opened.member place there).silent off in
      record {
        to = known_of s new.opened.member place;
        lead = drafts-none new.opened.member place (known_of s new.opened.member place);
        so = λ at. subst (λ (k : Option Slot). IsSo k (slot_of (member_of new.opened.member members_after).slots place)) (sym none) tt;
        silent = λ at off. none;
      }
  here (Some images) place on =
      given-followed s (drafts_of (author_of (memory_of s) job timestamp) (job_of job (memory_of s)) new (Some images) (memory_of s)) members_after
      (all_changed new.opened.member touched s.files) new.opened.member place
      (cond (new.rrn - 1 == place) new.slot (slot_of (member_of new.opened.member s.members).slots place))
      (slots-append new.opened.member place (known_of s new.opened.member place) (slot_of (member_of new.opened.member s.members).slots place) _
      (cond new.opened.commit (begins_cycle (author_of (memory_of s) job timestamp) (memory_of s) (job_of job (memory_of s))) [])
      (slot_drafts (author_of (memory_of s) job timestamp) (cycle_number new.opened.commit (memory_of s) (job_of job (memory_of s))) (new.opened.commit || are_both images)
      (is_behind_last new.opened.member new.rrn (memory_of s))
      new.opened.member new.rrn (slot_there new.opened.member new.rrn (memory_of s)) new.slot)
      (slots-silent new.opened.member place (known_of s new.opened.member place) (slot_of (member_of new.opened.member s.members).slots place) _ (sound.agreed.told new.opened.member place there).so
      (begins_silent new.opened.member new.opened.commit (author_of (memory_of s) job timestamp) (job_of job (memory_of s))))
      (λ next so. slot_drafts-lead new.opened.member place next (slot_of (member_of new.opened.member s.members).slots place) so (author_of (memory_of s) job timestamp)
      (cycle_number new.opened.commit (memory_of s) (job_of job (memory_of s))) (new.opened.commit || are_both images) (is_behind_last new.opened.member new.rrn (memory_of s)) new.rrn
      (slot_there new.opened.member new.rrn (memory_of s)) new.slot
      (λ e. slot_there-is new.opened.member new.rrn (memory_of s) counted ∙ ap (slot_of (member_of new.opened.member s.members).slots) e)))
      (slots_after place)
      (journaled-same new.opened.member touched (λ status. refl) (λ status. refl) new.opened.member s.files ∙ ap is_some on)

  silent_on : (other : ℕ) (images : Option Images) → other ≢ new.opened.member
      → AllByRecursion (IsSilent other) (drafts_of (author_of (memory_of s) job timestamp) (job_of job (memory_of s)) new images (memory_of s))
  silent_on other None differs = tt
  silent_on other (Some images) differs =
      all-append (IsSilent other) (cond new.opened.commit (begins_cycle (author_of (memory_of s) job timestamp) (memory_of s) (job_of job (memory_of s))) []) _
      (begins_silent other new.opened.commit (author_of (memory_of s) job timestamp) (job_of job (memory_of s)))
      (of-others new.opened.member other _ differs
      (slot_drafts-of (author_of (memory_of s) job timestamp) (cycle_number new.opened.commit (memory_of s) (job_of job (memory_of s))) (new.opened.commit || are_both images)
      (is_behind_last new.opened.member new.rrn (memory_of s)) new.opened.member new.rrn (slot_there new.opened.member new.rrn (memory_of s)) new.slot))

  followed : (member place : ℕ)
      → IsFollowed s (drafts_of (author_of (memory_of s) job timestamp) (job_of job (memory_of s)) new (images_of new.opened.member (memory_of s)) (memory_of s)) members_after
      (all_changed new.opened.member touched s.files) member place
  unfolding members_after
  followed member place = elim (cases_eq member new.opened.member) [
    | inl same ↦ subst (λ (n : ℕ). IsFollowed s
        (drafts_of (author_of (memory_of s) job timestamp) (job_of job (memory_of s)) new (images_of new.opened.member (memory_of s)) (memory_of s)) members_after
        (all_changed new.opened.member touched s.files) n place) (sym same) (here (images_of new.opened.member (memory_of s)) place refl)
    | inr differs ↦ stays-followed s _ members_after (all_changed new.opened.member touched s.files) member place sound.agreed
        (silent_on member (images_of new.opened.member (memory_of s)) differs)
        (λ at. sym (item_at-with_item_other member new.opened.member (slot_put new.rrn new.slot (member_of new.opened.member s.members)) s.members differs))
        (λ at off. sym (journaled-same new.opened.member touched (λ status. refl) (λ status. refl) member s.files) ∙ off)
  ]

  -- whatever else is done to jobs and locks
  pub slot-kept : (forced : Bool) (reply : Reply) (m : Memory) → m.gone ≡ s.gone
      → m.members ≡ with_member new.opened.member (slot_put new.rrn new.slot (member_of new.opened.member s.members)) s.members
      → m.files ≡ all_changed new.opened.member touched s.files → AllByRecursion (StaysJournaled s.files) m.jobs
      → Agrees (after s (journaled (drafts_of (author_of (memory_of s) job timestamp) (job_of job (memory_of s)) new (images_of new.opened.member (memory_of s)) (memory_of s)) forced reply m))
  unfolding members_after
  slot-kept forced reply m gone members files jobs =
      let drafts = drafts_of (author_of (memory_of s) job timestamp) (job_of job (memory_of s)) new (images_of new.opened.member (memory_of s)) (memory_of s) in
      kept-journaled s drafts forced reply m sound.agreed gone
      (λ member place. subst (λ (ms : NumberedMembers). IsFollowed s drafts ms m.files member place) (sym members)
      (subst (λ (fs : Named FileState). IsFollowed s drafts members_after fs member place) (sym files) (followed member place)))
      (subst (λ (fs : Named FileState). AllByRecursion (StaysJournaled fs) m.jobs) (sym files)
      (wider-jobs s.files (all_changed new.opened.member touched s.files) m.jobs (λ number on. journaled-same new.opened.member touched (λ status. refl) (λ status. refl) number s.files ∙ on) jobs))

-- ---- what with_undo leaves

module _ (job : ℕ) (undo : MemberChange) (cycle : CycleState) (m : Memory) where
  undo-gone : (commit : Bool) → (with_undo commit job undo cycle m).gone ≡ m.gone
  undo-gone true = refl
  undo-gone false = refl

  undo-members : (commit : Bool) → (with_undo commit job undo cycle m).members ≡ m.members
  undo-members true = refl
  undo-members false = refl

  undo-files : (commit : Bool) → (with_undo commit job undo cycle m).files ≡ m.files
  undo-files true = refl
  undo-files false = refl

  undo-jobs : (P : JobState → Type 0) (commit : Bool) → AllByRecursion P m.jobs → (commit ≡ true → (j : JobState) → P j → P (with_cycle (noted undo cycle) j))
      → AllByRecursion P (with_undo commit job undo cycle m).jobs
  undo-jobs P true all each = all-job_changed P _ (with_cycle (noted undo cycle)) m.jobs (each refl) all
  undo-jobs P false all each = all

-- ---- the open

-- an open of the job, at a member that is there
pub record IsOpen (s : State) (job : ℕ) (opened : OpenState) : Type 0 where
  pub there : is_some (member_at opened.member s.members) ≡ true
  pub journaled : opened.commit ≡ true → is_journaled opened.member s.files ≡ true

pub all-indexed : (P : JobState → Type 0) (jobs : List JobState) → ((place : ℕ) (job : JobState) → slice_get jobs place ≡ Some job → P job) → AllByRecursion P jobs
all-indexed P [] each = tt
all-indexed P (job ∷ jobs) each = (each 0 job refl, all-indexed P jobs (λ place j at. each (suc place) j at))

-- the current record of each open stands
abbrev pub LiveOpens : State → JobState → Type 0
LiveOpens s job = AllByRecursion (λ (entry : List ℕ × OpenState). (rrn : ℕ) → entry.1.current ≡ Some rrn → IsSome (live_record entry.1.member rrn (memory_of s))) job.opens

all-live : (s : State) (number : ℕ) (opens : Named OpenState)
    → AllByRecursion (λ (entry : List ℕ × OpenState). (rrn : ℕ) → entry.1.current ≡ Some rrn → CurrentStands (memory_of s) number entry.1 rrn) opens
    → AllByRecursion (λ (entry : List ℕ × OpenState). (rrn : ℕ) → entry.1.current ≡ Some rrn → IsSome (live_record entry.1.member rrn (memory_of s))) opens
all-live s number [] all = tt
all-live s number (entry ∷ opens) all = ((λ rrn at. (all.0 rrn at).live), all-live s number opens all.1)

-- through one of its members
open-among : (s : State) → IsSound s → (job : ℕ) (name : List ℕ) (opened through : OpenState) → open_named name job (memory_of s) ≡ Some opened → through.commit ≡ opened.commit
    → IsAmong opened.members through.member → IsOpen s job through
open-among s sound job name opened through h commit among = record {
  there = member-there s through.member (each-among (IsMember s) opened.members through.member (opened-stands s job name opened sound.library h).members among);
  journaled = λ on. each-among (λ (member : ℕ). is_journaled member s.files ≡ true) opened.members through.member
      (all-named (λ (entry : List ℕ × OpenState). entry.1.commit ≡ true → AreAllJournaled s.files entry.1.members) (IsOpenJournaled s.files) name (job_of job (memory_of s)).opens opened (λ entry p. p)
      (job-of (StaysJournaled s.files) s job sound.agreed.committed (none-open s.files)).opens h (sym commit ∙ on)) among;
}

-- at the member of the record read last, and at each format
open-named : (s : State) → IsSound s → (job : ℕ) (name : List ℕ) (opened : OpenState) → open_named name job (memory_of s) ≡ Some opened → IsOpen s job opened
open-named s sound job name opened h = open-among s sound job name opened opened h refl (opened-stands s job name opened sound.library h).among

open-format : (s : State) → IsSound s → (job : ℕ) (name : List ℕ) (opened : OpenState) (number : ℕ) → open_named name job (memory_of s) ≡ Some opened → IsOpen s job (at_format number opened)
open-format s sound job name opened number h =
    open-among s sound job name opened (at_format number opened) h refl (among-format number opened (opened-stands s job name opened sound.library h).among)

-- its current record stands
open-current : (s : State) → IsSound s → (job : ℕ) (name : List ℕ) (opened : OpenState) → open_named name job (memory_of s) ≡ Some opened → (rrn : ℕ) → opened.current ≡ Some rrn
    → IsSome (live_record opened.member rrn (memory_of s))
open-current s sound job name opened h =
    all-named (λ (entry : List ℕ × OpenState). (rrn : ℕ) → entry.1.current ≡ Some rrn → IsSome (live_record entry.1.member rrn (memory_of s)))
    (λ (o : OpenState). (rrn : ℕ) → o.current ≡ Some rrn → IsSome (live_record o.member rrn (memory_of s))) name (job_of job (memory_of s)).opens opened (λ entry p. p)
    (job-of (LiveOpens s) s job (all-indexed (LiveOpens s) s.jobs (λ place j at. all-live s (place + 1) j.opens (sound.joint.jobs place j at).current)) tt) h

-- ---- plans

-- a slot that may be put through an open of the job
pub record IsPlaced (s : State) (job : ℕ) (new : NewSlot) : Type 0 where
  pub open_is : IsOpen s job new.opened
  pub counted : 1 ≤ new.rrn
  pub may : MayPut (member_of new.opened.member s.members) new.rrn new.slot

opened_file-ok : (name : List ℕ) (job : ℕ) (m : Memory) (its : OpenedFile) → opened_file name job m ≡ Ok its → open_named name job m ≡ Some its.opened
opened_file-ok name job m its h =
    let a = bind-ok (named_or_refused name (open_named name job m)) _ its h in
    let b = bind-ok (named_or_refused a.0.file (named a.0.file m.files)) _ its a.2 in
    let last = b.2 in
    let e : record { opened = a.0; file = b.0 } ≡ its = cc in
    found-ok (open_named name job m) _ a.0 a.1 ∙ ap (λ (x : OpenedFile). Some x.opened) e

asked-bounds : (rrn most : ℕ) → ((rrn == 0) || nat_lt most rrn) ≡ false → (1 ≤ rrn) × (rrn ≤ most)
asked-bounds rrn most h = let p = or_parts (rrn == 0) (nat_lt most rrn) h in (counted rrn p.0, within most rrn p.1) where
  counted : (n : ℕ) → (n == 0) ≡ false → 1 ≤ n
  counted n e = grind (arith, nat_tests)

  within : (a b : ℕ) → nat_lt a b ≡ false → b ≤ a
  within a b e = grind (arith, nat_tests)

either-place : (n rrn : ℕ) → rrn ≤ n + 1 → (rrn ≤ n) ⊎ (rrn ≡ n + 1)
either-place n rrn h = elim (cases_eq rrn (n + 1)) [ inl same ↦ inr same | inr differs ↦ inl (omega (arith, h, differs)) ]

place_asked-ok : (job : ℕ) (opened : OpenState) (number : Option ℕ) (m : Memory) (rrn : ℕ) → place_asked job opened number m ≡ Ok rrn
    → (1 ≤ rrn) × ((rrn ≤ length (member_of opened.member m.members).slots) ⊎ (rrn ≡ length (member_of opened.member m.members).slots + 1))
place_asked-ok job opened None m rrn h =
    let e : next_place opened.member m ≡ rrn = cc in
    (omega (arith, e), inr (sym e))
place_asked-ok job opened (Some asked) m rrn h =
    let a = bind-ok (refuse_if ((asked == 0) || nat_lt (next_place opened.member m) asked) NotFound) _ rrn h in
    let b = bind-ok (refuse_if (is_some (live_record opened.member asked m)) (PlaceInUse asked)) _ rrn a.2 in
    let c = bind-ok (not_locked WriteAt job opened asked m) _ rrn b.2 in
    let d = bind-ok (not_held job opened asked m) _ rrn c.2 in
    let last = d.2 in
    let e : asked ≡ rrn = cc in
    let bounds = asked-bounds asked (next_place opened.member m) (refuse_if-ok ((asked == 0) || nat_lt (next_place opened.member m) asked) NotFound a.0 a.1) in
    (omega (arith, bounds.0, e), either-place (length (member_of opened.member m.members).slots) rrn (omega (arith, bounds.1, e)))

may-live : (member : MemberState) (rrn : ℕ) (image : List ℕ) → (rrn ≤ length member.slots) ⊎ (rrn ≡ length member.slots + 1) → MayPut member rrn (Live image)
may-live member rrn image (inl within) = inl within
may-live member rrn image (inr behind) = inr (behind, refl)

module _ (s : State) (sound : IsSound s) (job : ℕ) where
  place_plan-ok : (opened : OpenState) (asked : Option ℕ) (image : List ℕ) (new : NewSlot) → IsOpen s job opened → place_plan (memory_of s) job opened asked image ≡ Ok new → IsPlaced s job new
  unfolding place_plan
  place_plan-ok opened asked image new is h =
      let m = memory_of s in
      let f = bind-ok (place_asked job opened asked m) _ new h in
      let g = bind-ok (has_room (is_behind_last opened.member f.0 m) opened.member m) _ new f.2 in
      let i = bind-ok (keys_free job opened.commit opened.member f.0 Deleted image m) _ new g.2 in
      let k = bind-ok (few_locks (write_call asked) job opened f.0 m) _ new i.2 in
      let l = bind-ok (few_changes opened.commit Deleted (Live image) m) _ new k.2 in
      let made : record { opened = opened; rrn = f.0; slot = Live image } ≡ new = ok-same (Ok (record { opened = opened; rrn = f.0; slot = Live image })) _ new refl l.2 in
      let place = place_asked-ok job opened asked m f.0 f.1 in
      subst (IsPlaced s job) made (record { open_is = is; counted = place.0; may = may-live (member_of opened.member s.members) f.0 image place.1 })

  write_plan-ok : (args : WriteRecord) (new : NewSlot) → write_plan (memory_of s) job args ≡ Ok new → IsPlaced s job new
  unfolding write_plan
  write_plan-ok args new h =
      let m = memory_of s in
      let a = bind-ok (sequences_left m) _ new h in
      let b = bind-ok (opened_file args.open_id job m) _ new a.2 in
      let c = bind-ok (format_asked args.format b.0.file.spec) _ new b.2 in
      let d = bind-ok (refuse_if (is_input b.0.opened.option) WrongOpen) _ new c.2 in
      let e = bind-ok (packed (given_in (bases_of m) b.0.file.spec c.0 args.values None)) _ new d.2 in
      place_plan-ok (at_format c.0 b.0.opened) args.record_number e.0 new (open-format s sound job args.open_id b.0.opened c.0 (opened_file-ok args.open_id job m b.0 b.1)) e.2

  update_plan-ok : (args : UpdateRecord) (new : NewSlot) → update_plan (memory_of s) job args ≡ Ok new → IsPlaced s job new
  unfolding update_plan
  update_plan-ok args new h =
      let m = memory_of s in
      let a = bind-ok (sequences_left m) _ new h in
      let b = bind-ok (opened_file args.open_id job m) _ new a.2 in
      let c = bind-ok (refuse_if (is_input b.0.opened.option) WrongOpen) _ new b.2 in
      let d = bind-ok (found b.0.opened.current NoCurrentRecord) _ new c.2 in
      let e = bind-ok (packed (given_in (bases_of m) b.0.file.spec b.0.opened.format args.values (live_record b.0.opened.member d.0 m))) _ new d.2 in
      let f = bind-ok (not_held job b.0.opened d.0 m) _ new e.2 in
      let g = bind-ok (keys_free job b.0.opened.commit b.0.opened.member d.0 (slot_there b.0.opened.member d.0 m) e.0 m) _ new f.2 in
      let i = bind-ok (few_changes b.0.opened.commit (slot_there b.0.opened.member d.0 m) (Live e.0) m) _ new g.2 in
      let made : record { opened = b.0.opened; rrn = d.0; slot = Live e.0 } ≡ new = ok-same (Ok (record { opened = b.0.opened; rrn = d.0; slot = Live e.0 })) _ new refl i.2 in
      let it = open-named s sound job args.open_id b.0.opened (opened_file-ok args.open_id job m b.0 b.1) in
      let current = open-current s sound job args.open_id b.0.opened (opened_file-ok args.open_id job m b.0 b.1) d.0 (found-ok b.0.opened.current NoCurrentRecord d.0 d.1) in
      let place = live-within b.0.opened.member d.0 m current in
      subst (IsPlaced s job) made (record { open_is = it; counted = place.0; may = inl place.1 })

  delete_plan-ok : (args : OpenName) (new : NewSlot) → delete_plan (memory_of s) job args ≡ Ok new → IsPlaced s job new
  unfolding delete_plan
  delete_plan-ok args new h =
      let m = memory_of s in
      let a = bind-ok (sequences_left m) _ new h in
      let b = bind-ok (opened_file args.open_id job m) _ new a.2 in
      let c = bind-ok (refuse_if (is_input b.0.opened.option) WrongOpen) _ new b.2 in
      let d = bind-ok (found b.0.opened.current NoCurrentRecord) _ new c.2 in
      let f = bind-ok (not_held job b.0.opened d.0 m) _ new d.2 in
      let i = bind-ok (few_changes b.0.opened.commit (slot_there b.0.opened.member d.0 m) Deleted m) _ new f.2 in
      let made : record { opened = b.0.opened; rrn = d.0; slot = Deleted } ≡ new = ok-same (Ok (record { opened = b.0.opened; rrn = d.0; slot = Deleted })) _ new refl i.2 in
      let it = open-named s sound job args.open_id b.0.opened (opened_file-ok args.open_id job m b.0 b.1) in
      let current = open-current s sound job args.open_id b.0.opened (opened_file-ok args.open_id job m b.0 b.1) d.0 (found-ok b.0.opened.current NoCurrentRecord d.0 d.1) in
      let place = live-within b.0.opened.member d.0 m current in
      subst (IsPlaced s job) made (record { open_is = it; counted = place.0; may = inl place.1 })

  -- ---- the three requests

  -- the jobs after the slot, before what else is done to them
  jobs_noted : (new : NewSlot) → IsPlaced s job new → AllByRecursion (StaysJournaled s.files) (slot_changed job new (memory_of s)).jobs
  jobs_noted new placed =
      undo-jobs job (change_made (memory_of s) (job_of job (memory_of s)) new) (cycle_for (memory_of s) (job_of job (memory_of s))) _ (StaysJournaled s.files) new.opened.commit sound.agreed.committed
      (λ on j are. record {
        opens = are.opens;
        changes = changes-noted s.files (memory_of s) (job_of job (memory_of s)) (change_made (memory_of s) (job_of job (memory_of s)) new)
            (job-of (StaysJournaled s.files) s job sound.agreed.committed (none-open s.files)) (placed.open_is.journaled on);
      })

  placed-kept : (timestamp : ℕ) (new : NewSlot) (reply : Reply) (besides : Memory → Memory) → IsPlaced s job new → ((m : Memory) → (besides m).gone ≡ m.gone)
      → ((m : Memory) → (besides m).members ≡ m.members)
      → ((m : Memory) → (besides m).files ≡ m.files) → ((m : Memory) → AllByRecursion (StaysJournaled s.files) m.jobs → AllByRecursion (StaysJournaled s.files) (besides m).jobs)
      → Agrees (after s (slot_change job timestamp new reply besides (memory_of s)))
  placed-kept timestamp new reply besides placed gone members files jobs =
      let now = slot_changed job new (memory_of s) in
      slot-kept s sound job timestamp new placed.counted placed.may placed.open_is.there true reply (besides now)
      (gone now ∙ undo-gone job _ _ _ new.opened.commit)
      (members now ∙ undo-members job _ _ _ new.opened.commit)
      (files now ∙ undo-files job _ _ _ new.opened.commit)
      (jobs now (jobs_noted new placed))

  pub write_record-kept : (timestamp : ℕ) (args : WriteRecord) (done : Change) → write_record (memory_of s) job timestamp args ≡ Ok done → Agrees (after s done)
  write_record-kept timestamp args done h =
      does-each (write_change (memory_of s) job timestamp (write_call args.record_number)) (write_plan (memory_of s) job args) done (λ c. Agrees (after s c)) h
      (λ new is. placed-kept timestamp new (Added new.rrn) (with_locks (locks_left (write_call args.record_number) job new.opened new.rrn (memory_of s))) (write_plan-ok args new is)
      (λ m. refl) (λ m. refl) (λ m. refl) (λ m all. all))

  pub update_record-kept : (timestamp : ℕ) (args : UpdateRecord) (done : Change) → update_record (memory_of s) job timestamp args ≡ Ok done → Agrees (after s done)
  update_record-kept timestamp args done h =
      does-each (update_change (memory_of s) job timestamp) (update_plan (memory_of s) job args) done (λ c. Agrees (after s c)) h
      (λ new is. placed-kept timestamp new Done (λ m. with_opened job new.opened without_current (with_locks (locks_left calls.Update job new.opened new.rrn (memory_of s)) m))
      (update_plan-ok args new is) (λ m. refl) (λ m. refl) (λ m. refl)
      (λ m all. all-job_changed (StaysJournaled s.files) (job - 1) (open_changed new.opened.number without_current) m.jobs
      (job-opened s.files new.opened.number without_current (λ opened holds. holds)) all))

  pub delete_record-kept : (timestamp : ℕ) (args : OpenName) (done : Change) → delete_record (memory_of s) job timestamp args ≡ Ok done → Agrees (after s done)
  delete_record-kept timestamp args done h =
      does-each (delete_change (memory_of s) job timestamp) (delete_plan (memory_of s) job args) done (λ c. Agrees (after s c)) h
      (λ new is. placed-kept timestamp new Done
      (λ m. with_job job (with_opens (without_record new.opened.member new.rrn)) (with_locks (locks_left calls.Delete job new.opened new.rrn (memory_of s)) m))
      (delete_plan-ok args new is) (λ m. refl) (λ m. refl) (λ m. refl)
      (λ m all. all-job_changed (StaysJournaled s.files) (job - 1) (with_opens (without_record new.opened.member new.rrn)) m.jobs
      (job-opens s.files (without_record new.opened.member new.rrn)
      (λ opened holds. elim (is_current new.opened.member new.rrn opened) as (λ b. IsOpenJournaled s.files (cond b (without_current opened) opened)) [ true ↦ holds | false ↦ holds ])) all))
