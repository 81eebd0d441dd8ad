-- CLRPFM and RGZPFM: the records of a member go or move.
use Rattle.std.proofs.Common.{◌≡◌, ℕ, ◌+◌, ◌≤◌, ◌==◌, ◌&&◌, nat_lt, Bool, true, false, cond, Option, Some, None, List, [], ◌∷◌, map, refl, sym, ap, ◌∙◌, subst, arith}
use Rattle.std.specs.List.{AllByRecursion}
use Rattle.std.specs.Option.{is_some}
use Rattle.std.proofs.lemmas.Bool.Decides.{nat_tests}
use Rattle.entry_codec.specs.declared.entries.Entry.{Entry}
use Rattle.entry_codec.specs.declared.kinds.EntryKind.{EntryKind}
use Rattle.entry_codec.specs.declared.kinds.EntryKind.TheVariants.{MemberCleared, MemberReorganized}
use Rattle.entry_codec.specs.declared.kinds.Images.{Images}
use Rattle.entry_codec.specs.Placing.{is_placed, place}
use Rattle.member_slots.specs.Member.{MemberState, cleared, reorganized}
use Rattle.member_slots.specs.Members.{NumberedMembers, member_of, with_member}
use Rattle.journal_model.specs.Acts.{Act, Cleared, Nothing, Reorganized, act_there}
use Rattle.journal_model.specs.Catalogue.{CatalogMember, member_numbered}
use Rattle.journal_model.specs.Images.{AreRecordsOf, images_of}
use Rattle.journal_model.specs.Pairs.{EndsPair, pair_begun, pair_ended}
use Rattle.journal_model.specs.Replay.{moved}
use Rattle.journal_model.specs.Replay as replay
use Rattle.journal_model.specs.Replayable.{MayFollow}
use Rattle.journal_model.specs.Rollback.{MemberChange, undos_by}
use Rattle.journal_replay.specs.Standing.{HeldMember, Standing, catalogue_in, images_by, member_by, only_begun, state_in}
use Rattle.library_model.specs.declared.requests.FileMember.{FileMember}
use Rattle.library_model.specs.declared.replies.Reply.TheVariants.{Done}
use Rattle.library_steps.specs.State.{Memory, MemberStatus, State, memory_of, with_status}
use Rattle.library_steps.specs.Change.{journaled}
use Rattle.library_steps.specs.Drafts.{Author, author_of, member_draft}
use Rattle.library_steps.specs.Journaling.{end_change, end_journaling, end_plan}
use Rattle.library_steps.specs.MemberCommands.{clear_member, empty_plan, if_journaled, renumbered, renumbering, reorganize_member, with_slots}
use Rattle.journaled_entries.specs.Deposited.{is_of_record}
use Rattle.joint_state.specs.Sound.{IsSound, after}
use Rattle.restart_laws.proofs.LibraryKeptCatalogueLemmas.{cleared-stands, reorganized-stands}
use Rattle.restart_laws.proofs.ResultLemmas.{does-each}
use Rattle.restart_laws.proofs.LibraryKeptStandLemmas.{Stands, Stands-memory_of}
use Rattle.named_bases.specs.Sources.{descriptions}
use Rattle.replayed_histories.specs.Replayed.{CyclesStand, IsHeldWithin, IsReplayed, MemberStands, StandsAs}
use Rattle.replayed_histories.specs.Deposits.{MayBeDeposited}
use Rattle.replayed_histories.specs.Requests.{AreReplaysKeptBy}
use Rattle.replayed_histories.proofs.DepositLemmas.{replays-kept}
use Rattle.replayed_histories.proofs.EndedRequests.{counted-there, each-counted, ended-replayed}
use Rattle.replayed_histories.proofs.FoundLemmas.{IsFound, empty-found, end-found}
use Rattle.replayed_histories.proofs.FreeLemmas.{unused-free}
use Rattle.replayed_histories.proofs.HomeLemmas.{within-moved}
use Rattle.replayed_histories.proofs.MemberLemmas.{statuses_changed}
use Rattle.replayed_histories.proofs.MovedLemmas.{change-shown, map-none, member-shown, moved-stands, told-kept, told-stands}
use Rattle.replayed_histories.proofs.OneLemmas.{IsOfOne, cleared-one, moved_by, one-after, one-may, one_entry, one_left, reorganized-one}
use Rattle.replayed_histories.proofs.QuietLemmas.{no-records}
use Rattle.replayed_histories.proofs.StandsLemmas.{cycles-later}
use Rattle.replayed_histories.proofs.StatusLemmas.{numbered-there}
use Rattle.replayed_histories.proofs.UntoldRequests.{numbers-same, untold-stands}

-- ---- kinds

-- an entry of this kind does the act, by which the slots move as the member changes
pub record IsRenumbering (kind : EntryKind) (a : Act) (change : MemberState → MemberState) : Type 0 where
  pub one : IsOfOne kind
  pub there : (prior : Option Entry) (e : Entry) → act_there kind prior e ≡ a
  pub follows : (state : replay.State) → state.undos ≡ [] → MayFollow state a
  pub images_stay : (o : Option Images) → images_by a o ≡ o
  pub undos_stay : (n : ℕ) (undos : List MemberChange) → undos_by a n undos ≡ undos
  pub moves : (member : MemberState) → moved member.slots a ≡ (change member).slots
  pub begun : pair_begun kind ≡ None
  pub ended : pair_ended kind ≡ None
  pub images : images_of kind ≡ []
  pub placed : (author : Author) (n sequence : ℕ) → nat_lt 0 n ≡ true → is_placed (one_entry author None n None kind sequence) ≡ true
  pub unrecorded : is_of_record (place kind) ≡ false

cleared-is : IsRenumbering MemberCleared Cleared cleared
cleared-is = record {
  one = cleared-one;
  there = λ prior e. refl;
  follows = λ state free. free;
  images_stay = λ o. refl;
  undos_stay = λ n undos. refl;
  moves = λ member. refl;
  begun = refl;
  ended = refl;
  images = refl;
  placed = λ author n sequence some. ap (λ (b : Bool). b && true) some;
  unrecorded = refl;
}

reorganized-is : IsRenumbering MemberReorganized Reorganized reorganized
reorganized-is = record {
  one = reorganized-one;
  there = λ prior e. refl;
  follows = λ state free. free;
  images_stay = λ o. refl;
  undos_stay = λ n undos. refl;
  moves = λ member. refl;
  begun = refl;
  ended = refl;
  images = refl;
  placed = λ author n sequence some. ap (λ (b : Bool). b && true) some;
  unrecorded = refl;
}

-- ---- the status

module _ (sequence : ℕ) where
  renumbered-number : (status : MemberStatus) → (renumbered sequence status).number ≡ status.number
  renumbered-number status = elim (is_some status.images) as
      (λ b. (cond b (record status { last_break = sequence }) (record status { changed = true })).number ≡ status.number) [ true ↦ refl | false ↦ refl ]

  renumbered-images : (status : MemberStatus) → (renumbered sequence status).images ≡ status.images
  renumbered-images status = elim (is_some status.images) as
      (λ b. (cond b (record status { last_break = sequence }) (record status { changed = true })).images ≡ status.images) [ true ↦ refl | false ↦ refl ]

  renumbered-then : (status : MemberStatus) → (renumbered sequence status).records_then ≡ status.records_then
  renumbered-then status = elim (is_some status.images) as
      (λ b. (cond b (record status { last_break = sequence }) (record status { changed = true })).records_then ≡ status.records_then) [ true ↦ refl | false ↦ refl ]

  renumbered-changed : (status : MemberStatus) → is_some status.images ≡ false → (renumbered sequence status).changed ≡ true
  renumbered-changed status off = ap (λ (b : Bool). (cond b (record status { last_break = sequence }) (record status { changed = true })).changed) off

none-of : (o : Option Images) → is_some o ≡ false → o ≡ None
none-of None off = refl
none-of (Some images) off = absurd cc

-- ---- the member

module _ (s : State) (r : IsReplayed s) (job timestamp : ℕ) (status : MemberStatus) (found : IsFound s status) (kind : EntryKind) (a : Act) (change : MemberState → MemberState)
    (is : IsRenumbering kind a change) (sound : IsSound s)
    (stood : Stands (with_status status.number (renumbered ((memory_of s).last_entry + 1)) (with_slots status.number change (memory_of s)))) where
  abbrev n : ℕ
  n = status.number

  abbrev h : MemberStatus → MemberStatus
  h = renumbered ((memory_of s).last_entry + 1)

  h-number : (st : MemberStatus) → (h st).number ≡ st.number
  h-number = renumbered-number ((memory_of s).last_entry + 1)

  h-images : (st : MemberStatus) → (h st).images ≡ st.images
  h-images = renumbered-images ((memory_of s).last_entry + 1)

  abbrev g : MemberStatus → MemberStatus
  g st = cond (st.number == n) (h st) st

  abbrev item : MemberState
  item = change (member_of n s.members)

  abbrev members : NumberedMembers
  members = with_member n item s.members

  abbrev now : Memory
  now = with_status n h (with_slots n change (memory_of s))

  -- of a member that isn't journaled the journal tells nothing
  untold : is_some status.images ≡ false → IsReplayed (after s (journaled [] true Done now))
  untold off =
      replays-kept s r [] true Done now r.left refl r.checkpoint refl refl r.whole
      (moved-stands r.left r.left s.files s.members members s.next_member s.jobs s.jobs r.stands (λ m. m) g refl (map-none r.left.members) refl (λ m. refl) (λ m. refl)
      (change-shown n h h-number h-images)
      (untold-stands s.files s.members status item h found.among (none-of status.images off) h-number h-images
      (renumbered-then ((memory_of s).last_entry + 1)) (renumbered-changed ((memory_of s).last_entry + 1) status off))
      (numbers-same n item s.members) r.stands.cycles_are)

  module _ (on : is_some status.images ≡ true) where
    abbrev author : Author
    author = author_of (memory_of s) job timestamp

    abbrev e : Entry
    e = one_entry author None n None kind r.left.next

    abbrev to : Standing
    to = one_left author None n None kind is.one r.left a (is.there r.left.begun e)

    stands : StandsAs to (map (statuses_changed g) s.files) members s.next_member s.jobs
    stands =
        moved-stands r.left to s.files s.members members s.next_member s.jobs s.jobs r.stands (moved_by n a r.left.next) g refl refl refl (λ m. refl)
        (member-shown n h h-number h-images a r.left.next is.images_stay) (change-shown n h h-number h-images)
        (told-stands n h h-number h-images a r.left.next is.images_stay s.files s.members status item found.among on found.there (is.moves (member_of n s.members)))
        (numbers-same n item s.members)
        (subst (λ (undos : List MemberChange). CyclesStand (r.left.next + 1) r.left.cycles undos s.jobs) (sym (is.undos_stay n r.left.undos))
        (cycles-later r.left.next r.left.cycles r.left.undos s.jobs r.stands.cycles_are))

    within : AllByRecursion (IsHeldWithin to) to.members
    within =
        within-moved r.left to (moved_by n a r.left.next) s.files (map (statuses_changed g) s.files) s.members members s.next_member s.jobs stands refl stood.library.bases stood.library.members
        stood.within (λ m stand fits kept. by m stand fits (n == m.number) refl kept) r.stands.slots r.journal.within
      where
        by : (m : HeldMember) → MemberStands s.files s.members m → IsHeldWithin r.left m → (b : Bool) → (n == m.number) ≡ b
            → (is_some (member_by (cond b a Nothing) r.left.next m).images ≡ true → IsHeldWithin to (member_by (cond b a Nothing) r.left.next m))
            → IsHeldWithin to (member_by (cond b a Nothing) r.left.next m)
        by m stand fits true same kept =
            kept (ap is_some (is.images_stay m.images)
            ∙ told-kept n h h-number h-images a r.left.next is.images_stay s.files s.members status item found.among on found.there m stand same)
        by m stand fits false other kept = fits

    catalogued : (c : CatalogMember) × (member_numbered (Some n) (catalogue_in r.left) ≡ Some c)
    catalogued = numbered-there n r.left.members s.members r.stands.numbers found.there

    may : MayBeDeposited r.left e
    may =
        let first : 1 ≤ n = counted-there n r.left.members catalogued.0 (each-counted s.files s.members r.left.members r.stands.slots) catalogued.1 in
        let some : nat_lt 0 n ≡ true = grind (arith, nat_tests, first) in
        one-may author None n None kind is.one r.left a (is.there r.left.begun e) catalogued (is.follows (state_in r.left n) (unused-free s r n found.free)) tt
        (subst (λ (o : Option Entry). EndsPair o e) (sym r.whole) is.ended)
        (subst (AreRecordsOf descriptions (catalogue_in r.left) (member_numbered (Some n) (catalogue_in r.left))) (sym is.images)
        (no-records (catalogue_in r.left) (member_numbered (Some n) (catalogue_in r.left))))
        within (is.placed author n r.left.next some) (λ of. let off = is.unrecorded in absurd cc)

    told : IsReplayed (after s (journaled (member_draft author n kind ∷ []) true Done now))
    told =
        replays-kept s r (member_draft author n kind ∷ []) true Done now to refl r.checkpoint refl
        (may, sym (one-after author None n None kind is.one r.left a (is.there r.left.begun e))) (ap (λ p. only_begun p e) is.begun) stands

  pub renumbering-replayed : IsReplayed (after s (renumbering (memory_of s) job timestamp kind change status))
  renumbering-replayed = by (is_some status.images) refl where
    by : (b : Bool) → is_some status.images ≡ b
        → IsReplayed (after s (journaled (if_journaled b (member_draft (author_of (memory_of s) job timestamp) n kind)) true Done now))
    by true on = told on
    by false off = untold off

-- ---- the requests

pub clear-replayed : (args : FileMember) → AreReplaysKeptBy (λ m job timestamp. clear_member m job timestamp args)
clear-replayed args s sound r job timestamp done running h =
    does-each (renumbering (memory_of s) job timestamp MemberCleared cleared) (empty_plan (memory_of s) args) done (λ c. IsReplayed (after s c)) h
    (λ status is.
    let found = empty-found s sound args status is in
    renumbering-replayed s r job timestamp status found MemberCleared Cleared cleared cleared-is sound
    (cleared-stands (memory_of s) status.number (Stands-memory_of s sound) found.there found.free))

pub reorganize-replayed : (args : FileMember) → AreReplaysKeptBy (λ m job timestamp. reorganize_member m job timestamp args)
reorganize-replayed args s sound r job timestamp done running h =
    does-each (renumbering (memory_of s) job timestamp MemberReorganized reorganized) (empty_plan (memory_of s) args) done (λ c. IsReplayed (after s c)) h
    (λ status is.
    let found = empty-found s sound args status is in
    renumbering-replayed s r job timestamp status found MemberReorganized Reorganized reorganized reorganized-is sound
    (reorganized-stands (memory_of s) status.number (Stands-memory_of s sound) found.there found.free))

pub end-replayed : (args : FileMember) → AreReplaysKeptBy (λ m job timestamp. end_journaling m job timestamp args)
end-replayed args s sound r job timestamp done running h =
    does-each (end_change (memory_of s) job timestamp) (end_plan (memory_of s) args) done (λ c. IsReplayed (after s c)) h
    (λ status is.
    let its = end-found s sound args status is in
    ended-replayed s r job timestamp status its.0.among its.1 its.0.there its.0.free)
