-- A read finds an entry of a format of its open, which still is over the same members.
use Rattle.std.proofs.Common.{◌≡◌, ℕ, zero, suc, ◌-◌, ◌<◌, if◌then◌else◌, IsTrue, Bool, true, false, Option, Some, None, is_some, IsSome, IfSome, slice_get, Ok, List, [], ◌∷◌, map, Contains, refl, sym, ◌∙◌, ap, subst, arith}
use Rattle.std.proofs.lemmas.List.Elements.{All-contains_itself, recursion_from_All}
use Rattle.std.specs.List.{AllByRecursion}
use Rattle.library_steps.below.dds_physical.specs.declared.physical_files.PhysicalSpec.{PhysicalSpec}
use Rattle.library_steps.below.dds_logical.specs.declared.views.LogicalSpec.{LogicalSpec}
use Rattle.library_steps.below.dds_logical.specs.declared.views.LogicalSpec.TheVariants.{Simple, Multi, Join}
use Rattle.library_steps.below.dds_logical.specs.declared.join_views.JoinView.{JoinView}
use Rattle.file_model.specs.declared.paths.PathFormat.{PathFormat}
use Rattle.file_model.specs.FilePaths.{every_record, own_fields, path_format}
use Rattle.file_model.specs.Joins.{RowPlace}
use Rattle.file_model.specs.KeyOrder.{KeyValue}
use Rattle.file_model.specs.Paths.{PathEntry, compare_entries, entries_of, entry_of, selected_of}
use Rattle.file_model.specs.Positions.{Position, Reading, arrival_entry, chain_key, chain_number}
use Rattle.library_steps.specs.Bases.{FileSpec, PhysicalFile, LogicalFile, base_members}
use Rattle.library_steps.specs.Readings.{join_in, logical_reading, physical_reading, reading_in, rows_reading}
use Rattle.joint_state.proofs.FoundLemmas.{entry-stands, row-stands}
use Rattle.joint_state.proofs.ListLemmas.{each-in_order}
use Rattle.member_slots.specs.Member.{records}
use Rattle.member_slots.specs.Members.{NumberedMembers, member_of}
use Rattle.library_model.specs.Named.{Named, named, same_name}
use Rattle.library_model.specs.declared.replies.Reply.{Reply}
use Rattle.library_model.specs.declared.replies.Reply.TheVariants.{NotFound}
use Rattle.library_model.specs.declared.requests.ChainRecord.{ChainRecord}
use Rattle.library_model.specs.declared.requests.ChainTo.{ChainTo}
use Rattle.library_model.specs.declared.requests.ChainTo.TheVariants.{Key, RecordNumber}
use Rattle.library_model.specs.declared.requests.LockOption.{LockOption}
use Rattle.library_model.specs.declared.requests.ReadEqual.{ReadEqual}
use Rattle.library_model.specs.declared.requests.ReadRecord.{ReadRecord}
use Rattle.library_steps.specs.History.{is_running}
use Rattle.library_steps.specs.Locking.{few_locks, locks_left, not_locked, with_locks}
use Rattle.library_steps.specs.LogicalFiles.{bases_in}
use Rattle.library_steps.specs.Reads.{Found, FoundEntry, at_format, chain_plan, chained, entry_found, find_by, find_in, has_read, if_lockable, read_call, read_equal_plan, read_plan, row_found, with_opened}
use Rattle.library_steps.specs.Records.{is_keyed, key_asked, number_asked, reading_of}
use Rattle.library_steps.specs.Refusals.{OpenedFile, found, opened_file}
use Rattle.library_steps.specs.State.{State, OpenState, JobState, memory_of, job_at, job_of}
use Rattle.lawful_states.specs.Lawful.{IsOfMember, IsOverBases, OpenHolds, OpensBy}
use Rattle.lawful_states.proofs.BaseLemmas.{OpenHolds-has_read}
use Rattle.lawful_states.proofs.FindLemmas.{found-is}
use Rattle.lawful_states.proofs.LawfulLemmas.{KeepsOpens}
use Rattle.joint_state.specs.Opens.{AreToldApart, IsBefore}
use Rattle.joint_state.specs.Sound.{IsSound}
use Rattle.library_kept.proofs.FindLemmas.{if-some, chain_key-holds, chain_number-holds}
use Rattle.library_kept.proofs.ListLemmas.{each-append, each-weaker}
use Rattle.library_kept.proofs.OwnerLemmas.{mapped-from, open-over}
use Rattle.library_kept.proofs.PlanLemmas.{job-there, named-each, opened-is}
use Rattle.library_kept.proofs.ResultLemmas.{bind-ok, ok-equal}
use Rattle.library_kept.proofs.StandLemmas.{Stands, Stands-memory_of, Stands-locks, Stands-open_at, begun-left}

-- ---- the formats of entries

-- a physical file has one
abbrev IsFirst : PathEntry → Type 0
IsFirst entry = 0 ≡ entry.format

always : {X Y : Type 0} (P : Y → Type 0) (f : X → Y) → ((x : X) → P (f x)) → (xs : List X) → AllByRecursion P (map f xs)
always P f each [] = tt
always P f each (x ∷ xs) = (each x, always P f each xs)

physical-first : (keyed : Bool) (spec : PhysicalSpec) (member : ℕ) (members : NumberedMembers) → AllByRecursion IsFirst (physical_reading keyed spec member members).items
physical-first true spec member members =
    let format : PathFormat = path_format member every_record (own_fields spec.format.fields) spec.keys.parts in
    each-in_order (compare_entries spec.keys.ties) IsFirst _
    (each-append IsFirst (entries_of 0 format members) [] (always IsFirst (entry_of 0 format) (λ pair. refl) (selected_of format (member_of format.member members).slots)) tt)
physical-first false spec member members = always IsFirst arrival_entry (λ pair. refl) (records (member_of member members))

zero-place : {X : Type 0} (a b : X) (n : ℕ) → slice_get (a ∷ []) n ≡ Some b → 0 ≡ n
zero-place a b zero h = refl
zero-place a b (suc n) h = absurd cc

contained : {X : Type 0} (xs : List X) → AllByRecursion (Contains xs) xs
contained xs = recursion_from_All (Contains xs) xs (All-contains_itself xs)

is-join : (spec : FileSpec) (view : JoinView) → join_in spec ≡ Some view → spec ≡ LogicalFile (Join view)
is-join (PhysicalFile spec) view h = absurd cc
is-join (LogicalFile (Simple v)) view h = absurd cc
is-join (LogicalFile (Multi vs)) view h = absurd cc
is-join (LogicalFile (Join v)) view h = let same : v ≡ view = cc in ap (λ (j : JoinView). LogicalFile (Join j)) same

module _ (s : State) (its : OpenedFile) (over : OpensBy s.files its.opened its.file.members its.file.spec) where
  abbrev pub HasFormat : PathEntry → Type 0
  HasFormat entry = IsSome (slice_get its.opened.members entry.format)

  first-there : (entry : PathEntry) → IsOfMember its.file.members its.opened → IsFirst entry → HasFormat entry
  first-there entry of first = subst (λ (n : ℕ). IsSome (slice_get its.opened.members n)) first (ap (λ (ms : List ℕ). is_some (slice_get ms 0)) of.only)

  base-there : (spec : LogicalSpec) (entry : PathEntry) (member : ℕ) → IsOverBases s.files spec its.opened → slice_get (base_members (bases_in s.files) spec) entry.format ≡ Some member → HasFormat entry
  base-there spec entry member bases at = ap (λ (ms : List ℕ). is_some (slice_get ms entry.format)) bases.all ∙ ap (λ (o : Option ℕ). is_some o) at

  items-there : (keyed : Bool) (spec : FileSpec) → OpensBy s.files its.opened its.file.members spec
      → AllByRecursion HasFormat (reading_in (bases_in s.files) spec keyed its.opened.member s.members).items
  items-there keyed (PhysicalFile spec) of =
      each-weaker IsFirst HasFormat (physical_reading keyed spec its.opened.member s.members).items (λ entry first. first-there entry of first)
      (physical-first keyed spec its.opened.member s.members)
  items-there keyed (LogicalFile spec) bases =
      let items = (logical_reading (bases_in s.files) spec s.members).items in
      each-weaker (Contains items) HasFormat items
      (λ entry there. let stands = entry-stands (bases_in s.files) spec s.members entry there in base-there spec entry stands.member bases stands.is) (contained items)

  primary-there : (view : JoinView) (entry : PathEntry) (member : ℕ) → IsOverBases s.files (Join view) its.opened
      → slice_get ((bases_in s.files view.primary).member ∷ []) entry.format ≡ Some member → HasFormat entry
  primary-there view entry member bases at =
      subst (λ (n : ℕ). IsSome (slice_get its.opened.members n)) (zero-place (bases_in s.files view.primary).member member entry.format at)
      (ap (λ (ms : List ℕ). is_some (slice_get ms 0)) bases.all)

  rows-there : (view : JoinView) → IsOverBases s.files (Join view) its.opened → AllByRecursion (λ place. HasFormat place.primary) (rows_reading (bases_in s.files) view s.members).items
  rows-there view bases =
      let items = (rows_reading (bases_in s.files) view s.members).items in
      each-weaker (Contains items) (λ (place : RowPlace). HasFormat place.primary) items
      (λ place there. let stands = row-stands (bases_in s.files) view s.members place there in primary-there view place.primary stands.member bases stands.is) (contained items)

  module _ (find_entry : Reading PathEntry → Option PathEntry) (find_row : Reading RowPlace → Option RowPlace)
      (entries : (reading : Reading PathEntry) → AllByRecursion HasFormat reading.items → IfSome (find_entry reading) HasFormat)
      (rows : (reading : Reading RowPlace) → AllByRecursion (λ place. HasFormat place.primary) reading.items → IfSome (find_row reading) (λ place. HasFormat place.primary)) where
    found-by : (join : Option JoinView) (it : Found) → join_in its.file.spec ≡ join → find_by join its (memory_of s) find_entry find_row ≡ Some it → HasFormat it.entry
    found-by None it is h =
        let reading = reading_of its.file its.opened (memory_of s) in
        let one = mapped-from entry_found (find_entry reading) it h in
        subst (λ (f : Found). HasFormat f.entry) one.2
        (if-some HasFormat (find_entry reading) one.0 one.1 (entries reading (items-there (is_keyed its.file its.opened) its.file.spec over)))
    found-by (Some view) it is h =
        let reading = rows_reading (bases_in s.files) view s.members in
        let one = mapped-from row_found (find_row reading) it h in
        let bases : IsOverBases s.files (Join view) its.opened = subst (OpensBy s.files its.opened its.file.members) (is-join its.file.spec view is) over in
        subst (λ (f : Found). HasFormat f.entry) one.2
        (if-some (λ (place : RowPlace). HasFormat place.primary) (find_row reading) one.0 one.1 (rows reading (rows-there view bases)))

    pub found-there : (it : Found) → find_in its (memory_of s) find_entry find_row ≡ Some it → HasFormat it.entry
    found-there it h = found-by (join_in its.file.spec) it refl h

-- ---- what the plans of reads tell

-- what was found is of a format of the open that the request names
pub record IsRead (s : State) (job : ℕ) (it : FoundEntry) : Type 0 where
  pub name : List ℕ
  pub its : OpenedFile
  pub asks : opened_file name job (memory_of s) ≡ Ok its
  pub opened : at_format it.found.entry.format its.opened ≡ it.opened
  pub format : IsSome (slice_get its.opened.members it.found.entry.format)

module _ (s : State) (job : ℕ) (sound : IsSound s) where
  read-by : (name : List ℕ) (its : OpenedFile) (lock : LockOption) (what : Found) (it : FoundEntry) → opened_file name job (memory_of s) ≡ Ok its
      → IsSome (slice_get its.opened.members what.entry.format) → if_lockable job (memory_of s) its lock what ≡ Ok it → IsRead s job it
  read-by name its lock what it asks format h =
      let m = memory_of s in
      let opened = at_format what.entry.format its.opened in
      let free = bind-ok (not_locked (read_call lock opened) job opened what.entry.rrn m) _ it h in
      let few = bind-ok (few_locks (read_call lock opened) job opened what.entry.rrn m) _ it free.2 in
      let made : FoundEntry = record { file = its.file; opened = opened; call = read_call lock opened; found = what } in
      subst (IsRead s job) (ok-equal made it few.2) (record { name = name; its = its; asks = asks; opened = refl; format = format })

  module _ (entry_from : Reading PathEntry → Position PathEntry → Option PathEntry) (row_from : Reading RowPlace → Position RowPlace → Option RowPlace)
      (entries : (P : PathEntry → Type 0) (reading : Reading PathEntry) (position : Position PathEntry) → AllByRecursion P reading.items → IfSome (entry_from reading position) P)
      (rows : (P : RowPlace → Type 0) (reading : Reading RowPlace) (position : Position RowPlace) → AllByRecursion P reading.items → IfSome (row_from reading position) P) where
    pub read-is : (nothing : Reply) (args : ReadRecord) (it : FoundEntry) → read_plan entry_from row_from nothing (memory_of s) job args ≡ Ok it → IsRead s job it
    unfolding read_plan
    read-is nothing args it h =
        let m = memory_of s in
        let its = bind-ok (opened_file args.open_id job m) _ it h in
        let what = bind-ok (found (find_in its.0 m (λ reading. entry_from reading its.0.opened.position) (λ reading. row_from reading its.0.opened.rows)) nothing) _ it its.2 in
        let over = open-over s job args.open_id its.0 sound its.1 in
        let there = found-there s its.0 over (λ reading. entry_from reading its.0.opened.position) (λ reading. row_from reading its.0.opened.rows)
        (λ reading all. entries (HasFormat s its.0 over) reading its.0.opened.position all)
        (λ reading all. rows (λ place. HasFormat s its.0 over place.primary) reading its.0.opened.rows all) what.0 (found-is _ _ what.0 what.1) in
        read-by args.open_id its.0 args.lock what.0 it its.1 there what.2

  module _ (entry_from : Reading PathEntry → List KeyValue → Position PathEntry → Option PathEntry) (row_from : Reading RowPlace → List KeyValue → Position RowPlace → Option RowPlace)
      (entries : (P : PathEntry → Type 0) (reading : Reading PathEntry) (key : List KeyValue) (position : Position PathEntry) → AllByRecursion P reading.items → IfSome (entry_from reading key position) P)
      (rows : (P : RowPlace → Type 0) (reading : Reading RowPlace) (key : List KeyValue) (position : Position RowPlace) → AllByRecursion P reading.items → IfSome (row_from reading key position) P) where
    pub read_equal-is : (nothing : Reply) (args : ReadEqual) (it : FoundEntry) → read_equal_plan entry_from row_from nothing (memory_of s) job args ≡ Ok it → IsRead s job it
    unfolding read_equal_plan
    read_equal-is nothing args it h =
        let m = memory_of s in
        let its = bind-ok (opened_file args.open_id job m) _ it h in
        let key = bind-ok (key_asked its.0.file its.0.opened args.key) _ it its.2 in
        let what = bind-ok (found (find_in its.0 m (λ reading. entry_from reading key.0 its.0.opened.position) (λ reading. row_from reading key.0 its.0.opened.rows)) nothing) _ it key.2 in
        let over = open-over s job args.open_id its.0 sound its.1 in
        let there = found-there s its.0 over (λ reading. entry_from reading key.0 its.0.opened.position) (λ reading. row_from reading key.0 its.0.opened.rows)
        (λ reading all. entries (HasFormat s its.0 over) reading key.0 its.0.opened.position all)
        (λ reading all. rows (λ place. HasFormat s its.0 over place.primary) reading key.0 its.0.opened.rows all) what.0 (found-is _ _ what.0 what.1) in
        read-by args.open_id its.0 args.lock what.0 it its.1 there what.2

  chain-there : (its : OpenedFile) (over : OpensBy s.files its.opened its.file.members its.file.spec) (to : ChainTo) (item : Option Found) (what : Found) → chained its (memory_of s) to ≡ Ok item
      → item ≡ Some what → IsSome (slice_get its.opened.members what.entry.format)
  chain-there its over (Key values) item what h is =
      let key = bind-ok (key_asked its.file its.opened values) _ item h in
      found-there s its over (λ reading. chain_key reading key.0) (λ reading. chain_key reading key.0) (λ reading all. chain_key-holds (HasFormat s its over) reading key.0 all)
      (λ reading all. chain_key-holds (λ place. HasFormat s its over place.primary) reading key.0 all) what (ok-equal _ item key.2 ∙ is)
  chain-there its over (RecordNumber rrn) item what h is =
      let number = bind-ok (number_asked its.file its.opened rrn) _ item h in
      found-there s its over (λ reading. chain_number reading number.0) (λ reading. chain_number reading number.0) (λ reading all. chain_number-holds (HasFormat s its over) reading number.0 all)
      (λ reading all. chain_number-holds (λ place. HasFormat s its over place.primary) reading number.0 all) what (ok-equal _ item number.2 ∙ is)

  pub chain-is : (args : ChainRecord) (it : FoundEntry) → chain_plan (memory_of s) job args ≡ Ok it → IsRead s job it
  unfolding chain_plan
  chain-is args it h =
      let m = memory_of s in
      let its = bind-ok (opened_file args.open_id job m) _ it h in
      let item = bind-ok (chained its.0 m args.to) _ it its.2 in
      let what = bind-ok (found item.0 NotFound) _ it item.2 in
      let over = open-over s job args.open_id its.0 sound its.1 in
      read-by args.open_id its.0 args.lock what.0 it its.1 (chain-there its.0 over args.to item.0 what.0 item.1 (found-is item.0 _ what.0 what.1)) what.2

-- ---- the open afterwards

-- the open of a number is the one that is found by its name
only-open : (name : List ℕ) (opened : OpenState) (opens : Named OpenState) → AreToldApart opens → named name opens ≡ Some opened → AllByRecursion (λ entry. entry.1.number ≡ opened.number → entry.1 ≡ opened) opens
only-open name opened [] apart there = absurd cc
only-open name opened (first ∷ opens) apart there =
    elim (same_name name first.0) as (λ b. (if b then Some first.1 else named name opens) ≡ Some opened → AllByRecursion (λ entry. entry.1.number ≡ opened.number → entry.1 ≡ opened) (first ∷ opens)) [
      | true ↦ λ here. (
          let same : first.1 ≡ opened = cc in
          let number : first.1.number ≡ opened.number = ap (λ (o : OpenState). o.number) same in (
            λ e. same,
            each-weaker (IsBefore first) (λ (entry : List ℕ × OpenState). entry.1.number ≡ opened.number → entry.1 ≡ opened) opens
                (λ entry before e. absurd (let less = before.numbers in omega (arith, less, number, e))) apart.0,
          ))
      | false ↦ λ later. (
          let before : first.1.number < opened.number =
          named-each (λ (o : OpenState). first.1.number < o.number) name opens opened
          (each-weaker (IsBefore first) (λ (entry : List ℕ × OpenState). first.1.number < entry.1.number) opens (λ entry b. b.numbers) apart.0) later in
          (λ e. absurd (omega (arith, before, e)), only-open name opened opens apart.1 later))
    ] there

module _ (s : State) (job : ℕ) (it : FoundEntry) (sound : IsSound s) (running : IsTrue (is_running (job_at job s.jobs))) (is : IsRead s job it) where
  number-is : it.opened.number ≡ is.its.opened.number
  number-is = ap (λ (o : OpenState). o.number) (sym is.opened)

  keeps : (j : JobState) → slice_get s.jobs (job - 1) ≡ Some j → KeepsOpens s.files it.opened.number (has_read it.call it.found) j.opens
  keeps j at =
      let asked = opened-is is.name job (memory_of s) is.its is.asks in
      let same : Some (job_of job (memory_of s)) ≡ Some j = sym (job-there s.jobs job running) ∙ at in
      let its : job_of job (memory_of s) ≡ j = cc in
      let there : named is.name j.opens ≡ Some is.its.opened = subst (λ (j : JobState). named is.name j.opens ≡ Some is.its.opened) its asked.0 in
      each-weaker (λ (entry : List ℕ × OpenState). entry.1.number ≡ is.its.opened.number → entry.1 ≡ is.its.opened)
      (λ (entry : List ℕ × OpenState). entry.1.number ≡ it.opened.number → OpenHolds s.files entry.1 → OpenHolds s.files (has_read it.call it.found entry.1)) j.opens
      (λ entry only number holds. subst (λ (o : OpenState). OpenHolds s.files (has_read it.call it.found o)) (sym (only (number ∙ number-is)))
      (OpenHolds-has_read s.files it.call it.found is.its.opened is.format (subst (OpenHolds s.files) (only (number ∙ number-is)) holds)))
      (only-open is.name is.its.opened j.opens (sound.joint.jobs (job - 1) j at).opens.apart there)

  pub read-stands : Stands (with_opened job it.opened (has_read it.call it.found) (with_locks (locks_left it.call job it.opened it.found.entry.rrn (memory_of s)) (memory_of s)))
  read-stands =
      let m = memory_of s in
      Stands-open_at (with_locks (locks_left it.call job it.opened it.found.entry.rrn m) m) job it.opened (has_read it.call it.found)
      (Stands-locks m (locks_left it.call job it.opened it.found.entry.rrn m) (Stands-memory_of s sound) (begun-left m job running it.call it.opened it.found.entry.rrn sound.library.keepers)) keeps
