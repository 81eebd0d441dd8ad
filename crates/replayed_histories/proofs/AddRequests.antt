-- ADDPFM: a file has a member more, without records.
use Rattle.std.proofs.Common.{◌≡◌, ◌≢◌, ℕ, ◌+◌, ◌<◌, ◌≤◌, ◌==◌, ◌&&◌, ◌||◌, nat_le, nat_lt, Bool, true, false, cond, Option, Some, None, unwrap_or, Ok, List, [], ◌∷◌, ◌++◌, map, length, refl, sym, ap, ◌∙◌, subst, arith}
use Rattle.std.specs.List.{AllByRecursion, filter, find, list_any}
use Rattle.std.specs.Option.{is_some, option_map}
use Rattle.std.specs.Str.{bytes_eq}
use Rattle.std.proofs.lemmas.Bool.{ltb-false}
use Rattle.std.proofs.lemmas.Bool.Decides.{nat_tests}
use Rattle.std.proofs.lemmas.List.{append-nil, map-append}
use Rattle.std.proofs.lemmas.List.Elements.{All-from_recursion}
use Rattle.entry_codec.specs.declared.entries.Entry.{Entry}
use Rattle.entry_codec.specs.declared.kinds.EntryKind.{EntryKind}
use Rattle.entry_codec.specs.declared.kinds.EntryKind.TheVariants.{FileCreated, FileDeleted, MemberAdded, JournalingStarted, InitialSlot, JournalingEnded, MemberCleared, MemberReorganized, ChangesApplied, ChangesRemoved, RecordAdded, RecordAddedAtNumber, BeforeImage, AfterImage, RecordDeleted, UndoBeforeImage, UndoAfterImage, UndoDelete, CommitmentStarted, CommitCycleStarted, CommitCycleCommitted, CommitCycleRolledBack, CommitmentEnded, AbnormalEnd, NextReceiver, PreviousReceiver}
use Rattle.entry_codec.specs.declared.kinds.FileKind.TheVariants.{Logical, Physical}
use Rattle.entry_codec.specs.Drafts.{numbered}
use Rattle.member_slots.specs.Member.{FitsSlot, MemberState, empty_member}
use Rattle.member_slots.specs.Members.{NumberedMembers, member_at, member_of, put_member}
use Rattle.record_fmt.specs.Layout.{record_length}
use Rattle.logical_model.specs.Bases.{FileSpec, LogicalFile, PhysicalFile}
use Rattle.logical_laws.proofs.ListLemmas.{each-weaker}
use Rattle.lawful_states.specs.Physical.{IsPhysical}
use Rattle.lawful_states.proofs.NameLemmas.{same_name-symm}
use Rattle.journal_model.specs.Acts.{Nothing, act}
use Rattle.journal_model.specs.Catalogue.{Catalogue, CatalogFile, CatalogMember, MayAddMember, catalogue_after, catalogue_by, empty_catalogue, is_in_file, member_numbered}
use Rattle.journal_model.specs.Pairs.{EndsPair}
use Rattle.journal_model.specs.Replayable.{MayFollow}
use Rattle.journal_model.specs.Rollback.{undos_by}
use Rattle.journal_replay.specs.Standing.{HeldMember, Standing, catalog_member, catalogue_in, member_by, new_member, standing_after, state_in}
use Rattle.library_model.specs.declared.limits.TheConstants.{LAST_MEMBER}
use Rattle.library_model.specs.declared.replies.LimitKind.TheVariants.{MemberNumbers, Members}
use Rattle.library_model.specs.declared.replies.Reply.TheVariants.{Done, LimitReached, NameExists}
use Rattle.library_model.specs.declared.requests.FileMember.{FileMember}
use Rattle.library_model.specs.Named.{Named, named, same_name}
use Rattle.library_steps.specs.declared.limits.TheConstants.{MOST_MEMBERS}
use Rattle.library_steps.specs.State.{FileState, MemberStatus, State, fields_of, memory_of, physical_named}
use Rattle.library_steps.specs.Change.{journaled}
use Rattle.library_steps.specs.CreatePhysicalFile.{new_status}
use Rattle.library_steps.specs.Drafts.{Author, author_of, member_draft}
use Rattle.library_steps.specs.MemberCommands.{add_member, add_plan, file_changed, member_added, with_member_name}
use Rattle.library_steps.specs.Refusals.{named_or_refused, refuse_if, sequences_left}
use Rattle.library_steps.specs.SlotChange.{status_among, status_in}
use Rattle.lawful_states.proofs.BaseLemmas.{physical-found}
use Rattle.lawful_states.proofs.FileLemmas.{next-unowned}
use Rattle.lawful_states.proofs.FindLemmas.{found-is}
use Rattle.joint_state.specs.Sound.{IsSound, after}
use Rattle.restart_laws.proofs.ResultLemmas.{bind-ok, does-each, not-refused, ok-equal}
use Rattle.sound_histories.proofs.ImageLemmas.{among-map, status_in-push}
use Rattle.named_bases.specs.Sources.{fields_beside}
use Rattle.replayed_histories.specs.Shown.{ShownFile, ShownMember, ShowsMembers, file_shown, held_shown, is_held_in, kind_in, memberless, status_shown}
use Rattle.replayed_histories.specs.Replayed.{IsHeldWithin, IsReplayed, MemberStands, StandsAs}
use Rattle.replayed_histories.specs.Deposits.{MayBeDeposited}
use Rattle.replayed_histories.specs.Requests.{AreReplaysKeptBy}
use Rattle.replayed_histories.proofs.DepositLemmas.{replays-kept}
use Rattle.replayed_histories.proofs.HomeLemmas.{both-each, catalog-named, shows-named}
use Rattle.replayed_histories.proofs.ListLemmas.{all-append}
use Rattle.replayed_histories.proofs.QuietLemmas.{members-stay, no-records, standing-same}
use Rattle.replayed_histories.proofs.StandsLemmas.{cycles-later}

-- ---- numbers of members begin with 1

by_kind : (kind : EntryKind) (e : Entry) (c : Catalogue) → 1 ≤ c.next_member → 1 ≤ (catalogue_by kind e c).next_member
by_kind (FileCreated Physical name source) e c first = omega arith
by_kind (FileCreated Logical name source) e c first = first
by_kind (FileDeleted name) e c first = first
by_kind (MemberAdded file name) e c first = omega arith
by_kind (JournalingStarted images slots) e c first = first
by_kind (InitialSlot image) e c first = first
by_kind JournalingEnded e c first = first
by_kind MemberCleared e c first = first
by_kind MemberReorganized e c first = first
by_kind (ChangesApplied from last changes) e c first = first
by_kind (ChangesRemoved from last changes) e c first = first
by_kind (RecordAdded image) e c first = first
by_kind (RecordAddedAtNumber image) e c first = first
by_kind (BeforeImage image) e c first = first
by_kind (AfterImage has_before image) e c first = first
by_kind (RecordDeleted before) e c first = first
by_kind (UndoBeforeImage image) e c first = first
by_kind (UndoAfterImage has_before image) e c first = first
by_kind (UndoDelete image) e c first = first
by_kind (CommitmentStarted level) e c first = first
by_kind CommitCycleStarted e c first = first
by_kind CommitCycleCommitted e c first = first
by_kind CommitCycleRolledBack e c first = first
by_kind CommitmentEnded e c first = first
by_kind AbnormalEnd e c first = first
by_kind (NextReceiver number) e c first = first
by_kind (PreviousReceiver number) e c first = first

first-after : (entries : List Entry) (c : Catalogue) → 1 ≤ c.next_member → 1 ≤ (catalogue_after c entries).next_member
first-after [] c first = first
first-after (e ∷ entries) c first = first-after entries (catalogue_by e.kind e c) (by_kind e.kind e c first)

pub first-number : (s : State) (r : IsReplayed s) → 1 ≤ s.next_member
first-number s r =
    let last : r.left.next_member ≡ (catalogue_after empty_catalogue s.entries).next_member = ap (λ (c : Catalogue). c.next_member) r.journal.replays.catalogue in
    let first = first-after s.entries empty_catalogue (omega arith) in
    let same = r.stands.next_is in
    omega (arith, last, first, same)

-- ---- the entry

module _ (author : Author) (number : ℕ) (file name : List ℕ) (left : Standing) where
  abbrev e : Entry
  e = numbered (member_draft author number (MemberAdded file name)) left.next

  abbrev new : HeldMember
  new = new_member number file name

  abbrev added_left : Standing
  added_left = record left { next = left.next + 1; begun = None; members = left.members ++ new ∷ []; next_member = number + 1 }

  add-after : standing_after e left ≡ added_left
  add-after =
      standing-same (left.next + 1) None None left.files left.files _ (left.members ++ new ∷ []) (number + 1) (number + 1) left.cycles left.cycles _ left.undos refl refl
      (ap (λ (ms : List HeldMember). ms ++ new ∷ []) (members-stay left.begun e left.members stays)) refl refl
      (elim (number == number) as (λ b. undos_by (cond b Nothing Nothing) number left.undos ≡ left.undos) [ true ↦ refl | false ↦ refl ])
    where
      stays : (m : HeldMember) → member_by (act m.number left.begun e) e.sequence m ≡ m
      stays m = elim (number == m.number) as (λ b. member_by (cond b Nothing Nothing) left.next m ≡ m) [ true ↦ refl | false ↦ refl ]

  new-within : IsHeldWithin added_left new
  new-within = record { records = All-from_recursion (FitsSlot _) [] tt; slots = omega arith; bytes = omega arith }

  add-may : left.begun ≡ None → AllByRecursion (IsHeldWithin left) left.members → MayAddMember file name e (catalogue_in left) → nat_lt 0 number ≡ true → MayBeDeposited left e
  add-may none within enters some = record {
    next = record {
      sequence = refl;
      enters = enters;
      replays = λ member. elim (number == member) as (λ b. MayFollow (state_in left member) (cond b Nothing Nothing)) [ true ↦ tt | false ↦ tt ];
      names = λ no. tt;
      deletes = λ gone is. absurd cc;
      pairs = subst (λ (o : Option Entry). EndsPair o e) (sym none) refl;
      records = no-records (catalogue_in left) (member_numbered (Some number) (catalogue_in left));
    };
    within = subst (λ (l : Standing). AllByRecursion (IsHeldWithin l) l.members) (sym add-after) (all-append (IsHeldWithin added_left) left.members (new ∷ []) within (new-within, tt));
    placed = ap (λ (b : Bool). b && true) some;
    journaled = λ of. absurd cc;
  }

-- ---- files with a member more

module _ (number : ℕ) (file name : List ℕ) where
  abbrev more : List ℕ × FileState → FileState
  more entry = cond (same_name file entry.0) (with_member_name name number entry.1) entry.1

  abbrev h : List ℕ × FileState → List ℕ × FileState
  h entry = (entry.0, more entry)

  abbrev held_new : HeldMember
  held_new = new_member number file name

  more-shown : (files : Named FileState) → map file_shown (map h files) ≡ map file_shown files
  more-shown [] = refl
  more-shown (entry ∷ files) =
      ap (λ (x : ShownFile). x ∷ map file_shown (map h files))
      (elim (same_name file entry.0) as (λ b. file_shown (entry.0, cond b (with_member_name name number entry.1) entry.1) ≡ file_shown entry) [ true ↦ refl | false ↦ refl ])
      ∙ ap (λ (t : List ShownFile). file_shown entry ∷ t) (more-shown files)

  more-memberless : (files : Named FileState) → map memberless (map h files) ≡ map memberless files
  more-memberless [] = refl
  more-memberless (entry ∷ files) =
      ap (λ (x : List ℕ × FileState). x ∷ map memberless (map h files))
      (elim (same_name file entry.0) as (λ b. memberless (entry.0, cond b (with_member_name name number entry.1) entry.1) ≡ memberless entry) [ true ↦ refl | false ↦ refl ])
      ∙ ap (λ (t : Named FileState). memberless entry ∷ t) (more-memberless files)

  abbrev HasFields : List CatalogFile → List ℕ × FileState → Type 0
  HasFields catalog entry = kind_in entry.1.spec ≡ Physical → fields_beside catalog entry.1.source ≡ fields_of entry.1

  more-fields : (catalog : List CatalogFile) (files : Named FileState) → AllByRecursion (HasFields catalog) files → AllByRecursion (HasFields catalog) (map h files)
  more-fields catalog [] all = tt
  more-fields catalog (entry ∷ files) all = (
    elim (same_name file entry.0) as (λ b. HasFields catalog (entry.0, cond b (with_member_name name number entry.1) entry.1)) [ true ↦ all.0 | false ↦ all.0 ],
    more-fields catalog files all.1,
  )

  more-named : (other : List ℕ) (files : Named FileState) → is_some (named other (map h files)) ≡ is_some (named other files)
  more-named other [] = refl
  more-named other (entry ∷ files) =
      elim (same_name other entry.0) as (λ b. is_some (cond b (Some (more entry)) (named other (map h files))) ≡ is_some (cond b (Some entry.1) (named other files)))
      [ true ↦ refl | false ↦ more-named other files ]

  -- what is shown of their members
  pub shown-append : (other : List ℕ) (held : List HeldMember)
      → map held_shown (filter (is_held_in other) (held ++ held_new ∷ [])) ≡ map held_shown (filter (is_held_in other) held) ++ map held_shown (filter (is_held_in other) (held_new ∷ []))
  shown-append other [] = refl
  shown-append other (m ∷ held) =
      elim (bytes_eq m.file other) as
      (λ b. map held_shown (cond b (m ∷ filter (is_held_in other) (held ++ held_new ∷ [])) (filter (is_held_in other) (held ++ held_new ∷ [])))
      ≡ map held_shown (cond b (m ∷ filter (is_held_in other) held) (filter (is_held_in other) held)) ++ map held_shown (filter (is_held_in other) (held_new ∷ [])))
      [ true ↦ ap (λ (t : List ShownMember). held_shown m ∷ t) (shown-append other held) | false ↦ shown-append other held ]

  more-members : (held : List HeldMember) (files : Named FileState) → AllByRecursion (ShowsMembers held) files → AllByRecursion (ShowsMembers (held ++ held_new ∷ [])) (map h files)
  more-members held [] all = tt
  more-members held (entry ∷ files) all = (shown-append entry.0 held ∙ by (same_name file entry.0), more-members held files all.1) where
    by : (b : Bool)
        → map held_shown (filter (is_held_in entry.0) held) ++ map held_shown (cond b (held_new ∷ []) []) ≡ map status_shown (cond b (with_member_name name number entry.1) entry.1).members
    by true = ap (λ (t : List ShownMember). t ++ held_shown held_new ∷ []) all.0 ∙ sym (map-append status_shown entry.1.members ((name, new_status number) ∷ []))
    by false = append-nil (map held_shown (filter (is_held_in entry.0) held)) ∙ all.0

  -- the status of the new member
  push-new : (members : Named MemberStatus) → status_in number members ≡ None → status_in number (members ++ (name, new_status number) ∷ []) ≡ Some (new_status number)
  push-new [] none = let own : (number == number) ≡ true = grind (arith, nat_tests) in
      ap (λ (b : Bool). option_map (λ (x : List ℕ × MemberStatus). x.1) (cond b (Some (name, new_status number)) None)) own
  push-new (entry ∷ members) none =
      elim (entry.1.number == number) as (λ b. option_map (λ (x : List ℕ × MemberStatus). x.1) (cond b (Some entry) (find (λ (x : List ℕ × MemberStatus). x.1.number == number) members)) ≡ None
      → option_map (λ (x : List ℕ × MemberStatus). x.1) (cond b (Some entry) (find (λ (x : List ℕ × MemberStatus). x.1.number == number) (members ++ (name, new_status number) ∷ [])))
      ≡ Some (new_status number)) [
        | true ↦ λ some. absurd cc
        | false ↦ λ rest. push-new members rest
      ] none

  pub among-none : (entry : List ℕ × FileState) (files : Named FileState) → status_among number (entry ∷ files) ≡ None → (status_in number entry.1.members ≡ None) × (status_among number files ≡ None)
  among-none entry files none = by (status_in number entry.1.members) none where
    by : (o : Option MemberStatus) → cond (is_some o) o (status_among number files) ≡ None → (o ≡ None) × (status_among number files ≡ None)
    by None rest = (refl, rest)
    by (Some status) rest = absurd cc

  among-new : (files : Named FileState) → status_among number files ≡ None → is_some (named file files) ≡ true → status_among number (map h files) ≡ Some (new_status number)
  among-new [] none there = absurd cc
  among-new (entry ∷ files) none there =
      elim (same_name file entry.0) as (λ b. is_some (cond b (Some entry.1) (named file files)) ≡ true
      → cond (is_some (status_in number (cond b (with_member_name name number entry.1) entry.1).members)) (status_in number (cond b (with_member_name name number entry.1) entry.1).members)
      (status_among number (map h files)) ≡ Some (new_status number)) [
        | true ↦ λ here. ap (λ (o : Option MemberStatus). cond (is_some o) o (status_among number (map h files))) (push-new entry.1.members parts.0)
        | false ↦ λ later. ap (λ (o : Option MemberStatus). cond (is_some o) o (status_among number (map h files))) parts.0 ∙ among-new files parts.1 later
      ] there
    where
      parts : (status_in number entry.1.members ≡ None) × (status_among number files ≡ None)
      parts = among-none entry files none

  among-other : (other : ℕ) (files : Named FileState) → other ≢ number → status_among other (map h files) ≡ status_among other files
  among-other other files differs =
      among-map other more files
      (λ entry. elim (same_name file entry.0) as (λ b. status_in other (cond b (with_member_name name number entry.1) entry.1).members ≡ status_in other entry.1.members)
      [ true ↦ status_in-push other number name entry.1.members differs | false ↦ refl ])

-- ---- members with one more

module _ (number : ℕ) (item : MemberState) where
  pub put-last : (members : NumberedMembers) → AllByRecursion (λ entry. entry.number < number) members → put_member number item members ≡ members ++ record { number = number; item = item } ∷ []
  put-last [] below = refl
  put-last (entry ∷ members) below =
      let less : nat_lt entry.number number ≡ true = (let it = below.0 in grind (arith, nat_tests, it)) in
      ap (λ (b : Bool). cond b (entry ∷ put_member number item members)
      (cond (entry.number == number) (record { number = number; item = item } ∷ members) (record { number = number; item = item } ∷ entry ∷ members))) less
      ∙ ap (λ (t : NumberedMembers). entry ∷ t) (put-last members below.1)

  pub last-new : (members : NumberedMembers) → AllByRecursion (λ entry. entry.number < number) members → member_at number (members ++ record { number = number; item = item } ∷ []) ≡ Some item
  last-new [] below = let own : (number == number) ≡ true = grind (arith, nat_tests) in ap (λ (b : Bool). cond b (Some item) None) own
  last-new (entry ∷ members) below =
      let other : (entry.number == number) ≡ false = (let it = below.0 in grind (arith, nat_tests, it)) in
      ap (λ (b : Bool). cond b (Some entry.item) (member_at number (members ++ record { number = number; item = item } ∷ []))) other ∙ last-new members below.1

  pub last-other : (n : ℕ) (members : NumberedMembers) → n < number → member_at n (members ++ record { number = number; item = item } ∷ []) ≡ member_at n members
  last-other n [] less = let other : (number == n) ≡ false = grind (arith, nat_tests, less) in ap (λ (b : Bool). cond b (Some item) None) other
  last-other n (entry ∷ members) less = ap (λ (o : Option MemberState). cond (entry.number == n) (Some entry.item) o) (last-other n members less)

-- ---- what the plan has found

pub record MayAdd (s : State) (args : FileMember) (file : FileState) : Type 0 where
  pub there : named args.file s.files ≡ Some file
  pub physical : kind_in file.spec ≡ Physical
  pub unnamed : named args.member file.members ≡ None
  pub last : s.next_member ≤ LAST_MEMBER

physical-kind : (spec : FileSpec) → IsPhysical spec → kind_in spec ≡ Physical
physical-kind (PhysicalFile spec) is = refl
physical-kind (LogicalFile spec) is = absurd is

none-there : (o : Option MemberStatus) → is_some o ≡ false → o ≡ None
none-there None h = refl
none-there (Some status) h = absurd cc

add-found : (s : State) (args : FileMember) (file : FileState) → add_plan (memory_of s) args ≡ Ok file → MayAdd s args file
unfolding add_plan
add-found s args file h =
    let m = memory_of s in
    let left = bind-ok (sequences_left m) _ file h in
    let it = bind-ok (named_or_refused args.file (physical_named args.file m)) _ file left.2 in
    let new = bind-ok (refuse_if (is_some (named args.member it.0.members)) (NameExists args.member)) _ file it.2 in
    let few = bind-ok (refuse_if (nat_le MOST_MEMBERS (length it.0.members)) (LimitReached Members MOST_MEMBERS)) _ file new.2 in
    let more = bind-ok (refuse_if (nat_lt LAST_MEMBER m.next_member) (LimitReached MemberNumbers LAST_MEMBER)) _ file few.2 in
    let among = physical-found args.file s.files it.0 (found-is (physical_named args.file m) _ it.0 it.1) in
    subst (MayAdd s args) (ok-equal it.0 file more.2) (record {
      there = among.0;
      physical = physical-kind it.0.spec among.1;
      unnamed = none-there (named args.member it.0.members) (not-refused (is_some (named args.member it.0.members)) _ new.0 new.1);
      last = ltb-false LAST_MEMBER s.next_member (not-refused (nat_lt LAST_MEMBER m.next_member) _ more.0 more.1);
    })

-- ---- the name is new

member-names : (file name : List ℕ) (held : List HeldMember)
    → list_any (λ (m : CatalogMember). bytes_eq m.name name) (filter (is_in_file file) (map catalog_member held))
    ≡ list_any (λ (shown : ShownMember). bytes_eq shown.name name) (map held_shown (filter (is_held_in file) held))
member-names file name [] = refl
member-names file name (m ∷ held) =
    elim (bytes_eq m.file file) as
    (λ b. list_any (λ (x : CatalogMember). bytes_eq x.name name) (cond b (catalog_member m ∷ filter (is_in_file file) (map catalog_member held)) (filter (is_in_file file) (map catalog_member held)))
    ≡ list_any (λ (shown : ShownMember). bytes_eq shown.name name) (map held_shown (cond b (m ∷ filter (is_held_in file) held) (filter (is_held_in file) held))))
    [ true ↦ ap (λ (b : Bool). bytes_eq m.name name || b) (member-names file name held) | false ↦ member-names file name held ]

names-new : (name : List ℕ) (members : Named MemberStatus) → named name members ≡ None → list_any (λ (shown : ShownMember). bytes_eq shown.name name) (map status_shown members) ≡ false
names-new name [] none = refl
names-new name (entry ∷ members) none = by (same_name name entry.0) refl none (λ rest. names-new name members rest) where
  by : (b : Bool) → same_name name entry.0 ≡ b → cond b (Some entry.1) (named name members) ≡ None
      → (named name members ≡ None → list_any (λ (shown : ShownMember). bytes_eq shown.name name) (map status_shown members) ≡ false)
      → (bytes_eq entry.0 name || list_any (λ (shown : ShownMember). bytes_eq shown.name name) (map status_shown members)) ≡ false
  by true is h more = absurd cc
  by false is h more = ap (λ (b : Bool). b || list_any (λ (shown : ShownMember). bytes_eq shown.name name) (map status_shown members)) (same_name-symm entry.0 name ∙ is) ∙ more h

-- ---- the request

module _ (s : State) (r : IsReplayed s) (sound : IsSound s) (job timestamp : ℕ) (args : FileMember) (file : FileState) (may : MayAdd s args file) where
  abbrev number : ℕ
  number = s.next_member

  abbrev author : Author
  author = author_of (memory_of s) job timestamp

  abbrev item : MemberState
  item = empty_member (record_length (fields_of file))

  abbrev files : Named FileState
  files = file_changed args.file (with_member_name args.member number) s.files

  abbrev members : NumberedMembers
  members = put_member number item s.members

  abbrev to : Standing
  to = added_left author number args.file args.member r.left

  below : AllByRecursion (λ (m : HeldMember). m.number < number) r.left.members
  below = let same = r.stands.next_is in
      each-weaker (λ (m : HeldMember). m.number < r.left.next_member) (λ (m : HeldMember). m.number < number) (λ m less. omega (arith, same, less)) r.left.members r.journal.replays.numbered

  is-last : members ≡ s.members ++ record { number = number; item = item } ∷ []
  is-last = put-last number item s.members sound.library.numbers

  old-stands : (m : HeldMember) → m.number < number → MemberStands s.files s.members m → MemberStands files members m
  old-stands m less stands =
      let same : member_of m.number members ≡ member_of m.number s.members =
      ap (λ (ms : NumberedMembers). member_of m.number ms) is-last ∙ ap (λ (o : Option MemberState). unwrap_or o (empty_member 0)) (last-other number item m.number s.members less)
      in
      let slots = ap (λ (x : MemberState). x.slots) (sym same) in
      record {
        counted = stands.counted;
        status = stands.status;
        found = among-other number args.file args.member m.number s.files (λ equal. absurd (omega (arith, less, equal))) ∙ stands.found;
        images = stands.images;
        journaled = λ on. stands.journaled on ∙ slots;
        ended = λ off. record { records_then = (stands.ended off).records_then; unchanged = λ so. (stands.ended off).unchanged so ∙ slots };
      }

  new-stands : MemberStands files members (new_member number args.file args.member)
  new-stands = record {
    counted = first-number s r;
    status = new_status number;
    found = among-new number args.file args.member s.files (next-unowned s sound.library sound.names) (ap is_some may.there);
    images = refl;
    journaled = λ on. absurd cc;
    ended = λ off. record {
      records_then = refl;
      unchanged = λ so. sym (ap (λ (x : MemberState). x.slots) (ap (λ (ms : NumberedMembers). member_of number ms) is-last
          ∙ ap (λ (o : Option MemberState). unwrap_or o (empty_member 0)) (last-new number item s.members sound.library.numbers)));
    };
  }

  stands-then : StandsAs to files members (number + 1) s.jobs
  stands-then = record {
    files_are = r.stands.files_are ∙ sym (more-shown number args.file args.member s.files);
    described = r.stands.described ∙ sym (more-memberless number args.file args.member s.files);
    fields_are = more-fields number args.file args.member r.left.files s.files r.stands.fields_are;
    members_are = more-members number args.file args.member r.left.members s.files r.stands.members_are;
    homes = all-append (λ (m : HeldMember). is_some (named m.file files) ≡ true) r.left.members (new_member number args.file args.member ∷ [])
        (each-weaker (λ (m : HeldMember). is_some (named m.file s.files) ≡ true) (λ (m : HeldMember). is_some (named m.file files) ≡ true)
        (λ m home. more-named number args.file args.member m.file s.files ∙ home) r.left.members r.stands.homes)
        (more-named number args.file args.member args.file s.files ∙ ap is_some may.there, tt);
    numbers = map-append (λ (m : HeldMember). m.number) r.left.members (new_member number args.file args.member ∷ [])
        ∙ ap (λ (t : List ℕ). t ++ number ∷ []) r.stands.numbers
        ∙ sym (ap (map (λ entry. entry.number)) is-last ∙ map-append (λ entry. entry.number) s.members (record { number = number; item = item } ∷ []));
    next_is = refl;
    slots = all-append (MemberStands files members) r.left.members (new_member number args.file args.member ∷ [])
        (both-each (λ (m : HeldMember). m.number < number) (MemberStands s.files s.members) (MemberStands files members) r.left.members old-stands below r.stands.slots) (new-stands, tt);
    cycles_are = cycles-later r.left.next r.left.cycles r.left.undos s.jobs r.stands.cycles_are;
  }

  enters : MayAddMember args.file args.member (e author number args.file args.member r.left) (catalogue_in r.left)
  enters =
      let over = catalog-named args.file r.left.files s.files file r.stands.files_are may.there in
      let last = may.last in
      let same = r.stands.next_is in
      record {
        over = over.0;
        named = over.1;
        physical = over.3 ∙ may.physical;
        unnamed = member-names args.file args.member r.left.members
            ∙ ap (list_any (λ (shown : ShownMember). bytes_eq shown.name args.member)) (shows-named r.left.members args.file s.files file r.stands.members_are may.there)
            ∙ names-new args.member file.members may.unnamed;
        numbered = record { next = ap (λ (n : ℕ). Some n) (sym same); last = omega (arith, last, same) };
      }

  pub added-replayed : IsReplayed (after s (journaled (member_draft author number (MemberAdded args.file args.member) ∷ []) true Done (member_added args file (memory_of s))))
  added-replayed =
      let first = first-number s r in
      let some : nat_lt 0 number ≡ true = grind (arith, nat_tests, first) in
      replays-kept s r (member_draft author number (MemberAdded args.file args.member) ∷ []) true Done (member_added args file (memory_of s)) to refl r.checkpoint refl
      (add-may author number args.file args.member r.left r.whole r.journal.within enters some, sym (add-after author number args.file args.member r.left)) refl stands-then

pub add-replayed : (args : FileMember) → AreReplaysKeptBy (λ m job timestamp. add_member m job timestamp args)
add-replayed args s sound r job timestamp done running h =
    does-each _ (add_plan (memory_of s) args) done (λ c. IsReplayed (after s c)) h (λ file is. added-replayed s r sound job timestamp args file (add-found s args file is))
