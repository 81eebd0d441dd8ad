-- Each step keeps a library built: a number passed, a file or a member more, and its slots and its journaling.
use Rattle.std.proofs.Common.{ℕ, ◌+◌, ◌<◌, ◌≤◌, ◌≡◌, ◌&&◌, true, false, map, length, List, [], ◌∷◌, ◌++◌, Option, Some, None, Result, Ok, Err, refl, sym, ap, arith, ◌∙◌, subst}
use Rattle.std.specs.Prelude.{unwrap_or}
use Rattle.std.specs.List.{AllByRecursion}
use Rattle.std.specs.Str.{bytes_eq}
use Rattle.std.specs.Option.{is_some, option_and_then, option_map}
use Rattle.entry_codec.specs.declared.entries.Entry.{Entry}
use Rattle.entry_codec.specs.declared.kinds.FileKind.{FileKind}
use Rattle.entry_codec.specs.declared.kinds.FileKind.TheVariants.{Logical, Physical}
use Rattle.entry_codec.specs.declared.kinds.Images.{Images}
use Rattle.record_fmt.specs.declared.formats.Format.{Format}
use Rattle.record_fmt.specs.Layout.{record_length}
use Rattle.dds_source.specs.declared.faults.DdsFault.{DdsFault}
use Rattle.dds_source.specs.Reading.{source_of}
use Rattle.dds_physical.specs.declared.physical_files.PhysicalSpec.{PhysicalSpec}
use Rattle.dds_logical.specs.declared.views.LogicalSpec.{LogicalSpec}
use Rattle.logical_model.specs.Bases.{FileSpec, LogicalFile, PhysicalFile, base_members}
use Rattle.lawful_states.specs.Physical.{IsPhysical}
use Rattle.library_model.specs.declared.limits.TheConstants.{LAST_MEMBER}
use Rattle.journal_model.specs.Catalogue.{CatalogFile}
use Rattle.journal_replay.specs.Standing.{HeldMember}
use Rattle.member_slots.specs.Member.{MemberState, empty_member, records}
use Rattle.member_slots.specs.declared.slot.Slot.{Slot}
use Rattle.member_slots.specs.Members.{NumberedMembers, item_at, member_of, put_member, with_member}
use Rattle.library_model.specs.Named.{Named, named}
use Rattle.library_parts.specs.Filled.{library_with}
use Rattle.library_parts.specs.Files.{IsNewFile, IsNewView}
use Rattle.library_steps.specs.LogicalFiles.{bases_of}
use Rattle.library_steps.specs.Uses.{changer_of_any}
use Rattle.library_steps.specs.CreateLogicalFile.{NewLogical, logical_by, logical_described, with_logical}
use Rattle.library_steps.specs.CreatePhysicalFile.{NewFile, described, formats_of, new_file, new_status, with_file}
use Rattle.library_steps.specs.MemberCommands.{file_changed, member_added, with_member_name, with_slots}
use Rattle.library_steps.specs.State.{Memory, State, FileState, fields_of, memory_of, physical_in, physical_spec, status_changed, with_status}
use Rattle.replay_members.specs.Bodies.{Body, held as bodied}
use Rattle.restart_model.specs.Libraries.{record_length_in, records_then}
use Rattle.restart_model.specs.Sources.{described_behind, described_files, format_named, if_logical, if_physical, spec_beside, spec_named, with_described}
use Rattle.restarted_library.specs.Built.{IsAdded, IsBare, IsBuilt, files_added, files_built, length_in, members_added, members_built}
use Rattle.restarted_library.specs.Steps.{filled_by, status_by, status_set}
use Rattle.lawful_states.proofs.NameLemmas.{same_name-equal}
use Rattle.restarted_library.proofs.FitLemmas.{and-both}
use Rattle.restarted_library.proofs.BuiltLemmas.{at-last, built-absent, built-there, files-extended, files-more, files-owner, files-set, length-built}
use Rattle.restarted_library.proofs.BuiltLemmas.{members-more, members-push, owned-more, own-found, own-more, put-last, spec-built, with-last}

-- ---- what stands beside files and members

pub bare-by : (entries : List Entry) (attached : ℕ) (s later : State) → IsBare entries attached s → later.gone ≡ s.gone → later.entries ≡ s.entries → later.receivers ≡ s.receivers
    → later.checkpoint ≡ s.checkpoint → later.locks ≡ s.locks → later.jobs ≡ s.jobs → IsBare entries attached later
bare-by entries attached s later bare gone kept receivers checkpoint locks jobs = record {
  gone = gone ∙ bare.gone;
  kept = kept ∙ bare.kept;
  receivers = receivers ∙ bare.receivers;
  checkpoint = checkpoint ∙ bare.checkpoint;
  locks = locks ∙ bare.locks;
  jobs = jobs ∙ bare.jobs;
}

-- the memory is one with other files and members
bare-memory : (entries : List Entry) (attached : ℕ) (s later : State) (files : Named FileState) (members : NumberedMembers) (next : ℕ)
    → memory_of later ≡ record (memory_of s) { files = files; members = members; next_member = next } → later.entries ≡ s.entries → IsBare entries attached s → IsBare entries attached later
bare-memory entries attached s later files members next is kept bare =
    bare-by entries attached s later bare (ap (λ (m : Memory). m.gone) is) kept (ap (λ (m : Memory). m.receivers) is) (ap (λ (m : Memory). m.checkpoint) is) (ap (λ (m : Memory). m.locks) is)
    (ap (λ (m : Memory). m.jobs) is)

-- ---- the beginning

pub built-none : (entries : List Entry) (attached : ℕ) (s : State) → s ≡ library_with entries attached → IsBuilt entries attached [] [] s
built-none entries attached s is = record {
  bare = record {
    gone = ap (λ (t : State). t.gone) is;
    kept = ap (λ (t : State). t.entries) is;
    receivers = ap (λ (t : State). t.receivers) is;
    checkpoint = ap (λ (t : State). t.checkpoint) is;
    locks = ap (λ (t : State). t.locks) is;
    jobs = ap (λ (t : State). t.jobs) is;
  };
  files = ap (λ (t : State). t.files) is;
  members = ap (λ (t : State). t.members) is;
  below = tt;
  owned = tt;
}

each-push : (P : HeldMember → Type 0) (held : List HeldMember) (m : HeldMember) → AllByRecursion P held → P m → AllByRecursion P (held ++ m ∷ [])
each-push P [] m all new = (new, tt)
each-push P (x ∷ held) m all new = (all.0, each-push P held m all.1 new)

-- ---- numbers

below-more : (next more : ℕ) → next ≤ more → (held : List HeldMember) → AllByRecursion (λ (m : HeldMember). m.number < next) held → AllByRecursion (λ (m : HeldMember). m.number < more) held
below-more next more fewer [] all = tt
below-more next more fewer (m ∷ held) all = (let low = all.0 in omega (arith, low, fewer), below-more next more fewer held all.1)

pub built-passed : (entries : List Entry) (attached : ℕ) (catalog : List CatalogFile) (held : List HeldMember) (s later : State) (next : ℕ) → s.next_member ≤ next
    → later ≡ record s { next_member = next }
    → IsBuilt entries attached catalog held s → IsBuilt entries attached catalog held later
built-passed entries attached catalog held s later next risen is built = record {
  bare = bare-by entries attached s later built.bare (ap (λ (t : State). t.gone) is) (ap (λ (t : State). t.entries) is) (ap (λ (t : State). t.receivers) is) (ap (λ (t : State). t.checkpoint) is)
      (ap (λ (t : State). t.locks) is) (ap (λ (t : State). t.jobs) is);
  files = ap (λ (t : State). t.files) is ∙ built.files;
  members = ap (λ (t : State). t.members) is ∙ built.members;
  below = (let same : later.next_member ≡ next = ap (λ (t : State). t.next_member) is in below-more s.next_member later.next_member (omega (arith, risen, same)) held built.below);
  owned = built.owned;
}

-- the same state in other words
pub built-same : (entries : List Entry) (attached : ℕ) (catalog : List CatalogFile) (held : List HeldMember) (s later : State) → later ≡ s → IsBuilt entries attached catalog held s
    → IsBuilt entries attached catalog held later
built-same entries attached catalog held s later is built = subst (λ (t : State). IsBuilt entries attached catalog held t) (sym is) built

-- ---- what a source describes beside the files that are there

pub formats-same : (catalog : List CatalogFile) (held : List HeldMember) (s : State) → s.files ≡ files_built (described_files catalog) held
    → formats_of (memory_of s) ≡ format_named (described_files catalog)
formats-same catalog held s is = λ i name. one name i
  where
    one : (name : List ℕ) → formats_of (memory_of s) name ≡ format_named (described_files catalog) name
    one name =
        ap (λ (files : Named FileState). option_map (λ (spec : PhysicalSpec). spec.format) (option_and_then (λ (file : FileState). physical_in file.spec) (named name files))) is
        ∙ ap (λ (o : Option PhysicalSpec). option_map (λ (spec : PhysicalSpec). spec.format) o) (spec-built (described_files catalog) held name)

pub specs-same : (catalog : List CatalogFile) (held : List HeldMember) (s : State) → s.files ≡ files_built (described_files catalog) held
    → (λ (name : List ℕ). physical_spec name (memory_of s)) ≡ spec_named (described_files catalog)
specs-same catalog held s is = λ i name. one name i
  where
    one : (name : List ℕ) → physical_spec name (memory_of s) ≡ spec_named (described_files catalog) name
    one name =
        ap (λ (files : Named FileState). option_and_then (λ (file : FileState). physical_in file.spec) (named name files)) is ∙ spec-built (described_files catalog) held name

behind-append : (files : List CatalogFile) (before : Named FileState) (new : CatalogFile)
    → described_behind before (files ++ new ∷ []) ≡ with_described new (spec_beside (described_behind before files) new.kind new.source) (described_behind before files)
behind-append [] before new = refl
behind-append (file ∷ files) before new = behind-append files (with_described file (spec_beside before file.kind file.source) before) new

abbrev described_as : CatalogFile → FileSpec → FileState
described_as new spec = record { source = new.source; spec = spec; members = [] }

-- the files with one more, which is described
pub described-more : (catalog : List CatalogFile) (new : CatalogFile) (spec : FileSpec) → spec_beside (described_files catalog) new.kind new.source ≡ Some spec
    → described_files (catalog ++ new ∷ []) ≡ described_files catalog ++ (new.name, described_as new spec) ∷ []
described-more catalog new spec is = behind-append catalog [] new ∙ ap (λ (o : Option FileSpec). with_described new o (described_files catalog)) is

-- and with one that isn't
pub described-less : (catalog : List CatalogFile) (new : CatalogFile) → spec_beside (described_files catalog) new.kind new.source ≡ None
    → described_files (catalog ++ new ∷ []) ≡ described_files catalog
described-less catalog new is = behind-append catalog [] new ∙ ap (λ (o : Option FileSpec). with_described new o (described_files catalog)) is

pub physical-beside : (catalog : List CatalogFile) (held : List HeldMember) (s : State) (source : List ℕ) (spec : PhysicalSpec) → s.files ≡ files_built (described_files catalog) held
    → described (formats_of (memory_of s)) source ≡ Ok spec → spec_beside (described_files catalog) Physical source ≡ Some (PhysicalFile spec)
physical-beside catalog held s source spec is gives =
    ap (λ (formats : List ℕ → Option Format). if_physical (described formats source)) (sym (formats-same catalog held s is)) ∙ ap if_physical gives

pub logical-beside : (catalog : List CatalogFile) (held : List HeldMember) (s : State) (source : List ℕ) (r : Result LogicalSpec DdsFault) → s.files ≡ files_built (described_files catalog) held
    → logical_described (memory_of s) source ≡ r → spec_beside (described_files catalog) Logical source ≡ if_logical r
logical-beside catalog held s source r is gives =
    ap (λ (bases : List ℕ → Option PhysicalSpec). if_logical (logical_by bases (source_of source))) (sym (specs-same catalog held s is)) ∙ ap if_logical gives

-- ---- one member more

pub member-put : (entries : List Entry) (attached : ℕ) (catalog : List CatalogFile) (held : List HeldMember) (m : HeldMember) (s passed ready later : State) (file : FileState) (of called : List ℕ)
    → of ≡ m.file → called ≡ m.name → s.next_member ≤ m.number → passed ≡ record s { next_member = m.number } → ready ≡ passed → named of ready.files ≡ Some file
    → memory_of later ≡ member_added (record { file = of; member = called }) file (memory_of ready) → later.entries ≡ ready.entries → IsBuilt entries attached catalog held s
    → IsAdded entries attached catalog held m later
member-put entries attached catalog held m s passed ready later file of called of_is called_is risen is_passed is_ready found added kept built =
    let whole : ready ≡ record s { next_member = m.number } = is_ready ∙ is_passed in
    let now = built-passed entries attached catalog held s ready m.number risen whole built in
    let number : ready.next_member ≡ m.number = ap (λ (t : State). t.next_member) whole in
    let below : AllByRecursion (λ (other : HeldMember). other.number < m.number) held = subst (λ (n : ℕ). AllByRecursion (λ (other : HeldMember). other.number < n) held) number now.below in
    let there : named m.file ready.files ≡ Some file = ap (λ (n : List ℕ). named n ready.files) (sym of_is) ∙ found in
    let is : memory_of later ≡ member_added (record { file = m.file; member = m.name }) file (memory_of ready) =
    added ∙ (λ i. member_added (record { file = of_is i; member = called_is i }) file (memory_of ready)) in
    let here : named m.file (files_built (described_files catalog) held) ≡ Some file = ap (λ (fs : Named FileState). named m.file fs) (sym now.files) ∙ there in
    let long : record_length (fields_of file) ≡ length_in (described_files catalog) m = sym (ap record_length_in here) ∙ length-built (described_files catalog) held m.file in
    record {
      bare = bare-memory entries attached ready later _ _ _ is kept now.bare;
      files = ap (λ (t : Memory). t.files) is ∙ (λ i. file_changed m.file (with_member_name m.name (number i)) (now.files i)) ∙ files-extended held m (described_files catalog);
      members = ap (λ (t : Memory). t.members) is ∙ (λ i. put_member (number i) (empty_member (long i)) (now.members i))
          ∙ put-last (described_files catalog) m.number (empty_member (length_in (described_files catalog) m)) held below;
      next = (let same : later.next_member ≡ m.number + 1 = ap (λ (t : Memory). t.next_member) is ∙ ap (λ (n : ℕ). n + 1) number in omega (arith, same));
      below = below;
      owned = now.owned;
      own = built-there (described_files catalog) held m.file file here;
    }

-- ---- one physical file more

abbrev file_made : (source : List ℕ) → PhysicalSpec → (name : List ℕ) → ℕ → FileState
file_made source spec name number = record { source = source; spec = PhysicalFile spec; members = (name, new_status number) ∷ [] }

abbrev view_made : (source : List ℕ) → LogicalSpec → FileState
view_made source spec = record { source = source; spec = LogicalFile spec; members = [] }

abbrev catalogued : (created : ℕ) → FileKind → (name source : List ℕ) → CatalogFile
catalogued created kind name source = record { created = created; kind = kind; name = name; source = source }

pub file-put : (entries : List Entry) (attached created : ℕ) (catalog : List CatalogFile) (held : List HeldMember) (m : HeldMember) (name source : List ℕ) (s passed ready later : State)
    (new : NewFile) (file : FileState) → (bytes_eq m.file name && bytes_eq m.name name) ≡ true → named name s.files ≡ None → s.next_member ≤ m.number
    → passed ≡ record s { next_member = m.number } → new.source ≡ source → described (formats_of (memory_of passed)) source ≡ Ok new.spec → ready ≡ passed → file ≡ new_file name m.number new
    → memory_of later ≡ with_file name file (memory_of ready) → later.entries ≡ ready.entries → IsBuilt entries attached catalog held s
    → IsAdded entries attached (catalog ++ catalogued created Physical name source ∷ []) held m later
file-put entries attached created catalog held m name source s passed ready later new file first absent risen is_passed text gives is_ready made is kept built =
    let both = and-both (bytes_eq m.file name) (bytes_eq m.name name) first in
    let own : m.file ≡ name = same_name-equal m.file name both.0 in
    let called : m.name ≡ name = same_name-equal m.name name both.1 in
    let whole : ready ≡ record s { next_member = m.number } = is_ready ∙ is_passed in
    let now = built-passed entries attached catalog held s ready m.number risen whole built in
    let before = built-passed entries attached catalog held s passed m.number risen is_passed built in
    let number : ready.next_member ≡ m.number = ap (λ (t : State). t.next_member) whole in
    let below : AllByRecursion (λ (other : HeldMember). other.number < m.number) held = subst (λ (n : ℕ). AllByRecursion (λ (other : HeldMember). other.number < n) held) number now.below in
    let shown = described_files catalog in
    let catalog_file = catalogued created Physical name source in
    let state : FileState = described_as catalog_file (PhysicalFile new.spec) in
    let none : named m.file shown ≡ None = built-absent shown held m.file (ap (λ (fs : Named FileState). named m.file fs) (sym built.files) ∙ ap (λ (n : List ℕ). named n s.files) own ∙ absent) in
    let more : described_files (catalog ++ catalog_file ∷ []) ≡ shown ++ (m.file, state) ∷ [] =
    described-more catalog catalog_file (PhysicalFile new.spec) (physical-beside catalog held passed source new.spec before.files gives)
    ∙ ap (λ (n : List ℕ). shown ++ (n, state) ∷ []) (sym own) in
    let is_new : file ≡ record state { members = (m.name, new_status m.number) ∷ [] } =
    made ∙ (λ i. file_made (text i) new.spec (sym called i) m.number) in
    let long : record_length (fields_of file) ≡ length_in (shown ++ (m.file, state) ∷ []) m =
    ap (λ (f : FileState). record_length (fields_of f)) is_new ∙ sym (ap record_length_in (own-found shown m.file state none)) in
    let members_are : later.members ≡ members_added (shown ++ (m.file, state) ∷ []) held m =
    ap (λ (t : Memory). t.members) is ∙ (λ i. put_member (number i) (empty_member (long i)) (now.members i))
    ∙ put-last shown m.number (empty_member (length_in (shown ++ (m.file, state) ∷ []) m)) held below
    ∙ ap (λ (w : NumberedMembers). w ++ record { number = m.number; item = empty_member (length_in (shown ++ (m.file, state) ∷ []) m) } ∷ [])
    (sym (members-more shown (m.file, state) held now.owned)) in
    let files_are : later.files ≡ files_added (shown ++ (m.file, state) ∷ []) held m =
    ap (λ (t : Memory). t.files) is ∙ (λ i. now.files i ++ (sym own i, is_new i) ∷ []) ∙ files-owner held m shown state none now.owned in
    record {
      bare = bare-memory entries attached ready later _ _ _ is kept now.bare;
      files = files_are ∙ ap (λ (d : Named FileState). files_added d held m) (sym more);
      members = members_are ∙ ap (λ (d : Named FileState). members_added d held m) (sym more);
      next = (let same : later.next_member ≡ m.number + 1 = ap (λ (t : Memory). t.next_member) is ∙ ap (λ (n : ℕ). n + 1) number in omega (arith, same));
      below = below;
      owned = subst (λ (d : Named FileState). AllByRecursion (λ (other : HeldMember). is_some (named other.file d) ≡ true) held) (sym more) (owned-more shown (m.file, state) held now.owned);
      own = subst (λ (d : Named FileState). is_some (named m.file d) ≡ true) (sym more) (own-more shown m.file state);
    }

-- ---- one logical file more

pub view-put : (entries : List Entry) (attached created : ℕ) (catalog : List CatalogFile) (held : List HeldMember) (name source : List ℕ) (s ready later : State) (new : NewLogical)
    → named name s.files ≡ None → new.source ≡ source → logical_described (memory_of s) source ≡ Ok new.spec → ready ≡ s → memory_of later ≡ with_logical name new (memory_of ready)
    → later.entries ≡ ready.entries → IsBuilt entries attached catalog held s → IsBuilt entries attached (catalog ++ catalogued created Logical name source ∷ []) held later
view-put entries attached created catalog held name source s ready later new absent text gives is_ready is kept built =
    let now = built-same entries attached catalog held s ready is_ready built in
    let shown = described_files catalog in
    let catalog_file = catalogued created Logical name source in
    let state : FileState = described_as catalog_file (LogicalFile new.spec) in
    let none : named name shown ≡ None = built-absent shown held name (ap (λ (fs : Named FileState). named name fs) (sym built.files) ∙ absent) in
    let more : described_files (catalog ++ catalog_file ∷ []) ≡ shown ++ (name, state) ∷ [] =
    described-more catalog catalog_file (LogicalFile new.spec) (logical-beside catalog held s source (Ok new.spec) built.files gives) in
    let files_are : later.files ≡ files_built (shown ++ (name, state) ∷ []) held =
    ap (λ (t : Memory). t.files) is ∙ (λ i. now.files i ++ (name, view_made (text i) new.spec) ∷ []) ∙ files-more held name shown state none now.owned in
    let members_are : later.members ≡ members_built (shown ++ (name, state) ∷ []) held =
    ap (λ (t : Memory). t.members) is ∙ now.members ∙ sym (members-more shown (name, state) held now.owned) in
    record {
      bare = bare-memory entries attached ready later _ _ _ is kept now.bare;
      files = files_are ∙ ap (λ (d : Named FileState). files_built d held) (sym more);
      members = members_are ∙ ap (λ (d : Named FileState). members_built d held) (sym more);
      below = subst (λ (n : ℕ). AllByRecursion (λ (m : HeldMember). m.number < n) held) (sym (ap (λ (t : Memory). t.next_member) is)) now.below;
      owned = subst (λ (d : Named FileState). AllByRecursion (λ (other : HeldMember). is_some (named other.file d) ≡ true) held) (sym more) (owned-more shown (name, state) held now.owned);
    }

-- one that isn't described is left out
pub view-left : (entries : List Entry) (attached created : ℕ) (catalog : List CatalogFile) (held : List HeldMember) (name source : List ℕ) (s : State) (fault : DdsFault)
    → logical_described (memory_of s) source ≡ Err fault → IsBuilt entries attached catalog held s → IsBuilt entries attached (catalog ++ catalogued created Logical name source ∷ []) held s
view-left entries attached created catalog held name source s fault gives built =
    let same : described_files (catalog ++ catalogued created Logical name source ∷ []) ≡ described_files catalog =
    described-less catalog (catalogued created Logical name source) (logical-beside catalog held s source (Err fault) built.files gives) in
    record {
      bare = built.bare;
      files = built.files ∙ ap (λ (d : Named FileState). files_built d held) (sym same);
      members = built.members ∙ ap (λ (d : Named FileState). members_built d held) (sym same);
      below = built.below;
      owned = subst (λ (d : Named FileState). AllByRecursion (λ (m : HeldMember). is_some (named m.file d) ≡ true) held) (sym same) built.owned;
    }

-- ---- its slots and its journaling

status-is : (images : Option Images) (sequence number : ℕ) (slots : List Slot) → status_set images sequence (length (records (record { record_length = 0; slots = slots }))) (new_status number)
    ≡ record { number = number; images = images; changed = false; records_then = records_then images slots; last_break = sequence }
status-is None sequence number slots = refl
status-is (Some images) sequence number slots = refl

pub member-filled : (entries : List Entry) (attached : ℕ) (catalog : List CatalogFile) (held : List HeldMember) (number : ℕ) (body : Body) (s mid later : State)
    → memory_of mid ≡ with_slots number (λ _. filled_by s number body.slots) (memory_of s) → mid.entries ≡ s.entries
    → memory_of later ≡ with_status number (status_by body) (memory_of mid) → later.entries ≡ mid.entries
    → IsAdded entries attached catalog held (bodied (number, body)) s → IsBuilt entries attached catalog (held ++ bodied (number, body) ∷ []) later
member-filled entries attached catalog held number body s mid later filled filled_kept set set_kept added =
    let m = bodied (number, body) in
    let shown = described_files catalog in
    let item : MemberState = empty_member (length_in shown m) in
    let found : member_of number s.members ≡ item =
    ap (λ (w : NumberedMembers). unwrap_or (item_at number w) (empty_member 0)) added.members ∙ ap (λ (o : Option MemberState). unwrap_or o (empty_member 0))
    (at-last shown number item held added.below) in
    let new : filled_by s number body.slots ≡ record { record_length = length_in shown m; slots = body.slots } =
    ap (λ (w : MemberState). record w { slots = body.slots }) found in
    let same_files : mid.files ≡ s.files = ap (λ (t : Memory). t.files) filled in
    let files_are : later.files ≡ files_built shown (held ++ m ∷ []) =
    ap (λ (t : Memory). t.files) set ∙ ap (λ (files : Named FileState). map (λ (entry : List ℕ × FileState). (entry.0, status_changed number (status_by body) entry.1)) files)
    (same_files ∙ added.files)
    ∙ files-set held m (status_by body) (status-is body.images body.last_break number body.slots) added.below shown in
    let members_are : later.members ≡ members_built shown (held ++ m ∷ []) =
    ap (λ (t : Memory). t.members) set ∙ ap (λ (t : Memory). t.members) filled
    ∙ (λ i. with_member number (new i) (added.members i))
    ∙ with-last shown number item (record { record_length = length_in shown m; slots = body.slots }) held added.below
    ∙ sym (members-push shown held m) in
    let next : later.next_member ≡ s.next_member = ap (λ (t : Memory). t.next_member) set ∙ ap (λ (t : Memory). t.next_member) filled in
    let here = added.next in
    let low : m.number < later.next_member = omega (arith, here, next) in
    record {
      bare = bare-memory entries attached mid later _ mid.members mid.next_member set set_kept (bare-memory entries attached s mid s.files _ s.next_member filled filled_kept added.bare);
      files = files_are;
      members = members_are;
      below = each-push (λ (other : HeldMember). other.number < later.next_member) held m (below-more m.number later.next_member (omega (arith, low)) held added.below) low;
      owned = each-push (λ (other : HeldMember). is_some (named other.file shown) ≡ true) held m added.owned added.own;
    }

-- ---- files that may be added

pub is-new : (s passed ready : State) (name : List ℕ) (number : ℕ) (new : NewFile) (file : FileState) → named name s.files ≡ None → passed ≡ record s { next_member = number }
    → number ≤ LAST_MEMBER → ready ≡ passed
    → file ≡ new_file name number new → IsNewFile ready name file
is-new s passed ready name number new file absent is_passed few is_ready made =
    let whole : ready ≡ record s { next_member = number } = is_ready ∙ is_passed in
    let next : ready.next_member ≡ number = ap (λ (t : State). t.next_member) whole in
    record {
      absent = ap (λ (t : State). named name t.files) whole ∙ absent;
      number = omega (arith, next, few);
      first = ap (λ (f : FileState). f.members) made ∙ ap (λ (n : ℕ). (name, new_status n) ∷ []) (sym next);
      physical = subst (λ (f : FileState). IsPhysical f.spec) (sym made) tt;
    }

pub is-new-view : (s ready : State) (name : List ℕ) (plan : NewLogical) (spec : LogicalSpec) → spec ≡ plan.spec → ready ≡ s → named name s.files ≡ None
    → logical_described (memory_of s) plan.source ≡ Ok plan.spec
    → changer_of_any (base_members (bases_of (memory_of s)) spec) (memory_of s) ≡ None → IsNewView ready name plan
is-new-view s ready name plan spec its is_ready absent gives unchanged =
    subst (λ (t : State). IsNewView t name plan) (sym is_ready) (record {
      absent = absent;
      described = gives;
      unchanged = subst (λ (l : LogicalSpec). changer_of_any (base_members (bases_of (memory_of s)) l) (memory_of s) ≡ None) its unchanged;
    })
