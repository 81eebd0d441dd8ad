-- How a new open reads: by its file's path, or in arrival order.
use Rattle.std.proofs.Common.{◌≡◌, ◌≢◌, ℕ, zero, ◌&&◌, Bool, true, false, if◌then◌else◌, List, [], ◌∷◌, map, Option, Some, None, Result, Ok, Err, IfOk, IfSome, refl, sym, ap, subst, ◌∙◌, arith}
use Rattle.lawful_states.specs.Owners.{has_number}
use Rattle.std.specs.Prelude.{Any, Contains, MatchOption}
use Rattle.library_steps.below.dds_logical.specs.declared.views.LogicalSpec.{LogicalSpec}
use Rattle.library_steps.below.dds_logical.specs.declared.views.LogicalSpec.TheVariants.{Simple, Multi, Join}
use Rattle.key_spec.specs.declared.KeyPart.{KeyPart}
use Rattle.file_model.specs.declared.paths.PathSpec.{PathSpec}
use Rattle.file_model.specs.FilePaths.{key_parts, physical_path}
use Rattle.file_model.specs.Positions.{Start}
use Rattle.library_steps.specs.Bases.{FileSpec, PhysicalFile, LogicalFile}
use Rattle.library_steps.specs.Formats.{has_key}
use Rattle.library_steps.specs.FilePaths.{views_path, primary_path}
use Rattle.member_slots.specs.Members.{Numbered, NumberedMembers, item_at}
use Rattle.open_position.specs.OpenStand.{OpenStand}
use Rattle.path_set.specs.KeptPaths.{AreShared, KeptPath, NumberedPaths}
use Rattle.path_set.specs.Sharing.{IsNew}
use Rattle.library_paths.specs.AllPaths.{AreKeptFor, all_paths, paths_by}
use Rattle.library_paths.proofs.KeptLemmas.{kept-once}
use Rattle.library_paths.proofs.NumberLemmas.{any-at}
use Rattle.library_paths.proofs.OwnerLemmas.{member-path, paths-contain}
use Rattle.job_table.specs.Opens.{IsNewReads, join_by, order_by, rows_in}
use Rattle.job_table.specs.declared.reads.OpenReads.{OpenReads}
use Rattle.library_model.specs.Named.{named}
use Rattle.library_model.specs.declared.requests.OpenFile.{OpenFile}
use Rattle.library_steps.specs.LogicalFiles.{bases_in}
use Rattle.library_steps.specs.Opens.{new_open, first_of}
use Rattle.library_steps.specs.Records.{is_file_path}
use Rattle.library_steps.specs.State.{FileState}
use Rattle.parts_model.specs.Finds.{OpensMembers, OpensBy}
use Rattle.parts_model.specs.Indexed.{AreViews, IsView, IsViewBeside, ReadsBy, ReadsFile, path_by, ReadsRowsBy}
use Rattle.parts_model.specs.Parts.{LibraryParts}
use Rattle.parts_model.specs.Reads.{IsNumberOf, MayReadSo, ReadsFor, ReadsNew}
use Rattle.parts_model.proofs.IndexPaths.{any-both}
use Rattle.parts_model.proofs.FindLemmas.{view-of}
use Rattle.job_table.specs.declared.reads.OpenRows.{OpenRows}

-- ---- the number of a kept path

abbrev IsThere : PathSpec → NumberedPaths → Type 0
IsThere spec paths = Any (λ (path : Numbered KeptPath). path.item.spec ≡ spec) paths

kept-there : (specs : List PathSpec) (members : NumberedMembers) (paths : NumberedPaths) (spec : PathSpec) → AreShared paths → AreKeptFor specs members paths → Contains specs spec → IsThere spec paths
kept-there specs members paths spec shared are among =
    let once = kept-once specs members paths spec shared are among in any-at (λ (path : Numbered KeptPath). path.item.spec ≡ spec) once.id once.path paths once.at once.same

numbered-there : (spec : PathSpec) (paths : NumberedPaths) (number : Option ℕ) → IsThere spec paths → IsNumberOf spec number paths
    → (id : ℕ) × (number ≡ Some id) × Any (λ (path : Numbered KeptPath). (path.number ≡ id) × (path.item.spec ≡ spec)) paths
numbered-there spec paths None there new =
    let both = any-both (λ (path : Numbered KeptPath). path.item.spec ≢ spec) (λ (path : Numbered KeptPath). path.item.spec ≡ spec) paths new there in absurd (both.1 both.2)
numbered-there spec paths (Some id) there at = (id, refl, at)

-- what is found under a number has the specification
number-of : (spec : PathSpec) (paths : NumberedPaths) (id : ℕ) (path : KeptPath) → item_at id paths ≡ Some path → path.spec ≡ spec → IsNumberOf spec (Some id) paths
number-of spec paths id path at same = any-at (λ (p : Numbered KeptPath). (p.number ≡ id) × (p.item.spec ≡ spec)) id path paths at (refl, same)

-- so it is with what a look-up finds
pub number-told : (spec : PathSpec) (paths : NumberedPaths) (result : Option ℕ)
    → MatchOption result (IsNew spec paths) (λ id. (path : KeptPath) × (item_at id paths ≡ Some path) × (path.spec ≡ spec)) → IsNumberOf spec result paths
number-told spec paths None told = told
number-told spec paths (Some id) told = number-of spec paths id told.0 told.1 told.2

-- ---- a new open

new-by : (commit : Bool) (paths : NumberedPaths) (path : Option PathSpec) (reads : OpenReads) → IfSome path (λ spec. IsThere spec paths) → ReadsNew commit paths path reads → ReadsBy paths path (order_by 0 reads)
new-by commit paths None reads there new = record { path = new.by.0; formats = new.by.1 }
new-by commit paths (Some spec) reads there new = record { path = numbered-there spec paths reads.path there new.by.0; formats = new.by.1 }

module _ (parts : LibraryParts) (shared : AreShared parts.room.paths.paths) (are : AreKeptFor (all_paths parts.state.files) parts.state.members parts.room.paths.paths) (views : AreViews parts.state.files)
    (args : OpenFile) (members : List ℕ) (opens : OpensMembers parts.state.files members (named args.file parts.state.files)) (so : MayReadSo args (named args.file parts.state.files)) where
  -- the file is there
  pub file-there : (file : FileState) × (named args.file parts.state.files ≡ Some file)
  file-there = by (named args.file parts.state.files) refl opens
    where
      by : (o : Option FileState) → named args.file parts.state.files ≡ o → OpensMembers parts.state.files members o → (file : FileState) × (named args.file parts.state.files ≡ Some file)
      by None is h = absurd h
      by (Some file) is h = (file, is)

  module _ (file : FileState) (here : named args.file parts.state.files ≡ Some file) where
    contained : (path : PathSpec) (spec : FileSpec) → file.spec ≡ spec → Contains (paths_by parts.state.files file.members spec) path → IsThere path parts.room.paths.paths
    contained path spec is among =
        kept-there (all_paths parts.state.files) parts.state.members parts.room.paths.paths path shared are
        (paths-contain parts.state.files args.file file path here (subst (λ (s : FileSpec). Contains (paths_by parts.state.files file.members s) path) (sym is) among))

    both-are : (a b : Bool) → (a && b) ≡ true → b ≡ true
    both-are true b h = h
    both-are false b h = absurd cc

    kept-own : (spec : FileSpec) → file.spec ≡ spec → OpensBy parts.state.files members file spec
        → IfSome (path_by (bases_in parts.state.files) (is_file_path args.access_path && has_key spec) (first_of members) spec) (λ path. IsThere path parts.room.paths.paths)
    kept-own (PhysicalFile spec) is has = by (is_file_path args.access_path && has_key (PhysicalFile spec)) refl
      where
        by : (b : Bool) → (is_file_path args.access_path && has_key (PhysicalFile spec)) ≡ b
            → IfSome (if b then Some (physical_path (first_of members) spec.format.fields spec.keys) else None) (λ path. IsThere path parts.room.paths.paths)
        by true keyed =
            contained (physical_path (first_of members) spec.format.fields spec.keys) (PhysicalFile spec) is
            (member-path spec file.members (first_of members) (both-are (is_file_path args.access_path) (has_key (PhysicalFile spec)) keyed)
            (subst (λ (ms : List ℕ). has_number (first_of ms) file.members ≡ true) (sym has.1) has.2))
        by false keyed = tt
    kept-own (LogicalFile (Simple view)) is all =
        contained (views_path (bases_in parts.state.files) view.keys.unique (view ∷ [])) (LogicalFile (Simple view)) is (zero, omega arith, refl)
    kept-own (LogicalFile (Multi views)) is all =
        contained (views_path (bases_in parts.state.files) false views) (LogicalFile (Multi views)) is (zero, omega arith, refl)
    kept-own (LogicalFile (Join view)) is all =
        contained (primary_path (bases_in parts.state.files) view) (LogicalFile (Join view)) is (zero, omega arith, refl)

    -- so it reads by the file's path, or in arrival order
    pub new-reads : (spec : FileSpec) → file.spec ≡ spec → (reads : OpenReads)
        → ReadsNew args.commit parts.room.paths.paths (path_by (bases_in parts.state.files) (is_file_path args.access_path && has_key spec) (first_of members) spec) reads
        → ReadsRowsBy (bases_in parts.state.files) parts.room.paths.paths spec (join_by reads.rows) → ReadsFor parts args members reads
    new-reads spec is reads new rows =
        let its : OpensBy parts.state.files members file spec =
        subst (OpensBy parts.state.files members file) is (subst (λ (o : Option FileState). OpensMembers parts.state.files members o) here opens) in
        let read : ReadsBy parts.room.paths.paths (path_by (bases_in parts.state.files) (is_file_path args.access_path && has_key spec) (first_of members) spec) (order_by 0 reads) =
        new-by args.commit parts.room.paths.paths (path_by (bases_in parts.state.files) (is_file_path args.access_path && has_key spec) (first_of members) spec) reads (kept-own spec is its) new in
        record {
          start = new.start;
          order =
              subst (ReadsFile (bases_in parts.state.files) parts.room.paths.paths (new_open args 0 members) (order_by 0 reads)) (sym here) (
                subst (λ (s : FileSpec). ReadsBy parts.room.paths.paths (path_by (bases_in parts.state.files) (is_file_path args.access_path && has_key s) (first_of members) s) (order_by 0 reads)) (sym is) read,
                subst (λ (o : Option FileState). MayReadSo args o) here so,
                subst (λ (s : FileSpec). ReadsRowsBy (bases_in parts.state.files) parts.room.paths.paths s (join_by reads.rows)) (sym is) rows,
              );
        }

    -- what a logical file shows is known of it
    pub view-there : (spec : LogicalSpec) → file.spec ≡ LogicalFile spec → IsView (bases_in parts.state.files) spec
    view-there spec is = subst (IsViewBeside parts.state.files) is (view-of parts.state.files args.file file views here)

-- what holds of a value that is given, by what is known of it
pub if-ok-both : {A E : Type 0} (P Q R : A → Type 0) (result : Result A E) → ((a : A) → P a → Q a → R a) → IfOk result P → IfOk result Q → IfOk result R
if-ok-both P Q R (Ok a) so p q = so a p q
if-ok-both P Q R (Err e) so p q = tt

-- the position of a new open, whatever its formats are
pub new-position : (commit : Bool) (formats : List (List KeyPart)) (reads : OpenReads) → reads.position ≡ record { position = Start; boundary = Start; formats = formats; marks = commit }
    → reads.rows ≡ None → IsNewReads commit reads
new-position commit formats reads is rows =
    (is ∙ (λ i. record { position = Start; boundary = Start; formats = (sym (ap (λ (p : OpenStand). p.formats) is)) i; marks = commit }), ap rows_in rows)

-- by a path
pub new-by-path : (commit : Bool) (paths : NumberedPaths) (path : PathSpec) (reads : OpenReads) → IsNumberOf path reads.path paths
    → reads.position ≡ record { position = Start; boundary = Start; formats = map (λ format. format.key) path.formats; marks = commit } → reads.rows ≡ None → ReadsNew commit paths (Some path) reads
new-by-path commit paths path reads number position rows = record {
  start = new-position commit (map (λ format. format.key) path.formats) reads position rows;
  by = (number, ap (λ (p : OpenStand). p.formats) position);
}

-- it reads by rows too
pub new-with-rows : (commit : Bool) (paths : NumberedPaths) (path : PathSpec) (reads : OpenReads) (rows : Option OpenRows) → rows_in rows ≡ Start → ReadsNew commit paths (Some path) reads
    → ReadsNew commit paths (Some path) (record { path = reads.path; position = reads.position; rows = rows })
new-with-rows commit paths path reads rows start new = record { start = (new.start.0, start); by = new.by }

-- in arrival order
pub new-in-arrival : (commit : Bool) (paths : NumberedPaths) (reads : OpenReads) → reads.path ≡ None → reads.position ≡ record { position = Start; boundary = Start; formats = [] ∷ []; marks = commit }
    → reads.rows ≡ None → ReadsNew commit paths None reads
new-in-arrival commit paths reads path position rows = record { start = new-position commit ([] ∷ []) reads position rows; by = (path, ap (λ (p : OpenStand). p.formats) position) }
