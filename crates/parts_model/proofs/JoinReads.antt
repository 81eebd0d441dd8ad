-- By what the rows of a join are read: the kept paths of its files, over members with records of these.
use Rattle.std.proofs.Common.{◌≡◌, ◌∙◌, ℕ, Some, IsSome, List, [], ◌∷◌, map, refl, sym, ap, subst}
use Rattle.std.specs.Prelude.{All, Any}
use Rattle.std.specs.List.{AllByRecursion}
use Rattle.std.proofs.lemmas.List.Elements.{recursion_from_All}
use Rattle.access_path.specs.PathBytes.{IsInBytes, is_falling}
use Rattle.library_steps.below.dds_logical.specs.declared.join_views.JoinView.{JoinView}
use Rattle.library_steps.below.dds_logical.specs.declared.join_views.JoinedFile.{JoinedFile}
use Rattle.library_steps.below.dds_logical.specs.declared.views.LogicalSpec.TheVariants.{Join}
use Rattle.file_model.specs.declared.joins.Secondary.{Secondary}
use Rattle.file_model.specs.declared.paths.PathSpec.{PathSpec}
use Rattle.file_model.specs.Joins.{secondary_path}
use Rattle.join_records.specs.ReadOver.{ArePathsOf, HasDefaults, IsReadOver}
use Rattle.join_records.specs.Places.{IsPathOf}
use Rattle.access_path.specs.KeyFields.{AreBytes}
use Rattle.key_pages.specs.EntryList.{EntryList}
use Rattle.library_paths.specs.AllPaths.{AreKeptFor}
use Rattle.library_paths.specs.Mapped.{HoldDefaults}
use Rattle.library_steps.specs.Bases.{Bases, LogicalFile}
use Rattle.library_steps.specs.FilePaths.{primary_path, secondary_of}
use Rattle.view_records.specs.KeyedViews.{HaveRecords}
use Rattle.view_records.specs.Steps.{own_path}
use Rattle.view_records.proofs.ViewLemmas.{paths-bytes}
use Rattle.member_slots.specs.Members.{Numbered, NumberedMembers, item_at}
use Rattle.path_set.specs.KeptPaths.{AreShared, KeptPath, KeptPaths, entries_of, pages_at, pages_of, pages_with}
use Rattle.path_set.specs.RebuiltPaths.{HaveRooms}
use Rattle.path_set.proofs.ShareLemmas.{entries-path}
use Rattle.lawful_states.proofs.BaseLemmas.{some-is, some-of}
use Rattle.parts_model.specs.Indexed.{AreNumbersOf, IsView, rows_paths}
use Rattle.parts_model.specs.Rows.{HoldDefaultsOf}
use Rattle.parts_model.proofs.IndexFiles.{own-first}
use Rattle.parts_model.proofs.IndexPaths.{any-both}
use Rattle.parts_model.proofs.OpenLooks.{IsFound, found-own}

-- ---- kept paths

-- the pages of a kept path, which are those of its specification
pub record IsListed (members : NumberedMembers) (kept : KeptPaths) (spec : PathSpec) (id : ℕ) : Type 0 where
  pub list : EntryList
  pub pages : pages_at kept id ≡ Some list
  pub is : IsPathOf list spec members

pub record AreListed (members : NumberedMembers) (kept : KeptPaths) (files : List Secondary) (ids : List ℕ) : Type 0 where
  pub lists : List EntryList
  pub pages : map (λ (id : ℕ). pages_at kept id) ids ≡ map (λ (list : EntryList). Some list) lists
  pub are : ArePathsOf members files lists

module _ (specs : List PathSpec) (members : NumberedMembers) (kept : KeptPaths) (shared : AreShared kept.paths) (rooms : HaveRooms kept) (are : AreKeptFor specs members kept.paths) where
  pub path-listed : (spec : PathSpec) (id : ℕ) → IsInBytes spec members → Any (λ (q : Numbered KeptPath). (q.number ≡ id) × (q.item.spec ≡ spec)) kept.paths → IsListed members kept spec id
  path-listed spec id bytes any =
      let found =
      any-both (IsFound members kept) (λ (q : Numbered KeptPath). (q.number ≡ id) × (q.item.spec ≡ spec)) kept.paths
      (λ k d low. record { here = found-own kept.paths shared.ascend k d low; room = rooms k d low; entries = are.over k d low }) any in
      let room = some-of (item_at found.0.number kept.rooms) found.1.room in
      record {
        list = pages_of found.0.item room.0;
        pages = ap (pages_at kept) (sym found.2.0) ∙ (λ i. pages_with (found.1.here i) (room.1 i));
        is = record {
          entries = found.1.entries ∙ ap (λ (q : PathSpec). entries_of q members) found.2.1 ∙ entries-path spec members bytes;
          falling = ap (λ (q : PathSpec). is_falling q.ties) found.2.1;
        };
      }

  pub rows-listed : (files : List Secondary) (ids : List ℕ) → AllByRecursion (λ (spec : PathSpec). IsInBytes spec members) (map secondary_path files)
      → AreNumbersOf kept.paths (map secondary_path files) ids → AreListed members kept files ids
  rows-listed [] [] bytes numbers = record { lists = []; pages = refl; are = tt }
  rows-listed [] (id ∷ ids) bytes numbers = absurd numbers
  rows-listed (file ∷ files) [] bytes numbers = absurd numbers
  rows-listed (file ∷ files) (id ∷ ids) bytes numbers =
      let first = path-listed (secondary_path file) id bytes.0 numbers.0 in
      let rest = rows-listed files ids bytes.1 numbers.1 in
      record {
        lists = first.list ∷ rest.lists;
        pages = λ i. first.pages i ∷ rest.pages i;
        are = (first.is, rest.are);
      }

-- each is there
pub each-there : (kept : KeptPaths) (ids : List ℕ) (lists : List EntryList) → map (λ (id : ℕ). pages_at kept id) ids ≡ map (λ (list : EntryList). Some list) lists
    → AllByRecursion (λ (id : ℕ). IsSome (pages_at kept id)) ids
each-there kept [] lists pages = tt
each-there kept (id ∷ ids) [] pages = absurd cc
each-there kept (id ∷ ids) (list ∷ lists) pages =
    let first : pages_at kept id ≡ Some list = cc in
    let rest : map (λ (i : ℕ). pages_at kept i) ids ≡ map (λ (l : EntryList). Some l) lists = cc in
    (some-is first, each-there kept ids lists rest)

-- ---- default values

pub with-bytes : (bases : Bases) (files : List JoinedFile) → AllByRecursion (λ (joined : JoinedFile). HoldDefaults (bases joined.file).fields) files
    → AllByRecursion (λ (file : Secondary). AreBytes file.default) (map (secondary_of bases) files) → AllByRecursion (HasDefaults bases) files
with-bytes bases [] fit bytes = tt
with-bytes bases (joined ∷ files) fit bytes = (record { fit = fit.0; bytes = bytes.0 }, with-bytes bases files fit.1 bytes.1)

-- ---- a join

module _ (specs : List PathSpec) (members : NumberedMembers) (kept : KeptPaths) (shared : AreShared kept.paths) (rooms : HaveRooms kept) (are : AreKeptFor specs members kept.paths)
    (bases : Bases) (view : JoinView) (its : IsView bases (Join view)) (records : HaveRecords bases (Join view) members) where
  bytes : AllByRecursion (λ (spec : PathSpec). IsInBytes spec members) (own_path bases (Join view) ∷ rows_paths bases (LogicalFile (Join view)))
  bytes =
      recursion_from_All (λ (spec : PathSpec). IsInBytes spec members) (own_path bases (Join view) ∷ rows_paths bases (LogicalFile (Join view)))
      (subst (λ (some : List PathSpec). All (λ (spec : PathSpec). IsInBytes spec members) some) (own-first bases (Join view)) (paths-bytes bases (Join view) members its.keyed records))

  pub primary-listed : (id : ℕ) → Any (λ (q : Numbered KeptPath). (q.number ≡ id) × (q.item.spec ≡ primary_path bases view)) kept.paths → IsListed members kept (primary_path bases view) id
  primary-listed id any = path-listed specs members kept shared rooms are (primary_path bases view) id bytes.0 any

  pub secondaries-listed : (ids : List ℕ) → AreNumbersOf kept.paths (rows_paths bases (LogicalFile (Join view))) ids → AreListed members kept (map (secondary_of bases) view.secondaries) ids
  secondaries-listed ids numbers = rows-listed specs members kept shared rooms are (map (secondary_of bases) view.secondaries) ids bytes.1 numbers

  -- so its rows can be read
  pub rows-readable : (primary : EntryList) (secondaries : List EntryList) → IsPathOf primary (primary_path bases view) members
      → ArePathsOf members (map (secondary_of bases) view.secondaries) secondaries → HoldDefaultsOf bases view
      → AllByRecursion (λ (file : Secondary). AreBytes file.default) (map (secondary_of bases) view.secondaries) → IsReadOver bases view members primary secondaries
  rows-readable primary secondaries path paths fit default = record {
    keyed = its.keyed;
    linked = its.linked;
    records = records;
    defaults = with-bytes bases view.secondaries fit default;
    path = path;
    paths = paths;
  }
