-- Of the paths of a join its primary file's alone may have no equal keys.
use Rattle.std.proofs.Common.{◌≡◌, ◌∙◌, ◌⊎◌, inl, inr, ◌==◌, ◌&&◌, ◌||◌, ℕ, Bool, true, false, cond, List, [], ◌∷◌, map, refl, sym, ap, arith}
use Rattle.std.specs.Prelude.{filter}
use Rattle.std.proofs.lemmas.Bool.{eqb-true}
use Rattle.std.proofs.lemmas.Bool.Decides.{nat_tests}
use Rattle.library_steps.below.dds_logical.specs.declared.join_views.JoinView.{JoinView}
use Rattle.library_steps.below.dds_logical.specs.declared.join_views.JoinedFile.{JoinedFile}
use Rattle.library_steps.below.dds_logical.specs.declared.views.LogicalSpec.TheVariants.{Join}
use Rattle.file_model.specs.declared.paths.PathSpec.{PathSpec}
use Rattle.file_model.specs.Joins.{secondary_path}
use Rattle.library_steps.specs.Bases.{Bases}
use Rattle.library_steps.specs.FilePaths.{is_over, logical_paths, primary_path, secondary_of}
use Rattle.library_model.specs.Named.{Named}
use Rattle.library_steps.specs.LogicalFiles.{bases_in}
use Rattle.library_steps.specs.State.{FileState, Memory}
use Rattle.library_steps.specs.UniqueKeys.{UniquePath, view_unique}

-- the unique paths over the member
abbrev pub uniques_over : ℕ → List PathSpec → List PathSpec
uniques_over member paths = filter (λ path. path.unique && is_over member path) paths

secondaries-none : (bases : Bases) (member : ℕ) (files : List JoinedFile) → uniques_over member (map secondary_path (map (secondary_of bases) files)) ≡ []
secondaries-none bases member [] = refl
secondaries-none bases member (joined ∷ files) = secondaries-none bases member files

pub join-unique : (bases : Bases) (view : JoinView) (member : ℕ) → uniques_over member (logical_paths bases (Join view))
    ≡ cond (view.keys.unique && is_over member (primary_path bases view)) (primary_path bases view ∷ []) []
join-unique bases view member =
    ap (λ (rest : List PathSpec). cond (view.keys.unique && is_over member (primary_path bases view)) (primary_path bases view ∷ rest) rest) (secondaries-none bases member view.secondaries)

or-none : (b : Bool) → (b || false) ≡ b
or-none true = refl
or-none false = refl

-- a file's unique path
abbrev pub unique_by : (file : List ℕ) → PathSpec → UniquePath
unique_by file path = record { file = file; path = path }

one-named : (name : List ℕ) (path : PathSpec) (b : Bool) → map (unique_by name) (cond b (path ∷ []) []) ≡ cond b (unique_by name path ∷ []) []
one-named name path true = refl
one-named name path false = refl

both-true : (a b : Bool) (xs ys : List UniquePath) → a ≡ true → b ≡ true → cond (a && b) xs ys ≡ xs
both-true true true xs ys h i = refl
both-true true false xs ys h i = absurd cc
both-true false b xs ys h i = absurd cc

either-false : (a b : Bool) (xs ys : List UniquePath) → ((a ≡ true) × (b ≡ true → ⊥)) ⊎ (a ≡ false) → cond (a && b) xs ys ≡ ys
either-false false b xs ys e = refl
either-false true false xs ys e = refl
either-false true true xs ys (inl both) = absurd (both.1 refl)
either-false true true xs ys (inr plain) = absurd cc

module _ (files : Named FileState) (view : JoinView) (member base : ℕ) (is : base ≡ (bases_in files view.primary).member) (m : Memory) (name : List ℕ) (same : m.files ≡ files) where
  -- it has one where its primary file has the member
  join-told : view_unique m name member (Join view) ≡ cond (view.keys.unique && (base == member)) (unique_by name (primary_path (bases_in files) view) ∷ []) []
  join-told =
      let path : PathSpec = primary_path (bases_in files) view in
      let over : is_over member path ≡ (base == member) = or-none ((bases_in files view.primary).member == member) ∙ ap (λ (n : ℕ). n == member) (sym is) in
      ap (λ (all : Named FileState). map (unique_by name) (uniques_over member (logical_paths (bases_in all) (Join view)))) same
      ∙ ap (λ (paths : List PathSpec). map (unique_by name) paths) (join-unique (bases_in files) view member)
      ∙ one-named name path (view.keys.unique && is_over member path)
      ∙ ap (λ (b : Bool). cond (view.keys.unique && b) (unique_by name path ∷ []) []) over

  pub join-some : (path : PathSpec) → path ≡ primary_path (bases_in files) view → view.keys.unique ≡ true → base ≡ member → view_unique m name member (Join view) ≡ unique_by name path ∷ []
  join-some path its unique there =
      let test : (base == member) ≡ true = grind (arith, nat_tests, there) in
      join-told ∙ both-true view.keys.unique (base == member) (unique_by name (primary_path (bases_in files) view) ∷ []) [] unique test
      ∙ ap (λ (p : PathSpec). unique_by name p ∷ []) (sym its)

  pub join-none : ((view.keys.unique ≡ true) × (base ≡ member → ⊥)) ⊎ (view.keys.unique ≡ false) → view_unique m name member (Join view) ≡ []
  join-none either = join-told ∙ either-false view.keys.unique (base == member) (unique_by name (primary_path (bases_in files) view) ∷ []) [] (by either)
    where
      by : ((view.keys.unique ≡ true) × (base ≡ member → ⊥)) ⊎ (view.keys.unique ≡ false) → ((view.keys.unique ≡ true) × ((base == member) ≡ true → ⊥)) ⊎ (view.keys.unique ≡ false)
      by (inl both) = inl (both.0, λ test. both.1 (eqb-true base member test))
      by (inr plain) = inr plain
