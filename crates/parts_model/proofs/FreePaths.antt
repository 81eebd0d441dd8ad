-- Whether the keys of a record are free in all unique paths over its member: by the kept paths, or file by file.
use Rattle.std.proofs.Common.{◌≡◌, ◌≢◌, ℕ, suc, ◌+◌, ◌<◌, ◌≤◌, Bool, true, List, [], ◌∷◌, drop, length, slice_get, Some, Result, Ok, Err, sym, ap, refl, ◌∙◌, arith}
use Rattle.std.specs.List.{AllByRecursion}
use Rattle.std.proofs.lemmas.List.Elements.{recursion_from_All}
use Rattle.member_slots.specs.Members.{Numbered, item_at}
use Rattle.file_model.specs.declared.paths.PathFormat.{PathFormat}
use Rattle.file_model.specs.declared.paths.PathSpec.{PathSpec}
use Rattle.path_set.specs.KeptPaths.{KeptPath, NumberedPaths}
use Rattle.path_set.specs.MemberSteps.{is_over}
use Rattle.path_set.specs.Sharing.{IsNew}
use Rattle.library_model.specs.Named.{Named}
use Rattle.library_model.specs.declared.replies.Reply.{Reply}
use Rattle.library_paths.proofs.NumberLemmas.{each-at}
use Rattle.library_steps.specs.Records.{slot_there}
use Rattle.library_steps.specs.Refusals.{◌>>=◌}
use Rattle.library_steps.specs.State.{FileState, Memory}
use Rattle.library_steps.specs.UniqueKeys.{UniquePath, keys_free, new_keys, none_repeated, unique_paths, uniques_by}
use Rattle.parts_model.specs.declared.keys.Test.{Test}
use Rattle.parts_model.specs.declared.keys.Test.TheVariants.{Reserved, Repeated}
use Rattle.parts_model.specs.declared.stop.Stop.{Stop}
use Rattle.parts_model.specs.declared.stop.Stop.TheVariants.{NoMemory, Refused}
use Rattle.parts_model.specs.Answers.{MayAllow}
use Rattle.parts_model.specs.NewKeys.{AreFreeIn, IsFormatAt, IsKeptOver, keys_tested, new_in_paths, refused_by}
use Rattle.parts_model.proofs.FlatLemmas.{none-behind, some-at}
use Rattle.parts_model.proofs.IndexPaths.{over-own}
use Rattle.parts_model.proofs.KeyPlanLemmas.{keys-first, keys_from, keys_of_path, refused-append, refused-none}
use Rattle.parts_model.proofs.RemadeLemmas.{at-next}

-- ---- by the kept paths

-- what is to be known of each of them
abbrev pub IsFreeAt : Memory → NumberedPaths → (job : ℕ) → (commit : Bool) → (member rrn : ℕ) → (image : List ℕ) → ℕ → KeptPath → Type 0
IsFreeAt m paths job commit member rrn image id path = (format : PathFormat) → IsFormatAt id member format paths → AreFreeIn m job commit member rrn image format

-- and of all of them
abbrev pub AreFreeAt : Memory → NumberedPaths → (job : ℕ) → (commit : Bool) → (member rrn : ℕ) → (image : List ℕ) → Type 0
AreFreeAt m paths job commit member rrn image =
    (id : ℕ) (format : PathFormat) (over : IsFormatAt id member format paths) → over.path.spec.unique ≡ true → AreFreeIn m job commit member rrn image format

module _ (m : Memory) (job : ℕ) (commit : Bool) (member rrn : ℕ) (image : List ℕ) (paths : NumberedPaths) (free : AreFreeAt m paths job commit member rrn image) (test : Test) where
  one-free : (unique : UniquePath) → IsKeptOver member paths unique → refused_by test job commit rrn (keys_of_path m member rrn image unique) m ≡ Ok true
  one-free unique is =
      let formats : unique.path.formats ≡ is.format ∷ [] = ap (λ (p : PathSpec). p.formats) (sym is.same) ∙ is.over.formats in
      let once : is.over.path.spec.unique ≡ true = ap (λ (p : PathSpec). p.unique) is.same ∙ is.once in
      ap (λ (fs : List PathFormat). refused_by test job commit rrn (keys_of_path m member rrn image (record { file = unique.file; path = record unique.path { formats = fs } })) m) formats
      ∙ (free is.id is.format is.over once).free test unique.file

  pub paths-free : (uniques : List UniquePath) → AllByRecursion (IsKeptOver member paths) uniques → refused_by test job commit rrn (new_in_paths uniques m member rrn image) m ≡ Ok true
  paths-free [] kept = refused-none test job commit rrn m
  paths-free (unique ∷ uniques) kept =
      refused-append test job commit rrn (keys_of_path m member rrn image unique) (new_in_paths uniques m member rrn image) m
      ∙ ap (λ (r : Result Bool Reply). r >>= (λ _. refused_by test job commit rrn (new_in_paths uniques m member rrn image) m)) (one-free unique kept.0)
      ∙ paths-free uniques kept.1

pub all-free : (m : Memory) (job : ℕ) (commit : Bool) (member rrn : ℕ) (image : List ℕ) (paths : NumberedPaths) → AreFreeAt m paths job commit member rrn image
    → AllByRecursion (IsKeptOver member paths) (unique_paths member m) → keys_free job commit member rrn (slot_there member rrn m) image m ≡ Ok true
all-free m job commit member rrn image paths free kept =
    ap (λ (r : Result Bool Reply). r >>= (λ _. none_repeated rrn (new_keys member (slot_there member rrn m) image m) m))
    (paths-free m job commit member rrn image paths free Reserved (unique_paths member m) kept)
    ∙ paths-free m job commit member rrn image paths free Repeated (unique_paths member m) kept

-- ---- a unique path is kept

-- the path of one format is over its member
pub free-over : (member id : ℕ) (format : PathFormat) (paths : NumberedPaths) (over : IsFormatAt id member format paths) → is_over member over.path.spec ≡ true
free-over member id format paths over = over-own member over.path.spec (record { format = format; formats = over.formats; member = over.its })

-- under this number
pub kept-at : (member id : ℕ) (paths : NumberedPaths) (unique : UniquePath) (path : KeptPath) (is : IsKeptOver member paths unique) → item_at id paths ≡ Some path → path.spec ≡ unique.path
    → IsFormatAt id member is.format paths
kept-at member id paths unique path is at same = record {
  path = path;
  at = at;
  formats = ap (λ (p : PathSpec). p.formats) (same ∙ sym is.same) ∙ is.over.formats;
  its = is.over.its;
}

-- it isn't a new one
pub kept-old : (member : ℕ) (paths : NumberedPaths) (unique : UniquePath) → IsKeptOver member paths unique → IsNew unique.path paths → ⊥
kept-old member paths unique is new =
    each-at (λ (q : Numbered KeptPath). q.item.spec ≢ unique.path) is.id is.over.path paths (recursion_from_All (λ (q : Numbered KeptPath). q.item.spec ≢ unique.path) paths new) is.over.at is.same

-- its formats are the one
pub kept-formats : (member : ℕ) (paths : NumberedPaths) (unique : UniquePath) (is : IsKeptOver member paths unique) → unique.path.formats ≡ is.format ∷ []
kept-formats member paths unique is = ap (λ (p : PathSpec). p.formats) (sym is.same) ∙ is.over.formats

-- ---- file by file

-- what is told of the file at a place
abbrev pub IsToldAt : Test → (job : ℕ) → (commit : Bool) → (member rrn : ℕ) → (image : List ℕ) → Memory → (place : ℕ) → Result (Unit {0}) Stop → Type 0
IsToldAt test job commit member rrn image m place result =
    (entry : List ℕ × FileState) → slice_get m.files place ≡ Some entry
    → MayAllow result (refused_by test job commit rrn (new_in_paths (uniques_by entry.1.spec m member entry) m member rrn image) m)

-- the files before a place refuse nothing of this kind; those from it on decide
pub record AreTestedTo (test : Test) (job : ℕ) (commit : Bool) (member rrn : ℕ) (image : List ℕ) (m : Memory) (place : ℕ) : Type 0 where
  pub rest : keys_tested test job commit member rrn image m ≡ refused_by test job commit rrn (keys_from m member rrn image (drop place m.files)) m

module _ (test : Test) (job : ℕ) (commit : Bool) (member rrn : ℕ) (image : List ℕ) (m : Memory) where
  pub tested-first : AreTestedTo test job commit member rrn image m 0
  tested-first = record { rest = refl }

  -- the file at the place, and those behind it
  split-at : (place : ℕ) (entry : List ℕ × FileState) → slice_get m.files place ≡ Some entry
      → refused_by test job commit rrn (keys_from m member rrn image (drop place m.files)) m
      ≡ (refused_by test job commit rrn (new_in_paths (uniques_by entry.1.spec m member entry) m member rrn image) m
      >>= (λ _. refused_by test job commit rrn (keys_from m member rrn image (drop (suc place) m.files)) m))
  split-at place entry at =
      ap (λ (files : Named FileState). refused_by test job commit rrn (keys_from m member rrn image files) m) (at-next m.files place entry at)
      ∙ ap (λ keys. refused_by test job commit rrn keys m) (keys-first m member rrn image entry (drop (suc place) m.files))
      ∙ refused-append test job commit rrn (new_in_paths (uniques_by entry.1.spec m member entry) m member rrn image) (keys_from m member rrn image (drop (suc place) m.files)) m

  pub tested-next : (place : ℕ) → place < length m.files → IsToldAt test job commit member rrn image m place (Ok tt) → AreTestedTo test job commit member rrn image m place
      → AreTestedTo test job commit member rrn image m (place + 1)
  tested-next place low tells is =
      let here = some-at m.files place low in
      let behind : suc place ≡ place + 1 = omega arith in
      let passed : refused_by test job commit rrn (new_in_paths (uniques_by here.0.1.spec m member here.0) m member rrn image) m ≡ Ok true = tells here.0 here.1 in
      record {
        rest = is.rest ∙ split-at place here.0 here.1
            ∙ ap (λ (r : Result Bool Reply). r >>= (λ _. refused_by test job commit rrn (keys_from m member rrn image (drop (suc place) m.files)) m)) passed
            ∙ ap (λ (n : ℕ). refused_by test job commit rrn (keys_from m member rrn image (drop n m.files)) m) behind;
      }

  pub tested-failed : (place : ℕ) (stop : Stop) → place < length m.files → IsToldAt test job commit member rrn image m place (Err stop) → AreTestedTo test job commit member rrn image m place
      → MayAllow (Err stop) (keys_tested test job commit member rrn image m)
  tested-failed place NoMemory low tells is = tt
  tested-failed place (Refused reply) low tells is =
      let here = some-at m.files place low in
      let failed : refused_by test job commit rrn (new_in_paths (uniques_by here.0.1.spec m member here.0) m member rrn image) m ≡ Err reply = tells here.0 here.1 in
      is.rest ∙ split-at place here.0 here.1
      ∙ ap (λ (r : Result Bool Reply). r >>= (λ _. refused_by test job commit rrn (keys_from m member rrn image (drop (suc place) m.files)) m)) failed

  pub tested-end : (place : ℕ) → length m.files ≤ place → AreTestedTo test job commit member rrn image m place → MayAllow (Ok tt) (keys_tested test job commit member rrn image m)
  tested-end place all is =
      is.rest ∙ ap (λ (files : Named FileState). refused_by test job commit rrn (keys_from m member rrn image files) m) (none-behind m.files place all) ∙ refused-none test job commit rrn m
