-- What open commit cycles refuse of a new key, as the definitions have it; and the keys that come into the paths of files, file by file.
use Rattle.std.proofs.Common.{◌≡◌, ℕ, ◌-◌, ◌≤◌, ◌==◌, if◌then◌else◌, IsTrue, Bool, true, false, List, [], ◌∷◌, ◌++◌, Option, Some, None, Result, Ok, Err, slice_get, refl, sym, ap, ◌∙◌, arith}
use Rattle.std.specs.List.{cons_option, filter_map, flat_map}
use Rattle.std.specs.Option.{option_map}
use Rattle.std.proofs.lemmas.Bool.Decides.{nat_tests}
use Rattle.std.proofs.lemmas.Grind.{flat_map-append}
use Rattle.std.proofs.lemmas.List.{append-nil}
use Rattle.file_model.specs.KeyOrder.{KeyValue}
use Rattle.file_model.specs.Paths.{clash, entries_of, other_with_key, path_key}
use Rattle.file_model.specs.Selection.{selects}
use Rattle.file_model.specs.declared.paths.PathFormat.{PathFormat}
use Rattle.library_model.specs.Named.{Named}
use Rattle.library_model.specs.declared.replies.Reply.{Reply}
use Rattle.library_model.specs.declared.replies.Reply.TheVariants.{DuplicateKey, HeldByGroup, RecordInUse}
use Rattle.library_steps.specs.History.{is_running}
use Rattle.library_steps.specs.Records.{slot_there}
use Rattle.library_steps.specs.Refusals.{◌>>=◌, refuse_with}
use Rattle.library_steps.specs.State.{FileState, JobState, Memory, job_at, job_of, or_new}
use Rattle.library_steps.specs.UniqueKeys.{NewKey, Reservation, UniquePath, if_new, key_in, key_of_slot, new_key_in, none_repeated, none_reserved, not_reserved, other_record, own_reservation, uniques_by}
use Rattle.library_steps.specs.Uses.{changes_in}
use Rattle.parts_model.specs.declared.keys.Test.{Test}
use Rattle.parts_model.specs.declared.keys.Test.TheVariants.{Reserved, Repeated}
use Rattle.parts_model.specs.NewKeys.{AreFreeIn, keys_kept, least_of, least_reserved, new_in, new_in_paths, own_reserved, refused_by, taken, tested}
use Rattle.parts_model.proofs.NewKeyLemmas.{others-least, own-least, reserved_at}

-- ---- what open commit cycles refuse

pub kept-same : (new : NewKey) (m : Memory) (job : ℕ) (commit : Bool) → IsTrue (is_running (job_at job m.jobs))
    → not_reserved job commit new m ≡ keys_kept new.format new.key job commit (changes_in (job_of job m).cycle) m.jobs
kept-same new m job commit running =
    ap (λ (o : Option Reservation). refuse_with (λ (r : Reservation). RecordInUse r.job new.format.member r.rrn) o
    >>= (λ _. refuse_with (λ (r : Reservation). HeldByGroup r.rrn) (own_reservation job commit new m))) (others-least new job 1 m.jobs)
    ∙ ap (λ (r : Result Bool Reply). refuse_with (λ (r : Reservation). RecordInUse r.job new.format.member r.rrn) (least_reserved new.format new.key job 1 m.jobs) >>= (λ _. r)) (own commit)
  where
    told : (o : Option ℕ) → refuse_with (λ (r : Reservation). HeldByGroup r.rrn) (option_map (reserved_at job) o) ≡ refuse_with (λ rrn. HeldByGroup rrn) o
    told None = refl
    told (Some rrn) = refl

    -- a job that runs is the one at its place
    place : (1 ≤ job) × (job_at job m.jobs ≡ slice_get m.jobs (job - 1))
    place =
        elim (job == 0) as (λ b. (job == 0) ≡ b → IsTrue (is_running (if b then None else slice_get m.jobs (job - 1))) → (1 ≤ job) × ((if b then None else slice_get m.jobs (job - 1)) ≡ slice_get m.jobs (job - 1))) [
          | true ↦ λ e h. absurd cc
          | false ↦ λ e h. (grind (arith, nat_tests), refl)
        ] refl running

    own : (c : Bool) → refuse_with (λ (r : Reservation). HeldByGroup r.rrn) (own_reservation job c new m)
        ≡ refuse_with (λ rrn. HeldByGroup rrn) (own_reserved c (least_of (taken new.format new.key (changes_in (job_of job m).cycle))))
    own true = refl
    own false =
        ap (λ (o : Option Reservation). refuse_with (λ (r : Reservation). HeldByGroup r.rrn) o) (own-least new job 1 m.jobs place.0)
        ∙ told (least_of (taken new.format new.key (changes_in (or_new (slice_get m.jobs (job - 1))).cycle)))
        ∙ ap (λ (o : Option JobState). refuse_with (λ rrn. HeldByGroup rrn) (least_of (taken new.format new.key (changes_in (or_new o).cycle)))) (sym place.1)

-- ---- some keys, and those behind them

bind-assoc : (r : Result Bool Reply) (f g : Bool → Result Bool Reply) → ((r >>= f) >>= g) ≡ (r >>= (λ b. f b >>= g))
bind-assoc (Ok b) f g = refl
bind-assoc (Err reply) f g = refl

pub reserved-append : (job : ℕ) (commit : Bool) (keys more : List NewKey) (m : Memory)
    → none_reserved job commit (keys ++ more) m ≡ (none_reserved job commit keys m >>= (λ _. none_reserved job commit more m))
reserved-append job commit [] more m = refl
reserved-append job commit (new ∷ keys) more m =
    ap (λ (r : Result Bool Reply). not_reserved job commit new m >>= (λ _. r)) (reserved-append job commit keys more m)
    ∙ sym (bind-assoc (not_reserved job commit new m) (λ _. none_reserved job commit keys m) (λ _. none_reserved job commit more m))

pub repeated-append : (rrn : ℕ) (keys more : List NewKey) (m : Memory) → none_repeated rrn (keys ++ more) m ≡ (none_repeated rrn keys m >>= (λ _. none_repeated rrn more m))
repeated-append rrn [] more m = refl
repeated-append rrn (new ∷ keys) more m =
    ap (λ (r : Result Bool Reply). refuse_with (λ other. DuplicateKey new.file other) (other_record new rrn m) >>= (λ _. r)) (repeated-append rrn keys more m)
    ∙ sym (bind-assoc (refuse_with (λ other. DuplicateKey new.file other) (other_record new rrn m)) (λ _. none_repeated rrn keys m) (λ _. none_repeated rrn more m))

pub refused-append : (test : Test) (job : ℕ) (commit : Bool) (rrn : ℕ) (keys more : List NewKey) (m : Memory)
    → refused_by test job commit rrn (keys ++ more) m ≡ (refused_by test job commit rrn keys m >>= (λ _. refused_by test job commit rrn more m))
refused-append Reserved job commit rrn keys more m = reserved-append job commit keys more m
refused-append Repeated job commit rrn keys more m = repeated-append rrn keys more m

pub refused-none : (test : Test) (job : ℕ) (commit : Bool) (rrn : ℕ) (m : Memory) → refused_by test job commit rrn [] m ≡ Ok true
refused-none Reserved job commit rrn m = refl
refused-none Repeated job commit rrn m = refl

-- ---- the key that comes into one path

abbrev pub new_of : (file : List ℕ) → PathFormat → List KeyValue → NewKey
new_of file format key = record { file = file; format = format; key = key }

-- where the image is selected, it is asked as it is
selected : {A : Type 0} (old : Option (List KeyValue)) (b : Bool) (key other : List KeyValue) (found : Option A) → if_new old (if b then Some key else None) ≡ Some other
    → (if b then found else None) ≡ found
selected old true key other found is = refl
selected old false key other found is = absurd cc

module _ (m : Memory) (job : ℕ) (commit : Bool) (member rrn : ℕ) (image : List ℕ) (format : PathFormat) where
  new-of : (o : Option (List KeyValue)) → if_new (key_of_slot format (slot_there member rrn m)) (key_in format image) ≡ o → (file : List ℕ)
      → new_in file m member rrn image format ≡ cons_option (option_map (new_of file format) o) []
  new-of o is file = ap (λ (k : Option (List KeyValue)). cons_option (option_map (new_of file format) k) []) is

  pub tested-none : if_new (key_of_slot format (slot_there member rrn m)) (key_in format image) ≡ None → (test : Test) (file : List ℕ)
      → tested test file m job commit member rrn image format ≡ Ok true
  tested-none is test file = ap (λ (keys : List NewKey). refused_by test job commit rrn keys m) (new-of None is file) ∙ refused-none test job commit rrn m

  pub tested-reserved : IsTrue (is_running (job_at job m.jobs)) → (key : List KeyValue)
      → if_new (key_of_slot format (slot_there member rrn m)) (key_in format image) ≡ Some key → (file : List ℕ)
      → tested Reserved file m job commit member rrn image format ≡ (keys_kept format key job commit (changes_in (job_of job m).cycle) m.jobs >>= (λ _. Ok true))
  tested-reserved running key is file =
      ap (λ (keys : List NewKey). none_reserved job commit keys m) (new-of (Some key) is file)
      ∙ ap (λ (r : Result Bool Reply). r >>= (λ _. Ok true)) (kept-same (new_of file format key) m job commit running)

  pub tested-repeated : if_new (key_of_slot format (slot_there member rrn m)) (key_in format image) ≡ Some (path_key format image) → (file : List ℕ)
      → tested Repeated file m job commit member rrn image format ≡ (refuse_with (λ other. DuplicateKey file other) (clash format m.members image rrn) >>= (λ _. Ok true))
  tested-repeated is file =
      ap (λ (keys : List NewKey). none_repeated rrn keys m) (new-of (Some (path_key format image)) is file)
      ∙ ap (λ (o : Option ℕ). refuse_with (λ other. DuplicateKey file other) o >>= (λ _. Ok true))
      (sym (selected (key_of_slot format (slot_there member rrn m)) (selects format.rules image) (path_key format image) (path_key format image)
      (other_with_key (path_key format image) rrn (entries_of 0 format m.members)) is))

  -- nothing refuses it
  pub free-none : if_new (key_of_slot format (slot_there member rrn m)) (key_in format image) ≡ None → AreFreeIn m job commit member rrn image format
  free-none is = record { free = tested-none is }

  pub free-new : IsTrue (is_running (job_at job m.jobs)) → if_new (key_of_slot format (slot_there member rrn m)) (key_in format image) ≡ Some (path_key format image)
      → keys_kept format (path_key format image) job commit (changes_in (job_of job m).cycle) m.jobs ≡ Ok true → clash format m.members image rrn ≡ None
      → AreFreeIn m job commit member rrn image format
  free-new running is kept none = record { free = by }
    where
      by : (test : Test) (file : List ℕ) → tested test file m job commit member rrn image format ≡ Ok true
      by Reserved file = tested-reserved running (path_key format image) is file ∙ ap (λ (r : Result Bool Reply). r >>= (λ _. Ok true)) kept
      by Repeated file = tested-repeated is file ∙ ap (λ (o : Option ℕ). refuse_with (λ other. DuplicateKey file other) o >>= (λ _. Ok true)) none

-- ---- the keys that come into some paths

abbrev pub keys_of_path : Memory → (member rrn : ℕ) → (image : List ℕ) → UniquePath → List NewKey
keys_of_path m member rrn image unique = filter_map (new_key_in unique.file (slot_there member rrn m) image) unique.path.formats

-- of one path
pub path-told : (test : Test) (m : Memory) (job : ℕ) (commit : Bool) (member rrn : ℕ) (image : List ℕ) (format : PathFormat) (unique : UniquePath) → unique.path.formats ≡ format ∷ []
    → refused_by test job commit rrn (new_in_paths (unique ∷ []) m member rrn image) m ≡ tested test unique.file m job commit member rrn image format
path-told test m job commit member rrn image format unique formats =
    ap (λ (keys : List NewKey). refused_by test job commit rrn keys m) (append-nil (keys_of_path m member rrn image unique))
    ∙ ap (λ (fs : List PathFormat). refused_by test job commit rrn (filter_map (new_key_in unique.file (slot_there member rrn m) image) fs) m) formats

-- of the paths of some files
abbrev pub keys_from : Memory → (member rrn : ℕ) → (image : List ℕ) → Named FileState → List NewKey
keys_from m member rrn image files = new_in_paths (flat_map (λ (entry : List ℕ × FileState). uniques_by entry.1.spec m member entry) files) m member rrn image

-- those of a file come before those of the files behind it
pub keys-first : (m : Memory) (member rrn : ℕ) (image : List ℕ) (entry : List ℕ × FileState) (files : Named FileState)
    → keys_from m member rrn image (entry ∷ files) ≡ new_in_paths (uniques_by entry.1.spec m member entry) m member rrn image ++ keys_from m member rrn image files
keys-first m member rrn image entry files =
    flat_map-append (keys_of_path m member rrn image) (uniques_by entry.1.spec m member entry) (flat_map (λ (e : List ℕ × FileState). uniques_by e.1.spec m member e) files)
