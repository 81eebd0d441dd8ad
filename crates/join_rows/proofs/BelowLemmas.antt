-- A row below a row so far is found by trying the records of the next file, one after another.
use Rattle.std.proofs.Common.{◌≡◌, ℕ, Bor, zero, suc, ◌+◌, ◌-◌, ◌≤◌, ◌<◌, Bool, true, false, Option, Some, None, List, [], ◌∷◌, ◌++◌, length, take, drop, get_or, map, refl, sym, ◌∙◌, ap, subst, arith, inl, inr}
use Rattle.std.specs.Option.{option_map, option_or}
use Rattle.std.specs.List.{AllByRecursion, slice_get}
use Rattle.std.specs.Prelude.{unwrap_or}
use Rattle.std.proofs.lemmas.Bool.{cases_lt}
use Rattle.std.proofs.lemmas.List.{length-append, take_all}
use Rattle.std.proofs.lemmas.List.Elements.{recursion_from_All}
use Rattle.key_pages.specs.declared.entries.Entry.{Entry}
use Rattle.key_pages.specs.EntryList.{EntryList}
use Rattle.key_pages.specs.Order.{IsInOrder}
use Rattle.member_slots.specs.Members.{NumberedMembers}
use Rattle.file_model.specs.declared.joins.JoinPair.{JoinPair}
use Rattle.file_model.specs.declared.joins.Secondary.{Secondary}
use Rattle.file_model.specs.Joins.{Match, Matched, JoinRow, image_in, compare_matches, row_with}
use Rattle.access_path.proofs.FitLemmas.{Bytes}
use Rattle.join_rows.specs.Levels.{first_of, below}
use Rattle.join_rows.specs.NextRow.{match_of}
use Rattle.join_rows.specs.Numbers.{matched_number, row_by}
use Rattle.join_rows.specs.declared.positions.MatchPlace.{MatchPlace}
use Rattle.join_rows.specs.Reading.{IsFrom, Feeds, AreFed, IsReadable, AreReadable, IsLeft, place_in, leaf_numbers, found_below}
use Rattle.join_rows.specs.Trials.{number_of, first_trial, next_trial, key_in, all_behind, trials_from, left_at, IsBegun}
use Rattle.join_rows.specs.WantedBytes.{wanted_bytes}
use Rattle.join_rows.proofs.BackLemmas.{IsOwn, entries-own}
use Rattle.join_rows.proofs.TrialLemmas.{level_by, head-place, IsTrial, first-valid, start, left-below, next-start-of, fewer, good-image, begun}

-- ---- images of a row

get-front : (images more : List (List ℕ)) (i : ℕ) → i < length images → slice_get (images ++ more) i ≡ slice_get images i
get-front [] more i low = absurd (omega (arith, low))
get-front (x ∷ images) more zero low = refl
get-front (x ∷ images) more (suc i) low = get-front images more i (omega (arith, low))

get-last : (images : List (List ℕ)) (image : List ℕ) → slice_get (images ++ image ∷ []) (length images) ≡ Some image
get-last [] image = refl
get-last (x ∷ images) image = get-last images image

-- one image more
pub fed-more : (images : List (List ℕ)) (image : List ℕ) (files : List Secondary) → AreFed images files → Feeds (length images) files image → AreFed (images ++ image ∷ []) files
fed-more images image [] fed also = tt
fed-more images image (file ∷ files) fed also = (here, fed-more images image files fed.1 also.1)
  where
    here : file.from < length (images ++ image ∷ []) → IsFrom (image_in file.from (images ++ image ∷ [])) file
    here low =
        let long : length (images ++ image ∷ []) ≡ length images + 1 = length-append images (image ∷ []) in
        elim (cases_lt file.from (length images)) [
          | inl early ↦ subst (λ w. IsFrom w file) (ap (λ o. unwrap_or o []) (sym (get-front images (image ∷ []) file.from early))) (fed.0 early)
          | inr late ↦
              let same : file.from ≡ length images = omega (arith, low, long, late) in
              subst (λ w. IsFrom w file) (ap (λ o. unwrap_or o []) (sym (ap (slice_get (images ++ image ∷ [])) same ∙ get-last images image))) (also.0 same)
        ]

-- the image at a place of the slice
pub image-at : (images : List (Bor (List ℕ))) (i : ℕ) (x : Bor (List ℕ)) → i < length images → x ≡ get_or images i x → x.now ≡ image_in i (map (λ image. image.now) images)
image-at [] i x low is = absurd (omega (arith, low))
image-at (y ∷ images) zero x low is = ap (λ (z : Bor (List ℕ)). z.now) is
image-at (y ∷ images) (suc i) x low is = image-at images i x (omega (arith, low)) is

-- ---- the last level

pub leaf-found : (back keeps_missing : Bool) (members : NumberedMembers) (row : JoinRow) (left : Option (List MatchPlace)) (from : Option (List Match)) → IsLeft [] left from
    → option_map (row_by members [] row) (leaf_numbers left) ≡ found_below back keeps_missing members [] row from
leaf-found false keeps_missing members row None None is = refl
leaf-found true keeps_missing members row None None is = refl
leaf-found back keeps_missing members row None (Some matches) is = absurd is
leaf-found back keeps_missing members row (Some places) None is = absurd is
leaf-found false keeps_missing members row (Some []) (Some []) is = refl
leaf-found true keeps_missing members row (Some []) (Some []) is = refl
leaf-found back keeps_missing members row (Some []) (Some (m ∷ matches)) is = absurd is
leaf-found back keeps_missing members row (Some (place ∷ places)) (Some matches) is = absurd is

-- ---- the first of some files

pub split-first : {X : Type 0} (xs : List X) (x : X) → 1 ≤ length xs → x ≡ get_or xs 0 x → xs ≡ x ∷ take (length xs - 1) (drop 1 xs)
split-first [] x some is = absurd (omega (arith, some))
split-first {X = X} (y ∷ xs) x some is =
    ap (λ (z : X). z ∷ xs) (sym is) ∙ ap (λ w. x ∷ w) (sym (take_all (length (y ∷ xs) - 1) xs (omega arith)))

pub wanted-same : (o : Option (List ℕ)) (pairs others : List JoinPair) (image another : List ℕ) → o ≡ wanted_bytes pairs image → pairs ≡ others → image ≡ another → o ≡ wanted_bytes others another
wanted-same o pairs others image another is same also = is ∙ ap (λ ps. wanted_bytes ps image) same ∙ ap (wanted_bytes others) also

-- ---- a level

-- a file that is reached from a row so far, the files after it, what is left of a position there, and the bytes that are
-- looked for
pub record Level : Type 0 where
  pub members : NumberedMembers
  pub file : Secondary
  pub further : List Secondary
  pub list : EntryList
  pub images : List (List ℕ)
  pub keeps_missing : Bool
  pub back : Bool
  pub left : Option (List MatchPlace)
  pub wanted : Option (List ℕ)

module _ (level : Level) where
  abbrev members : NumberedMembers
  members = level.members

  abbrev file : Secondary
  file = level.file

  abbrev further : List Secondary
  further = level.further

  abbrev list : EntryList
  list = level.list

  abbrev images : List (List ℕ)
  images = level.images

  abbrev keeps_missing : Bool
  keeps_missing = level.keeps_missing

  abbrev back : Bool
  back = level.back

  abbrev left : Option (List MatchPlace)
  left = level.left

  abbrev wanted : Option (List ℕ)
  wanted = level.wanted

  abbrev Q : List ℕ → Type 0
  Q image = Feeds (length images) further image

  abbrev give : JoinRow → Option (List Match) → Matched → Option JoinRow
  give row from m = found_below back keeps_missing members further (row_with row m) (below compare_matches from (match_of m))

  abbrev whole : JoinRow → Option (List Match) → Option JoinRow
  whole row from = found_below back keeps_missing members (file ∷ further) row from

  abbrev pub show : Option Entry → Matched
  show trial = matched_number file members (number_of trial)

  -- the key at which the position stands
  abbrev pub place_key : List ℕ
  place_key = key_in wanted (place_in left)

  -- what is still to be tried gives what all give, and is of the file
  pub record IsUnderway (at : Option (Option Entry)) : Type 0 where
    pub gives : (row : JoinRow) (from : Option (List Match)) → row.images ≡ images → IsLeft (file ∷ further) left from
        → first_of (give row from) (map show (trials_from back wanted at list)) ≡ whole row from
    pub valid : IsTrial file members Q list wanted at

  -- what is found below a trial
  abbrev pub IsBelow : Option Entry → Option (List (Option ℕ)) → Type 0
  IsBelow trial o = (row : JoinRow) (from : Option (List Match)) → row.images ≡ images ++ (show trial).image ∷ [] → IsLeft further (left_at left place_key trial) from
      → option_map (row_by members further row) o ≡ found_below back keeps_missing members further row from

  -- the file can be read, and so can the files after it
  pub record IsHere (others : List EntryList) : Type 0 where
    pub readable : IsReadable members (length images) file further list
    pub rest : AreReadable members (length images + 1) further others
    pub fed : IsFrom (image_in file.from images) file
    pub later : AreFed images further
    pub want : wanted ≡ wanted_bytes file.pairs (image_in file.from images)
    pub sorted : IsInOrder list.falling list.entries

  pub here-of : (others lists : List EntryList) (files : List Secondary) → files ≡ file ∷ further → lists ≡ list ∷ others → (number : ℕ) → length images ≡ number
      → AreReadable members number files lists → AreFed images files → wanted ≡ wanted_bytes file.pairs (image_in file.from images) → IsInOrder list.falling list.entries → IsHere others
  here-of others lists files files-are lists-are number count readable fed want sorted =
      let there : AreReadable members (length images) (file ∷ further) (list ∷ others) =
      subst (λ (n : ℕ). AreReadable members n (file ∷ further) (list ∷ others)) (sym count)
      (subst (λ (fs : List Secondary). AreReadable members number fs (list ∷ others)) files-are
      (subst (λ (ls : List EntryList). AreReadable members number files ls) lists-are readable)) in
      let all : AreFed images (file ∷ further) = subst (AreFed images) files-are fed in record {
        readable = there.0;
        rest = there.1;
        fed = all.0 there.0.from;
        later = all.1;
        want = want;
        sorted = sorted;
      }

  -- what a level gives
  by-level : (back' : Bool) (row : JoinRow) (from : Option (List Match))
      → found_below back' keeps_missing members (file ∷ further) row from
      ≡ first_of (λ m. found_below back' keeps_missing members further (row_with row m) (below compare_matches from (match_of m))) (level_by back' keeps_missing members file row from)
  by-level false row from = refl
  by-level true row from = refl

  module _ (others : List EntryList) (here : IsHere others) where
    own : AllByRecursion (IsOwn file members Q) list.entries
    own = entries-own file members Q list here.readable.path here.readable.joinable here.readable.records

    bytes-of : (row : JoinRow) → row.images ≡ images → Bytes (image_in file.from row.images)
    bytes-of row same = subst (λ w. Bytes (image_in file.from w)) (sym same) (recursion_from_All (λ b. b < 256) (image_in file.from images) here.fed.bytes)

    want-of : (row : JoinRow) → row.images ≡ images → wanted ≡ wanted_bytes file.pairs (image_in file.from row.images)
    want-of row same = here.want ∙ ap (λ w. wanted_bytes file.pairs (image_in file.from w)) (sym same)

    -- the first is tried
    pub begin : (at : Option (Option Entry)) → at ≡ first_trial back keeps_missing wanted (place_in left) place_key list → IsUnderway at
    begin at is = record {
      gives = λ row from same left-is.
          ap (λ o. first_of (give row from) (map show (trials_from back wanted o list))) is
          ∙ ap (first_of (give row from))
          (sym (start file members Q list wanted here.readable.path here.readable.joinable here.sorted own row (bytes-of row same) keeps_missing
          back (place_in left) from (want-of row same) (head-place file further left from left-is)).level)
          ∙ sym (by-level back row from);
      valid = subst (IsTrial file members Q list wanted) (sym is)
          (first-valid file members Q list wanted here.readable.path here.readable.joinable here.sorted own back keeps_missing (place_in left) place_key);
    }

    module _ (trial : Option Entry) (way : IsUnderway (Some trial)) where
      -- what is found below the trial
      below-trial : (o : Option (List (Option ℕ))) → IsBelow trial o → (row : JoinRow) (from : Option (List Match)) → row.images ≡ images → IsLeft (file ∷ further) left from
          → option_map (row_by members further (row_with row (show trial))) o ≡ give row from (show trial)
      below-trial o rec row from same left-is =
          rec (row_with row (show trial)) (below compare_matches from (match_of (show trial))) (ap (λ w. w ++ (show trial).image ∷ []) same)
          (left-below file members Q list wanted here.readable.path here.readable.joinable here.sorted own row (bytes-of row same) keeps_missing
          further left from (want-of row same) left-is trial way.valid)

      -- a row is found
      pub found : (numbers : List (Option ℕ)) → IsBelow trial (Some numbers) → (row : JoinRow) (from : Option (List Match)) → row.images ≡ images → IsLeft (file ∷ further) left from
          → Some (row_by members (file ∷ further) row (number_of trial ∷ numbers)) ≡ whole row from
      found numbers rec row from same left-is =
          ap (λ o. option_or o (first_of (give row from) (map show (all_behind back wanted trial list)))) (below-trial (Some numbers) rec row from same left-is)
          ∙ way.gives row from same left-is

      -- none is, so the next is tried
      pub next : IsBelow trial None → (at : Option (Option Entry)) → at ≡ next_trial back wanted trial list → IsUnderway at
      next rec at is =
          let after = next-start-of file members Q list wanted here.readable.path here.readable.joinable here.sorted own back trial way.valid in record {
            gives = λ row from same left-is.
                ap (λ o. first_of (give row from) (map show (trials_from back wanted o list))) is
                ∙ ap (first_of (give row from)) (sym after.level)
                ∙ ap (λ o. option_or o (first_of (give row from) (map show (all_behind back wanted trial list)))) (below-trial None rec row from same left-is)
                ∙ way.gives row from same left-is;
            valid = subst (IsTrial file members Q list wanted) (sym is) after.valid;
          }

      -- there are fewer behind it
      pub less : (at : Option (Option Entry)) → at ≡ next_trial back wanted trial list → length (trials_from back wanted at list) < length (trials_from back wanted (Some trial) list)
      less at is =
          subst (λ o. length (trials_from back wanted o list) < length (trials_from back wanted (Some trial) list)) (sym is)
          (fewer file members Q list wanted here.readable.path here.readable.joinable here.sorted own back trial way.valid)

      -- the files after this one can be looked for by its image too
      pub fed-below : AreFed (images ++ (show trial).image ∷ []) further
      fed-below = fed-more images (show trial).image further here.later (good-image file members Q list wanted here.readable.default trial way.valid)

      pub begins : IsBegun wanted trial
      begins = begun file members Q list wanted trial way.valid

    -- there is none left
    pub none-left : IsUnderway None → (row : JoinRow) (from : Option (List Match)) → row.images ≡ images → IsLeft (file ∷ further) left from → None ≡ whole row from
    none-left way row from same left-is = way.gives row from same left-is
