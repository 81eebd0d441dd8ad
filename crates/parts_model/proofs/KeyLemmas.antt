-- The key of an image in a path of one format, in bytes and as the definitions have it.
use Rattle.std.proofs.Common.{◌≡◌, ℕ, ◌==◌, ◌&&◌, ◌<◌, Bool, true, false, if◌then◌else◌, List, [], ◌∷◌, Option, Some, None, Result, Ok, Err, IfOk, IfSome, refl, sym, ap, subst, ◌∙◌, arith}
use Rattle.std.specs.Prelude.{All, MatchOption, unwrap_or}
use Rattle.std.specs.Ordering.{is_eq}
use Rattle.std.specs.Str.{bytes_eq}
use Rattle.std.proofs.lemmas.Bool.Decides.{nat_tests}
use Rattle.std.proofs.lemmas.List.Elements.{recursion_from_All}
use Rattle.std.proofs.lemmas.Map.Text.{is_eq-slice_cmp}
use Rattle.file_model.specs.KeyOrder.{KeyValue, compare_keys}
use Rattle.file_model.specs.Paths.{clash, path_key}
use Rattle.file_model.specs.Selection.{selects}
use Rattle.file_model.specs.Views.{view_of}
use Rattle.file_model.specs.declared.paths.PathFormat.{PathFormat}
use Rattle.lawful_states.proofs.NameLemmas.{some-equal}
use Rattle.journal_model.specs.Rollback.{MemberChange}
use Rattle.access_path.specs.KeyBytes.{encoded}
use Rattle.access_path.specs.KeyFields.{AreBytes}
use Rattle.access_path.proofs.KeyLemmas.{Matches-itself, image-fits, keys-cmp}
use Rattle.access_path.proofs.ViewLemmas.{view-bytes}
use Rattle.member_slots.specs.Members.{Numbered, NumberedMembers, item_at}
use Rattle.member_slots.specs.declared.slot.Slot.{Slot}
use Rattle.member_slots.specs.declared.slot.Slot.TheVariants.{Live, Deleted}
use Rattle.path_set.specs.Formats.{CanBeAsked, IsAskable, keys_of}
use Rattle.path_set.specs.EqualKeys.{clash_in}
use Rattle.path_set.specs.KeptPaths.{KeptPath, NumberedPaths}
use Rattle.path_set.specs.MemberSteps.{image_in}
use Rattle.path_set.specs.RecordChanges.{TakeImage, TakesImage}
use Rattle.library_paths.proofs.NumberLemmas.{each-at}
use Rattle.library_steps.specs.Records.{record_in}
use Rattle.library_steps.specs.UniqueKeys.{has_key, if_new, key_in, key_of_slot, takes_key, took_from}
use Rattle.parts_model.specs.NewKeys.{IsAskedBefore, IsAskedIn, IsFormatAt, IsKeyAt, IsKeyIn, MayBeAsked, ShowsKey}

-- what holds of a value that is given, by what is known of it
pub if-told : {A E : Type 0} (P Q : A → Type 0) (result : Result A E) → ((a : A) → P a → Q a) → IfOk result P → IfOk result Q
if-told P Q (Ok a) so p = so a p
if-told P Q (Err e) so p = tt

-- a change of the member took a record with the key away where the record had it
pub takes-live : (format : PathFormat) (key : List KeyValue) (undo : MemberChange) (image : List ℕ) (member : ℕ) → format.member ≡ member → undo.member ≡ member
    → undo.change.before ≡ Some (Live image) → takes_key format key undo ≡ has_key (key_in format image) key
takes-live format key undo image member its own at =
    let same : (undo.member == format.member) ≡ true = grind (arith, nat_tests) in
    ap (λ (b : Bool). b && took_from format key undo.change.before) same ∙ ap (λ (o : Option Slot). took_from format key o) at

-- equal bytes are equal keys
same-bytes : (format : PathFormat) (a b : List ℕ) → AreBytes a → AreBytes b
    → bytes_eq (encoded format.key (view_of format.fields a)) (encoded format.key (view_of format.fields b)) ≡ is_eq (compare_keys (path_key format a) (path_key format b))
same-bytes format a b low high =
    let fits = λ (image : List ℕ) (bytes : AreBytes image). image-fits format.key (view_of format.fields image) (view-bytes format.fields image (recursion_from_All (λ n. n < 256) image bytes)) in
    sym (is_eq-slice_cmp (encoded format.key (view_of format.fields a)) (encoded format.key (view_of format.fields b)))
    ∙ ap is_eq (keys-cmp format.key format.key (path_key format a) (path_key format b) (Matches-itself format.key) (fits a low) (fits b high))

shown-key : (format : PathFormat) (bytes : List ℕ) (key : List KeyValue) (image other : List ℕ) → IsKeyIn format bytes key → AreBytes image
    → (b : Bool) → (if b then Some (encoded format.key (view_of format.fields image)) else None) ≡ Some other
    → bytes_eq other bytes ≡ has_key (if b then Some (path_key format image) else None) key
shown-key format bytes key image other shows are false none = absurd cc
shown-key format bytes key image other shows are true some =
    (λ i. bytes_eq (some-equal (sym some) i) (shows.encoded_is i)) ∙ same-bytes format image shows.image are shows.are
    ∙ ap (λ (k : List KeyValue). is_eq (compare_keys (path_key format image) k)) (sym shows.key_is)

-- the image has the key where it has its bytes
pub key-told : (id member : ℕ) (bytes : List ℕ) (format : PathFormat) (key : List KeyValue) (paths : NumberedPaths) (image : List ℕ) (found : Option (List ℕ)) (other : List ℕ)
    → IsKeyAt id member bytes format key paths → AreBytes image → MatchOption (item_at id paths) (found ≡ None) (λ path. found ≡ keys_of path.spec.formats 0 image) → found ≡ Some other
    → bytes_eq other bytes ≡ has_key (key_in format image) key
key-told id member bytes format key paths image found other at are told some =
    let here : found ≡ keys_of at.over.path.spec.formats 0 image =
    subst (λ (o : Option KeptPath). MatchOption o (found ≡ None) (λ path. found ≡ keys_of path.spec.formats 0 image)) at.over.at told in
    let own : found ≡ keys_of (format ∷ []) 0 image = here ∙ ap (λ (fs : List PathFormat). keys_of fs 0 image) at.over.formats in
    shown-key format bytes key image other at.shows are (selects format.rules image) (sym own ∙ some)

-- ---- what a path can be asked

-- of an image that all paths over the member can be asked about
pub asked-there : (id member : ℕ) (image : List ℕ) (format : PathFormat) (paths : NumberedPaths) → TakeImage member (Some image) paths → IsFormatAt id member format paths → IsAskable format image
asked-there id member image format paths take at =
    let its : TakesImage member (Some image) at.path.spec =
    each-at (λ (q : Numbered KeptPath). TakesImage member (Some image) q.item.spec) id at.path paths
    (recursion_from_All (λ (q : Numbered KeptPath). TakesImage member (Some image) q.item.spec) paths take) at.at in
    let all : All (λ (f : PathFormat). f.member ≡ member → IsAskable f image) (format ∷ []) =
    subst (λ (fs : List PathFormat). All (λ (f : PathFormat). f.member ≡ member → IsAskable f image) fs) at.formats its in
    (recursion_from_All (λ (f : PathFormat). f.member ≡ member → IsAskable f image) (format ∷ []) all).0 at.its

pub can-ask : (id member : ℕ) (image : List ℕ) (format : PathFormat) (paths : NumberedPaths) → IsFormatAt id member format paths → IsAskable format image
    → IfSome (item_at id paths) (λ path. CanBeAsked path.spec.formats 0 image)
can-ask id member image format paths at ask =
    subst (λ (o : Option KeptPath). IfSome o (λ path. CanBeAsked path.spec.formats 0 image)) (sym at.at)
    (subst (λ (fs : List PathFormat). CanBeAsked fs 0 image) (sym at.formats) ask)

-- so of the record at a place
pub slot-shown : (o : Option Slot) (image : List ℕ) → record_in o ≡ Some image → unwrap_or o Deleted ≡ Live image
slot-shown None image is = absurd cc
slot-shown (Some Deleted) image is = absurd cc
slot-shown (Some (Live other)) image is = let same : other ≡ image = some-equal is in ap (λ (i : List ℕ). Live i) same

pub asked-stood : (id member : ℕ) (image : List ℕ) (format : PathFormat) (paths : NumberedPaths) (slot : Slot) → slot ≡ Live image → TakeImage member (image_in slot) paths
    → IsFormatAt id member format paths → IsAskable format image
asked-stood id member image format paths slot stands take at =
    asked-there id member image format paths (subst (λ (s : Slot). TakeImage member (image_in s) paths) stands take) at

-- and of one that a change took away
pub asked-taken : (format : PathFormat) (member : ℕ) (undo : MemberChange) (image : List ℕ) → IsAskedBefore format member undo → undo.member ≡ member → undo.change.before ≡ Some (Live image)
    → MayBeAsked format image
asked-taken format member undo image asked same at = subst (IsAskedIn format) at (asked same)

-- ---- the key of an image, by its bytes

shows-key : (format : PathFormat) (image : List ℕ) (found : Option (List ℕ)) (b : Bool) → found ≡ (if b then Some (encoded format.key (view_of format.fields image)) else None)
    → ShowsKey format image found (if b then Some (path_key format image) else None)
shows-key format image None false is = refl
shows-key format image None true is = absurd cc
shows-key format image (Some bytes) false is = absurd cc
shows-key format image (Some bytes) true is = (refl, some-equal is)

pub key-shown : (id member : ℕ) (format : PathFormat) (paths : NumberedPaths) (image : List ℕ) (found : Option (List ℕ)) (bytes : List ℕ) → IsFormatAt id member format paths
    → MatchOption (item_at id paths) (found ≡ None) (λ path. found ≡ keys_of path.spec.formats 0 image) → found ≡ Some bytes → ShowsKey format image (Some bytes) (key_in format image)
key-shown id member format paths image found bytes at told some =
    let here : found ≡ keys_of at.path.spec.formats 0 image =
    subst (λ (o : Option KeptPath). MatchOption o (found ≡ None) (λ path. found ≡ keys_of path.spec.formats 0 image)) at.at told in
    let own : found ≡ keys_of (format ∷ []) 0 image = here ∙ ap (λ (fs : List PathFormat). keys_of fs 0 image) at.formats in
    shows-key format image (Some bytes) (selects format.rules image) (sym some ∙ own)

-- so it stands for the key of that image
pub key-at : (id member : ℕ) (format : PathFormat) (paths : NumberedPaths) (image bytes : List ℕ) → IsFormatAt id member format paths → AreBytes image
    → bytes ≡ encoded format.key (view_of format.fields image) → IsKeyAt id member bytes format (path_key format image) paths
key-at id member format paths image bytes at are is = record { over = at; shows = record { image = image; are = are; encoded_is = is; key_is = refl } }

-- ---- whether the record at the place has the key already

module _ (id member : ℕ) (format : PathFormat) (paths : NumberedPaths) (image bytes old : List ℕ) (slot : Slot) (same : Bool) (at : IsFormatAt id member format paths) (are : AreBytes image)
    (shows : ShowsKey format image (Some bytes) (key_in format image)) (stands : slot ≡ Live old)
    (told : (number : ℕ) (f : PathFormat) (values : List KeyValue) → IsKeyAt id number bytes f values paths → same ≡ has_key (key_in f old) values) where
  if-known : if_new (key_of_slot format slot) (key_in format image) ≡ (if same then None else Some (path_key format image))
  if-known =
      (λ i. if_new (key_of_slot format (stands i)) (shows.0 i))
      ∙ ap (λ (b : Bool). if b then None else Some (path_key format image)) (sym (told member format (path_key format image) (key-at id member format paths image bytes at are shows.1)))

  pub key-known : same ≡ true → if_new (key_of_slot format slot) (key_in format image) ≡ None
  key-known is = if-known ∙ ap (λ (b : Bool). if b then None else Some (path_key format image)) is

  pub key-new : same ≡ false → ShowsKey format image (Some bytes) (if_new (key_of_slot format slot) (key_in format image))
  key-new is = (if-known ∙ ap (λ (b : Bool). if b then None else Some (path_key format image)) is, shows.1)

-- ---- another record with the key

-- told by the one path
pub clash-shown : (id member : ℕ) (format : PathFormat) (paths : NumberedPaths) (image : List ℕ) (rrn : ℕ) (members : NumberedMembers) (other : Option ℕ) (over : IsFormatAt id member format paths)
    → clash_in 0 image rrn over.path ≡ clash format members image rrn → MatchOption (item_at id paths) (other ≡ None) (λ path. other ≡ clash_in 0 image rrn path)
    → other ≡ clash format members image rrn
clash-shown id member format paths image rrn members other over is told =
    let here : other ≡ clash_in 0 image rrn over.path = subst (λ (o : Option KeptPath). MatchOption o (other ≡ None) (λ path. other ≡ clash_in 0 image rrn path)) over.at told in
    here ∙ is
