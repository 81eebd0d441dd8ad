-- Each entry of the journal is read back, of a source its length alone.
use Rattle.std.proofs.Common.{◌≡◌, ℕ, zero, suc, if◌then◌else◌, ◌<◌, ◌^◌, Bool, true, false, ◌&&◌, ◌==◌, nat_eq, nat_lt, nat_le, IsTrue, Option, Some, None, IfSome, is_some, option_map, List, [], ◌∷◌, ◌++◌, length, take, drop, replicate, map, codes, refl, ap, ◌∙◌, sym, append-nil, arith}
use Rattle.std.specs.List.{list_all}
use Rattle.std.specs.Option.{option_map_or, unwrap_or}
use Rattle.std.specs.Fmt.{decimal}
use Rattle.std.specs.Cmp.Lexicographic.{pointwise}
use Rattle.std.proofs.lemmas.Bool.{and_parts, cond-true, cond-false, le-leb, ne_eqb}
use Rattle.std.proofs.lemmas.List.{length-replicate}
use Rattle.entry_codec.specs.Placing.{letters, place, is_absent, is_present, is_counted, is_own, is_placed_at, is_placed}
use Rattle.entry_codec.specs.Spelling.{IsImage, HoldsFields, HasSpelling, IsKind, IsHead}
use Rattle.entry_codec.specs.declared.entries.Entry.{Entry}
use Rattle.entry_codec.specs.declared.kinds.EntryKind.{EntryKind}
use Rattle.entry_codec.specs.declared.kinds.EntryKind.TheVariants as kind
use Rattle.entry_codec.specs.declared.kinds.FileKind.{FileKind}
use Rattle.entry_codec.specs.declared.kinds.FileKind.TheVariants as file_kind
use Rattle.entry_codec.specs.declared.kinds.Images.{Images}
use Rattle.entry_codec.specs.declared.kinds.TheConstants.{MIN_RECORD_LENGTH, MAX_RECORD_LENGTH}
use Rattle.entry_codec.specs.declared.places.Place.{Place}
use Rattle.entry_codec.specs.declared.places.Place.TheVariants as place_kind
use Rattle.field_types.specs.SystemName.{is_name}
use Rattle.listing.specs.EntryText.{job_text, file_kind_text, after_flag, optional_image_parameter, range_parameter, body_text, place_text, origin_text, stroked_entry, entries_text}
use Rattle.listing.specs.RequestText.{level_text, images_text}
use Rattle.listing.specs.Texts.{parameter, text_literal}
use Rattle.statement_reader.specs.Commands.{is_word}
use Rattle.statement_reader.specs.Lists.{onto_others}
use Rattle.statement_reader.specs.Words.{words, has_text}
use Rattle.text_lines.specs.Decimal.{is_digit}
use Rattle.listing_words.specs.Choices.{file_kind_of}
use Rattle.listing_reader.specs.Entries.{two, image_of, image_in, optional_image_of, optional_image_in, flag_of, flag_in, file_kind_in, ends_of, changes_in, optional_name_of, optional_name_in, counted, origin_in, file_created, member_added, journaling_started, after_image, undo_after_image, body_of, is_image, is_optional_image, holds_fields, has_spelling, spelled, entry_from, typed_entry, entry_of, entries_in}
use Rattle.listing_words.specs.EntryTypes.{entry_named, file_type, record_type, cycle_type, journal_type}
use Rattle.listing_reader.specs.Listed.{IsName, IsNumber, IsLong, AreBytes, AreOptionalBytes, AreKindBytes, IsEntry, AreEntries, shown_kind, shown_entry}
use Rattle.listing_words.specs.Values.{text_of}
use Rattle.listing_words.specs.Words.{inside, behind_given, name_of}
use Rattle.listing_reader.specs.declared.entry_fields.Origin.{Origin}
use Rattle.listing_words.specs.declared.entry_types.EntryType.{EntryType}
use Rattle.listing_words.specs.declared.entry_types.EntryType.TheVariants as entry_type
use Rattle.listing_reader.proofs.ScanLemmas.{LiesInside, IsWord, Follows, both, nothing, inside-append, spaced-words}
use Rattle.listing_reader.proofs.TextLemmas.{apart, name-text, name-inside, decimal-inside, decimal-word, decimal-digits, text-inside, text-word}
use Rattle.listing_reader.proofs.ValueLemmas.{long-decimal, text-read}
use Rattle.listing_reader.proofs.ParameterLemmas.{word_of, parameter-follows, inside-own, given-own, given-next, some-then, name-given, number-given, long-given}
use Rattle.listing_reader.proofs.ChoiceLemmas.{level-inner, images-inner, level-given, images-given}

-- ---- two words

two-words : (first second : List ℕ) → IsWord first → IsWord second → two (words (first ++ 32 ∷ second)) ≡ Some (first, second)
two-words first second one other =
    ap (λ t. two (words (first ++ 32 ∷ t))) (sym (append-nil second)) ∙ ap two (spaced-words first (second ∷ []) one (other, tt))

two-inner : (first second : List ℕ) → LiesInside first → LiesInside second → LiesInside (first ++ 32 ∷ second)
two-inner first second one other = inside-append first (32 ∷ second) one other

-- ---- ranges

abbrev pub changes_words : ℕ → ℕ → ℕ → List (List ℕ)
changes_words first last changes = word_of (codes "ENT") (decimal first ++ 32 ∷ decimal last) ∷ word_of (codes "CHG") (decimal changes) ∷ []

pub changes-follows : (first last changes : ℕ) → IsLong first × IsLong last × IsNumber changes → Follows (range_parameter first last changes) (changes_words first last changes)
changes-follows first last changes is =
    both _ _ (word_of (codes "ENT") (decimal first ++ 32 ∷ decimal last) ∷ []) (word_of (codes "CHG") (decimal changes) ∷ []) (parameter-follows (codes "ENT") (decimal first ++ 32
    ∷ decimal last) refl refl (two-inner (decimal first) (decimal last) (decimal-inside first (omega (arith, is.0))) (decimal-inside last (omega (arith, is.1)))))
    (parameter-follows (codes "CHG") (decimal changes) refl refl (decimal-inside changes (omega (arith, is.2))))

ends-read : (first last : ℕ) → IsLong first → IsLong last → ends_of (decimal first ++ 32 ∷ decimal last) ≡ Some (first, last)
unfolding ends_of
ends-read first last one other =
    some-then _ _ (decimal first, decimal last) _ (two-words (decimal first) (decimal last) (decimal-word first (omega (arith, one))) (decimal-word last (omega (arith, other)))) (
    some-then _ _ first _ (long-decimal first one) (
    some-then _ _ last _ (long-decimal last other) (
    refl)))

pub changes-read : (first last changes : ℕ) (more : List (List ℕ)) → IsLong first × IsLong last × IsNumber changes → changes_in (changes_words first last changes ++ more)
    ≡ Some (record { first = first; last = last; changes = changes })
unfolding changes_in inside
changes-read first last changes more is =
    some-then _ _ (decimal first ++ 32 ∷ decimal last) _ (given-own (codes "ENT") (decimal first ++ 32 ∷ decimal last) (word_of (codes "CHG") (decimal changes) ∷ more) refl) (
    some-then _ _ (first, last) _ (ends-read first last is.0 is.1) (
    some-then _ _ changes _ (number-given (codes "CHG") changes (changes_words first last changes ++ more) (given-next (codes "CHG") (word_of (codes "ENT") (decimal first ++ 32
    ∷ decimal last)) (word_of (codes "CHG") (decimal changes) ∷ more) refl refl ∙ given-own (codes "CHG") (decimal changes) more refl) is.2) (
    refl)))

-- ---- images

flagged-inner : (flag image : List ℕ) → LiesInside flag → LiesInside (flag ++ 32 ∷ text_literal image)
flagged-inner flag image lies = two-inner flag (text_literal image) lies (text-inside image)

image-of : (flag image : List ℕ) → IsWord flag → AreBytes image → image_of (flag ++ 32 ∷ text_literal image) ≡ Some image
unfolding image_of
image-of flag image is bytes = some-then _ _ (flag, text_literal image) _ (two-words flag (text_literal image) is (text-word image)) (text-read image bytes)

image-read : (flag image : List ℕ) (more : List (List ℕ)) → IsWord flag → AreBytes image → image_in (word_of (codes "IMG") (flag ++ 32 ∷ text_literal image) ∷ more) ≡ Some image
unfolding image_in
image-read flag image more is bytes = some-then _ _ (flag ++ 32 ∷ text_literal image) _ (given-own (codes "IMG") (flag ++ 32 ∷ text_literal image) more refl) (image-of flag image is bytes)

one-word : IsWord (codes "1")
one-word = record { text = refl; closed = refl }

flag-word : (has : Bool) → IsWord (after_flag has)
flag-word false = record { text = refl; closed = refl }
flag-word true = record { text = refl; closed = refl }

flag-inner : (has : Bool) → LiesInside (after_flag has)
flag-inner false = refl
flag-inner true = refl

flag-same : (has : Bool) → is_word (codes "2") (after_flag has) ≡ has
flag-same false = refl
flag-same true = refl

flag-read : (has : Bool) (image : List ℕ) (more : List (List ℕ)) → flag_in (word_of (codes "IMG") (after_flag has ++ 32 ∷ text_literal image) ∷ more) ≡ Some has
unfolding flag_in flag_of
flag-read has image more =
    some-then _ _ (after_flag has ++ 32 ∷ text_literal image) _ (given-own (codes "IMG") (after_flag has ++ 32 ∷ text_literal image) more refl)
    (ap (option_map (λ parts. is_word (codes "2") parts.0)) (two-words (after_flag has) (text_literal image) (flag-word has) (text-word image)) ∙ ap (λ v. Some v) (flag-same has))

abbrev pub before_value : Option (List ℕ) → List ℕ
before_value None = codes "0"
before_value (Some image) = codes "1" ++ 32 ∷ text_literal image

before-text : (before : Option (List ℕ)) → optional_image_parameter before ≡ parameter (codes "IMG") (before_value before)
before-text None = refl
before-text (Some image) = refl

before-inner : (before : Option (List ℕ)) → LiesInside (before_value before)
before-inner None = refl
before-inner (Some image) = flagged-inner (codes "1") image refl

before-follows : (before : Option (List ℕ)) → Follows (optional_image_parameter before) (word_of (codes "IMG") (before_value before) ∷ [])
before-follows None = parameter-follows (codes "IMG") (before_value None) refl refl (before-inner None)
before-follows (Some image) = parameter-follows (codes "IMG") (before_value (Some image)) refl refl (before-inner (Some image))

no-image : optional_image_of (codes "0") ≡ Some None
unfolding optional_image_of words
no-image = refl

before-of : (before : Option (List ℕ)) → AreOptionalBytes before → optional_image_of (before_value before) ≡ Some before
unfolding optional_image_of
before-of None bytes = no-image
before-of (Some image) bytes =
    ap (λ o. option_map_or (λ parts. option_map (λ image. Some image) (text_of parts.1)) o (Some None)) (two-words (codes "1") (text_literal image) one-word (text-word image))
    ∙ ap (option_map (λ image. Some image)) (text-read image bytes)

before-read : (before : Option (List ℕ)) (more : List (List ℕ)) → AreOptionalBytes before → optional_image_in (word_of (codes "IMG") (before_value before) ∷ more) ≡ Some before
unfolding optional_image_in
before-read before more bytes = some-then _ _ (before_value before) _ (given-own (codes "IMG") (before_value before) more refl) (before-of before bytes)

-- ---- bodies

file_kind-inner : (x : FileKind) → LiesInside (file_kind_text x)
file_kind-inner file_kind.Physical = refl
file_kind-inner file_kind.Logical = refl

file_kind-read : (x : FileKind) → file_kind_of (file_kind_text x) ≡ Some x
unfolding file_kind_of
file_kind-read file_kind.Physical = refl
file_kind-read file_kind.Logical = refl

-- the type of a kind
abbrev pub type_of : EntryKind → EntryType
type_of (kind.FileCreated fk name source) = entry_type.FileCreated
type_of (kind.FileDeleted name) = entry_type.FileDeleted
type_of (kind.MemberAdded file name) = entry_type.MemberAdded
type_of (kind.JournalingStarted images slots) = entry_type.JournalingStarted
type_of (kind.InitialSlot image) = entry_type.InitialSlot
type_of kind.JournalingEnded = entry_type.JournalingEnded
type_of kind.MemberCleared = entry_type.MemberCleared
type_of kind.MemberReorganized = entry_type.MemberReorganized
type_of (kind.ChangesApplied first last changes) = entry_type.ChangesApplied
type_of (kind.ChangesRemoved first last changes) = entry_type.ChangesRemoved
type_of (kind.RecordAdded image) = entry_type.RecordAdded
type_of (kind.RecordAddedAtNumber image) = entry_type.RecordAddedAtNumber
type_of (kind.BeforeImage image) = entry_type.BeforeImage
type_of (kind.AfterImage has image) = entry_type.AfterImage
type_of (kind.RecordDeleted before) = entry_type.RecordDeleted
type_of (kind.UndoBeforeImage image) = entry_type.UndoBeforeImage
type_of (kind.UndoAfterImage has image) = entry_type.UndoAfterImage
type_of (kind.UndoDelete image) = entry_type.UndoDelete
type_of (kind.CommitmentStarted lvl) = entry_type.CommitmentStarted
type_of kind.CommitCycleStarted = entry_type.CommitCycleStarted
type_of kind.CommitCycleCommitted = entry_type.CommitCycleCommitted
type_of kind.CommitCycleRolledBack = entry_type.CommitCycleRolledBack
type_of kind.CommitmentEnded = entry_type.CommitmentEnded
type_of kind.AbnormalEnd = entry_type.AbnormalEnd
type_of (kind.NextReceiver number) = entry_type.NextReceiver
type_of (kind.PreviousReceiver number) = entry_type.PreviousReceiver

type-named : (k : EntryKind) → entry_named (drop 1 (letters k)) ≡ Some (type_of k)
unfolding entry_named file_type record_type cycle_type journal_type
type-named (kind.FileCreated fk name source) = refl
type-named (kind.FileDeleted name) = refl
type-named (kind.MemberAdded file name) = refl
type-named (kind.JournalingStarted images slots) = refl
type-named (kind.InitialSlot image) = refl
type-named kind.JournalingEnded = refl
type-named kind.MemberCleared = refl
type-named kind.MemberReorganized = refl
type-named (kind.ChangesApplied first last changes) = refl
type-named (kind.ChangesRemoved first last changes) = refl
type-named (kind.RecordAdded image) = refl
type-named (kind.RecordAddedAtNumber image) = refl
type-named (kind.BeforeImage image) = refl
type-named (kind.AfterImage has image) = refl
type-named (kind.RecordDeleted before) = refl
type-named (kind.UndoBeforeImage image) = refl
type-named (kind.UndoAfterImage has image) = refl
type-named (kind.UndoDelete image) = refl
type-named (kind.CommitmentStarted lvl) = refl
type-named kind.CommitCycleStarted = refl
type-named kind.CommitCycleCommitted = refl
type-named kind.CommitCycleRolledBack = refl
type-named kind.CommitmentEnded = refl
type-named kind.AbnormalEnd = refl
type-named (kind.NextReceiver number) = refl
type-named (kind.PreviousReceiver number) = refl

-- the words of a body: which they are, that the kind is read of them, and that none is a stroke
pub record IsBody (k : EntryKind) (ws : List (List ℕ)) : Type 0 where
  pub follows : Follows (body_text k) ws
  pub reads : (more : List (List ℕ)) → body_of (type_of k) (ws ++ more) ≡ Some (shown_kind k)
  pub strokes : (more : List (List ℕ)) → entries_in (ws ++ more) ≡ entries_in more

created-reads : (fk : FileKind) (name source : List ℕ) (more : List (List ℕ)) → IsName name → IsNumber (length source) → file_created ((word_of (codes "KIND") (file_kind_text fk)
    ∷ word_of (codes "NAME") name ∷ word_of (codes "LEN") (decimal (length source)) ∷ []) ++ more) ≡ Some (kind.FileCreated fk name (replicate (length source) 32))
unfolding file_created file_kind_in inside
created-reads fk name source more is small =
    some-then _ _ fk _ (some-then _ _ (file_kind_text fk) _ (given-own (codes "KIND") (file_kind_text fk) (word_of (codes "NAME") name ∷ word_of (codes "LEN") (decimal (length source))
    ∷ more) refl) (file_kind-read fk)) (
    some-then _ _ name _ (name-given (codes "NAME") name (word_of (codes "KIND") (file_kind_text fk) ∷ word_of (codes "NAME") name ∷ word_of (codes "LEN") (decimal (length source)) ∷ more)
    (given-next (codes "NAME") (word_of (codes "KIND") (file_kind_text fk)) (word_of (codes "NAME") name ∷ word_of (codes "LEN") (decimal (length source)) ∷ more) refl refl
    ∙ given-own (codes "NAME") name (word_of (codes "LEN") (decimal (length source)) ∷ more) refl) is) (
    some-then _ _ (length source) _ (number-given (codes "LEN") (length source) (word_of (codes "KIND") (file_kind_text fk) ∷ word_of (codes "NAME") name
    ∷ word_of (codes "LEN") (decimal (length source)) ∷ more) (given-next (codes "LEN") (word_of (codes "KIND") (file_kind_text fk)) (word_of (codes "NAME") name
    ∷ word_of (codes "LEN") (decimal (length source)) ∷ more) refl refl ∙ given-next (codes "LEN") (word_of (codes "NAME") name) (word_of (codes "LEN") (decimal (length source))
    ∷ more) refl refl ∙ given-own (codes "LEN") (decimal (length source)) (more) refl) small) (
    refl)))

added-reads : (file name : List ℕ) (more : List (List ℕ)) → IsName file × IsName name → member_added ((word_of (codes "NAME") file ∷ word_of (codes "MBR") name ∷ []) ++ more)
    ≡ Some (kind.MemberAdded file name)
unfolding member_added inside
added-reads file name more is =
    some-then _ _ file _ (name-given (codes "NAME") file (word_of (codes "NAME") file ∷ word_of (codes "MBR") name ∷ more) (given-own (codes "NAME") file (word_of (codes "MBR") name
    ∷ more) refl) is.0) (
    some-then _ _ name _ (name-given (codes "MBR") name (word_of (codes "NAME") file ∷ word_of (codes "MBR") name ∷ more) (given-next (codes "MBR") (word_of (codes "NAME") file)
    (word_of (codes "MBR") name ∷ more) refl refl ∙ given-own (codes "MBR") name (more) refl) is.1) (
    refl))

started-reads : (images : Images) (slots : ℕ) (more : List (List ℕ)) → IsNumber slots → journaling_started ((word_of (codes "IMAGES") (images_text images)
    ∷ word_of (codes "SLOTS") (decimal slots) ∷ []) ++ more) ≡ Some (kind.JournalingStarted images slots)
unfolding journaling_started inside
started-reads images slots more is =
    some-then _ _ images _ (images-given (codes "IMAGES") images (word_of (codes "IMAGES") (images_text images) ∷ word_of (codes "SLOTS") (decimal slots) ∷ more)
    (given-own (codes "IMAGES") (images_text images) (word_of (codes "SLOTS") (decimal slots) ∷ more) refl)) (
    some-then _ _ slots _ (number-given (codes "SLOTS") slots (word_of (codes "IMAGES") (images_text images) ∷ word_of (codes "SLOTS") (decimal slots) ∷ more) (given-next (codes "SLOTS")
    (word_of (codes "IMAGES") (images_text images)) (word_of (codes "SLOTS") (decimal slots) ∷ more) refl refl ∙ given-own (codes "SLOTS") (decimal slots) (more) refl) is) (
    refl))

after-reads : (has : Bool) (image : List ℕ) (more : List (List ℕ)) → AreBytes image → after_image (word_of (codes "IMG") (after_flag has ++ 32 ∷ text_literal image) ∷ more)
    ≡ Some (kind.AfterImage has image)
unfolding after_image
after-reads has image more bytes =
    some-then _ _ has _ (flag-read has image more) (
    some-then _ _ image _ (image-read (after_flag has) image more (flag-word has) bytes) (
    refl))

undo-after-reads : (has : Bool) (image : List ℕ) (more : List (List ℕ)) → AreBytes image → undo_after_image (word_of (codes "IMG") (after_flag has ++ 32 ∷ text_literal image) ∷ more)
    ≡ Some (kind.UndoAfterImage has image)
unfolding undo_after_image
undo-after-reads has image more bytes =
    some-then _ _ has _ (flag-read has image more) (
    some-then _ _ image _ (image-read (after_flag has) image more (flag-word has) bytes) (
    refl))

pub body-is : (k : EntryKind) → IsKind k → HoldsFields k → AreKindBytes k → (ws : List (List ℕ)) × IsBody k ws
unfolding body_of
body-is (kind.FileCreated fk name source) is holds bytes = (
  (word_of (codes "KIND") (file_kind_text fk) ∷ word_of (codes "NAME") name ∷ word_of (codes "LEN") (decimal (length source))
      ∷ []),
  record {
    follows = (both _ _ (word_of (codes "KIND") (file_kind_text fk) ∷ word_of (codes "NAME") name ∷ []) (word_of (codes "LEN") (decimal (length source)) ∷ []) (both _ _
        (word_of (codes "KIND") (file_kind_text fk) ∷ []) (word_of (codes "NAME") name ∷ []) (parameter-follows (codes "KIND") (file_kind_text fk) refl refl (file_kind-inner fk))
        (parameter-follows (codes "NAME") name refl refl (name-inside name is)))
        (parameter-follows (codes "LEN") (decimal (length source)) refl refl (decimal-inside (length source) (omega (arith, holds)))));
    reads = λ more. created-reads fk name source more is (omega (arith, holds));
    strokes = λ more. refl;
  },
)
body-is (kind.FileDeleted name) is holds bytes = (
  (word_of (codes "NAME") name ∷ []),
  record {
    follows = (parameter-follows (codes "NAME") name refl refl (name-inside name is));
    reads = λ more. ap (option_map kind.FileDeleted) (name-given (codes "NAME") name (word_of (codes "NAME") name ∷ more) (given-own (codes "NAME") name (more) refl) is);
    strokes = λ more. refl;
  },
)
body-is (kind.MemberAdded file name) is holds bytes = (
  (word_of (codes "NAME") file ∷ word_of (codes "MBR") name ∷ []),
  record {
    follows = (both _ _ (word_of (codes "NAME") file ∷ [])
        (word_of (codes "MBR") name ∷ []) (parameter-follows (codes "NAME") file refl refl (name-inside file is.0)) (parameter-follows (codes "MBR") name refl refl (name-inside name is.1)));
    reads = λ more. added-reads file name more is;
    strokes = λ more. refl;
  },
)
body-is (kind.JournalingStarted images slots) is holds bytes = (
  (word_of (codes "IMAGES") (images_text images) ∷ word_of (codes "SLOTS") (decimal slots) ∷ []),
  record {
    follows = (both _ _
        (word_of (codes "IMAGES") (images_text images) ∷ []) (word_of (codes "SLOTS") (decimal slots) ∷ [])
        (parameter-follows (codes "IMAGES") (images_text images) refl refl (images-inner images))
        (parameter-follows (codes "SLOTS") (decimal slots) refl refl (decimal-inside slots (omega (arith, is)))));
    reads = λ more. started-reads images slots more is;
    strokes = λ more. refl;
  },
)
body-is (kind.InitialSlot image) is holds bytes = (
  (word_of (codes "IMG") (codes "1" ++ 32 ∷ text_literal image) ∷ []),
  record {
    follows = parameter-follows (codes "IMG") (codes "1" ++ 32
        ∷ text_literal image) refl refl (flagged-inner (codes "1") image refl);
    reads = λ more. ap (option_map kind.InitialSlot) (image-read (codes "1") image more one-word bytes);
    strokes = λ more. refl;
  },
)
body-is kind.JournalingEnded is holds bytes = ([], record { follows = nothing; reads = λ more. refl; strokes = λ more. refl })
body-is kind.MemberCleared is holds bytes = ([], record { follows = nothing; reads = λ more. refl; strokes = λ more. refl })
body-is kind.MemberReorganized is holds bytes = ([], record { follows = nothing; reads = λ more. refl; strokes = λ more. refl })
body-is (kind.ChangesApplied first last changes) is holds bytes = (
  (changes_words first last changes),
  record {
    follows = changes-follows first last changes is;
    reads = λ more. ap (option_map (λ c. kind.ChangesApplied c.first c.last c.changes)) (changes-read first last changes more is);
    strokes = λ more. refl;
  },
)
body-is (kind.ChangesRemoved first last changes) is holds bytes = (
  (changes_words first last changes),
  record {
    follows = changes-follows first last changes is;
    reads = λ more. ap (option_map (λ c. kind.ChangesRemoved c.first c.last c.changes)) (changes-read first last changes more is);
    strokes = λ more. refl;
  },
)
body-is (kind.RecordAdded image) is holds bytes = (
  (word_of (codes "IMG") (codes "1" ++ 32 ∷ text_literal image) ∷ []),
  record {
    follows = parameter-follows (codes "IMG") (codes "1" ++ 32
        ∷ text_literal image) refl refl (flagged-inner (codes "1") image refl);
    reads = λ more. ap (option_map kind.RecordAdded) (image-read (codes "1") image more one-word bytes);
    strokes = λ more. refl;
  },
)
body-is (kind.RecordAddedAtNumber image) is holds bytes = (
  (word_of (codes "IMG") (codes "1" ++ 32 ∷ text_literal image) ∷ []),
  record {
    follows = parameter-follows (codes "IMG") (codes "1" ++ 32 ∷ text_literal image) refl refl (flagged-inner (codes "1") image refl);
    reads = λ more. ap (option_map kind.RecordAddedAtNumber) (image-read (codes "1") image more one-word bytes);
    strokes = λ more. refl;
  },
)
body-is (kind.BeforeImage image) is holds bytes = (
  (word_of (codes "IMG") (codes "1" ++ 32 ∷ text_literal image) ∷ []),
  record {
    follows = parameter-follows (codes "IMG") (codes "1" ++ 32
        ∷ text_literal image) refl refl (flagged-inner (codes "1") image refl);
    reads = λ more. ap (option_map kind.BeforeImage) (image-read (codes "1") image more one-word bytes);
    strokes = λ more. refl;
  },
)
body-is (kind.AfterImage has image) is holds bytes = (
  (word_of (codes "IMG") (after_flag has ++ 32 ∷ text_literal image) ∷ []),
  record {
    follows = parameter-follows (codes "IMG") (after_flag has ++ 32 ∷ text_literal image) refl refl (flagged-inner (after_flag has) image (flag-inner has));
    reads = λ more. after-reads has image more bytes;
    strokes = λ more. refl;
  },
)
body-is (kind.RecordDeleted before) is holds bytes = (
  (word_of (codes "IMG") (before_value before) ∷ []),
  record {
    follows = before-follows before;
    reads = λ more. ap (option_map kind.RecordDeleted) (before-read before more bytes);
    strokes = λ more. refl;
  },
)
body-is (kind.UndoBeforeImage image) is holds bytes = (
  (word_of (codes "IMG") (codes "1" ++ 32 ∷ text_literal image) ∷ []),
  record {
    follows = parameter-follows (codes "IMG") (codes "1" ++ 32 ∷ text_literal image) refl refl (flagged-inner (codes "1") image refl);
    reads = λ more. ap (option_map kind.UndoBeforeImage) (image-read (codes "1") image more one-word bytes);
    strokes = λ more. refl;
  },
)
body-is (kind.UndoAfterImage has image) is holds bytes = (
  (word_of (codes "IMG") (after_flag has ++ 32 ∷ text_literal image) ∷ []),
  record {
    follows = parameter-follows (codes "IMG") (after_flag has ++ 32 ∷ text_literal image) refl refl (flagged-inner (after_flag has) image (flag-inner has));
    reads = λ more. undo-after-reads has image more bytes;
    strokes = λ more. refl;
  },
)
body-is (kind.UndoDelete image) is holds bytes = (
  (word_of (codes "IMG") (codes "1" ++ 32 ∷ text_literal image) ∷ []),
  record {
    follows = parameter-follows (codes "IMG") (codes "1" ++ 32
        ∷ text_literal image) refl refl (flagged-inner (codes "1") image refl);
    reads = λ more. ap (option_map kind.UndoDelete) (image-read (codes "1") image more one-word bytes);
    strokes = λ more. refl;
  },
)
body-is (kind.CommitmentStarted lvl) is holds bytes = (
  (word_of (codes "LVL") (level_text lvl) ∷ []),
  record {
    follows = parameter-follows (codes "LVL") (level_text lvl) refl refl (level-inner lvl);
    reads = λ more. ap (option_map kind.CommitmentStarted) (level-given (codes "LVL") lvl
        (word_of (codes "LVL") (level_text lvl) ∷ more) (given-own (codes "LVL") (level_text lvl) more refl));
    strokes = λ more. refl;
  },
)
body-is kind.CommitCycleStarted is holds bytes = ([], record { follows = nothing; reads = λ more. refl; strokes = λ more. refl })
body-is kind.CommitCycleCommitted is holds bytes = ([], record { follows = nothing; reads = λ more. refl; strokes = λ more. refl })
body-is kind.CommitCycleRolledBack is holds bytes = ([], record { follows = nothing; reads = λ more. refl; strokes = λ more. refl })
body-is kind.CommitmentEnded is holds bytes = ([], record { follows = nothing; reads = λ more. refl; strokes = λ more. refl })
body-is kind.AbnormalEnd is holds bytes = ([], record { follows = nothing; reads = λ more. refl; strokes = λ more. refl })
body-is (kind.NextReceiver number) is holds bytes = (
  (word_of (codes "RCV") (decimal number) ∷ []),
  record {
    follows =
        (parameter-follows (codes "RCV") (decimal number) refl refl (decimal-inside number (omega (arith, is))));
    reads = λ more. ap (option_map kind.NextReceiver) (number-given (codes "RCV") number (word_of (codes "RCV") (decimal number) ∷ more)
        (given-own (codes "RCV") (decimal number) (more) refl) is);
    strokes = λ more. refl;
  },
)
body-is (kind.PreviousReceiver number) is holds bytes = (
  (word_of (codes "RCV") (decimal number) ∷ []),
  record {
    follows =
        (parameter-follows (codes "RCV") (decimal number) refl refl (decimal-inside number (omega (arith, is))));
    reads = λ more. ap (option_map kind.PreviousReceiver) (number-given (codes "RCV") number (word_of (codes "RCV") (decimal number) ∷ more)
        (given-own (codes "RCV") (decimal number) (more) refl) is);
    strokes = λ more. refl;
  },
)

-- ---- origins

small-or-0 : (o : Option ℕ) (bound : ℕ) → 0 < bound → IfSome o (λ n. n < bound) → unwrap_or o 0 < bound
small-or-0 None bound some is = some
small-or-0 (Some n) bound some is = is

absent-counted : (o : Option ℕ) → is_absent o ≡ true → counted (unwrap_or o 0) ≡ o
absent-counted None is = refl
absent-counted (Some n) is = absurd cc

positive-counted : (n : ℕ) → nat_lt 0 n ≡ true → counted n ≡ Some n
positive-counted zero is = absurd cc
positive-counted (suc n) is = cond-false (suc n == 0) None (Some (suc n)) (ne_eqb (suc n) 0 (λ e. absurd (omega arith)))

present-counted : (o : Option ℕ) → is_present o ≡ true → counted (unwrap_or o 0) ≡ o
present-counted None is = absurd cc
present-counted (Some n) is = positive-counted n is

counted-counted : (o : Option ℕ) → is_counted o ≡ true → counted (unwrap_or o 0) ≡ o
counted-counted None is = refl
counted-counted (Some n) is = positive-counted n is

own-counted : (sequence : ℕ) (o : Option ℕ) → is_own sequence o ≡ true → counted (unwrap_or o 0) ≡ o
own-counted sequence None is = absurd cc
own-counted sequence (Some n) is = positive-counted n (and_parts (nat_lt 0 n) (n == sequence) is).0

abbrev pub AreCounted : Option ℕ → Option ℕ → Option ℕ → Type 0
AreCounted group member rrn = (counted (unwrap_or group 0) ≡ group) × (counted (unwrap_or member 0) ≡ member) × (counted (unwrap_or rrn 0) ≡ rrn)

three-parts : (a b c : Bool) → a && b && c ≡ true → (a ≡ true) × (b ≡ true) × (c ≡ true)
three-parts a b c is = let front = and_parts (a && b) c is in let parts = and_parts a b front.0 in (parts.0, parts.1, front.1)

placed-counted : (p : Place) (sequence : ℕ) (group member rrn : Option ℕ) → is_placed_at p sequence group member rrn ≡ true → AreCounted group member rrn
placed-counted place_kind.Library sequence group member rrn is = let parts = three-parts (is_absent group) (is_absent member) (is_absent rrn) is in (absent-counted group parts.0, absent-counted member parts.1, absent-counted rrn parts.2)
placed-counted place_kind.Member sequence group member rrn is = let parts = three-parts (is_absent group) (is_present member) (is_absent rrn) is in (absent-counted group parts.0, present-counted member parts.1, absent-counted rrn parts.2)
placed-counted place_kind.Slot sequence group member rrn is = let parts = three-parts (is_absent group) (is_present member) (is_present rrn) is in (absent-counted group parts.0, present-counted member parts.1, present-counted rrn parts.2)
placed-counted place_kind.Record sequence group member rrn is = let parts = three-parts (is_counted group) (is_present member) (is_present rrn) is in (counted-counted group parts.0, present-counted member parts.1, present-counted rrn parts.2)
placed-counted place_kind.Commitment sequence group member rrn is = let parts = three-parts (is_counted group) (is_absent member) (is_absent rrn) is in (counted-counted group parts.0, absent-counted member parts.1, absent-counted rrn parts.2)
placed-counted place_kind.CycleStart sequence group member rrn is = let parts = three-parts (is_own sequence group) (is_absent member) (is_absent rrn) is in (own-counted sequence group parts.0, absent-counted member parts.1, absent-counted rrn parts.2)
placed-counted place_kind.CycleEnd sequence group member rrn is = let parts = three-parts (is_present group) (is_absent member) (is_absent rrn) is in (present-counted group parts.0, absent-counted member parts.1, absent-counted rrn parts.2)

job-inner : (job : Option (List ℕ)) → IfSome job (λ name. IsTrue (is_name name)) → LiesInside (job_text job)
job-inner None is = refl
job-inner (Some name) is = name-inside name is

job-read : (job : Option (List ℕ)) → IfSome job (λ name. IsTrue (is_name name)) → optional_name_of (job_text job) ≡ Some job
unfolding optional_name_of
job-read None is = refl
job-read (Some name) is =
    cond-true (has_text name) (option_map (λ n. Some n) (name_of name)) (Some None) (name-text name is) ∙ ap (option_map (λ n. Some n)) (cond-true (is_name name) (Some name) None is)

abbrev pub origin_words : Entry → List (List ℕ)
origin_words e = (word_of (codes "JOB") (job_text e.job) ∷ word_of (codes "AT") (decimal e.moment) ∷ word_of (codes "GRP") (decimal (unwrap_or e.group 0))
    ∷ word_of (codes "MBR") (decimal (unwrap_or e.member 0)) ∷ word_of (codes "RRN") (decimal (unwrap_or e.rrn 0)) ∷ [])

origin-follows : (e : Entry) → IsHead e → Follows (origin_text e) (origin_words e)
unfolding origin_text
origin-follows e is =
    (both _ _ (word_of (codes "JOB") (job_text e.job) ∷ word_of (codes "AT") (decimal e.moment) ∷ word_of (codes "GRP") (decimal (unwrap_or e.group 0))
    ∷ word_of (codes "MBR") (decimal (unwrap_or e.member 0)) ∷ []) (word_of (codes "RRN") (decimal (unwrap_or e.rrn 0)) ∷ []) (both _ _ (word_of (codes "JOB") (job_text e.job)
    ∷ word_of (codes "AT") (decimal e.moment) ∷ word_of (codes "GRP") (decimal (unwrap_or e.group 0)) ∷ []) (word_of (codes "MBR") (decimal (unwrap_or e.member 0)) ∷ []) (both _ _
    (word_of (codes "JOB") (job_text e.job) ∷ word_of (codes "AT") (decimal e.moment) ∷ []) (word_of (codes "GRP") (decimal (unwrap_or e.group 0)) ∷ []) (both _ _
    (word_of (codes "JOB") (job_text e.job) ∷ []) (word_of (codes "AT") (decimal e.moment) ∷ []) (parameter-follows (codes "JOB") (job_text e.job) refl refl (job-inner e.job is.job))
    (parameter-follows (codes "AT") (decimal e.moment) refl refl (decimal-inside e.moment (omega (arith, is.moment)))))
    (parameter-follows (codes "GRP") (decimal (unwrap_or e.group 0)) refl refl (decimal-inside (unwrap_or e.group 0) (omega (arith, (small-or-0 e.group (2 ^ 64) (omega arith) is.group)))))) (parameter-follows (codes "MBR") (decimal (unwrap_or e.member 0)) refl refl (decimal-inside (unwrap_or e.member 0) (omega (arith, (small-or-0 e.member (2 ^ 32) (omega arith) is.member)))))) (parameter-follows (codes "RRN") (decimal (unwrap_or e.rrn 0)) refl refl (decimal-inside (unwrap_or e.rrn 0) (omega (arith, (small-or-0 e.rrn (2 ^ 32) (omega arith) is.rrn))))))

abbrev pub origin_of : Entry → Origin
origin_of e = record { job = e.job; moment = e.moment; group = e.group; member = e.member; rrn = e.rrn }

origin-read : (e : Entry) → IsHead e → AreCounted e.group e.member e.rrn → (more : List (List ℕ)) → origin_in (origin_words e ++ more) ≡ Some (origin_of e)
unfolding origin_in optional_name_in inside
origin-read e is there more =
    some-then _ _ e.job _ (some-then _ _ (job_text e.job) _ (given-own (codes "JOB") (job_text e.job) (word_of (codes "AT") (decimal e.moment)
    ∷ word_of (codes "GRP") (decimal (unwrap_or e.group 0)) ∷ word_of (codes "MBR") (decimal (unwrap_or e.member 0)) ∷ word_of (codes "RRN") (decimal (unwrap_or e.rrn 0))
    ∷ more) refl) (job-read e.job is.job)) (
    some-then _ _ e.moment _ (long-given (codes "AT") e.moment (word_of (codes "JOB") (job_text e.job) ∷ word_of (codes "AT") (decimal e.moment)
    ∷ word_of (codes "GRP") (decimal (unwrap_or e.group 0)) ∷ word_of (codes "MBR") (decimal (unwrap_or e.member 0)) ∷ word_of (codes "RRN") (decimal (unwrap_or e.rrn 0)) ∷ more)
    (given-next (codes "AT") (word_of (codes "JOB") (job_text e.job)) (word_of (codes "AT") (decimal e.moment) ∷ word_of (codes "GRP") (decimal (unwrap_or e.group 0))
    ∷ word_of (codes "MBR") (decimal (unwrap_or e.member 0)) ∷ word_of (codes "RRN") (decimal (unwrap_or e.rrn 0)) ∷ more) refl refl ∙ given-own (codes "AT") (decimal e.moment)
    (word_of (codes "GRP") (decimal (unwrap_or e.group 0)) ∷ word_of (codes "MBR") (decimal (unwrap_or e.member 0)) ∷ word_of (codes "RRN") (decimal (unwrap_or e.rrn 0))
    ∷ more) refl) is.moment) (
    some-then _ _ (unwrap_or e.group 0) _ (long-given (codes "GRP") (unwrap_or e.group 0) (word_of (codes "JOB") (job_text e.job) ∷ word_of (codes "AT") (decimal e.moment)
    ∷ word_of (codes "GRP") (decimal (unwrap_or e.group 0)) ∷ word_of (codes "MBR") (decimal (unwrap_or e.member 0)) ∷ word_of (codes "RRN") (decimal (unwrap_or e.rrn 0)) ∷ more)
    (given-next (codes "GRP") (word_of (codes "JOB") (job_text e.job)) (word_of (codes "AT") (decimal e.moment) ∷ word_of (codes "GRP") (decimal (unwrap_or e.group 0))
    ∷ word_of (codes "MBR") (decimal (unwrap_or e.member 0)) ∷ word_of (codes "RRN") (decimal (unwrap_or e.rrn 0)) ∷ more) refl refl ∙ given-next (codes "GRP")
    (word_of (codes "AT") (decimal e.moment)) (word_of (codes "GRP") (decimal (unwrap_or e.group 0)) ∷ word_of (codes "MBR") (decimal (unwrap_or e.member 0))
    ∷ word_of (codes "RRN") (decimal (unwrap_or e.rrn 0)) ∷ more) refl refl ∙ given-own (codes "GRP") (decimal (unwrap_or e.group 0))
    (word_of (codes "MBR") (decimal (unwrap_or e.member 0)) ∷ word_of (codes "RRN") (decimal (unwrap_or e.rrn 0)) ∷ more) refl) (small-or-0 e.group (2 ^ 64) (omega arith) is.group)) (
    some-then _ _ (unwrap_or e.member 0) _ (number-given (codes "MBR") (unwrap_or e.member 0) (word_of (codes "JOB") (job_text e.job) ∷ word_of (codes "AT") (decimal e.moment)
    ∷ word_of (codes "GRP") (decimal (unwrap_or e.group 0)) ∷ word_of (codes "MBR") (decimal (unwrap_or e.member 0)) ∷ word_of (codes "RRN") (decimal (unwrap_or e.rrn 0)) ∷ more)
    (given-next (codes "MBR") (word_of (codes "JOB") (job_text e.job)) (word_of (codes "AT") (decimal e.moment) ∷ word_of (codes "GRP") (decimal (unwrap_or e.group 0))
    ∷ word_of (codes "MBR") (decimal (unwrap_or e.member 0)) ∷ word_of (codes "RRN") (decimal (unwrap_or e.rrn 0)) ∷ more) refl refl ∙ given-next (codes "MBR")
    (word_of (codes "AT") (decimal e.moment)) (word_of (codes "GRP") (decimal (unwrap_or e.group 0)) ∷ word_of (codes "MBR") (decimal (unwrap_or e.member 0))
    ∷ word_of (codes "RRN") (decimal (unwrap_or e.rrn 0)) ∷ more) refl refl ∙ given-next (codes "MBR") (word_of (codes "GRP") (decimal (unwrap_or e.group 0)))
    (word_of (codes "MBR") (decimal (unwrap_or e.member 0)) ∷ word_of (codes "RRN") (decimal (unwrap_or e.rrn 0)) ∷ more) refl refl
    ∙ given-own (codes "MBR") (decimal (unwrap_or e.member 0)) (word_of (codes "RRN") (decimal (unwrap_or e.rrn 0)) ∷ more) refl) (small-or-0 e.member (2 ^ 32) (omega arith) is.member)) (
    some-then _ _ (unwrap_or e.rrn 0) _ (number-given (codes "RRN") (unwrap_or e.rrn 0) (word_of (codes "JOB") (job_text e.job) ∷ word_of (codes "AT") (decimal e.moment)
    ∷ word_of (codes "GRP") (decimal (unwrap_or e.group 0)) ∷ word_of (codes "MBR") (decimal (unwrap_or e.member 0)) ∷ word_of (codes "RRN") (decimal (unwrap_or e.rrn 0)) ∷ more)
    (given-next (codes "RRN") (word_of (codes "JOB") (job_text e.job)) (word_of (codes "AT") (decimal e.moment) ∷ word_of (codes "GRP") (decimal (unwrap_or e.group 0))
    ∷ word_of (codes "MBR") (decimal (unwrap_or e.member 0)) ∷ word_of (codes "RRN") (decimal (unwrap_or e.rrn 0)) ∷ more) refl refl ∙ given-next (codes "RRN")
    (word_of (codes "AT") (decimal e.moment)) (word_of (codes "GRP") (decimal (unwrap_or e.group 0)) ∷ word_of (codes "MBR") (decimal (unwrap_or e.member 0))
    ∷ word_of (codes "RRN") (decimal (unwrap_or e.rrn 0)) ∷ more) refl refl ∙ given-next (codes "RRN") (word_of (codes "GRP") (decimal (unwrap_or e.group 0)))
    (word_of (codes "MBR") (decimal (unwrap_or e.member 0)) ∷ word_of (codes "RRN") (decimal (unwrap_or e.rrn 0)) ∷ more) refl refl ∙ given-next (codes "RRN")
    (word_of (codes "MBR") (decimal (unwrap_or e.member 0))) (word_of (codes "RRN") (decimal (unwrap_or e.rrn 0)) ∷ more) refl refl
    ∙ given-own (codes "RRN") (decimal (unwrap_or e.rrn 0)) (more) refl) (small-or-0 e.rrn (2 ^ 32) (omega arith) is.rrn)) (
    ap (λ g. Some (record { job = e.job; moment = e.moment; group = g; member = counted (unwrap_or e.member 0); rrn = counted (unwrap_or e.rrn 0) })) there.0
    ∙ ap (λ m. Some (record { job = e.job; moment = e.moment; group = e.group; member = m; rrn = counted (unwrap_or e.rrn 0) })) there.1
    ∙ ap (λ r. Some (record { job = e.job; moment = e.moment; group = e.group; member = e.member; rrn = r })) there.2)))))

behind-origin : (e : Entry) (more : List (List ℕ)) → behind_given (codes "RRN") (origin_words e ++ more) ≡ Some more
unfolding inside
behind-origin e more = ap (λ o. if is_some o then Some more else behind_given (codes "RRN") more) (inside-own (codes "RRN") (decimal (unwrap_or e.rrn 0)))

-- ---- entries

same-place : (k : EntryKind) → place (shown_kind k) ≡ place k
same-place (kind.FileCreated fk name source) = refl
same-place (kind.FileDeleted name) = refl
same-place (kind.MemberAdded file name) = refl
same-place (kind.JournalingStarted images slots) = refl
same-place (kind.InitialSlot image) = refl
same-place kind.JournalingEnded = refl
same-place kind.MemberCleared = refl
same-place kind.MemberReorganized = refl
same-place (kind.ChangesApplied first last changes) = refl
same-place (kind.ChangesRemoved first last changes) = refl
same-place (kind.RecordAdded image) = refl
same-place (kind.RecordAddedAtNumber image) = refl
same-place (kind.BeforeImage image) = refl
same-place (kind.AfterImage has image) = refl
same-place (kind.RecordDeleted before) = refl
same-place (kind.UndoBeforeImage image) = refl
same-place (kind.UndoAfterImage has image) = refl
same-place (kind.UndoDelete image) = refl
same-place (kind.CommitmentStarted lvl) = refl
same-place kind.CommitCycleStarted = refl
same-place kind.CommitCycleCommitted = refl
same-place kind.CommitCycleRolledBack = refl
same-place kind.CommitmentEnded = refl
same-place kind.AbnormalEnd = refl
same-place (kind.NextReceiver number) = refl
same-place (kind.PreviousReceiver number) = refl

image-holds : (image : List ℕ) → IsImage image → is_image image ≡ true
image-holds image is = ap (λ v. v && nat_le (length image) MAX_RECORD_LENGTH) (le-leb MIN_RECORD_LENGTH (length image) is.0) ∙ le-leb (length image) MAX_RECORD_LENGTH is.1

before-holds : (before : Option (List ℕ)) → IfSome before IsImage → is_optional_image before ≡ true
before-holds None is = refl
before-holds (Some image) is = image-holds image is

fields-hold : (k : EntryKind) → HoldsFields k → holds_fields (shown_kind k) ≡ true
fields-hold (kind.FileCreated fk name source) is = le-leb (suc (length (replicate (length source) 32))) 4294967236 (omega (arith, length-replicate {A = ℕ} (length source) 32, is))
fields-hold (kind.FileDeleted name) is = refl
fields-hold (kind.MemberAdded file name) is = refl
fields-hold (kind.JournalingStarted images slots) is = refl
fields-hold (kind.InitialSlot image) is = image-holds image is
fields-hold kind.JournalingEnded is = refl
fields-hold kind.MemberCleared is = refl
fields-hold kind.MemberReorganized is = refl
fields-hold (kind.ChangesApplied first last changes) is = refl
fields-hold (kind.ChangesRemoved first last changes) is = refl
fields-hold (kind.RecordAdded image) is = image-holds image is
fields-hold (kind.RecordAddedAtNumber image) is = image-holds image is
fields-hold (kind.BeforeImage image) is = image-holds image is
fields-hold (kind.AfterImage has image) is = image-holds image is
fields-hold (kind.RecordDeleted before) is = before-holds before is
fields-hold (kind.UndoBeforeImage image) is = image-holds image is
fields-hold (kind.UndoAfterImage has image) is = image-holds image is
fields-hold (kind.UndoDelete image) is = image-holds image is
fields-hold (kind.CommitmentStarted lvl) is = refl
fields-hold kind.CommitCycleStarted is = refl
fields-hold kind.CommitCycleCommitted is = refl
fields-hold kind.CommitCycleRolledBack is = refl
fields-hold kind.CommitmentEnded is = refl
fields-hold kind.AbnormalEnd is = refl
fields-hold (kind.NextReceiver number) is = refl
fields-hold (kind.PreviousReceiver number) is = refl

spelled-shown : (e : Entry) → HasSpelling e → spelled (entry_from e.sequence (origin_of e) (shown_kind e.kind)) ≡ Some (shown_entry e)
spelled-shown e is =
    let placed : is_placed (shown_entry e) ≡ true = ap (λ p. is_placed_at p e.sequence e.group e.member e.rrn) (same-place e.kind) ∙ is.placed in
    let both : has_spelling (shown_entry e) ≡ true = ap (λ v. v && holds_fields (shown_kind e.kind)) placed ∙ fields-hold e.kind is.fields in
    cond-true (has_spelling (shown_entry e)) (Some (shown_entry e)) None both

abbrev pub code_word : Entry → List ℕ
code_word e = take 1 (letters e.kind)

abbrev pub type_word : Entry → List ℕ
type_word e = drop 1 (letters e.kind)

code-word : (k : EntryKind) → IsWord (take 1 (letters k)) × (is_word (codes "/") (take 1 (letters k)) ≡ false)
code-word (kind.FileCreated fk name source) = (record { text = refl; closed = refl }, refl)
code-word (kind.FileDeleted name) = (record { text = refl; closed = refl }, refl)
code-word (kind.MemberAdded file name) = (record { text = refl; closed = refl }, refl)
code-word (kind.JournalingStarted images slots) = (record { text = refl; closed = refl }, refl)
code-word (kind.InitialSlot image) = (record { text = refl; closed = refl }, refl)
code-word kind.JournalingEnded = (record { text = refl; closed = refl }, refl)
code-word kind.MemberCleared = (record { text = refl; closed = refl }, refl)
code-word kind.MemberReorganized = (record { text = refl; closed = refl }, refl)
code-word (kind.ChangesApplied first last changes) = (record { text = refl; closed = refl }, refl)
code-word (kind.ChangesRemoved first last changes) = (record { text = refl; closed = refl }, refl)
code-word (kind.RecordAdded image) = (record { text = refl; closed = refl }, refl)
code-word (kind.RecordAddedAtNumber image) = (record { text = refl; closed = refl }, refl)
code-word (kind.BeforeImage image) = (record { text = refl; closed = refl }, refl)
code-word (kind.AfterImage has image) = (record { text = refl; closed = refl }, refl)
code-word (kind.RecordDeleted before) = (record { text = refl; closed = refl }, refl)
code-word (kind.UndoBeforeImage image) = (record { text = refl; closed = refl }, refl)
code-word (kind.UndoAfterImage has image) = (record { text = refl; closed = refl }, refl)
code-word (kind.UndoDelete image) = (record { text = refl; closed = refl }, refl)
code-word (kind.CommitmentStarted lvl) = (record { text = refl; closed = refl }, refl)
code-word kind.CommitCycleStarted = (record { text = refl; closed = refl }, refl)
code-word kind.CommitCycleCommitted = (record { text = refl; closed = refl }, refl)
code-word kind.CommitCycleRolledBack = (record { text = refl; closed = refl }, refl)
code-word kind.CommitmentEnded = (record { text = refl; closed = refl }, refl)
code-word kind.AbnormalEnd = (record { text = refl; closed = refl }, refl)
code-word (kind.NextReceiver number) = (record { text = refl; closed = refl }, refl)
code-word (kind.PreviousReceiver number) = (record { text = refl; closed = refl }, refl)

type-word : (k : EntryKind) → IsWord (drop 1 (letters k)) × (is_word (codes "/") (drop 1 (letters k)) ≡ false)
type-word (kind.FileCreated fk name source) = (record { text = refl; closed = refl }, refl)
type-word (kind.FileDeleted name) = (record { text = refl; closed = refl }, refl)
type-word (kind.MemberAdded file name) = (record { text = refl; closed = refl }, refl)
type-word (kind.JournalingStarted images slots) = (record { text = refl; closed = refl }, refl)
type-word (kind.InitialSlot image) = (record { text = refl; closed = refl }, refl)
type-word kind.JournalingEnded = (record { text = refl; closed = refl }, refl)
type-word kind.MemberCleared = (record { text = refl; closed = refl }, refl)
type-word kind.MemberReorganized = (record { text = refl; closed = refl }, refl)
type-word (kind.ChangesApplied first last changes) = (record { text = refl; closed = refl }, refl)
type-word (kind.ChangesRemoved first last changes) = (record { text = refl; closed = refl }, refl)
type-word (kind.RecordAdded image) = (record { text = refl; closed = refl }, refl)
type-word (kind.RecordAddedAtNumber image) = (record { text = refl; closed = refl }, refl)
type-word (kind.BeforeImage image) = (record { text = refl; closed = refl }, refl)
type-word (kind.AfterImage has image) = (record { text = refl; closed = refl }, refl)
type-word (kind.RecordDeleted before) = (record { text = refl; closed = refl }, refl)
type-word (kind.UndoBeforeImage image) = (record { text = refl; closed = refl }, refl)
type-word (kind.UndoAfterImage has image) = (record { text = refl; closed = refl }, refl)
type-word (kind.UndoDelete image) = (record { text = refl; closed = refl }, refl)
type-word (kind.CommitmentStarted lvl) = (record { text = refl; closed = refl }, refl)
type-word kind.CommitCycleStarted = (record { text = refl; closed = refl }, refl)
type-word kind.CommitCycleCommitted = (record { text = refl; closed = refl }, refl)
type-word kind.CommitCycleRolledBack = (record { text = refl; closed = refl }, refl)
type-word kind.CommitmentEnded = (record { text = refl; closed = refl }, refl)
type-word kind.AbnormalEnd = (record { text = refl; closed = refl }, refl)
type-word (kind.NextReceiver number) = (record { text = refl; closed = refl }, refl)
type-word (kind.PreviousReceiver number) = (record { text = refl; closed = refl }, refl)

digits-no-stroke : (ds : List ℕ) → list_all is_digit ds ≡ true → is_word (codes "/") ds ≡ false
digits-no-stroke [] all = refl
digits-no-stroke (d ∷ ds) all = ap (λ v. v && pointwise nat_eq ds []) (apart is_digit d 47 (and_parts (is_digit d) (list_all is_digit ds) all).0 refl)

-- the words of an entry behind its stroke
abbrev pub place_words : Entry → List (List ℕ)
place_words e = codes "/" ∷ codes "ENT" ∷ decimal e.sequence ∷ code_word e ∷ type_word e ∷ []

place-follows : (e : Entry) → IsLong e.sequence → Follows (codes " / " ++ place_text e) (place_words e)
unfolding place_text
place-follows e small =
    record {
      text_is = ap (λ t. codes " / ENT " ++ (decimal e.sequence ++ 32 ∷ (code_word e ++ 32 ∷ t))) (sym (append-nil (type_word e)));
      are = (record { text = refl; closed = refl }, (record { text = refl; closed = refl }, (decimal-word e.sequence (omega (arith, small)), ((code-word e.kind).0, ((type-word e.kind).0, tt)))));
    }

abbrev pub entry_words : Entry → List (List ℕ) → List (List ℕ)
entry_words e body = place_words e ++ origin_words e ++ body

entry-follows : (e : Entry) (body : List (List ℕ)) → IsEntry e → IsBody e.kind body → Follows (stroked_entry e) (entry_words e body)
entry-follows e body is there = both _ _ (place_words e ++ origin_words e) body
    (both _ _ (place_words e) (origin_words e) (place-follows e is.head.sequence) (origin-follows e is.head)) there.follows

entry-read : (e : Entry) (body more : List (List ℕ)) → IsEntry e → IsBody e.kind body → entry_of (codes "ENT" ∷ decimal e.sequence ∷ code_word e ∷ type_word e
    ∷ (origin_words e ++ (body ++ more))) ≡ Some (shown_entry e)
unfolding entry_of typed_entry
entry-read e body more is there =
    some-then _ _ e.sequence _ (long-decimal e.sequence is.head.sequence) (
    some-then _ _ (type_of e.kind) _ (type-named e.kind) (
    some-then _ _ (origin_of e) _ (origin-read e is.head (placed-counted (place e.kind) e.sequence e.group e.member e.rrn is.spelled.placed) (body ++ more)) (
    some-then _ _ (body ++ more) _ (behind-origin e (body ++ more)) (
    some-then _ _ (shown_kind e.kind) _ (there.reads more) (
    spelled-shown e is.spelled)))))

-- an entry in front of others
entry-first : (e : Entry) (body more : List (List ℕ)) → IsEntry e → IsBody e.kind body → entries_in (entry_words e body ++ more) ≡ onto_others (Some (shown_entry e)) (entries_in more)
entry-first e body more is there =
    let rest = origin_words e ++ (body ++ more) in
    let number : entries_in (decimal e.sequence ∷ code_word e ∷ type_word e ∷ rest) ≡ entries_in (code_word e ∷ type_word e ∷ rest) =
    cond-false (is_word (codes "/") (decimal e.sequence)) _ _ (digits-no-stroke (decimal e.sequence) (decimal-digits e.sequence (omega (arith, is.head.sequence)))) in
    let code : entries_in (code_word e ∷ type_word e ∷ rest) ≡ entries_in (type_word e ∷ rest) = cond-false (is_word (codes "/") (code_word e)) _ _ (code-word e.kind).1 in
    let letters_of : entries_in (type_word e ∷ rest) ≡ entries_in rest = cond-false (is_word (codes "/") (type_word e)) _ _ (type-word e.kind).1 in
    ap (λ o. onto_others o (entries_in (codes "ENT" ∷ decimal e.sequence ∷ code_word e ∷ type_word e ∷ rest))) (entry-read e body more is there)
    ∙ ap (onto_others (Some (shown_entry e))) (number ∙ code ∙ letters_of ∙ there.strokes more)

abbrev pub body_words : (e : Entry) → IsEntry e → List (List ℕ)
body_words e is = (body-is e.kind is.kind is.spelled.fields is.bytes).0

pub body-there : (e : Entry) (is : IsEntry e) → IsBody e.kind (body_words e is)
body-there e is = (body-is e.kind is.kind is.spelled.fields is.bytes).1

abbrev pub entries_words : (entries : List Entry) → AreEntries entries → List (List ℕ)
entries_words [] are = []
entries_words (e ∷ entries) are = entry_words e (body_words e are.0) ++ entries_words entries are.1

pub entries-follow : (entries : List Entry) (are : AreEntries entries) → Follows (entries_text entries) (entries_words entries are)
unfolding entries_text
entries-follow [] are = nothing
entries-follow (e
    ∷ entries) are = both _ _ (entry_words e (body_words e are.0)) (entries_words entries are.1) (entry-follows e (body_words e are.0) are.0 (body-there e are.0)) (entries-follow entries are.1)

pub entries-read : (entries : List Entry) (are : AreEntries entries) → entries_in (entries_words entries are) ≡ Some (map shown_entry entries)
entries-read [] are = refl
entries-read (e ∷ entries) are =
    entry-first e (body_words e are.0) (entries_words entries are.1) are.0 (body-there e are.0) ∙ ap (onto_others (Some (shown_entry e))) (entries-read entries are.1)
