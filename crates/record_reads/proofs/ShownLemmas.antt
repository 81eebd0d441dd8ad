-- A record that stands in a member shows a value of each field, of its own file and of a logical file over it.
use Rattle.std.proofs.Common.{◌≡◌, ℕ, ◌+◌, true, Option, Some, None, Result, IfOk, List, [], ◌∷◌, length, drop, is_some, unwrap_or, refl, subst}
use Rattle.std.proofs.Common.{sym, ◌∙◌, ap, zero, suc, map, slice_get, IsSome, option_map}
use Rattle.dds_logical.specs.declared.views.View.{View}
use Rattle.std.specs.List.{AllByRecursion}
use Rattle.std.proofs.lemmas.List.{take-append-drop}
use Rattle.key_order.specs.KeyFields.{AreBytes}
use Rattle.member_slots.specs.declared.slot.Slot.{Slot}
use Rattle.member_slots.specs.declared.slot.Slot.TheVariants.{Live, Deleted}
use Rattle.member_slots.specs.Member.{MemberState, slot_at}
use Rattle.member_slots.specs.Members.{member_at, member_of}
use Rattle.record_fmt.specs.declared.formats.Field.{Field}
use Rattle.record_fmt.specs.Records.{record_held, IsRecordBadAt}
use Rattle.physical_paths.specs.KeyedFiles.{IsRecord}
use Rattle.dds_logical.specs.declared.views.LogicalSpec.TheVariants.{Simple, Multi, Join}
use Rattle.logical_model.specs.Bases.{FileSpec, PhysicalFile, LogicalFile}
use Rattle.logical_model.specs.Formats.{shown_in}
use Rattle.view_records.specs.KeyedViews.{IsKeyedView, IsShownOf, IsViewOver}
use Rattle.view_records.specs.Steps.{shown_of}
use Rattle.view_records.specs.Through.{IsFormatOf}
use Rattle.library_model.specs.Named.{named}
use Rattle.library_model.specs.declared.replies.RecordRead.{RecordRead}
use Rattle.lawful_states.proofs.NameLemmas.{some-equal}
use Rattle.library_steps.specs.State.{State, Memory, FileState, OpenState, fields_of, format_in, memory_of, physical_among}
use Rattle.library_steps.specs.LogicalFiles.{bases_in, bases_of}
use Rattle.library_steps.specs.Records.{record_in, live_record}
use Rattle.library_steps.specs.Reads.{read_as}
use Rattle.library_parts.specs.Finds.{IsBaseOf, ReadsMember}
use Rattle.library_parts.specs.Indexed.{IsUnjoined, IsViewBeside}
use Rattle.lawful_states.specs.Lawful.{HasRecords, IsBased, IsLibrary, IsThere, StandsOver}
use Rattle.lawful_states.proofs.FindLemmas.{HasBase, has-base}
use Rattle.library_parts.proofs.FindLemmas.{each-there}
use Rattle.lawful_states.proofs.MemberLemmas.{HasRecords-member_of, HoldsValues-at}
use Rattle.record_reads.specs.Plans.{record_shown}
use Rattle.record_reads.specs.Shown.{ShowsImage}

-- an image in which a value stands in each field has no bad byte
pub no-bad-image : (fields : List Field) (image : List ℕ) (at : ℕ) → is_some (record_held fields image) ≡ true → IsRecordBadAt fields image at → ⊥
no-bad-image fields image at held bad =
    bad.bad (drop (at + 1) image) (subst (λ (bytes : List ℕ). is_some (record_held fields bytes) ≡ true) (sym (take-append-drop (at + 1) image)) held)

-- ---- a record of the member

held-in : (fields : List Field) (member : MemberState) (rrn : ℕ) (image : List ℕ) → HasRecords fields member → record_in (slot_at member rrn) ≡ Some image
    → is_some (record_held fields image) ≡ true
held-in fields member rrn image has live = by (slot_at member rrn) refl live
  where
    by : (o : Option Slot) → slot_at member rrn ≡ o → record_in o ≡ Some image → is_some (record_held fields image) ≡ true
    by None is stands = absurd cc
    by (Some Deleted) is stands = absurd cc
    by (Some (Live other)) is stands =
        let same : other ≡ image = some-equal stands in
        subst (λ (bytes : List ℕ). is_some (record_held fields bytes) ≡ true) same (HoldsValues-at fields member rrn (Live other) has is)

-- what stands in a member with records of these fields is one
pub record-there : (s : State) (fields : List Field) (member rrn : ℕ) (image : List ℕ) → IsThere fields (member_at member s.members) → live_record member rrn (memory_of s) ≡ Some image
    → length image ≡ (member_of member s.members).record_length → AreBytes image → IsRecord fields image
record-there s fields member rrn image there live long bytes =
    let has = HasRecords-member_of fields member s.members there in
    record { long = long ∙ has.long; held = held-in fields (member_of member s.members) rrn image has live; bytes = bytes }

-- ---- by what the file is

mapped-there : {X Y : Type 0} (f : X → Y) (xs : List X) (place : ℕ) (x : X) → slice_get xs place ≡ Some x → slice_get (map f xs) place ≡ Some (f x)
mapped-there f [] place x at = absurd cc
mapped-there f (y ∷ xs) zero x at = ap (λ (o : Option _). option_map f o) at
mapped-there f (y ∷ xs) (suc place) x at = mapped-there f xs place x at

-- a record of the member that an open reads is one whose values its file shows
pub shows-image : (s : State) (file : FileState) (opened : OpenState) (image : List ℕ) (member : ReadsMember s file opened) → IsLibrary s → IsUnjoined file.spec
    → IsViewBeside s.files file.spec → IsRecord (fields_of member.owner) image → ShowsImage file.spec opened.format image
shows-image s file opened image member lawful unjoined beside is = by file.spec refl unjoined beside member.over
  where
    -- the file of this name is the one that has them
    own : (name : List ℕ) (its : FileState) → member.base ≡ name → named name s.files ≡ Some its → fields_of its ≡ fields_of member.owner
    own name its over here =
        let owned : named name s.files ≡ Some member.owner = ap (λ (n : List ℕ). named n s.files) (sym over) ∙ member.has.owns.there in
        let same : its ≡ member.owner = some-equal (sym here ∙ owned) in
        ap (λ (f : FileState). fields_of f) same

    -- so is a base file
    under : (name : List ℕ) → member.base ≡ name → HasBase s name → (bases_in s.files name).fields ≡ fields_of member.owner
    under name over base = base.fields ∙ own name base.file over base.here

    by : (spec : FileSpec) → file.spec ≡ spec → IsUnjoined spec → IsViewBeside s.files spec → IsBaseOf spec opened.file opened.format member.base → ShowsImage spec opened.format image
    by (PhysicalFile spec) same so its over =
        let fields : fields_of member.owner ≡ spec.format.fields = sym (own opened.file file over member.there) ∙ ap (λ (f : FileSpec). (format_in f).fields) same in
        subst (λ (fs : List Field). IsRecord fs image) fields is
    by (LogicalFile (Simple view)) same so its over =
        let keyed : IsKeyedView (bases_in s.files view.base).fields view = its.keyed in
        let format : IsFormatOf view = its.formats in
        let stands : StandsOver s.files file.members (Simple view) = subst (IsBased s.files opened.file file.members) same (lawful.bases opened.file file member.there) in
        let fields : (bases_in s.files view.base).fields ≡ fields_of member.owner = under view.base over (has-base s lawful view.base stands.bases.0) in (
          record {
            base = fields_of member.owner;
            lies = member.laid.lies;
            fields = subst (λ (fs : List Field). AllByRecursion (IsShownOf fs) (shown_of view.mapping)) fields keyed.fields;
            is = is;
          },
          format,
        )
    by (LogicalFile (Multi views)) same so its over =
        let view : View = over.0 in
        let keyed : IsKeyedView (bases_in s.files view.base).fields view = each-there (IsViewOver (bases_in s.files)) views opened.format view its.keyed.each over.1 in
        let format : IsFormatOf view = each-there IsFormatOf views opened.format view its.formats over.1 in
        let stands : StandsOver s.files file.members (Multi views) = subst (IsBased s.files opened.file file.members) same (lawful.bases opened.file file member.there) in
        let there : IsSome (physical_among view.base s.files) =
        each-there (λ (n : List ℕ). IsSome (physical_among n s.files)) (map (λ (v : View). v.base) views) opened.format view.base stands.bases
        (mapped-there (λ (v : View). v.base) views opened.format view over.1) in
        let fields : (bases_in s.files view.base).fields ≡ fields_of member.owner = under view.base over.2 (has-base s lawful view.base there) in (
          view,
          over.1,
          record {
            base = fields_of member.owner;
            lies = member.laid.lies;
            fields = subst (λ (fs : List Field). AllByRecursion (IsShownOf fs) (shown_of view.mapping)) fields keyed.fields;
            is = is;
          },
          format,
        )
    by (LogicalFile (Join view)) same so its over = absurd so

-- ---- what is shown

-- what is shown of the image is shown of the record that it is of
pub shown-as : {E : Type 0} (result : Result RecordRead E) (m : Memory) (file : FileState) (opened : OpenState) (rrn : ℕ) (spec : FileSpec) (image : List ℕ)
    → spec ≡ file.spec → live_record opened.member rrn m ≡ Some image
    → IfOk result (λ (shown : RecordRead). shown ≡ read_as rrn (shown_in (bases_of m) m.members spec opened.format image None))
    → IfOk result (λ (shown : RecordRead). shown ≡ record_shown m file opened rrn None)
shown-as result m file opened rrn spec image is live shows =
    subst (λ (wanted : RecordRead). IfOk result (λ (shown : RecordRead). shown ≡ wanted))
    (λ i. read_as rrn (shown_in (bases_of m) m.members (is i) opened.format (unwrap_or (sym live i) []) None)) shows
