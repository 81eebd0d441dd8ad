-- Whose records an open reads and writes: a physical file's own, or those of the base file of a format.
use Rattle.std.proofs.Common.{◌≡◌, ℕ, zero, suc, Bool, true, false, Option, Some, None, is_some, IsSome, IfSome, slice_get, unwrap_or, Result, Ok, List, [], ◌∷◌, map, refl, sym, ◌∙◌, ap, subst}
use Rattle.std.proofs.lemmas.Option.{slice_get-map}
use Rattle.std.specs.List.{AllByRecursion, position}
use Rattle.std.specs.Option.{option_map}
use Rattle.std.specs.Str.{bytes_eq}
use Rattle.field_types.specs.declared.values.Value.{Value}
use Rattle.record_fmt.specs.declared.formats.Field.{Field}
use Rattle.record_fmt.specs.Records.{record_given, record_held}
use Rattle.library_steps.below.dds_physical.specs.declared.physical_files.PhysicalSpec.{PhysicalSpec}
use Rattle.library_steps.below.dds_logical.specs.declared.views.View.{View}
use Rattle.library_steps.below.dds_logical.specs.declared.views.LogicalSpec.{LogicalSpec}
use Rattle.library_steps.below.dds_logical.specs.declared.views.LogicalSpec.TheVariants.{Simple, Multi, Join}
use Rattle.library_steps.specs.Bases.{Base, Bases, FileSpec, PhysicalFile, LogicalFile, base_names}
use Rattle.library_steps.specs.Formats.{format_number, given_by, given_in}
use Rattle.joint_state.specs.Mapped.{HoldDefaults}
use Rattle.joint_state.specs.Found.{HoldsRecord}
use Rattle.joint_state.proofs.GivenLemmas.{given-makes}
use Rattle.library_model.specs.Named.{Named, named}
use Rattle.library_model.specs.declared.replies.Reply.{Reply}
use Rattle.library_steps.specs.LogicalFiles.{bases_in, bases_of}
use Rattle.library_steps.specs.Refusals.{OpenedFile, opened_file}
use Rattle.library_steps.specs.Reads.{at_format}
use Rattle.library_steps.specs.State.{State, FileState, MemberStatus, OpenState, memory_of, fields_of, format_in, physical_among}
use Rattle.library_steps.specs.WriteRecord.{format_asked}
use Rattle.record_fmt.specs.Layout.{IsLaidOut}
use Rattle.lawful_states.specs.Owners.{Owns}
use Rattle.lawful_states.specs.Members.{HasMember}
use Rattle.lawful_states.specs.Lawful.{IsBased, StandsOver, IsOfMember, IsOverBases, OpensBy, OpensFile}
use Rattle.lawful_states.proofs.BaseLemmas.{base-is, physical-found, physical-member, some-of}
use Rattle.lawful_states.proofs.FindLemmas.{found-is, member-there, open-holds}
use Rattle.joint_state.specs.Sound.{IsSound}
use Rattle.joint_state.specs.Views.{IsMapped, IsView}
use Rattle.library_kept.proofs.FieldLemmas.{given-held, length-record}
use Rattle.library_kept.proofs.PlanLemmas.{opened-is}
use Rattle.library_kept.proofs.ResultLemmas.{ok-equal}

-- ---- places of lists

pub each-at : {X : Type 0} (P : X → Type 0) (xs : List X) (n : ℕ) (x : X) → AllByRecursion P xs → slice_get xs n ≡ Some x → P x
each-at P [] n x all h = absurd cc
each-at P (first ∷ xs) zero x all h = let same : first ≡ x = cc in subst P same all.0
each-at P (first ∷ xs) (suc n) x all h = each-at P xs n x all.1 h

pub mapped-from : {X Y : Type 0} (f : X → Y) (o : Option X) (y : Y) → option_map f o ≡ Some y → (x : X) × (o ≡ Some x) × (f x ≡ y)
mapped-from f None y h = absurd cc
mapped-from f (Some x) y h = (x, refl, let same : f x ≡ y = cc in same)

pub mapped-at : {X Y : Type 0} (f : X → Y) (xs : List X) (n : ℕ) (y : Y) → slice_get (map f xs) n ≡ Some y → (x : X) × (slice_get xs n ≡ Some x) × (f x ≡ y)
mapped-at f xs n y h = mapped-from f (slice_get xs n) y (sym (slice_get-map f xs n) ∙ h)

pub some-mapped : {X Y : Type 0} (f : X → Y) (xs : List X) (n : ℕ) → IsSome (slice_get xs n) → IsSome (slice_get (map f xs) n)
some-mapped f [] n some = absurd cc
some-mapped f (x ∷ xs) zero some = refl
some-mapped f (x ∷ xs) (suc n) some = some-mapped f xs n some

slice-one : {X : Type 0} (a b : X) (n : ℕ) → slice_get (a ∷ []) n ≡ Some b → a ≡ b
slice-one a b zero h = cc
slice-one a b (suc n) h = absurd cc

pub some-value : {A : Type 0} (o : Option A) (d : A) → IsSome o → o ≡ Some (unwrap_or o d)
some-value None d some = absurd cc
some-value (Some a) d some = refl

-- ---- the members of an open

-- an open that a request names is over its members
pub open-over : (s : State) (job : ℕ) (name : List ℕ) (its : OpenedFile) → IsSound s → opened_file name job (memory_of s) ≡ Ok its
    → OpensBy s.files its.opened its.file.members its.file.spec
open-over s job name its sound h =
    let is = opened-is name job (memory_of s) its h in
    subst (OpensFile s.files its.opened) is.1 (open-holds s job name its.opened sound.library is.0)

-- ---- the file of a format's member

-- the member is of this file, and what is given through the format is a record of its fields
pub record HasBase (s : State) (its : OpenedFile) (number member : ℕ) : Type 0 where
  pub name : List ℕ
  pub file : FileState
  pub has : HasMember s name file member
  pub given : (values : List (Option Value)) (old : Option (List ℕ)) (image : List ℕ) → IfSome old (λ bytes. is_some (record_held (fields_of file) bytes) ≡ true)
      → given_in (bases_of (memory_of s)) its.file.spec number values old ≡ Ok image → is_some (record_held (fields_of file) image) ≡ true

holds-record : (fields : List Field) (old : Option (List ℕ)) → IfSome old (λ bytes. is_some (record_held fields bytes) ≡ true) → IfSome old (HoldsRecord fields)
holds-record fields None holds = tt
holds-record fields (Some bytes) holds = record { long = length-record fields bytes holds; values = holds }

module _ (s : State) (its : OpenedFile) (sound : IsSound s) (there : named its.opened.file s.files ≡ Some its.file) where
  own-base : (spec : PhysicalSpec) (number : ℕ) → its.file.spec ≡ PhysicalFile spec → IsOfMember its.file.members its.opened → HasBase s its number its.opened.member
  own-base spec number is of =
      let owns : Owns s.files its.opened.file its.file its.opened.member = record { there = there; has = of.has } in
      let fields : fields_of its.file ≡ spec.format.fields = ap (λ (sp : FileSpec). (format_in sp).fields) is in record {
        name = its.opened.file;
        file = its.file;
        has = record { owns = owns; there = sound.library.members its.opened.file its.file its.opened.member owns };
        given = λ values old image holds e.
            given-held (fields_of its.file) values old image (sound.formats its.opened.file its.file there) holds
            (subst (λ (fs : List Field). record_given fs values old ≡ Ok image) (sym fields)
            (subst (λ (sp : FileSpec). given_in (bases_in s.files) sp number values old ≡ Ok image) is e));
      }

  base-of : (spec : LogicalSpec) (number member : ℕ) → its.file.spec ≡ LogicalFile spec → IsOverBases s.files spec its.opened → slice_get its.opened.members number ≡ Some member
      → HasBase s its number member
  base-of spec number member is over h =
      let bases = bases_in s.files in
      let at = mapped-at (λ (name : List ℕ). (bases name).member) (base_names spec) number member (ap (λ (ms : List ℕ). slice_get ms number) (sym over.all) ∙ h) in
      let stands : StandsOver s.files its.file.members spec = subst (IsBased s.files its.opened.file its.file.members) is (sound.library.bases its.opened.file its.file there) in
      let base = some-of (physical_among at.0 s.files) (each-at (λ (name : List ℕ). IsSome (physical_among name s.files)) (base_names spec) number at.0 stands.bases at.1) in
      let found = physical-found at.0 s.files base.0 base.1 in
      let own = some-of (named at.0 base.0.members) (physical-member s.files at.0 base.0.members base.0.spec found.1 (sound.library.bases at.0 base.0 found.0)) in
      let here = base-is s.files at.0 base.0 own.0 base.1 own.1 in
      let number_is : own.0.number ≡ member = sym (ap (λ (b : Base). b.member) here) ∙ at.2 in
      let fields : (bases at.0).fields ≡ fields_of base.0 = ap (λ (b : Base). b.fields) here in
      let view : IsView bases spec = subst (IsMapped s.files) is (sound.views its.opened.file its.file there) in record {
        name = at.0;
        file = base.0;
        has = subst (HasMember s at.0 base.0) number_is (member-there s at.0 at.0 base.0 own.0 sound.library found.0 own.1);
        given = λ values old image holds e.
            subst (λ (fs : List Field). is_some (record_held fs image) ≡ true) fields
            (given-makes bases spec number at.0 values old image view.mapped at.1
            (subst IsLaidOut (sym fields) (sound.formats at.0 base.0 found.0))
            (subst HoldDefaults (sym fields) (sound.defaults at.0 base.0 found.0))
            (subst (λ (fs : List Field). IfSome old (HoldsRecord fs)) (sym fields) (holds-record (fields_of base.0) old holds))
            (subst (λ (sp : FileSpec). given_in bases sp number values old ≡ Ok image) is e)).values;
      }

  base-by : (spec : FileSpec) (number member : ℕ) → its.file.spec ≡ spec → OpensBy s.files its.opened its.file.members spec → slice_get its.opened.members number ≡ Some member
      → HasBase s its number member
  base-by (PhysicalFile spec) number member is of h =
      subst (HasBase s its number) (slice-one its.opened.member member number (ap (λ (ms : List ℕ). slice_get ms number) (sym of.only) ∙ h)) (own-base spec number is of)
  base-by (LogicalFile spec) number member is over h = base-of spec number member is over h

  pub base-at : (number member : ℕ) → OpensBy s.files its.opened its.file.members its.file.spec → slice_get its.opened.members number ≡ Some member → HasBase s its number member
  base-at number member over h = base-by its.file.spec number member refl over h

-- the member of the format that was read last
read-by : (files : Named FileState) (opened : OpenState) (members : Named MemberStatus) (spec : FileSpec) → OpensBy files opened members spec
    → slice_get opened.members opened.format ≡ Some opened.member
read-by files opened members (PhysicalFile spec) of = rw (of.only, of.format) refl
read-by files opened members (LogicalFile spec) over = over.read

pub opened-base : (s : State) (job : ℕ) (name : List ℕ) (its : OpenedFile) → IsSound s → opened_file name job (memory_of s) ≡ Ok its → HasBase s its its.opened.format its.opened.member
opened-base s job name its sound h =
    let over = open-over s job name its sound h in
    base-at s its sound (opened-is name job (memory_of s) its h).1 its.opened.format its.opened.member over (read-by s.files its.opened its.file.members its.file.spec over)

-- ---- the format of a new record

ok-number : (a b : ℕ) → ◌≡◌ {A = Result ℕ Reply} (Ok a) (Ok b) → a ≡ b
ok-number a b e = ok-equal a b e

position-one : {X : Type 0} (p : X → Bool) (x : X) (n : ℕ) → position p (x ∷ []) ≡ Some n → 0 ≡ n
position-one p x n h =
    elim (p x) as (λ b. p x ≡ b → 0 ≡ n) [
      | true ↦ λ is. (let at : position p (x ∷ []) ≡ Some 0 = rw is refl in cc)
      | false ↦ λ is. absurd (let at : position p (x ∷ []) ≡ None = rw is refl in cc)
    ] refl

given-there : (bases : Bases) (o : Option View) (values : List (Option Value)) (image : List ℕ) → given_by bases o values None ≡ Ok image → IsSome o
given-there bases None values image h = absurd cc
given-there bases (Some view) values image h = refl

module _ (bases : Bases) (values : List (Option Value)) (image : List ℕ) where
  -- something is given through it
  names-some : (spec : LogicalSpec) (asked : Option (List ℕ)) (number : ℕ) → format_asked asked (LogicalFile spec) ≡ Ok number → given_in bases (LogicalFile spec) number values None ≡ Ok image
      → IsSome (slice_get (base_names spec) number)
  names-some (Simple view) None number h e = subst (λ (n : ℕ). IsSome (slice_get (view.base ∷ []) n)) (ok-number 0 number h) refl
  names-some (Simple view) (Some name) number h e =
      subst (λ (n : ℕ). IsSome (slice_get (view.base ∷ []) n)) (position-one (bytes_eq name) view.format.name number (found-is (format_number name (LogicalFile (Simple view))) _ number h)) refl
  names-some (Multi views) asked number h e = some-mapped (λ (view : View). view.base) views number (given-there bases (slice_get views number) values image e)
  names-some (Join view) asked number h e = absurd cc

  physical-number : (spec : PhysicalSpec) (asked : Option (List ℕ)) (number : ℕ) → format_asked asked (PhysicalFile spec) ≡ Ok number → 0 ≡ number
  physical-number spec None number h = ok-number 0 number h
  physical-number spec (Some name) number h = position-one (bytes_eq name) spec.format.name number (found-is (format_number name (PhysicalFile spec)) _ number h)

  -- so it has a member among those of the open
  format-some : (files : Named FileState) (opened : OpenState) (members : Named MemberStatus) (spec : FileSpec) (asked : Option (List ℕ)) (number : ℕ) → OpensBy files opened members spec
      → format_asked asked spec ≡ Ok number → given_in bases spec number values None ≡ Ok image → IsSome (slice_get opened.members number)
  format-some files opened members (PhysicalFile spec) asked number of h e =
      subst (λ (n : ℕ). IsSome (slice_get opened.members n)) (physical-number spec asked number h) (ap (λ (ms : List ℕ). is_some (slice_get ms 0)) of.only)
  format-some files opened members (LogicalFile spec) asked number over h e =
      subst (λ (ms : List ℕ). IsSome (slice_get ms number)) (sym over.all)
      (some-mapped (λ (name : List ℕ). (bases_in files name).member) (base_names spec) number (names-some spec asked number h e))

pub written-base : (s : State) (job : ℕ) (name : List ℕ) (its : OpenedFile) (asked : Option (List ℕ)) (number : ℕ) (values : List (Option Value)) (image : List ℕ) → IsSound s
    → opened_file name job (memory_of s) ≡ Ok its → format_asked asked its.file.spec ≡ Ok number → given_in (bases_of (memory_of s)) its.file.spec number values None ≡ Ok image
    → HasBase s its number (at_format number its.opened).member
written-base s job name its asked number values image sound h format e =
    let over = open-over s job name its sound h in
    base-at s its sound (opened-is name job (memory_of s) its h).1 number (at_format number its.opened).member over
    (some-value (slice_get its.opened.members number) its.opened.member
    (format-some (bases_of (memory_of s)) values image s.files its.opened its.file.members its.file.spec asked number over format e))
