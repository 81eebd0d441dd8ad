-- The records that are changed through an open are those of a physical file: its own file, or the one that this is over.
use Rattle.std.proofs.Common.{◌≡◌, ◌∙◌, ℕ, true, is_some, Option, Some, List, [], length, sym, ap, subst, refl}
use Rattle.library_parts.proofs.FindLemmas.{each-there}
use Rattle.member_slots.specs.declared.slot.Slot.TheVariants.{Live}
use Rattle.member_slots.specs.Members.{member_of}
use Rattle.record_fmt.specs.declared.formats.Field.{Field}
use Rattle.record_fmt.specs.Layout.{record_length}
use Rattle.record_fmt.specs.Records.{record_held}
use Rattle.dds_logical.specs.declared.views.View.{View}
use Rattle.dds_logical.specs.declared.views.LogicalSpec.TheVariants.{Simple, Multi, Join}
use Rattle.logical_model.specs.Bases.{FileSpec, PhysicalFile, LogicalFile}
use Rattle.logical_laws.specs.Found.{HoldsRecord}
use Rattle.logical_laws.specs.Mapped.{HoldDefaults}
use Rattle.view_records.specs.KeyedViews.{IsKeyedView, IsViewOver}
use Rattle.lawful_states.specs.Owners.{AreApart, has_number}
use Rattle.lawful_states.specs.Physical.{IsPhysical}
use Rattle.lawful_states.proofs.NameLemmas.{some-equal}
use Rattle.library_model.specs.Named.{Named, named}
use Rattle.library_steps.specs.LogicalFiles.{base_in, bases_in}
use Rattle.library_steps.specs.State.{State, FileState, MemberStatus, OpenState, fields_of, format_in, physical_among}
use Rattle.library_parts.specs.Finds.{IsBaseOf, ReadsMember}
use Rattle.library_parts.specs.Indexed.{IsViewBeside}
use Rattle.lawful_states.specs.Lawful.{HasRecords, IsBased, IsLibrary}
use Rattle.lawful_states.proofs.BaseLemmas.{physical-here, some-is}
use Rattle.lawful_states.proofs.MemberLemmas.{HasRecords-member_of}
use Rattle.view_records.specs.Through.{IsFormatOf, HaveBytes}
use Rattle.joint_state.specs.Views.{HaveDefaults}
use Rattle.record_changes.specs.Images.{IsWritable, IsWrittenIn, fields_under, fields_of_view, fields_at}
use Rattle.record_changes.specs.Places.{FitsMember}
use Rattle.record_changes.proofs.PlaceLemmas.{its-fits, its-there, its-values}

-- a file that has a member is a physical one
with_member-physical : (files : Named FileState) (name : List ℕ) (members : Named MemberStatus) (number : ℕ) (spec : FileSpec) → IsBased files name members spec
    → has_number number members ≡ true → IsPhysical spec
with_member-physical files name members number (PhysicalFile spec) based has = tt
with_member-physical files name members number (LogicalFile spec) based has =
    let none : has_number number [] ≡ true = subst (λ (m : Named MemberStatus). has_number number m ≡ true) based.none has in absurd cc

module _ (s : State) (file : FileState) (opened : OpenState) (lawful : IsLibrary s) (has : ReadsMember s file opened) where
  owner-here : named has.base s.files ≡ Some has.owner
  owner-here = has.has.owns.there

  owner-physical : IsPhysical has.owner.spec
  owner-physical =
      with_member-physical s.files has.base has.owner.members opened.member has.owner.spec (lawful.bases has.base has.owner owner-here) has.has.owns.has

  -- it is found as the base file of a format that is over it
  base-found : (name : List ℕ) → has.base ≡ name → physical_among name s.files ≡ Some has.owner
  base-found name over =
      physical-here name s.files has.owner (ap (λ (n : List ℕ). named n s.files) (sym over) ∙ owner-here) owner-physical

  base-fields : (name : List ℕ) → has.base ≡ name → (bases_in s.files name).fields ≡ fields_of has.owner
  base-fields name over = ap (λ (o : Option FileState). (base_in name o).fields) (base-found name over)

  -- the fields of the records
  owner-fields : fields_under (bases_in s.files) file.spec opened.format ≡ fields_of has.owner
  owner-fields = by file.spec refl has.over
    where
      by : (spec : FileSpec) → file.spec ≡ spec → IsBaseOf spec opened.file opened.format has.base → fields_under (bases_in s.files) spec opened.format ≡ fields_of has.owner
      by (PhysicalFile spec) is over =
          let found : Some file ≡ Some has.owner = sym has.there ∙ ap (λ (n : List ℕ). named n s.files) (sym over) ∙ owner-here in
          sym (ap (λ (f : FileSpec). (format_in f).fields) is) ∙ ap fields_of (some-equal found)
      by (LogicalFile (Simple view)) is over = base-fields view.base over
      by (LogicalFile (Multi views)) is over = ap (fields_of_view (bases_in s.files)) over.1 ∙ base-fields over.0.base over.2
      by (LogicalFile (Join view)) is over = ap (fields_at (bases_in s.files)) over ∙ base-fields has.base refl

  -- values that are given through its format make records of it
  writable : (view : View) → has.base ≡ view.base → IsKeyedView (bases_in s.files view.base).fields view → HaveBytes view.mapping → IsFormatOf view → HaveDefaults s.files → IsWritable s.files view
  writable view over keyed bytes format defaults =
      record {
        there = some-is (base-found view.base over);
        written = record {
          fields = keyed.fields;
          bytes = bytes;
          defaults = subst HoldDefaults (sym (base-fields view.base over)) (defaults has.base has.owner owner-here);
        };
        format = format;
      }

  pub written-in : IsViewBeside s.files file.spec → HaveDefaults s.files → IsWrittenIn s.files file.spec opened.format
  written-in beside defaults = by file.spec has.over beside
    where
      by : (spec : FileSpec) → IsBaseOf spec opened.file opened.format has.base → IsViewBeside s.files spec → IsWrittenIn s.files spec opened.format
      by (PhysicalFile spec) over its = tt
      by (LogicalFile (Simple view)) over its = writable view over its.keyed its.bytes its.formats defaults
      by (LogicalFile (Multi views)) over its =
          let view : View = over.0 in
          let keyed : IsKeyedView (bases_in s.files view.base).fields view = each-there (IsViewOver (bases_in s.files)) views opened.format view its.keyed.each over.1 in
          let bytes : HaveBytes view.mapping = each-there (λ (v : View). HaveBytes v.mapping) views opened.format view its.bytes over.1 in
          let format : IsFormatOf view = each-there IsFormatOf views opened.format view its.formats over.1 in
          (view, over.1, writable view over.2 keyed bytes format defaults)
      by (LogicalFile (Join view)) over its = tt

  -- what stands in the member is a record with these fields
  pub record-of : (image : List ℕ) → FitsMember s opened.member (Live image) → HoldsRecord (fields_under (bases_in s.files) file.spec opened.format) image
  record-of image fits =
      let records : HasRecords (fields_of has.owner) (member_of opened.member s.members) = HasRecords-member_of (fields_of has.owner) opened.member s.members has.has.there in
      let long : length image ≡ record_length (fields_of has.owner) = fits.fits ∙ records.long in
      let values : is_some (record_held (fields_of has.owner) image) ≡ true = fits.values has.base has.owner has.has.owns in
      subst (λ (fields : List Field). HoldsRecord fields image) (sym owner-fields) (record { long = long; values = values })

  -- and such a record may stand in it
  pub fits-member : AreApart s.files → (image : List ℕ) → HoldsRecord (fields_under (bases_in s.files) file.spec opened.format) image → FitsMember s opened.member (Live image)
  fits-member apart image holds =
      let its : HoldsRecord (fields_of has.owner) image = subst (λ (fields : List Field). HoldsRecord fields image) owner-fields holds in
      record {
        there = its-there s has.base has.owner opened.member has.has;
        fits = its-fits s has.base has.owner opened.member has.has (Live image) its.long;
        values = its-values s has.base has.owner opened.member has.has (Live image) apart its.values;
      }
