-- What becomes of the members of a catalogue with an entry more? Each keeps its number and its record format, or is a new one.
use Rattle.std.proofs.Common.{◌≡◌, ◌⊎◌, inl, inr, ℕ, ◌≤◌, ◌==◌, ◌&&◌, not, cond, map, Bool, true, false, if◌then◌else◌, Option, Some, None, is_some, unwrap_or, Result, List, [], ◌∷◌, ◌++◌, length, refl, sym, ◌∙◌, ap, subst, arith}
use Rattle.std.proofs.lemmas.Bool.{and_parts, eq-eqb, eqb-true}
use Rattle.std.specs.List.{AllByRecursion, filter, find}
use Rattle.std.specs.Str.{bytes_eq}
use Rattle.entry_codec.specs.declared.entries.Entry.{Entry}
use Rattle.entry_codec.specs.declared.kinds.FileKind.{FileKind}
use Rattle.entry_codec.specs.declared.kinds.FileKind.TheVariants.{Physical, Logical}
use Rattle.entry_codec.specs.declared.kinds.Images.{Images}
use Rattle.entry_codec.specs.declared.kinds.EntryKind.{EntryKind}
use Rattle.entry_codec.specs.declared.kinds.EntryKind.TheVariants.{FileCreated, FileDeleted, MemberAdded, JournalingStarted, InitialSlot, JournalingEnded, MemberCleared, MemberReorganized, ChangesApplied, ChangesRemoved, RecordAdded, RecordAddedAtNumber, BeforeImage, AfterImage, RecordDeleted, UndoBeforeImage, UndoAfterImage, UndoDelete, CommitmentStarted, CommitCycleStarted, CommitCycleCommitted, CommitCycleRolledBack, CommitmentEnded, AbnormalEnd, NextReceiver, PreviousReceiver}
use Rattle.record_fmt.specs.declared.formats.Field.{Field}
use Rattle.record_fmt.specs.Layout as layout
use Rattle.record_fmt.specs.Records.{record_held}
use Rattle.dds_source.specs.declared.faults.DdsFault.{DdsFault}
use Rattle.dds_source.specs.declared.specifications.Source.{Source}
use Rattle.dds_physical.specs.declared.physical_files.PhysicalSpec.{PhysicalSpec}
use Rattle.logical_laws.proofs.ListLemmas.{each-weaker}
use Rattle.journal_model.specs.Catalogue.{Catalogue, CatalogFile, CatalogMember, MayAddMember, MayCreate, MayDelete, MayEnterBy, catalogue_by, has_number, is_in_file, is_named, member_numbered}
use Rattle.journal_model.specs.Images.{AreRecords, AreRecordsOf, HasRecords, images_of}
use Rattle.lawful_states.proofs.NameLemmas.{same_name-equal, same_name-symm, some-equal}
use Rattle.lawful_states.specs.CreatePhysicalFile.{described_by}
use Rattle.library_kept.specs.Told.{IsRecordOf}
use Rattle.restart_model.specs.Sources.{described_files, descriptions, fields_beside, fields_if, format_named, if_physical, spec_named}
use Rattle.restart_laws.proofs.CatalogueLemmas.{AreNumbersApart, HasOther, HasPhysical, IsCatalogue, set_images}
use Rattle.restart_laws.proofs.DescribedLemmas.{Among, each-among}
use Rattle.restart_laws.proofs.StableLemmas.{ArePlain, IsPlain, NotGone, all-free, plain-less, plain-more, spec-less, spec-more}

-- ---- things among others

pub found-among : {X : Type 0} (test : X → Bool) (xs : List X) (x : X) → find test xs ≡ Some x → Among x xs × (test x ≡ true)
found-among test [] x found = absurd cc
found-among test (y ∷ ys) x found =
    elim (test y) as (λ b. test y ≡ b → cond b (Some y) (find test ys) ≡ Some x → (((y ≡ x) ⊎ Among x ys) × (test x ≡ true))) [
      | true ↦ λ is e. (let same : y ≡ x = some-equal e in (inl same, ap test (sym same) ∙ is))
      | false ↦ λ is e. (let rest = found-among test ys x e in (inr rest.0, rest.1))
    ] refl found

pub among-map : {X : Type 0} (change : X → X) (xs : List X) (x : X) → Among x (map change xs) → (y : X) × Among y xs × (change y ≡ x)
among-map change [] x among = absurd among
among-map change (y ∷ ys) x (inl same) = (y, inl refl, same)
among-map change (y ∷ ys) x (inr among) = let rest = among-map change ys x among in (rest.0, inr rest.1, rest.2)

pub among-filter : {X : Type 0} (keep : X → Bool) (xs : List X) (x : X) → Among x (filter keep xs) → Among x xs × (keep x ≡ true)
among-filter keep [] x among = absurd among
among-filter keep (y ∷ ys) x among =
    elim (keep y) as (λ b. keep y ≡ b → Among x (cond b (y ∷ filter keep ys) (filter keep ys)) → (((y ≡ x) ⊎ Among x ys) × (keep x ≡ true))) [
      | true ↦ λ is a. elim a [
        | inl same ↦ (inl same, ap keep (sym same) ∙ is)
        | inr later ↦ (let rest = among-filter keep ys x later in (inr rest.0, rest.1))
      ]
      | false ↦ λ is a. (let rest = among-filter keep ys x a in (inr rest.0, rest.1))
    ] refl among

pub among-append : {X : Type 0} (xs : List X) (new x : X) → Among x (xs ++ new ∷ []) → Among x xs ⊎ (new ≡ x)
among-append [] new x (inl same) = inr same
among-append [] new x (inr none) = absurd none
among-append (y ∷ ys) new x (inl same) = inl (inl same)
among-append (y ∷ ys) new x (inr among) = elim (among-append ys new x among) [ inl a ↦ inl (inr a) | inr same ↦ inr same ]

pub numbered-among : (members : List CatalogMember) (m : CatalogMember) → AreNumbersApart members → Among m members → find (has_number (Some m.number)) members ≡ Some m
numbered-among [] m apart among = absurd among
numbered-among (other ∷ members) m apart (inl same) =
    rw (eq-eqb m.number other.number (ap (λ (x : CatalogMember). x.number) (sym same))) (ap (λ (x : CatalogMember). Some x) same)
numbered-among (other ∷ members) m apart (inr among) =
    rw (each-among (HasOther other.number) m members apart.0 among) (numbered-among members m apart.1 among)

-- ---- the fields of a member's records

abbrev pub fields_found : Option PhysicalSpec → List Field
fields_found None = []
fields_found (Some spec) = spec.format.fields

abbrev pub fields_at : Catalogue → (file : List ℕ) → List Field
fields_at c file = fields_found (spec_named (described_files c.files) file)

-- the file of a member
pub record HasFile (c : Catalogue) (name : List ℕ) : Type 0 where
  pub file : CatalogFile
  pub there : find (is_named name) c.files ≡ Some file
  pub plain : IsPlain (described_files c.files) file
  pub called : file.name ≡ name

abbrev pub IsPlainCatalogue : Catalogue → Type 0
IsPlainCatalogue c = ArePlain (described_files c.files) c.files

pub own-file : (c : Catalogue) → IsCatalogue c → IsPlainCatalogue c → (m : CatalogMember) → Among m c.members → HasFile c m.file
own-file c is plain m among =
    let has = each-among (λ (x : CatalogMember). HasPhysical c.files x.file) m c.members is.owned among in
    let found = found-among (is_named m.file) c.files has.file has.there in record {
      file = has.file;
      there = has.there;
      plain = each-among (λ (f : CatalogFile). f.kind ≡ Physical → IsPlain (described_files c.files) f) has.file c.files plain found.0 has.physical;
      called = same_name-equal has.file.name m.file found.1;
    }

own-spec : (c : Catalogue) (name : List ℕ) (its : HasFile c name) → spec_named (described_files c.files) name ≡ Some its.plain.spec
own-spec c name its = ap (spec_named (described_files c.files)) (sym its.called) ∙ its.plain.found

-- what is said of records is said by these fields
pub beside-at : (c : Catalogue) (name : List ℕ) (its : HasFile c name) → fields_beside c.files its.file.source ≡ fields_at c name
beside-at c name its =
    ap (λ (r : Result Source DdsFault). fields_if (if_physical (described_by (format_named (described_files c.files)) r))) its.plain.read
    ∙ ap (λ (r : Result PhysicalSpec DdsFault). fields_if (if_physical r)) its.plain.gives
    ∙ sym (ap fields_found (own-spec c name its))

record-of : (fields others : List Field) (image : List ℕ) → fields ≡ others → ((length image == layout.record_length fields) && is_some (record_held fields image)) ≡ true → IsRecordOf others image
record-of fields others image same h =
    let parts = and_parts (length image == layout.record_length fields) (is_some (record_held fields image)) h in
    subst (λ (fs : List Field). IsRecordOf fs image) same (record { long = eqb-true (length image) (layout.record_length fields) parts.0; values = parts.1 })

pub member-records : (c : Catalogue) → IsCatalogue c → IsPlainCatalogue c → (e : Entry) → HasRecords descriptions c e → (m : CatalogMember) → Among m c.members → e.member ≡ Some m.number
    → AllByRecursion (IsRecordOf (fields_at c m.file)) (images_of e.kind)
member-records c is plain e records m among names =
    let its = own-file c is plain m among in
    let found : member_numbered e.member c ≡ Some m = ap (λ (o : Option ℕ). member_numbered o c) names ∙ numbered-among c.members m is.numbers among in
    let of_member : AreRecordsOf descriptions c (Some m) (images_of e.kind) = subst (λ (o : Option CatalogMember). AreRecordsOf descriptions c o (images_of e.kind)) found records in
    let of_file : AreRecords descriptions c.files (Some its.file) (images_of e.kind) = subst (λ (o : Option CatalogFile). AreRecords descriptions c.files o (images_of e.kind)) its.there of_member in
    each-weaker (λ (image : List ℕ). descriptions.is_record c.files its.file.source image ≡ true) (IsRecordOf (fields_at c m.file))
    (λ image h. record-of (fields_beside c.files its.file.source) (fields_at c m.file) image (beside-at c m.file its) h) (images_of e.kind) of_file

-- ---- members after an entry

pub record Was (c later : Catalogue) (m : CatalogMember) : Type 0 where
  pub was : CatalogMember
  pub among : Among was c.members
  pub number : was.number ≡ m.number
  pub fields : fields_at c was.file ≡ fields_at later m.file

pub record Goes (c later : Catalogue) : Type 0 where
  pub further : c.next_member ≤ later.next_member
  pub comes : (m : CatalogMember) → Among m later.members → Was c later m ⊎ (m.number ≡ c.next_member)

same-goes : (c : Catalogue) → Goes c c
same-goes c = record { further = omega arith; comes = λ m among. inl (record { was = m; among = among; number = refl; fields = refl }) }

set-goes : (c : Catalogue) (which : Option ℕ) (images : Option Images) → Goes c (record c { members = map (set_images which images) c.members })
set-goes c which images = record { further = omega arith; comes = λ m among. inl (by m (among-map (set_images which images) c.members m among)) }
  where
    number-stays : (m : CatalogMember) → (set_images which images m).number ≡ m.number
    number-stays m = elim (has_number which m) as (λ b. (if b then record m { images = images } else m).number ≡ m.number) [ true ↦ refl | false ↦ refl ]

    file-stays : (m : CatalogMember) → (set_images which images m).file ≡ m.file
    file-stays m = elim (has_number which m) as (λ b. (if b then record m { images = images } else m).file ≡ m.file) [ true ↦ refl | false ↦ refl ]

    by : (m : CatalogMember) → (y : CatalogMember) × Among y c.members × (set_images which images y ≡ m) → Was c (record c { members = map (set_images which images) c.members }) m
    by m its = record {
      was = its.0;
      among = its.1;
      number = sym (number-stays its.0) ∙ ap (λ (x : CatalogMember). x.number) its.2;
      fields = ap (fields_at c) (sym (file-stays its.0) ∙ ap (λ (x : CatalogMember). x.file) its.2);
    }

module _ (c : Catalogue) (is : IsCatalogue c) (plain : IsPlainCatalogue c) where
  -- with a file more
  module _ (kind : FileKind) (name source : List ℕ) (e : Entry) (may : MayCreate descriptions kind name source e c) where
    abbrev new : CatalogFile
    new = record { created = e.sequence; kind = kind; name = name; source = source }

    abbrev files : List CatalogFile
    files = c.files ++ record { created = e.sequence; kind = kind; name = name; source = source } ∷ []

    fields-more : (m : CatalogMember) → Among m c.members → fields_at c m.file ≡ fields_found (spec_named (described_files files) m.file)
    fields-more m among =
        let its = own-file c is plain m among in
        let here = own-spec c m.file its in
        ap fields_found (here ∙ sym (spec-more c.files new may.unnamed may.accepted m.file its.plain.spec here))

    pub created-plain : ArePlain (described_files files) files
    created-plain = plain-more c.files new may.unnamed may.accepted plain

  created-goes : (kind : FileKind) (name source : List ℕ) (e : Entry) → MayCreate descriptions kind name source e c → Goes c (catalogue_by (FileCreated kind name source) e c)
  created-goes Physical name source e may =
      let next : unwrap_or e.member 0 ≡ c.next_member = ap (λ (o : Option ℕ). unwrap_or o 0) may.numbered.next in record {
        further = omega (arith, next);
        comes = λ m among. elim (among-append c.members (record { number = unwrap_or e.member 0; file = name; name = name; images = None }) m among) [
          | inl before ↦ inl (record { was = m; among = before; number = refl; fields = fields-more Physical name source e may m before })
          | inr same ↦ inr (ap (λ (x : CatalogMember). x.number) (sym same) ∙ next)
        ];
      }
  created-goes Logical name source e may = record {
    further = omega arith;
    comes = λ m among. inl (record { was = m; among = among; number = refl; fields = fields-more Logical name source e may m among });
  }

  added-goes : (file name : List ℕ) (e : Entry) → MayAddMember file name e c → Goes c (catalogue_by (MemberAdded file name) e c)
  added-goes file name e may =
      let next : unwrap_or e.member 0 ≡ c.next_member = ap (λ (o : Option ℕ). unwrap_or o 0) may.numbered.next in record {
        further = omega (arith, next);
        comes = λ m among. elim (among-append c.members (record { number = unwrap_or e.member 0; file = file; name = name; images = None }) m among) [
          | inl before ↦ inl (record { was = m; among = before; number = refl; fields = refl })
          | inr same ↦ inr (ap (λ (x : CatalogMember). x.number) (sym same) ∙ next)
        ];
      }

  not-gone : (gone name : List ℕ) → not (bytes_eq name gone) ≡ true → NotGone gone name
  not-gone gone name h = same_name-symm gone name ∙ by (bytes_eq name gone) h
    where
      by : (b : Bool) → not b ≡ true → b ≡ false
      by true e = absurd cc
      by false e = refl

  deleted-goes : (gone : List ℕ) (e : Entry) → MayDelete descriptions gone c → Goes c (catalogue_by (FileDeleted gone) e c)
  deleted-goes gone e may = record {
    further = omega arith;
    comes = λ m among.
        let its = among-filter (λ (x : CatalogMember). not (is_in_file gone x)) c.members m among in
        inl (record {
          was = m;
          among = its.0;
          number = refl;
          fields = ap fields_found (sym (spec-less gone c.files is.names (all-free gone c.files may.alone) m.file (not-gone gone m.file its.1)));
        });
  }

  pub entry-goes : (kind : EntryKind) (e : Entry) → MayEnterBy descriptions kind e c → Goes c (catalogue_by kind e c)
  entry-goes (FileCreated kind name source) e may = created-goes kind name source e may
  entry-goes (FileDeleted name) e may = deleted-goes name e may
  entry-goes (MemberAdded file name) e may = added-goes file name e may
  entry-goes (JournalingStarted images slots) e may = set-goes c e.member (Some images)
  entry-goes JournalingEnded e may = set-goes c e.member None
  entry-goes (InitialSlot image) e may = same-goes c
  entry-goes MemberCleared e may = same-goes c
  entry-goes MemberReorganized e may = same-goes c
  entry-goes (ChangesApplied first last changes) e may = same-goes c
  entry-goes (ChangesRemoved first last changes) e may = same-goes c
  entry-goes (RecordAdded image) e may = same-goes c
  entry-goes (RecordAddedAtNumber image) e may = same-goes c
  entry-goes (BeforeImage image) e may = same-goes c
  entry-goes (AfterImage has_before image) e may = same-goes c
  entry-goes (RecordDeleted before) e may = same-goes c
  entry-goes (UndoBeforeImage image) e may = same-goes c
  entry-goes (UndoAfterImage has_before image) e may = same-goes c
  entry-goes (UndoDelete image) e may = same-goes c
  entry-goes (CommitmentStarted level) e may = same-goes c
  entry-goes CommitCycleStarted e may = same-goes c
  entry-goes CommitCycleCommitted e may = same-goes c
  entry-goes CommitCycleRolledBack e may = same-goes c
  entry-goes CommitmentEnded e may = same-goes c
  entry-goes AbnormalEnd e may = same-goes c
  entry-goes (NextReceiver number) e may = same-goes c
  entry-goes (PreviousReceiver number) e may = same-goes c

  created-plain-by : (kind : FileKind) (name source : List ℕ) (e : Entry) → MayCreate descriptions kind name source e c → IsPlainCatalogue (catalogue_by (FileCreated kind name source) e c)
  created-plain-by Physical name source e may = created-plain Physical name source e may
  created-plain-by Logical name source e may = created-plain Logical name source e may

  pub entry-plain : (kind : EntryKind) (e : Entry) → MayEnterBy descriptions kind e c → IsPlainCatalogue (catalogue_by kind e c)
  entry-plain (FileCreated kind name source) e may = created-plain-by kind name source e may
  entry-plain (FileDeleted name) e may = plain-less name c.files is.names (all-free name c.files may.alone) plain
  entry-plain (MemberAdded file name) e may = plain
  entry-plain (JournalingStarted images slots) e may = plain
  entry-plain JournalingEnded e may = plain
  entry-plain (InitialSlot image) e may = plain
  entry-plain MemberCleared e may = plain
  entry-plain MemberReorganized e may = plain
  entry-plain (ChangesApplied first last changes) e may = plain
  entry-plain (ChangesRemoved first last changes) e may = plain
  entry-plain (RecordAdded image) e may = plain
  entry-plain (RecordAddedAtNumber image) e may = plain
  entry-plain (BeforeImage image) e may = plain
  entry-plain (AfterImage has_before image) e may = plain
  entry-plain (RecordDeleted before) e may = plain
  entry-plain (UndoBeforeImage image) e may = plain
  entry-plain (UndoAfterImage has_before image) e may = plain
  entry-plain (UndoDelete image) e may = plain
  entry-plain (CommitmentStarted level) e may = plain
  entry-plain CommitCycleStarted e may = plain
  entry-plain CommitCycleCommitted e may = plain
  entry-plain CommitCycleRolledBack e may = plain
  entry-plain CommitmentEnded e may = plain
  entry-plain AbnormalEnd e may = plain
  entry-plain (NextReceiver number) e may = plain
  entry-plain (PreviousReceiver number) e may = plain
