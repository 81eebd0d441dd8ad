-- A member that stays keeps its record length, whatever files come and go, and an image that is a record of it is as long.
use Rattle.std.proofs.Common.{◌≡◌, ◌⊎◌, inl, inr, ℕ, ◌<◌, ◌≤◌, Some, None, List, [], ◌∷◌, length, refl, sym, ◌∙◌, ap, arith}
use Rattle.std.proofs.lemmas.Bool.{ne_eqb}
use Rattle.std.specs.List.{AllByRecursion, find}
use Rattle.entry_codec.specs.declared.entries.Entry.{Entry}
use Rattle.record_fmt.specs.Layout as layout
use Rattle.logical_laws.proofs.ListLemmas.{each-weaker}
use Rattle.journal_model.specs.Catalogue.{Catalogue, CatalogMember, MayEnterAll, MayEnterBy, catalogue_after, catalogue_by, empty_catalogue, has_number, member_numbered}
use Rattle.journal_model.specs.Images.{HasRecords, images_of}
use Rattle.journal_model.specs.Journal.{length_in, record_length}
use Rattle.journal_limits.specs.Lengths.{IsNewTo, KeepsLengths, WasAsLong}
use Rattle.library_kept.specs.Told.{IsRecordOf}
use Rattle.restart_model.specs.Sources.{descriptions}
use Rattle.restart_laws.proofs.CatalogueLemmas.{IsCatalogue, empty-is, entries-are, entry-is}
use Rattle.restart_laws.proofs.DescribedLemmas.{Among}
use Rattle.restart_laws.proofs.GoesLemmas.{IsPlainCatalogue, Was, beside-at, entry-goes, entry-plain, fields_at, found-among, member-records, numbered-among, own-file}
use Rattle.restart_laws.proofs.StandLemmas.{number-of}

-- ---- catalogues that entries leave

entries-plain : (entries : List Entry) (c : Catalogue) → IsCatalogue c → IsPlainCatalogue c → MayEnterAll descriptions c entries → IsPlainCatalogue (catalogue_after c entries)
entries-plain [] c is plain may = plain
entries-plain (e ∷ entries) c is plain may =
    entries-plain entries (catalogue_by e.kind e c) (entry-is descriptions e.kind e c is may.0) (entry-plain c is plain e.kind e may.0) may.1

none-above : (number next : ℕ) (members : List CatalogMember) → next ≤ number → AllByRecursion (λ (m : CatalogMember). m.number < next) members → find (has_number (Some number)) members ≡ None
none-above number next [] above below = refl
none-above number next (m ∷ members) above below =
    rw (ne_eqb number m.number (λ e. let low = below.0 in absurd (omega (arith, low, above, e)))) (none-above number next members above below.1)

-- ---- the record length of a member

long-of : (c : Catalogue) → IsCatalogue c → IsPlainCatalogue c → (m : CatalogMember) → Among m c.members → record_length descriptions c m ≡ layout.record_length (fields_at c m.file)
long-of c is plain m among =
    let its = own-file c is plain m among in
    ap (length_in descriptions c) its.there ∙ ap layout.record_length (beside-at c m.file its)

module _ (c : Catalogue) (is : IsCatalogue c) (plain : IsPlainCatalogue c) (e : Entry) where
  images-long : HasRecords descriptions c e → (m : CatalogMember) → member_numbered e.member c ≡ Some m
      → AllByRecursion (λ (image : List ℕ). length image ≡ record_length descriptions c m) (images_of e.kind)
  images-long records m found =
      let its = found-among (has_number e.member) c.members m found in
      each-weaker (IsRecordOf (fields_at c m.file)) (λ (image : List ℕ). length image ≡ record_length descriptions c m) (λ image of. of.long ∙ sym (long-of c is plain m its.0)) (images_of e.kind)
      (member-records c is plain e records m its.0 (number-of e.member m.number its.1))

  members-long : MayEnterBy descriptions e.kind e c → (m : CatalogMember) → member_numbered (Some m.number) (catalogue_by e.kind e c) ≡ Some m
      → IsNewTo c m ⊎ WasAsLong descriptions c (catalogue_by e.kind e c) m
  members-long may m there =
      let its = found-among (has_number (Some m.number)) (catalogue_by e.kind e c).members m there in
      by its.0 ((entry-goes c is plain e.kind e may).comes m its.0)
    where
      by : Among m (catalogue_by e.kind e c).members → Was c (catalogue_by e.kind e c) m ⊎ (m.number ≡ c.next_member) → IsNewTo c m ⊎ WasAsLong descriptions c (catalogue_by e.kind e c) m
      by among (inl w) = inr (record {
        was = w.was;
        number = w.number;
        there = ap (λ (n : ℕ). member_numbered (Some n) c) (sym w.number) ∙ numbered-among c.members w.was is.numbers w.among;
        long = long-of c is plain w.was w.among ∙ ap layout.record_length w.fields
            ∙ sym (long-of (catalogue_by e.kind e c) (entry-is descriptions e.kind e c is may) (entry-plain c is plain e.kind e may) m among);
      })
      by among (inr new) = inl (record { next = omega (arith, new); none = none-above m.number c.next_member c.members (omega (arith, new)) is.below })

pub lengths-kept : KeepsLengths descriptions
lengths-kept = record {
  images = λ entries e enters records m found.
      let is = entries-are descriptions entries empty_catalogue empty-is enters in
      images-long (catalogue_after empty_catalogue entries) is (entries-plain entries empty_catalogue empty-is tt enters) e records m found;
  stay = λ entries e enters may m there.
      let is = entries-are descriptions entries empty_catalogue empty-is enters in
      members-long (catalogue_after empty_catalogue entries) is (entries-plain entries empty_catalogue empty-is tt enters) e may m there;
}
