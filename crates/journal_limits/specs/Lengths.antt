-- What must the rules of data descriptions say of record lengths, so that the members of a journal can be judged entry by entry? (Our own.)
use Rattle.std.specs.Prelude.{◌≡◌, ◌≤◌, ◌⊎◌, Some, None, List, length}
use Rattle.std.specs.List.{AllByRecursion}
use Rattle.entry_codec.specs.declared.entries.Entry.{Entry}
use Rattle.journal_model.specs.Catalogue.{Catalogue, CatalogMember, Descriptions, MayEnterAll, MayEnterBy, catalogue_after, catalogue_by, empty_catalogue, member_numbered}
use Rattle.journal_model.specs.Images.{HasRecords, images_of}
use Rattle.journal_model.specs.Journal.{Journal, record_length}
use Rattle.journal_replay.specs.Left.{empty_journal}

-- the journal of a store that was formatted, with these entries since
abbrev pub journal_of : List Entry → Journal
journal_of entries = record empty_journal { later = entries }

-- the member isn't there yet
pub record IsNewTo (c : Catalogue) (member : CatalogMember) : Type 0 where
  pub next : c.next_member ≤ member.number
  pub none : member_numbered (Some member.number) c ≡ None

-- the member was there before, and its records were as long as they are
pub record WasAsLong (d : Descriptions) (c later : Catalogue) (member : CatalogMember) : Type 0 where
  pub was : CatalogMember
  pub number : was.number ≡ member.number
  pub there : member_numbered (Some member.number) c ≡ Some was
  pub long : record_length d c was ≡ record_length d later member

-- of the catalogues that entries leave, each of which may stand where it does
pub record KeepsLengths (d : Descriptions) : Type 0 where
  -- the images of an entry that are records of its member are as long as that member's records
  pub images : (entries : List Entry) (e : Entry) → MayEnterAll d empty_catalogue entries → HasRecords d (catalogue_after empty_catalogue entries) e → (member : CatalogMember)
      → member_numbered e.member (catalogue_after empty_catalogue entries) ≡ Some member
      → AllByRecursion (λ image. length image ≡ record_length d (catalogue_after empty_catalogue entries) member) (images_of e.kind)
  -- behind an entry each member is a new one, or its records are as long as before, whatever files came and went
  pub stay : (entries : List Entry) (e : Entry) → MayEnterAll d empty_catalogue entries → MayEnterBy d e.kind e (catalogue_after empty_catalogue entries) → (member : CatalogMember)
      → member_numbered (Some member.number) (catalogue_by e.kind e (catalogue_after empty_catalogue entries)) ≡ Some member
      → IsNewTo (catalogue_after empty_catalogue entries) member
      ⊎ WasAsLong d (catalogue_after empty_catalogue entries) (catalogue_by e.kind e (catalogue_after empty_catalogue entries)) member
