-- Which journals can be replayed up to their last entry, and which entry may come next?
-- (Journal Management, "Recovery operations using journaling".) An entry at the end may begin a pair of images whose other
-- entry is still to come; but for that, such a journal can be replayed.
use Rattle.std.specs.Prelude.{ℕ, ◌+◌, ◌≡◌, List, [], ◌∷◌, ◌++◌, length, Option, Some, None, ⊤}
use Rattle.std.specs.List.{AllByRecursion}
use Rattle.entry_codec.specs.declared.entries.Entry.{Entry}
use Rattle.entry_codec.specs.declared.kinds.EntryKind.TheVariants.{FileDeleted, CommitCycleStarted}
use Rattle.member_slots.specs.Member.{IsMember}
use Rattle.journal_model.specs.Acts.{act, entry_before}
use Rattle.journal_model.specs.Replayable.{CanReplay, MayFollow, IsFree, IsOpen}
use Rattle.journal_model.specs.Pairs.{EndsPair, BeginsNoPair}
use Rattle.journal_model.specs.Catalogue.{Catalogue, CatalogMember, Descriptions, MayEnterAll, MayEnterBy, members_of, member_numbered, catalogue_by}
use Rattle.journal_model.specs.Images.{HasRecords, AllHaveRecords}
use Rattle.journal_model.specs.Journal.{Journal, entries, last_sequence, start_of, acts_after, state_of, open_cycles, catalogue_of, record_length, AreNumbered, NamesOpen, DeletesFree, HasPlaceIn}

-- each pair that begins among the entries ends with the next one, where there is a next one
abbrev pub ArePairsSoFar : Option Entry → List Entry → Type 0
ArePairsSoFar prior [] = ⊤
ArePairsSoFar prior (e ∷ entries) = EndsPair prior e × ArePairsSoFar (Some e) entries

-- the journal can be replayed, but for a pair of images at its end whose second is still to come, and for the limits of
-- its members
pub record CanReplaySoFar (d : Descriptions) (j : Journal) : Type 0 where
  pub first : ℕ
  pub kept : AreNumbered first j.kept
  pub joined : first + length j.kept ≡ j.checkpoint + 1
  pub later : AreNumbered (j.checkpoint + 1) j.later
  pub enters : MayEnterAll d j.catalogue j.later
  pub replays : (member : ℕ) → CanReplay (start_of j member) (acts_after j member)
  pub names : NamesOpen j
  pub deletes : DeletesFree j
  pub pairs : ArePairsSoFar None (entries j)
  pub kept_records : AllByRecursion (HasRecords d j.catalogue) j.kept
  pub kept_places : AllByRecursion (HasPlaceIn d j.catalogue) j.kept
  pub records : AllHaveRecords d j.catalogue j.later

-- no pair of images is open at the journal's end
abbrev pub EndsWhole : Journal → Type 0
EndsWhole j = BeginsNoPair (entry_before None (entries j))

-- ---- one entry more

-- the journal with this entry more
abbrev pub with_entry : Entry → Journal → Journal
with_entry e j = record j { later = j.later ++ e ∷ [] }

-- each member that the catalogue has is within its limits
abbrev pub AreWithinLimits : Descriptions → Journal → Type 0
AreWithinLimits d j =
    (member : CatalogMember) → member_numbered (Some member.number) (catalogue_of j) ≡ Some member
    → IsMember (record { record_length = record_length d (catalogue_of j) member; slots = (state_of j member.number).slots })

-- the entry may stand next in the journal
pub record MayComeNext (d : Descriptions) (j : Journal) (e : Entry) : Type 0 where
  pub sequence : e.sequence ≡ last_sequence j + 1
  pub enters : MayEnterBy d e.kind e (catalogue_of j)
  pub replays : (member : ℕ) → MayFollow (state_of j member) (act member (entry_before None (entries j)) e)
  pub names : (e.kind ≡ CommitCycleStarted → ⊥) → IsOpen (open_cycles j) e.group
  pub deletes : (name : List ℕ) → e.kind ≡ FileDeleted name → AllByRecursion (λ (m : CatalogMember). IsFree (state_of j m.number)) (members_of name (catalogue_of j))
  pub pairs : EndsPair (entry_before None (entries j)) e
  pub records : HasRecords d (catalogue_of j) e
