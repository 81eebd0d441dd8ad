-- What does it mean that this was saved at a journal's checkpoint?
-- (Journal Management, "Recovery operations using journaling". Checkpoints are this project's own.)
use Rattle.std.specs.Prelude.{ℕ, ◌+◌, ◌≡◌, ◌<◌, ◌≤◌, List, [], Option, None}
use Rattle.std.specs.List.{AllByRecursion}
use Rattle.entry_codec.specs.declared.entries.Entry.{Entry}
use Rattle.journal_model.specs.Acts.{entry_before}
use Rattle.journal_model.specs.Catalogue.{CatalogFile, Descriptions}
use Rattle.journal_model.specs.Journal.{Journal}
use Rattle.journal_model.specs.ManyMembers.{slots_in}
use Rattle.journal_replay.specs.SoFar.{CanReplaySoFar}
use Rattle.journal_replay.specs.Standing.{Standing, HeldMember, catalogue_in, begun_by}
use Rattle.replay_members.specs.Bodies.{MemberList}

-- the journal up to its checkpoint
abbrev pub at_checkpoint : Journal → Journal
at_checkpoint j = record j { later = [] }

-- a standing without open commit cycles, behind the entry of this sequence
abbrev pub saved_standing : (last : ℕ) → Option Entry → List CatalogFile → MemberList → Standing
saved_standing last begun files m = record { next = last + 1; begun = begun; files = files; members = m.members; next_member = m.next; cycles = []; undos = [] }

-- the journal can be replayed up to its checkpoint, which saved this; these are the members' last breaks there
pub record IsSaved (d : Descriptions) (breaks : ℕ → ℕ) (j : Journal) (s : Standing) : Type 0 where
  pub so_far : CanReplaySoFar d (at_checkpoint j)
  pub next : s.next ≡ j.checkpoint + 1
  -- the last entry before the checkpoint, where it begins a pair of images
  pub begun : s.begun ≡ begun_by (entry_before None j.kept)
  pub catalogue : catalogue_in s ≡ j.catalogue
  pub slots : AllByRecursion (λ (m : HeldMember). m.slots ≡ slots_in m.number j.members) s.members
  pub last_breaks : AllByRecursion (λ (m : HeldMember). m.last_break ≡ breaks m.number) s.members
  -- numbers of members are never used again
  pub numbered : AllByRecursion (λ (m : HeldMember). m.number < s.next_member) s.members
  pub fresh : (number : ℕ) → s.next_member ≤ number → (slots_in number j.members ≡ []) × (breaks number ≡ 0)
