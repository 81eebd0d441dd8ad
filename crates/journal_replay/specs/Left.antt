-- What does it mean that this is what a journal leaves?
-- (Journal Management, "Recovery operations using journaling".)
use Rattle.std.specs.Prelude.{ℕ, ◌+◌, ◌≡◌, ◌<◌, ◌≤◌, ◌==◌, Bool, false, List, [], ◌∷◌, Option, Some, None}
use Rattle.std.specs.List.{list_any, AllByRecursion}
use Rattle.entry_codec.specs.declared.entries.Entry.{Entry}
use Rattle.journal_model.specs.Acts.{act, entry_before}
use Rattle.journal_model.specs.Rollback.{undos_of, of_member}
use Rattle.journal_model.specs.Catalogue.{Descriptions, empty_catalogue}
use Rattle.journal_model.specs.Journal.{Journal, entries, last_sequence, state_of, open_cycles, catalogue_of}
use Rattle.journal_replay.specs.SoFar.{CanReplaySoFar}
use Rattle.journal_replay.specs.Standing.{Standing, HeldMember, catalogue_in, begun_by, break_by}

-- the sequence of the member's last break, behind one of this sequence
abbrev pub last_break : (member old : ℕ) → Option Entry → List Entry → ℕ
last_break member old prior [] = old
last_break member old prior (e ∷ entries) = last_break member (break_by (act member prior e) e.sequence old) (Some e) entries

-- where the checkpoint has these last breaks
abbrev pub last_break_of : (ℕ → ℕ) → Journal → ℕ → ℕ
last_break_of breaks j member = last_break member (breaks member) (entry_before None j.kept) j.later

-- a member of this number is there
abbrev pub is_held : ℕ → List HeldMember → Bool
is_held number members = list_any (λ (m : HeldMember). m.number == number) members

-- the journal can be replayed so far and leaves this, where the checkpoint has these last breaks
pub record IsLeft (d : Descriptions) (breaks : ℕ → ℕ) (j : Journal) (s : Standing) : Type 0 where
  pub so_far : CanReplaySoFar d j
  pub next : s.next ≡ last_sequence j + 1
  pub begun : s.begun ≡ begun_by (entry_before None (entries j))
  pub catalogue : catalogue_in s ≡ catalogue_of j
  pub cycles : s.cycles ≡ open_cycles j
  pub undos : s.undos ≡ undos_of [] (entry_before None j.kept) j.later
  pub slots : AllByRecursion (λ (m : HeldMember). m.slots ≡ (state_of j m.number).slots) s.members
  pub last_breaks : AllByRecursion (λ (m : HeldMember). m.last_break ≡ last_break_of breaks j m.number) s.members
  -- numbers of members are never used again, and open commit cycles have changed members that are there
  pub numbered : AllByRecursion (λ (m : HeldMember). m.number < s.next_member) s.members
  pub fresh : (number : ℕ) → s.next_member ≤ number → ((state_of j number).slots ≡ []) × (last_break_of breaks j number ≡ 0)
  pub owned : (number : ℕ) → is_held number s.members ≡ false → of_member number s.undos ≡ []

-- ---- at the beginning

-- the journal of a store that was formatted just now
abbrev pub empty_journal : Journal
empty_journal = record { checkpoint = 0; catalogue = empty_catalogue; members = []; receiver = 1; kept = []; later = [] }

abbrev pub empty_standing : Standing
empty_standing = record { next = 1; begun = None; files = []; members = []; next_member = 1; cycles = []; undos = [] }
