-- A library with nothing in it, and what it is that a journal leaves its library.
use Rattle.std.proofs.Common.{◌≡◌, ℕ, List, [], ◌∷◌, map, refl, sym, ap, subst}
use Rattle.std.specs.Prelude.{is_none}
use Rattle.std.specs.List.{AllByRecursion}
use Rattle.journal_model.specs.Journal.{CanReplayJournal, StaysMembers}
use Rattle.journal_model.specs.Replayable.{is_one_of}
use Rattle.journal_replay.specs.Left.{empty_standing}
use Rattle.journal_replay.proofs.EmptyLemmas.{empty-left}
use Rattle.journal_replay.proofs.SoFarLemmas.{journal-whole}
use Rattle.journal_replay.proofs.WholeLemmas.{none-whole}
use Rattle.library_steps.specs.State.{State, begun, empty_library, new_job}
use Rattle.named_bases.specs.Sources.{descriptions}
use Rattle.named_bases.specs.Libraries.{journal_with}
use Rattle.replayed_histories.specs.Shown.{AreDifferent, cycle_numbers}
use Rattle.replayed_histories.specs.Replayed.{HasItsChanges, IsReplayed}

no-cycles : (names : List (List ℕ)) → cycle_numbers (map new_job names) ≡ []
no-cycles [] = refl
no-cycles (name ∷ names) = no-cycles names

no-changes : (names : List (List ℕ)) → AllByRecursion (HasItsChanges []) (map new_job names)
no-changes [] = tt
no-changes (name ∷ names) = (tt, no-changes names)

no-members : StaysMembers descriptions (journal_with [])
no-members [] rest member h there = absurd cc
no-members (e ∷ front) rest member h there = absurd cc

pub empty-replayed : (names : List (List ℕ)) → IsReplayed (begun empty_library names)
empty-replayed names = record {
  gone = refl;
  checkpoint = refl;
  left = empty_standing;
  journal = record { replays = empty-left descriptions; limits = no-members; within = tt; deposited = record { placed = tt; journaled = tt } };
  whole = refl;
  stands = record {
    files_are = refl;
    described = refl;
    fields_are = tt;
    members_are = tt;
    homes = tt;
    numbers = refl;
    next_is = refl;
    slots = tt;
    cycles_are = record {
      same = λ n. ap (λ (numbers : List ℕ). is_one_of numbers n) (sym (no-cycles names));
      rising = tt;
      apart = subst AreDifferent (sym (no-cycles names)) tt;
      begun = tt;
      changes = no-changes names;
      owned = tt;
    };
  };
}

pub whole-replays : (s : State) → IsReplayed s → CanReplayJournal descriptions (journal_with s.entries)
whole-replays s r =
    journal-whole descriptions (journal_with s.entries) r.journal.replays.so_far
    (none-whole descriptions (λ member. 0) (journal_with s.entries) r.left r.journal.replays (ap is_none r.whole)) r.journal.limits
