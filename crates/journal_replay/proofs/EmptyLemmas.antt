-- What the empty journal leaves.
use Rattle.std.proofs.Common.{◌≡◌, ℕ, List, [], ◌∷◌, ◌++◌, refl}
use Rattle.entry_codec.specs.declared.entries.Entry.{Entry}
use Rattle.journal_model.specs.Catalogue.{Descriptions}
use Rattle.journal_replay.specs.SoFar.{CanReplaySoFar}
use Rattle.journal_replay.specs.Left.{IsLeft, empty_journal, empty_standing}

nothing : (front rest : List Entry) (e : Entry) → [] ≡ front ++ e ∷ rest → ⊥
nothing [] rest e h = absurd cc
nothing (x ∷ front) rest e h = absurd cc

empty-replays : (d : Descriptions) → CanReplaySoFar d empty_journal
empty-replays d = record {
  first = 1;
  kept = tt;
  joined = refl;
  later = tt;
  enters = tt;
  replays = λ member. tt;
  names = λ front rest e h other. absurd (nothing front rest e h);
  deletes = λ front rest e name h k. absurd (nothing front rest e h);
  pairs = tt;
  kept_records = tt;
  kept_places = tt;
  records = tt;
}

pub empty-left : (d : Descriptions) → IsLeft d (λ member. 0) empty_journal empty_standing
empty-left d = record {
  so_far = empty-replays d;
  next = refl;
  begun = refl;
  catalogue = refl;
  cycles = refl;
  undos = refl;
  slots = tt;
  last_breaks = tt;
  numbered = tt;
  fresh = λ number h. (refl, refl);
  owned = λ number h. refl;
}
