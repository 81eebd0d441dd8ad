use Rattle.std.proofs.Common.{ℕ, Bor, List, length, map}
use Rattle.std.specs.Option.{option_map}
use Rattle.join_rows.specs.Reading.{left_list}
use Rattle.join_rows.specs.Trials.{tried, trials_from}
use Rattle.join_rows.proofs.BelowLemmas.{IsUnderway}
use Rattle.join_rows.proofs.levels.+found_below.Given as goal

abbrev pub decreases-found_below : goal.decreases-found_below
decreases-found_below l = length l.files.now

abbrev pub invariant-loop-at : goal.invariant-loop-at
invariant-loop-at l =
    IsUnderway (record {
      members = l.walk.members.now.members;
      file = l.file;
      further = l.further;
      list = l.path;
      images = map (λ (image : Bor (List ℕ)). image.now) l.images;
      keeps_missing = l.walk.keeps_missing;
      back = l.walk.back;
      left = left_list l.left;
      wanted = l.sought;
    }) (option_map tried l.at)

abbrev pub decreases-loop-at : goal.decreases-loop-at
decreases-loop-at l = length (trials_from l.walk.back l.sought (option_map tried l.at) l.path)
