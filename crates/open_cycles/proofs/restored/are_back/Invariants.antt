use Rattle.std.proofs.Common.{◌≡◌, drop}
use Rattle.std.specs.List.{list_all}
use Rattle.open_cycles.specs.Kept.{is_back_in, passes_at}
use Rattle.open_cycles.proofs.restored.are_back.Given as goal

abbrev pub invariant-loop-place : goal.invariant-loop-place
invariant-loop-place g l = list_all (passes_at (is_back_in l.cycle l.changes (g.M.HasSlots.slots l.members)) l.kept) (drop l.place-index l.places)
    ≡ list_all (passes_at (is_back_in l.cycle l.changes (g.M.HasSlots.slots l.members)) l.kept) l.places
