use Rattle.std.proofs.Common.{Bor, Some, map}
use Rattle.key_pages.specs.EntryList.{EntryList}
use Rattle.parts_model.specs.KeptPaths.{pages_at}
use Rattle.parts_model.proofs.RowsOver.{IsGathered}
use Rattle.library_parts.proofs.rows.paths_of.Given as goal

abbrev pub invariant-loop-id : goal.invariant-loop-id
invariant-loop-id l = IsGathered (pages_at l.paths) l.ids l.id-index (map (λ (path : Bor EntryList). Some path.now) l.found.items)
