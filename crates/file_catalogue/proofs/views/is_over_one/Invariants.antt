use Rattle.std.proofs.Common.{◌≡◌, drop, map}
use Rattle.std.specs.List.{list_any}
use Rattle.library_model.specs.Named.{same_name}
use Rattle.file_catalogue.proofs.views.is_over_one.Given as goal

abbrev pub invariant-loop-view : goal.invariant-loop-view
invariant-loop-view l = list_any (same_name l.file) (map (λ view. view.base) (drop l.view-index l.views)) ≡ list_any (same_name l.file) (map (λ view. view.base) l.views)
