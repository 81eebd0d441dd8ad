use Rattle.std.proofs.Common.{◌≡◌, drop, map}
use Rattle.std.specs.List.{list_any}
use Rattle.library_model.specs.Named.{same_name}
use Rattle.file_catalogue.proofs.views.is_secondary.Given as goal

abbrev pub invariant-loop-joined : goal.invariant-loop-joined
invariant-loop-joined l = list_any (same_name l.file) (map (λ joined. joined.file) (drop l.joined-index l.secondaries)) ≡ list_any (same_name l.file) (map (λ joined. joined.file) l.secondaries)
