use Rattle.std.proofs.Common.{refl}
use Rattle.index_tests.proofs.ShownLemmas.{name-records, pushed-two}
use Rattle.index_tests.proofs.record_paths.by_name.Goals as goal

pub path_by-requires : goal.path_by-requires
path_by-requires c =
    name-records _ _ (pushed-two _ _ _ _ _ _ _ c.new-fields.ensures c.in_ok-push.ensures.pushed c.in_ok-push-2.ensures.pushed c.shown.ensures c.shown-2.ensures)
    (pushed-two _ _ _ _ _ _ _ c.new-key.ensures c.in_ok-push-3.ensures c.in_ok-push-4.ensures refl refl)
