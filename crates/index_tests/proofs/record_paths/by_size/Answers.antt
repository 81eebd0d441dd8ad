use Rattle.std.proofs.Common.{true, false, refl}
use Rattle.index_tests.specs.MemberRecords.{amount}
use Rattle.index_tests.proofs.ShownLemmas.{one-records, pushed-one}
use Rattle.index_tests.proofs.record_paths.by_size.Goals as goal

pub path_by-requires : goal.path_by-requires
path_by-requires c =
    one-records amount 2 true true _ _ (pushed-one _ _ _ _ c.new-fields.ensures c.in_ok-push.ensures.pushed c.shown.ensures) (pushed-one _ _ _ _ c.new-key.ensures c.in_ok-push-2.ensures refl)
    (λ image is. is.has_amount)
