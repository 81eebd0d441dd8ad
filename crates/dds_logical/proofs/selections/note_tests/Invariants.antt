use Rattle.std.proofs.Common.{◌≡◌, drop, flat_map}
use Rattle.dds_physical.specs.Faults.{first_after}
use Rattle.dds_logical.specs.Selections.{field_to_test, test_faults}
use Rattle.dds_logical.proofs.selections.note_tests.Given as goal

abbrev pub invariant-loop-keyword : goal.invariant-loop-keyword
invariant-loop-keyword l = first_after l.first.fault (flat_map (test_faults (field_to_test l.named l.base) l.ty) (drop l.keyword-index l.keywords))
    ≡ first_after l.fn.first.fault (flat_map (test_faults (field_to_test l.named l.base) l.ty) l.keywords)
