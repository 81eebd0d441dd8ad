use Rattle.std.proofs.Common.{◌≡◌}
use Rattle.std.specs.Option.{option_copied}
use Rattle.std.specs.Result.{result_err}
use Rattle.record_fmt.specs.Records.{fields_given}
use Rattle.record_fmt.specs.Choice.{given_of}
use Rattle.record_fmt.proofs.WrittenLemmas.{goes_on}
use Rattle.record_fmt.proofs.packing.first_refused.Given as goal

abbrev pub invariant-loop-i : goal.invariant-loop-i
invariant-loop-i l = result_err (fields_given 1 l.fields (given_of l.values) (option_copied l.fn.old)) ≡ result_err (goes_on l.i l.fields (given_of l.values) (option_copied l.fn.old))
