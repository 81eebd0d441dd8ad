use Rattle.std.proofs.Common.{◌≡◌, is_some, length}
use Rattle.dds_source.specs.ArgumentTexts.{bytes_of_digits}
use Rattle.dds_source.proofs.argument_texts.are_byte_digits.Given as goal

abbrev pub invariant-loop-rest : goal.invariant-loop-rest
invariant-loop-rest l = is_some (bytes_of_digits l.rest) ≡ is_some (bytes_of_digits l.fn.digits)

abbrev pub decreases-loop-rest : goal.decreases-loop-rest
decreases-loop-rest l = length l.rest
