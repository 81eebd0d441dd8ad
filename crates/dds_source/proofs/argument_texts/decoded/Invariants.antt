use Rattle.std.proofs.Common.{◌≡◌, length}
use Rattle.dds_source.specs.ArgumentTexts.{bytes_of_digits}
use Rattle.dds_source.proofs.DigitLemmas.{onto_all}
use Rattle.dds_source.proofs.argument_texts.decoded.Given as goal

abbrev pub invariant-loop-rest : goal.invariant-loop-rest
invariant-loop-rest l = onto_all l.bytes.items (bytes_of_digits l.rest) ≡ bytes_of_digits l.fn.digits

abbrev pub decreases-loop-rest : goal.decreases-loop-rest
decreases-loop-rest l = length l.rest
