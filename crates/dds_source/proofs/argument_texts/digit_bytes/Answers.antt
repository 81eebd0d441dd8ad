use Rattle.std.proofs.Common.{sym}
use Rattle.dds_source.specs.ArgumentTexts.{bytes_of_digits}
use Rattle.dds_source.proofs.DigitLemmas.{none_from}
use Rattle.dds_source.proofs.argument_texts.digit_bytes.Goals as goal

pub returns-else-are_byte_digits-clause-value : goal.returns-else-are_byte_digits-clause-value
returns-else-are_byte_digits-clause-value c = none_from (bytes_of_digits c.args.digits.now) (sym c.if-are_byte_digits.ensures)
