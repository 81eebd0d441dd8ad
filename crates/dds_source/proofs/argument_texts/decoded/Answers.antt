use Rattle.std.proofs.Common.{sym, ◌∙◌}
use Rattle.dds_source.specs.ArgumentTexts.{bytes_of_digits}
use Rattle.dds_source.proofs.DigitLemmas.{onto_all-pair}
use Rattle.dds_source.proofs.argument_texts.decoded.Goals as goal

pub loop-rest-preserved-in_ok-push : goal.loop-rest-preserved-in_ok-push
loop-rest-preserved-in_ok-push c =
    onto_all-pair c.loop-rest.bytes.items c.push.new.self.items c.in-Some.byte c.loop-rest.rest.now (bytes_of_digits c.args.digits.now)
    c.in-len2-up.len_at_least c.in_ok-push.ensures.items (sym c.in-Some.is ∙ c.hex_byte.ensures) c.loop-rest.invariant
