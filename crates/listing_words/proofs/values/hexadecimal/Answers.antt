use Rattle.statement_reader.specs.Literals.{hexadecimal}
use Rattle.statement_reader.proofs.ListLemmas.{taken}
use Rattle.listing_words.proofs.values.hexadecimal.Goals as goal

pub loop-byte-preserved : goal.loop-byte-preserved
loop-byte-preserved c =
    taken c.loop-byte.bytes.items c.push.new.self.items c.in-Some.byte (hexadecimal c.loop-byte.rest.now) (hexadecimal c.in-Some.others.now) (hexadecimal c.args.text.now)
    c.in_ok-push.ensures.items c.in-Some.ensures.0 c.loop-byte.invariant
