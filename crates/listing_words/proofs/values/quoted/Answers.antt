use Rattle.statement_reader.specs.Literals.{quoted}
use Rattle.statement_reader.proofs.ListLemmas.{taken}
use Rattle.listing_words.proofs.values.quoted.Goals as goal

pub loop-byte-preserved : goal.loop-byte-preserved
loop-byte-preserved c =
    taken c.loop-byte.bytes.items c.push.new.self.items c.in-Some.byte (quoted c.loop-byte.rest.now) (quoted c.in-Some.others.now) (quoted c.args.text.now)
    c.in_ok-push.ensures.items c.in-Some.ensures.0 c.loop-byte.invariant
