use Rattle.std.proofs.Common.{arith}
use Rattle.entry_codec.proofs.Lengths.{body-fits}
use Rattle.entry_codec.proofs.writing.entry_length.Goals as goal

pub body_length-requires : goal.body_length-requires
body_length-requires c = omega (arith, body-fits c.args.e.now.kind c.requires.fields)

pub overflow_add-result-2 : goal.overflow_add-result-2
overflow_add-result-2 c = omega (arith, body-fits c.args.e.now.kind c.requires.fields, c.body_length.ensures)

pub returns-clause-most : goal.returns-clause-most
returns-clause-most c = omega (arith, body-fits c.args.e.now.kind c.requires.fields, c.body_length.ensures)
