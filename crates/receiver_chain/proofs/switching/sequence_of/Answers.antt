use Rattle.std.proofs.Common.{◌∙◌}
use Rattle.receiver_chain.proofs.Switches.{start_sequence}
use Rattle.receiver_chain.proofs.switching.sequence_of.Goals as goal

pub returns : goal.returns
returns c = λ attached nr blocks. c.read_u64.ensures ∙ start_sequence attached nr c.args.pr.now blocks
