use Rattle.input_reader.proofs.SourceLengths.{sources-within}
use Rattle.input_reader.proofs.laws.sources_are_no_longer_than_their_input.Goals as goal

pub returns : goal.returns
returns c = sources-within
