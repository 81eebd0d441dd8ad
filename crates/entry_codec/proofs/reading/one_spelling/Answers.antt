use Rattle.entry_codec.proofs.EntryLaws.{one_spelling}
use Rattle.entry_codec.proofs.reading.one_spelling.Goals as goal

pub returns : goal.returns
returns c = one_spelling
