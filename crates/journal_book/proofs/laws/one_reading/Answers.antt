use Rattle.journal_book.proofs.Reading.{one_list}
use Rattle.journal_book.proofs.laws.one_reading.Goals as goal

pub returns : goal.returns
returns c = one_list
