use Rattle.file_cursor.proofs.ArrivalLaws.{next-by-number, prior-by-number, chain-by-number}
use Rattle.file_cursor.proofs.laws.numbers_are_found_as_records.Goals as goal

pub returns-clause-next : goal.returns-clause-next
returns-clause-next c = next-by-number

pub returns-clause-prior : goal.returns-clause-prior
returns-clause-prior c = prior-by-number

pub returns-clause-chain : goal.returns-clause-chain
returns-clause-chain c = chain-by-number
