use Rattle.ebc_text.proofs.TableLemmas.{ascii_of-ebcdic_of, ebcdic_of-ascii_of}
use Rattle.ebc_text.proofs.one_to_one.Goals as goal

pub returns : goal.returns
returns c = λ character code. (ascii_of-ebcdic_of character code, ebcdic_of-ascii_of code character)
