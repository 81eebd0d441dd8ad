use Rattle.ebc_text.proofs.to_ebcdic.Goals as goal

pub returns-clause-outside : goal.returns-clause-outside
returns-clause-outside c = rw c.as_bytes.ensures.value at c.to_ebcdic_bytes.ensures.outside
