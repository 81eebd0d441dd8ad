use Rattle.std.proofs.Common.{◌∙◌, ◌<◌, arith}
use Rattle.ebc_text.proofs.TableLemmas.{code-at}
use Rattle.ebc_text.proofs.to_ebcdic_byte.Goals as goal

pub returns : goal.returns
returns c =
    let byte : c.args.c < 256 = omega arith in
    (rw c.from.ensures at c.entry.ensures) ∙ code-at c.args.c byte
