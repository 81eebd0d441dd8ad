use Rattle.std.proofs.Common.{◌∙◌, sym, ap, arith, leb-true}
use Rattle.std.specs.Prelude.{option_copied}
use Rattle.opened_library.proofs.JudgedLemmas.{wide-format, wide-none}
use Rattle.opened_library.proofs.judging.has_bytes.Goals as goal

pub returns-in-Some : goal.returns-in-Some
returns-in-Some c = λ is.
    wide-format c.args.file.now.spec c.in-Some.format.now (sym (ap option_copied c.in-Some.is) ∙ c.format.ensures) (omega (arith, leb-true 1 c.length.result is, c.length.ensures))

pub returns-in-None : goal.returns-in-None
returns-in-None c = λ is. wide-none c.args.file.now.spec (sym (ap option_copied c.in-None.is) ∙ c.format.ensures)
