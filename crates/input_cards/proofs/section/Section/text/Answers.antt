use Rattle.std.proofs.Common.{◌-◌, ℕ, length, take, drop, arith, length-drop}
use Rattle.std.proofs.lemmas.List.{length-take}
use Rattle.input_cards.proofs.SectionLemmas.{few-within}
use Rattle.input_cards.proofs.section.Section.text.Goals as goal

pub returns-clause-few : goal.returns-clause-few
returns-clause-few c =
    let bytes = c.args.bytes.now in
    let rest = take (length bytes - c.min.result) (drop c.min.result bytes) in
    few-within (take c.min-2.result rest) bytes
    (omega (arith, length-take c.min-2.result rest, length-take (length bytes - c.min.result) (drop c.min.result bytes), length-drop c.min.result bytes))
