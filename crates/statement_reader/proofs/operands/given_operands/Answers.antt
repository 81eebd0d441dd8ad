use Rattle.std.proofs.Common.{◌≡◌, length, sym, ap, ◌∙◌, eqb-true, false-eqb}
use Rattle.statement_reader.specs.Operands.{given_operand, given_operands}
use Rattle.statement_reader.specs.Words.{words}
use Rattle.statement_reader.proofs.ListLemmas.{each_stop, each_empty, each_some}
use Rattle.statement_reader.proofs.operands.given_operands.Goals as goal

pub returns-in_default-2 : goal.returns-in_default-2
unfolding given_operands
returns-in_default-2 c =
    each_stop (given_operand c.args.variables.now) c.loop-word.operands.items (words c.loop-word.rest.now) c.in-Some.word.now (words c.in-Some.others.now) (words c.args.text.now)
    c.in-Some.ensures.0 (sym c.in_default-2.is ∙ c.in_ok-next.ensures) c.loop-word.invariant

pub returns-then-is_empty : goal.returns-then-is_empty
unfolding given_operands
returns-then-is_empty c =
    let empty : length c.from_vec-operands.result ≡ 0 = ap length (sym c.as_slice.ensures) ∙ eqb-true (length c.as_slice.result.now) 0 (sym c.if-is_empty.ensures) in
    each_empty (given_operand c.args.variables.now) c.loop-word.operands.items c.from_vec-operands.result (words c.loop-word.rest.now) (words c.args.text.now)
    c.in_default.ensures c.from_vec-operands.ensures empty c.loop-word.invariant

pub returns-else-is_empty : goal.returns-else-is_empty
unfolding given_operands
returns-else-is_empty c =
    each_some (given_operand c.args.variables.now) c.loop-word.operands.items c.from_vec-operands.result (words c.loop-word.rest.now) (words c.args.text.now)
    c.in_default.ensures c.from_vec-operands.ensures (λ empty. false-eqb (length c.as_slice.result.now) 0 c.if-is_empty.ensures (ap length c.as_slice.ensures ∙ empty)) c.loop-word.invariant
