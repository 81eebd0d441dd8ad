use Rattle.std.proofs.Common.{◌≡◌, length, sym, ap, ◌∙◌, eqb-true, false-eqb}
use Rattle.statement_reader.specs.Operands.{variable_of, targets_of}
use Rattle.statement_reader.specs.Words.{words}
use Rattle.statement_reader.proofs.ListLemmas.{each_stop, each_empty, each_some}
use Rattle.statement_reader.proofs.operands.targets_of.Goals as goal

pub returns-in_default-variable_of : goal.returns-in_default-variable_of
unfolding targets_of
returns-in_default-variable_of c =
    each_stop (variable_of c.args.variables.now) c.loop-word.targets.items (words c.loop-word.rest.now) c.in-Some.word.now (words c.in-Some.others.now) (words c.args.text.now)
    c.in-Some.ensures.0 (c.in_default-variable_of.ensures) c.loop-word.invariant

pub returns-then-is_empty : goal.returns-then-is_empty
unfolding targets_of
returns-then-is_empty c =
    let empty : length c.from_vec-targets.result ≡ 0 = ap length (sym c.as_slice.ensures) ∙ eqb-true (length c.as_slice.result.now) 0 (sym c.if-is_empty.ensures) in
    each_empty (variable_of c.args.variables.now) c.loop-word.targets.items c.from_vec-targets.result (words c.loop-word.rest.now) (words c.args.text.now)
    c.in_default.ensures c.from_vec-targets.ensures empty c.loop-word.invariant

pub returns-else-is_empty : goal.returns-else-is_empty
unfolding targets_of
returns-else-is_empty c =
    each_some (variable_of c.args.variables.now) c.loop-word.targets.items c.from_vec-targets.result (words c.loop-word.rest.now) (words c.args.text.now)
    c.in_default.ensures c.from_vec-targets.ensures (λ empty. false-eqb (length c.as_slice.result.now) 0 c.if-is_empty.ensures (ap length c.as_slice.ensures ∙ empty)) c.loop-word.invariant
