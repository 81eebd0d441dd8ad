use Rattle.std.proofs.Common.{◌≡◌, length, sym, ap, ◌∙◌, eqb-true, false-eqb}
use Rattle.statement_reader.specs.Control.{named_of}
use Rattle.statement_reader.specs.RefusalNames.{refusal_named}
use Rattle.statement_reader.specs.Words.{words}
use Rattle.statement_reader.proofs.ListLemmas.{each_stop, each_empty, each_some}
use Rattle.statement_reader.proofs.control.named_of.Goals as goal

pub returns-in_default-refusal_named : goal.returns-in_default-refusal_named
unfolding named_of
returns-in_default-refusal_named c =
    each_stop (refusal_named) c.loop-word.names.items (words c.loop-word.rest.now) c.in-Some.word.now (words c.in-Some.others.now) (words c.args.text.now)
    c.in-Some.ensures.0 (c.in_default-refusal_named.ensures) c.loop-word.invariant

pub returns-then-is_empty : goal.returns-then-is_empty
unfolding named_of
returns-then-is_empty c =
    let empty : length c.from_vec-names.result ≡ 0 = ap length (sym c.as_slice.ensures) ∙ eqb-true (length c.as_slice.result.now) 0 (sym c.if-is_empty.ensures) in
    each_empty (refusal_named) c.loop-word.names.items c.from_vec-names.result (words c.loop-word.rest.now) (words c.args.text.now)
    c.in_default.ensures c.from_vec-names.ensures empty c.loop-word.invariant

pub returns-else-is_empty : goal.returns-else-is_empty
unfolding named_of
returns-else-is_empty c =
    each_some (refusal_named) c.loop-word.names.items c.from_vec-names.result (words c.loop-word.rest.now) (words c.args.text.now)
    c.in_default.ensures c.from_vec-names.ensures (λ empty. false-eqb (length c.as_slice.result.now) 0 c.if-is_empty.ensures (ap length c.as_slice.ensures ∙ empty)) c.loop-word.invariant
