use Rattle.std.proofs.Common.{◌≡◌, ◌∙◌, ◌++◌, [], drop, ap, sym, List, ℕ}
use Rattle.std.proofs.lemmas.List.{drop_all, append-nil}
use Rattle.key_order.specs.KeyBytes.{encoded_values}
use Rattle.key_order.proofs.ValueLemmas.{no-values}
use Rattle.key_order.proofs.given.put_values.Goals as goal

pub returns-clause-key : goal.returns-clause-key
returns-clause-key c =
    let none : drop c.loop-i.i c.args.values.now ≡ [] = drop_all c.loop-i.i c.args.values.now c.loop-i-test.false in
    let left : encoded_values (drop c.loop-i.i c.args.parts.now) (drop c.loop-i.i c.args.values.now) ≡ [] =
    ap (encoded_values (drop c.loop-i.i c.args.parts.now)) none ∙ no-values (drop c.loop-i.i c.args.parts.now) in
    sym (append-nil c.loop-i.into.items) ∙ ap (λ (w : List ℕ). c.loop-i.into.items ++ w) (sym left) ∙ c.loop-i.invariant.key
