use Rattle.std.proofs.Common.{◌≡◌, ◌∙◌, ◌++◌, ◌+◌, ◌<◌, List, sym, ap, arith}
use Rattle.std.proofs.lemmas.List.{append-nil}
use Rattle.entry_codec.specs.declared.entries.Entry.{Entry}
use Rattle.block_cache.proofs.Stretches.{between_none}
use Rattle.block_cache.proofs.reading.take_waiting.Goals as goal

pub returns-then-reached-hi-clause-taken : goal.returns-then-reached-hi-clause-taken
returns-then-reached-hi-clause-taken g c = λ tells all holds.
    let found = c.args.found.now.items in
    let none = between_none c.args.book.now.first (c.args.reached + 1) c.args.hi all (omega (arith, c.if-reached-hi.true)) in
    sym (ap (λ (l : List Entry). found ++ l) none ∙ append-nil found)

pub returns-clause-taken : goal.returns-clause-taken
returns-clause-taken g c = λ tells all holds.
    c.in_ok-append.ensures.items ∙ ap (λ (l : List Entry). c.args.found.now.items ++ l) (c.in_ok-waiting.ensures.entries tells all holds)
