use Rattle.std.proofs.Common.{ℕ, List, ap, sym, take, ◌∙◌, arith}
use Rattle.std.proofs.lemmas.List.{take_all}
use Rattle.store_model.proofs.Held.{held_read, held_past, held-set_same, held-set_other}
use Rattle.store_model.proofs.past.shorten.Goals as goal

pub returns-then-place-len-clause-here : goal.returns-then-place-len-clause-here
returns-then-place-len-clause-here c =
    let areas = c.args.areas.now.items in
    held-set_same areas c.args.place c.truncate.new.self (omega arith) ∙ c.truncate.ensures.items
    ∙ ap (λ (l : List ℕ). take c.args.end l) (held_read areas c.args.place c.index_mut.result.now (omega arith) c.index_mut.ensures.value)

pub returns-then-place-len-clause-others : goal.returns-then-place-len-clause-others
returns-then-place-len-clause-others c = λ other apart. held-set_other c.args.areas.now.items c.args.place other c.truncate.new.self apart

pub returns-else-place-len-clause-here : goal.returns-else-place-len-clause-here
returns-else-place-len-clause-here c =
    let none = held_past c.args.areas.now.items c.args.place (omega arith) in
    none ∙ sym (ap (λ (l : List ℕ). take c.args.end l) none ∙ take_all c.args.end _ (omega arith))
