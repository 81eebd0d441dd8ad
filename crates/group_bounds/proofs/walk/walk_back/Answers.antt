use Rattle.std.proofs.Common.{◌≡◌, ℕ, take, map, reverse, ap, sym, ◌∙◌, arith}
use Rattle.journal_model.specs.Acts.{acts}
use Rattle.group_bounds.specs.Walk.{entry_role, walked, start}
use Rattle.group_bounds.proofs.WalkLemmas.{walk-is}
use Rattle.group_bounds.proofs.EntryLemmas.{roles-back}
use Rattle.group_bounds.proofs.PartLemmas.{suffix-tells}
use Rattle.group_bounds.proofs.walk.walk_back.Goals as goal

pub returns-clause-walked : goal.returns-clause-walked
returns-clause-walked c = λ prior.
    let entries = c.args.entries.now in
    let none : c.loop-left.left ≡ 0 = omega arith in
    walk-is
    (reverse (acts c.args.member prior entries))
    c.loop-left.walk
    (ap (λ (n : ℕ). walked (map (entry_role c.args.member) (reverse (take n entries))) c.loop-left.walk) (sym none)
    ∙ c.loop-left.invariant.rest
    ∙ ap (λ roles. walked roles start) (sym (roles-back c.args.member entries prior)))

pub returns-clause-cut : goal.returns-clause-cut
returns-clause-cut c = λ prior first. suffix-tells (acts c.args.member prior c.args.entries.now) first c.loop-left.walk (returns-clause-walked c prior)
