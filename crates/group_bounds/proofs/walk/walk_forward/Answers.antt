use Rattle.std.proofs.Common.{◌≡◌, drop, map, ap, sym, ◌∙◌}
use Rattle.std.proofs.lemmas.List.{drop_all}
use Rattle.journal_model.specs.Acts.{acts}
use Rattle.group_bounds.specs.Walk.{entry_role, walked, start}
use Rattle.group_bounds.proofs.WalkLemmas.{walk-is}
use Rattle.group_bounds.proofs.EntryLemmas.{roles-acts}
use Rattle.group_bounds.proofs.PartLemmas.{prefix-tells}
use Rattle.group_bounds.proofs.walk.walk_forward.Goals as goal

pub returns-clause-walked : goal.returns-clause-walked
returns-clause-walked c = λ prior.
    let entries = c.args.entries.now in
    let done : drop c.loop-entry.entry-index entries ≡ _ = drop_all c.loop-entry.entry-index entries c.loop-entry-test.false in
    walk-is
    (acts c.args.member prior entries)
    c.loop-entry.walk
    (ap (λ es. walked (map (entry_role c.args.member) es) c.loop-entry.walk) (sym done)
    ∙ c.loop-entry.invariant.rest
    ∙ ap (λ roles. walked roles start) (sym (roles-acts c.args.member entries prior)))

pub returns-clause-cut : goal.returns-clause-cut
returns-clause-cut c = λ prior first. prefix-tells (acts c.args.member prior c.args.entries.now) first c.loop-entry.walk (returns-clause-walked c prior)
