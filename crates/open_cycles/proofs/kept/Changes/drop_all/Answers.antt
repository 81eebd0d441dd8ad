use Rattle.std.proofs.Common.{◌∙◌, ◌<◌, List, length, sym, ap, subst}
use Rattle.std.specs.List.{filter}
use Rattle.std.specs.Option.{is_some}
use Rattle.journal_model.specs.Replay.{is_not_in}
use Rattle.journal_model.specs.Rollback.{MemberChange}
use Rattle.open_cycles.specs.Kept.{last_of}
use Rattle.open_cycles.proofs.ReadLemmas.{filter-without, filter-done, fewer-some, without-done}
use Rattle.open_cycles.proofs.kept.Changes.drop_all.Goals as goal

pub loop-smaller : goal.loop-smaller
loop-smaller c = subst (λ (xs : List MemberChange). length xs < length c.loop.self) (sym c.drop_last.ensures.left) (fewer-some c.args.cycle c.loop.self (sym c.loop-test.ensures.dropped))

pub loop-preserved : goal.loop-preserved
loop-preserved c = ap (filter (λ (d : MemberChange). is_not_in c.args.cycle d.change)) c.drop_last.ensures.left ∙ filter-without c.args.cycle c.loop.self ∙ c.loop.invariant

pub returns-clause-left : goal.returns-clause-left
returns-clause-left c =
    let none = sym c.loop-test.ensures.dropped in
    c.drop_last.ensures.left ∙ without-done c.args.cycle c.loop.self none ∙ sym (filter-done c.args.cycle c.loop.self none) ∙ c.loop.invariant

pub returns-clause-none : goal.returns-clause-none
returns-clause-none c =
    let none = sym c.loop-test.ensures.dropped in
    ap (λ (xs : List MemberChange). is_some (last_of c.args.cycle xs)) (c.drop_last.ensures.left ∙ without-done c.args.cycle c.loop.self none) ∙ none
