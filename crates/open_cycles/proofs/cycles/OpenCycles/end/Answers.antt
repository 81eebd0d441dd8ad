use Rattle.std.proofs.Common.{◌≡◌, filter, rules, refl}
use Rattle.std.proofs.lemmas.Fn.{filter_same}
use Rattle.journal_model.specs.Replay.{is_other}
use Rattle.open_cycles.proofs.cycles.OpenCycles.end.Goals as goal

pub returns-clause-cycles : goal.returns-clause-cycles
returns-clause-cycles c =
    let kept : c.retain.new.self.items ≡ filter (is_other c.args.cycle) c.self.inside.cycles.items =
    filter_same _ (is_other c.args.cycle) _ (λ x b f' k. search rules) _ _ c.retain.ensures.filtered in
    rw (kept, ← c.self.view_is) refl
