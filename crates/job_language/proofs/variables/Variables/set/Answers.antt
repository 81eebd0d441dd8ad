use Rattle.std.proofs.Common.{◌≡◌, ◌∙◌, ap, get_or}
use Rattle.job_language.proofs.VariableLemmas.{without-set}
use Rattle.job_language.proofs.variables.Variables.set.Goals as goal

pub returns-in_ok-reserve-clause-before : goal.returns-in_ok-reserve-clause-before
returns-in_ok-reserve-clause-before c =
    let was : c.replace-before.result ≡ get_or c.self.inside.values.items c.args.variable c.replace-before.result = rw c.replace-before.ensures.value c.index_mut.ensures.value in
    rw (c.push_reserved.ensures.items, c.replace-before.ensures.after, c.reserve.ensures.items)
    (without-set c.self.inside.changes.items c.self.inside.values.items c.args.variable c.args.value c.replace-before.result was)
    ∙ ap (λ held. held.before) c.self.view_is
