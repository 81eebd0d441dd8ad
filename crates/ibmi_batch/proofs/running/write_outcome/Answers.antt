use Rattle.std.proofs.Common.{◌≡◌, true, false, rules}
use Rattle.ibmi_batch.proofs.RunLemmas.{stands-alive, cut-failed}
use Rattle.ibmi_batch.proofs.running.write_outcome.Goals as goal

pub returns-then-failed-clause-ran : goal.returns-then-failed-clause-ran
returns-then-failed-clause-ran g c =
    let failed : c.args.session.now.library.failed ≡ true = search rules in
    λ outcome at. c.write_cut_short.ensures outcome (cut-failed g.S.Store.tells g.S.Store.disk c.args.session.now.library outcome at failed)

pub returns-in-Done-clause-ran : goal.returns-in-Done-clause-ran
returns-in-Done-clause-ran g c =
    let alive : c.args.session.now.library.failed ≡ false = search rules in
    λ outcome at. c.write_at_end.ensures.ran outcome (stands-alive g.S.Store.tells g.S.Store.disk c.args.session.now.library outcome at alive) (c.requires (search rules))
