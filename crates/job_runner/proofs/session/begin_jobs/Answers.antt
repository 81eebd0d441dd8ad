use Rattle.std.proofs.Common.{◌≡◌, List, ℕ, ◌+◌, [], ◌∷◌, ◌++◌, take, get_or, sym, ◌∙◌, ap, subst}
use Rattle.std.proofs.lemmas.List.{take_more}
use Rattle.job_runner.specs.Places.{BeginsJobs}
use Rattle.job_runner.proofs.BeginLemmas.{BeginsJobs-next}
use Rattle.job_runner.proofs.session.begin_jobs.Goals as goal

pub loop-name-preserved : goal.loop-name-preserved
loop-name-preserved g c =
    let names : List (List ℕ) = c.args.names.now in
    let before = take c.loop-name.name-index names in
    let name : List ℕ = c.name-item.result in
    let same : get_or names c.loop-name.name-index name ≡ name = let is = c.name-item.is in cc in
    let next : BeginsJobs g.S.Store.tells g.S.Store.disk c.loop-name.library c.begin_job.new.self (name ∷ []) = record {
      state = c.in_ok-begin_job.ensures.begun;
      stands = λ s stands. c.in_ok-begin_job.ensures.stands s stands;
      store = c.begin_job.ensures.store;
      receiver = c.begin_job.ensures.receiver;
      forced = c.begin_job.ensures.forced;
      failed = c.begin_job.ensures.failed;
    } in
    let done : take (c.loop-name.name-index + 1) names ≡ before ++ name ∷ [] =
    take_more names c.loop-name.name-index name c.loop-name-test.true ∙ ap (λ (last : List ℕ). before ++ last ∷ []) same in
    subst (λ (some : List (List ℕ)). BeginsJobs g.S.Store.tells g.S.Store.disk c.args.library.now c.begin_job.new.self some) (sym done)
    (BeginsJobs-next g.S.Store.tells g.S.Store.disk c.args.library.now c.loop-name.library c.begin_job.new.self before name c.loop-name.invariant next)
