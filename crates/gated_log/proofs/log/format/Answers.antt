use Rattle.std.proofs.Common.{◌≡◌, ℕ, ◌+◌, ◌≤◌, List, [], ◌∷◌, ◌++◌, length, ap, ◌∙◌, arith, length-append}
use Rattle.gated_log.specs.Blocks.{header}
use Rattle.gated_log.proofs.Numbers.{length-header}
use Rattle.gated_log.proofs.Staging.{any_first, any_more, cut_no_longer, write_no_longer}
use Rattle.std.proofs.lemmas.List.{append-nil, drop_all}
use Rattle.store_model.specs.Disk.{written}
use Rattle.store_model.proofs.Runs.{then_stays}
use Rattle.gated_log.specs.Log.{Anything}
use Rattle.gated_log.specs.Steps.{IsNoLonger}
use Rattle.gated_log.proofs.log.format.Goals as goal

pub returns-in_err-write-clause-any_moment : goal.returns-in_err-write-clause-any_moment
returns-in_err-write-clause-any_moment g c = any_more c.args.area _ _ _ _ (any_first c.args.area _ _ _ c.cut.ensures.does) c.write.ensures.does

pub returns-in_err-sync-clause-any_moment : goal.returns-in_err-sync-clause-any_moment
returns-in_err-sync-clause-any_moment g c =
    then_stays c.args.area Anything _ _ (any_more c.args.area _ _ _ _ (any_first c.args.area _ _ _ c.cut.ensures.does) c.write.ensures.does) _ c.sync.ensures.stays

pub returns-clause-any_moment : goal.returns-clause-any_moment
returns-clause-any_moment g c =
    then_stays c.args.area Anything _ _ (any_more c.args.area _ _ _ _ (any_first c.args.area _ _ _ c.cut.ensures.does) c.write.ensures.does) _ c.sync.ensures.stays

empty_short : (area first version : ℕ) (bytes : List ℕ) → bytes ≡ header area first version ++ 0 ∷ [] → length bytes ≤ 33
empty_short area first version bytes is = omega (arith, ap (λ (l : List ℕ). length l) is, length-append (header area first version) (0 ∷ []), length-header area first version)

pub returns-in_err-cut-clause-short : goal.returns-in_err-cut-clause-short
returns-in_err-cut-clause-short g c = cut_no_longer c.args.area _ _ _ c.cut.ensures.does

pub returns-in_err-write-clause-short : goal.returns-in_err-write-clause-short
returns-in_err-write-clause-short g c = write_no_longer c.args.area _ _ _ _ (empty_short c.args.area c.args.first c.args.version _ c.empty_log.ensures) (cut_no_longer c.args.area _ _ _ c.cut.ensures.does) c.write.ensures.does

pub returns-in_err-sync-clause-short : goal.returns-in_err-sync-clause-short
returns-in_err-sync-clause-short g c =
    then_stays c.args.area IsNoLonger _ _ (write_no_longer c.args.area _ _ _ _ (empty_short c.args.area c.args.first c.args.version _ c.empty_log.ensures) (cut_no_longer c.args.area _ _ _ c.cut.ensures.does) c.write.ensures.does) _ c.sync.ensures.stays

pub returns-clause-short : goal.returns-clause-short
returns-clause-short g c =
    then_stays c.args.area IsNoLonger _ _ (write_no_longer c.args.area _ _ _ _ (empty_short c.args.area c.args.first c.args.version _ c.empty_log.ensures) (cut_no_longer c.args.area _ _ _ c.cut.ensures.does) c.write.ensures.does) _ c.sync.ensures.stays

-- nothing of what the area held is left behind the gate
pub returns-clause-alone : goal.returns-clause-alone
returns-clause-alone g c = λ tells.
    let bytes : List ℕ = c.empty_log.result in
    c.sync.ensures.stays.seen c.args.area ∙ c.in_ok-write.ensures.written tells ∙ ap (λ (l : List ℕ). written 0 bytes l) (c.in_ok-cut.ensures.cut tells)
    ∙ ap (λ (l : List ℕ). bytes ++ l) (drop_all (0 + length bytes) [] (omega arith)) ∙ append-nil bytes ∙ c.empty_log.ensures
