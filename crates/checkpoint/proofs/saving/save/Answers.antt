use Rattle.std.proofs.Common.{ℕ, [], ◌∷◌, ◌∙◌, subst}
use Rattle.store_model.specs.Disk.{Does, IsDurable}
use Rattle.gated_log.specs.Log.{Anything}
use Rattle.gated_log.proofs.Staging.{any_more}
use Rattle.checkpoint.proofs.Kept.{settled_plain}
use Rattle.checkpoint.proofs.saving.save.Goals as goal

pub append-requires-clause-settled : goal.append-requires-clause-settled
append-requires-clause-settled g c = λ tells. ∣ ([], c.in_ok-make.ensures.settled tells) ∣₁

pub returns-in_err-append-clause-apart : goal.returns-in_err-append-clause-apart
returns-in_err-append-clause-apart g c =
    any_more c.args.area Anything _ _ _ c.make.ensures.any_moment (subst (λ (a : ℕ). Does a Anything (g.S.Store.disk c.make.new.store) (g.S.Store.disk c.append.new.store)) c.requires.blank.area c.append.ensures.apart)

pub returns-clause-apart : goal.returns-clause-apart
returns-clause-apart g c =
    any_more c.args.area Anything _ _ _ c.make.ensures.any_moment (subst (λ (a : ℕ). Does a Anything (g.S.Store.disk c.make.new.store) (g.S.Store.disk c.append.new.store)) c.requires.blank.area c.append.ensures.apart)

pub returns-clause-spells : goal.returns-clause-spells
returns-clause-spells g c = λ tells block framed.
    settled_plain c.append.new.self c.args.area (block ∷ []) (g.S.Store.disk c.append.new.store) c.requires.below (c.append.ensures.same_area ∙ c.requires.blank.area)
    (c.in_ok-append.ensures.appended tells [] block framed (c.in_ok-make.ensures.settled tells))

pub returns-clause-durable : goal.returns-clause-durable
returns-clause-durable g c = λ tells.
    let framed = c.requires.framed in
    subst (λ (a : ℕ). IsDurable a (g.S.Store.disk c.append.new.store)) (c.append.ensures.same_area ∙ c.requires.blank.area)
    (c.in_ok-append.ensures.appended tells [] framed.0 framed.1 (c.in_ok-make.ensures.settled tells)).durable
