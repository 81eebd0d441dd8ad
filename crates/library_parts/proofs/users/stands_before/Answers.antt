use Rattle.std.proofs.Common.{◌≡◌, ◌∙◌, true, refl, sym}
use Rattle.parts_model.proofs.ManyPaths.{any-first, any-rest}
use Rattle.library_parts.proofs.users.stands_before.Goals as goal

pub returns-then-is_same : goal.returns-then-is_same
returns-then-is_same c =
    any-first c.args.path.now c.loop-rest.rest.now c.other-item.result c.in-len1-up.len_at_least (c.is_same.ensures.0 c.if-is_same.true) c.other-item.is ∙ c.loop-rest.invariant

pub loop-rest-preserved : goal.loop-rest-preserved
loop-rest-preserved c =
    any-rest c.args.path.now c.loop-rest.rest.now c.other-item.result _ c.in-len1-up.len_at_least
    (λ same. let yes_is : c.is_same.result ≡ true = c.is_same.ensures.1 same in let no_is = c.if-is_same.false in absurd cc) c.other-item.is refl
    ∙ c.loop-rest.invariant
