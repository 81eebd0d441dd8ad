use Rattle.std.proofs.Common.{◌≡◌, ◌∙◌, cond, rules, FitsSigned}
use Rattle.std.specs.Int.{w128}
use Rattle.std.specs.Ordering.{int_cmp}
use Rattle.std.proofs.lemmas.Int.{to_z-of_z}
use Rattle.file_model.specs.KeyOrder.{absolute}
use Rattle.key_order.proofs.ValueLemmas.{counted-cmp, texts-cmp}
use Rattle.key_order.proofs.comparing.compare_fields.Goals as goal

pub returns-then-is_numeric : goal.returns-then-is_numeric
returns-then-is_numeric c v w h k =
    let first : FitsSigned w128 c.number_held.result = search rules in
    let second : FitsSigned w128 c.number_held-then-is_numeric.result = search rules in
    let given : c.cmp.result ≡ int_cmp c.number_held.result c.number_held-then-is_numeric.result = simp to_z-of_z at c.cmp.ensures in
    given ∙ counted-cmp c.args.ty.now.decimals (cond c.args.absval (absolute v) v) (cond c.args.absval (absolute w) w) c.number_held.result c.number_held-then-is_numeric.result
    (c.number_held.ensures.value v h) (c.number_held-then-is_numeric.ensures.value w k)

pub returns-else-is_numeric : goal.returns-else-is_numeric
returns-else-is_numeric c v w h k =
    c.cmp-else-is_numeric.ensures ∙ texts-cmp c.args.ty.now c.args.absval c.args.a.now c.args.b.now v w (search rules) c.requires.first c.requires.second h k
