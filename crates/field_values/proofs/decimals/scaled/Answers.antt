use Rattle.std.proofs.Common.{◌≡◌, sym, subst, Result, ℕ, arith, rules, ok_or}
use Rattle.decimal_order.below.field_types.specs.declared.faults.ValueFault.{ValueFault}
use Rattle.decimal_order.below.field_types.specs.declared.faults.ValueFault.TheVariants.{TooManyDecimals, TooWide}
use Rattle.field_values.specs.FieldBytes.{Rescaled}
use Rattle.field_values.proofs.ScaleLemmas.{Rescaled-widened, Rescaled-narrowed}
use Rattle.field_values.proofs.decimals.scaled.Goals as goal

pub returns-then-scale-decimals : goal.returns-then-scale-decimals
returns-then-scale-decimals c =
    let given : c.ok_or.result ≡ ok_or c.widened.result TooWide = search rules in
    subst (λ (r : Result ℕ ValueFault). Rescaled c.args.magnitude c.args.scale c.args.decimals r) (sym given)
    (Rescaled-widened c.args.magnitude c.args.scale c.args.decimals (omega arith) c.widened.result c.widened.ensures)

pub returns-else-scale-decimals : goal.returns-else-scale-decimals
returns-else-scale-decimals c =
    let given : c.ok_or-else-scale-decimals.result ≡ ok_or c.narrowed.result TooManyDecimals = search rules in
    subst (λ (r : Result ℕ ValueFault). Rescaled c.args.magnitude c.args.scale c.args.decimals r) (sym given)
    (Rescaled-narrowed c.args.magnitude c.args.scale c.args.decimals (omega arith) c.narrowed.result c.narrowed.ensures)
