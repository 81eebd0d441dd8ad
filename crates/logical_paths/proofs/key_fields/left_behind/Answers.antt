use Rattle.std.proofs.Common.{ℕ, ◌-◌, ◌<◌, ◌≤◌, ◌∙◌, ap, arith}
use Rattle.field_values.specs.FieldTypes.{width}
use Rattle.file_model.specs.FilePaths.{field_from}
use Rattle.logical_paths.proofs.PathLemmas.{within-first, behind-first}
use Rattle.logical_paths.proofs.key_fields.left_behind.Goals as goal

pub returns-then-left-wide : goal.returns-then-left-wide
returns-then-left-wide c = λ more.
    let past : c.args.left < width c.args.field.now.ty = omega (arith, c.if-left-wide.true, c.width-wide.ensures) in
    within-first c.args.left c.args.field.now more c.requires past

pub returns-else-left-wide : goal.returns-else-left-wide
returns-else-left-wide c = λ more.
    let room : width c.args.field.now.ty ≤ c.args.left = omega (arith, c.if-left-wide.false, c.width-wide.ensures) in
    ap (λ (n : ℕ). field_from (c.args.left - n) 0 more) c.width-wide.ensures ∙ behind-first c.args.left c.args.field.now more c.requires room
