use Rattle.std.proofs.Common.{◌∙◌, ap, sym, Some}
use Rattle.field_types.specs.declared.values.Value.TheVariants.{Chars}
use Rattle.field_values.specs.FieldBytes.{filled}
use Rattle.view_rules.specs.Operands.{bytes_of}
use Rattle.view_rules.proofs.OperandLemmas.{characters-held}
use Rattle.view_rules.proofs.operands.characters.Goals as goal

pub returns-clause-value : goal.returns-clause-value
returns-clause-value c =
    characters-held c.args.ty.now (bytes_of c.args.bytes) c.requires.kind c.requires.room
    ∙ ap (λ n. Some (Chars (filled n (bytes_of c.args.bytes)))) (sym c.width.ensures)
