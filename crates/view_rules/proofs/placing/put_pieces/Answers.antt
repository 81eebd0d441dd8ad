use Rattle.std.proofs.Common.{◌≡◌, ◌∙◌, ℕ, List, ap, sym, subst, None, false, true}
use Rattle.field_types.specs.declared.values.Value.{Value}
use Rattle.field_values.specs.FieldBytes.{fault_of, written, filled}
use Rattle.file_model.specs.Views.{character, pieces_length, put_pieces}
use Rattle.view_rules.proofs.OperandLemmas.{number-numeric, text-fits, written-text}
use Rattle.view_rules.proofs.placing.put_pieces.Goals as goal

pub split-requires-clause-room : goal.split-requires-clause-room
split-requires-clause-room c =
    let fits : fault_of (character (pieces_length c.args.pieces.now)) c.args.value.now ≡ None = c.requires.fits in
    rw c.as_bytes.ensures (text-fits (character (pieces_length c.args.pieces.now)) c.in-Chars.text
    (subst (λ (v : Value). fault_of (character (pieces_length c.args.pieces.now)) v ≡ None) c.in-Chars.is fits)).1

pub unreachable-requires : goal.unreachable-requires
unreachable-requires c =
    let numeric : false ≡ true = number-numeric (character (pieces_length c.args.pieces.now)) c.in-Number.field-0
    (subst (λ (v : Value). fault_of (character (pieces_length c.args.pieces.now)) v ≡ None) c.in-Number.is c.requires.fits) in
    cc

pub returns : goal.returns
returns c =
    let t = character (pieces_length c.args.pieces.now) in
    c.split.ensures
    ∙ ap (λ (w : List ℕ). put_pieces c.args.pieces.now w c.args.image.now)
    (ap (filled (pieces_length c.args.pieces.now)) c.as_bytes.ensures ∙ sym (written-text t c.in-Chars.text) ∙ ap (written t) (sym c.in-Chars.is))
