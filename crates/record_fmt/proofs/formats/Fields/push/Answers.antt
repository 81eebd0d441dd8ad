use Rattle.std.proofs.Common.{◌≡◌, ◌+◌, ◌<◌, ◌≤◌, ◌∷◌, [], List, length, sym, subst, arith}
use Rattle.field_values.specs.FieldTypes.{width}
use Rattle.record_fmt.specs.declared.formats.Field.{Field}
use Rattle.record_fmt.specs.Layout.{IsLaidOut, record_length}
use Rattle.record_fmt.proofs.LayoutLemmas.{IsLaidOut-more, record_length-append}
use Rattle.record_fmt.proofs.formats.Fields.push.Goals as goal

pub invariant_of-self-2 : goal.invariant_of-self-2
invariant_of-self-2 c =
    let laid : IsLaidOut c.self.inside.fields.items = c.self.invariant.0 in
    let bytes : c.self.inside.bytes ≡ record_length c.self.inside.fields.items = c.self.invariant.1 in
    let few : length c.self.inside.fields.items < 1000 = subst (λ (fs : List Field). length fs < 1000) (sym c.self.view_is) c.requires.few in
    let narrow : record_length c.self.inside.fields.items + width c.args.ty ≤ 32766 = subst (λ (fs : List Field). record_length fs + width c.args.ty ≤ 32766) (sym c.self.view_is) c.requires.narrow in
    let field : Field = record { name = c.args.name; ty = c.args.ty; offset = c.self.inside.bytes; default = c.args.default; text = c.args.text } in
    let more = record_length-append c.self.inside.fields.items (field ∷ []) in
    rw c.in_ok-push.ensures.items (IsLaidOut-more c.self.inside.fields.items field laid few narrow bytes c.requires.allowed, omega (arith, more, bytes, c.width-width.ensures))
