use Rattle.std.proofs.Common.{◌≡◌, ◌<◌, ◌≤◌, ◌∷◌, [], List, length, sym, subst, arith}
use Rattle.record_fmt.specs.declared.formats.Field.{Field}
use Rattle.record_fmt.specs.Layout.{record_length}
use Rattle.record_fmt.proofs.LayoutLemmas.{record_length-append}
use Rattle.dds_physical.specs.Described.{IsDescribed}
use Rattle.dds_physical.proofs.DescribedLemmas.{IsDescribed-more, record_length-most, width-most}
use Rattle.dds_physical.proofs.described.DescribedFields.push.Goals as goal

pub invariant_of-self-2 : goal.invariant_of-self-2
invariant_of-self-2 c =
    let laid : IsDescribed c.self.inside.fields.items = c.self.invariant.0 in
    let bytes : c.self.inside.bytes ≡ record_length c.self.inside.fields.items = c.self.invariant.1 in
    let few : length c.self.inside.fields.items < 1000 = subst (λ (fs : List Field). length fs < 1000) (sym c.self.view_is) c.requires.few in
    let field : Field = record { name = c.args.name; ty = c.args.ty; offset = c.self.inside.bytes; default = c.args.default; text = c.args.text } in
    let more = record_length-append c.self.inside.fields.items (field ∷ []) in
    rw c.in_ok-push.ensures.items (IsDescribed-more c.self.inside.fields.items field laid few bytes c.requires.allowed, omega (arith, more, bytes, c.width-width.ensures))

pub overflow_add-self : goal.overflow_add-self
overflow_add-self c =
    let laid : IsDescribed c.self.inside.fields.items = c.self.invariant.0 in
    let bytes : c.self.inside.bytes ≡ record_length c.self.inside.fields.items = c.self.invariant.1 in
    let most = record_length-most 0 c.self.inside.fields.items laid.lies in
    let few : length c.self.inside.fields.items ≤ 1000 = laid.few in
    let wide = width-most c.args.ty c.requires.allowed in
    omega (arith, most, few, wide, bytes, c.width-width.ensures)
