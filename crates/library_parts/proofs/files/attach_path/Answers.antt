use Rattle.std.proofs.Common.{◌≡◌, ◌≤◌, ◌∙◌, List, length, sym, ap, subst, arith, eqb-true, false-eqb}
use Rattle.key_spec.specs.declared.KeyPart.{KeyPart}
use Rattle.key_spec.specs.declared.KeySpec.{KeySpec}
use Rattle.file_model.specs.FilePaths.{physical_path}
use Rattle.parts_model.proofs.AttachLemmas.{attach-can, attaches-none, attaches-some, none-listed}
use Rattle.library_parts.proofs.files.attach_path.Goals as goal

pub attach-requires : goal.attach-requires
attach-requires c =
    let file = c.args.file.now.spec in
    let its : c.in_ok-spec.spec ≡ physical_path c.args.number file.format.fields file.keys =
    c.in_ok-spec.ensures ∙ (λ i. physical_path c.args.number (c.format-format.ensures.format i).fields (c.keys-keys.ensures i)) in
    attach-can file c.args.number c.args.members.now.members c.requires c.format-format.ensures.keyed c.in_ok-spec.spec its

pub returns-then-is_empty-clause-attached : goal.returns-then-is_empty-clause-attached
returns-then-is_empty-clause-attached c =
    let parts : c.as_slice.result.now ≡ c.args.file.now.spec.keys.parts = c.as_slice.ensures ∙ ap (λ (k : KeySpec). k.parts) c.keys-keys.ensures in
    let none : length c.as_slice.result.now ≡ 0 = eqb-true (length c.as_slice.result.now) 0 (sym c.if-is_empty.ensures) in
    attaches-none c.args.file.now.spec c.args.number c.args.members.now.members c.args.paths.now (sym parts ∙ none-listed c.as_slice.result.now none)

pub returns-in-Ok-clause-attached : goal.returns-in-Ok-clause-attached
returns-in-Ok-clause-attached c =
    let file = c.args.file.now.spec in
    let its : c.in_ok-spec.spec ≡ physical_path c.args.number file.format.fields file.keys =
    c.in_ok-spec.ensures ∙ (λ i. physical_path c.args.number (c.format-format.ensures.format i).fields (c.keys-keys.ensures i)) in
    let parts : c.as_slice.result.now ≡ file.keys.parts = c.as_slice.ensures ∙ ap (λ (k : KeySpec). k.parts) c.keys-keys.ensures in
    let some : 1 ≤ length c.as_slice.result.now = omega (arith, false-eqb (length c.as_slice.result.now) 0 c.if-is_empty.ensures) in
    attaches-some file c.args.number c.in-Ok.field-0 c.args.members.now.members c.args.paths.now c.attach.new.self c.in_ok-spec.spec
    (subst (λ (ps : List KeyPart). 1 ≤ length ps) parts some) its c.in-Ok.ensures.attached c.attach.ensures.rooms
