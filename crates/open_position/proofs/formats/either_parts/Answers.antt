use Rattle.std.proofs.Common.{◌∙◌, ◌≤◌, ◌<◌, ◌++◌, max, List, length, sym, ap, append-nil, arith}
use Rattle.key_spec.specs.declared.KeyPart.{KeyPart}
use Rattle.open_position.proofs.FormatLemmas.{either-end, either-next}
use Rattle.open_position.proofs.formats.either_parts.Goals as goal

pub loop-place-preserved : goal.loop-place-preserved
loop-place-preserved c =
    let within : c.loop-place.place < max (length c.args.parts.now) (length c.args.others.now) = omega (arith, c.loop-place-test.true, c.max-place-end.ensures) in
    either-next c.loop-place.place c.args.parts.now c.args.others.now c.loop-place.made c.push.new.self _ within c.either_at.ensures c.in_ok-push.ensures c.loop-place.invariant

pub returns : goal.returns
returns c =
    let parts = c.args.parts.now in
    let others = c.args.others.now in
    let few : length parts ≤ c.loop-place.place = omega (arith, c.max-place-end.ensures) in
    let also : length others ≤ c.loop-place.place = omega (arith, c.max-place-end.ensures) in
    sym (append-nil c.loop-place.made) ∙ sym (ap (λ (ps : List KeyPart). c.loop-place.made ++ ps) (either-end c.loop-place.place parts others few also)) ∙ c.loop-place.invariant
