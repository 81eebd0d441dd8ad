use Rattle.std.proofs.Common.{◌∙◌, List, ap, sym, subst}
use Rattle.key_spec.specs.declared.KeyPart.{KeyPart}
use Rattle.file_model.specs.KeyOrder.{merged_parts}
use Rattle.access_path.specs.GivenValues.{key_fault}
use Rattle.open_position.specs.OpenStand.{AreGivenBytes}
use Rattle.open_position.specs.Reads.{IsStandAt}
use Rattle.open_position.proofs.StandLemmas.{in-one, given-fit}
use Rattle.open_position.proofs.position.OpenPosition.stand.Goals as goal

pub give-requires : goal.give-requires
give-requires c =
    ap (λ (parts : List KeyPart). key_fault parts c.in-Values.values.now) c.self.invariant.merged_are
    ∙ subst (IsStandAt c.self.inside.formats.items) c.in-Values.is (in-one _ _ c.self.view_is (λ (formats : List (List KeyPart)). IsStandAt formats c.args.at) c.requires)

pub set-requires-in-Values : goal.set-requires-in-Values
set-requires-in-Values c =
    given-fit c.self.inside.formats.items c.self.inside.cursor.room c.self.invariant.room c.bytes.result.now
    (subst (AreGivenBytes (merged_parts c.self.inside.formats.items)) (sym c.bytes.ensures) (c.give.ensures.bytes (merged_parts c.self.inside.formats.items) c.self.invariant.merged_are))
