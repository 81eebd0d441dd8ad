use Rattle.std.proofs.Common.{◌∙◌, ◌-◌, IsSome, drop, length, subst, take}
use Rattle.member_slots.specs.Members.{item_at}
use Rattle.parts_model.specs.KeptPaths.{NumberedPaths}
use Rattle.parts_model.proofs.IndexDetached.{some-each}
use Rattle.library_parts.proofs.files.+detach_each.Goals as goal

pub returns-clause-spares : goal.returns-clause-spares
returns-clause-spares t c = λ id there.
    c.detach_each.ensures.spares id there
    ∙ c.detach_own.ensures.spares id (some-each (take (length c.args.ids.now - 1) (drop 1 c.args.ids.now)) id _ (subst (λ (p : NumberedPaths). IsSome (item_at id p)) c.detach_each.ensures.paths there))
