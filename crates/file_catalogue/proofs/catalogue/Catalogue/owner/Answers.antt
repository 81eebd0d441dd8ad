use Rattle.std.proofs.Common.{◌∙◌, sym, ap, None, Some}
use Rattle.std.specs.Option.{option_copied, is_some}
use Rattle.lawful_states.proofs.OwnerLemmas.{IsOwner, owner-some, owner-none, owner-stale}
use Rattle.file_catalogue.proofs.catalogue.Catalogue.owner.Goals as goal

none : (c : goal.In_default) → IsOwner c.args.number c.args.self.now.files None
none c = rw (← c.self.view_is)
    (owner-none c.args.number c.self.inside.files.entries c.len-len.ensures.unique c.self.invariant.0 (sym c.get.ensures.value ∙ ap option_copied c.in_default.is))

stale : (c : goal.Then-is_none) → IsOwner c.args.number c.args.self.now.files None
stale c = rw (← c.self.view_is)
    (owner-stale c.args.number c.in-Some.name.now c.self.inside.files.entries c.len-len.ensures.unique c.self.invariant.0 (sym c.get.ensures.value ∙ ap option_copied c.in-Some.is)
    (rw (← c.self.view_is) at (ap is_some (sym c.member_in.ensures) ∙ c.if-is_none.ensures)))

some : (c : goal.After-result-1) → IsOwner c.args.number c.args.self.now.files (Some c.in-Some.name.now)
some c = rw (← c.self.view_is)
    (owner-some c.args.number c.in-Some.name.now c.self.inside.files.entries c.len-len.ensures.unique c.self.invariant.0 (sym c.get.ensures.value ∙ ap option_copied c.in-Some.is)
    (rw (← c.self.view_is) at (ap is_some (sym c.member_in.ensures) ∙ c.if-is_none.ensures)))

pub returns-in_default-clause-value : goal.returns-in_default-clause-value
returns-in_default-clause-value c = (none c).0

pub returns-in_default-clause-status : goal.returns-in_default-clause-status
returns-in_default-clause-status c = (none c).1

pub returns-then-is_none-clause-value : goal.returns-then-is_none-clause-value
returns-then-is_none-clause-value c = (stale c).0

pub returns-then-is_none-clause-status : goal.returns-then-is_none-clause-status
returns-then-is_none-clause-status c = (stale c).1

pub returns-clause-value : goal.returns-clause-value
returns-clause-value c = (some c).0

pub returns-clause-status : goal.returns-clause-status
returns-clause-status c = (some c).1
