use Rattle.std.proofs.Common.{◌≡◌, ◌∙◌, sym, ap, nat_eq}
use Rattle.std.specs.Map.{set_value}
use Rattle.std.specs.Option.{option_copied_mut}
use Rattle.indexmap.specs.IndexMap.{get}
use Rattle.library_model.specs.Named.{same_name}
use Rattle.lawful_states.specs.State.{status_changed}
use Rattle.lawful_states.specs.Statuses.{after}
use Rattle.file_catalogue.proofs.MapLemmas.{lends_some}
use Rattle.lawful_states.proofs.NameLemmas.{some-equal}
use Rattle.lawful_states.proofs.StatusLemmas.{after-number}
use Rattle.lawful_states.proofs.OwnerLemmas.{owner-owns}
use Rattle.lawful_states.proofs.ChangeLemmas.{each_changed, each_changed-no_owner, set_value-each_changed, owned-each_changed}
use Rattle.file_catalogue.proofs.KeyedLemmas.{keyed-each_changed}
use Rattle.file_catalogue.proofs.OwnMemberLemmas.{members-each_changed}
use Rattle.file_catalogue.proofs.catalogue.Catalogue.change.Goals as goal

pub returns-in_default-clause-files : goal.returns-in_default-clause-files
returns-in_default-clause-files c = sym (each_changed-no_owner c.args.number (after c.args.change) c.args.self.now.files (sym c.owner.ensures.value ∙ c.in_default.is))

pub unwrap-requires : goal.unwrap-requires
unwrap-requires c =
    let it = owner-owns c.args.number c.in-Some.owner c.self.inside.files.entries c.get_mut.ensures.unique (sym (rw (← c.self.view_is) at c.owner.ensures.value) ∙ c.in-Some.is) in
    lends_some c.get_mut.result it.0 (c.get_mut.ensures.value ∙ it.1.there)

-- the files with the owner's new value
files : (c : goal.After-self-1) → (c.get_mut.follows.lender c.change.new.self).entries ≡ each_changed (status_changed c.args.number (after c.args.change)) c.self.inside.files.entries
files c =
    let entries = c.self.inside.files.entries in
    let it = owner-owns c.args.number c.in-Some.owner entries c.get_mut.ensures.unique (sym (rw (← c.self.view_is) at c.owner.ensures.value) ∙ c.in-Some.is) in
    let mine = c.self.invariant.0.owned c.in-Some.owner it.0 c.args.number it.1 in
    (c.get_mut.follows.holds c.change.new.self).0 ∙ ap (set_value (same_name c.in-Some.owner) entries) c.change.ensures
    ∙ set_value-each_changed c.args.number (after c.args.change) c.in-Some.owner c.unwrap.result.now entries c.get_mut.ensures.unique
    (sym c.get_mut.ensures.value ∙ ap option_copied_mut c.unwrap.ensures)
    (λ other another o. some-equal (sym mine ∙ c.self.invariant.0.owned other another c.args.number o))

pub invariant_of-self : goal.invariant_of-self
invariant_of-self c =
    rw (files c) (
      owned-each_changed c.args.number (after c.args.change) c.self.inside.files.entries (get nat_eq c.self.inside.owners) (after-number c.args.change) c.self.invariant.0,
      keyed-each_changed c.args.number (after c.args.change) c.self.inside.files.entries c.self.invariant.1,
      members-each_changed c.args.number (after c.args.change) c.self.inside.files.entries c.self.invariant.2,
    )

pub returns-clause-files : goal.returns-clause-files
returns-clause-files c = rw (← c.self.view_is) (files c)
