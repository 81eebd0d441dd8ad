use Rattle.std.proofs.Common.{◌≡◌, ◌∙◌, sym, ap, subst, nat_eq}
use Rattle.std.specs.Map.{set_value}
use Rattle.std.specs.Option.{option_copied_mut}
use Rattle.indexmap.specs.IndexMap.{get}
use Rattle.library_model.specs.Named.{Named, same_name}
use Rattle.lawful_states.specs.State.{FileState}
use Rattle.lawful_states.specs.CreatePhysicalFile.{new_status}
use Rattle.lawful_states.specs.MemberCommands.{with_member_name, file_changed}
use Rattle.file_catalogue.specs.OwnMembers.{HasOwnMembers, HaveOwnMembers}
use Rattle.file_catalogue.proofs.MapLemmas.{on_ok}
use Rattle.lawful_states.proofs.ChangeLemmas.{owned-member_added, set_value-file_changed}
use Rattle.file_catalogue.proofs.KeyedLemmas.{keyed-member_added}
use Rattle.file_catalogue.proofs.OwnMemberLemmas.{member-more, members-set}
use Rattle.file_catalogue.proofs.catalogue.Catalogue.add_member.Goals as goal

pub add_member-requires-clause-few : goal.add_member-requires-clause-few
add_member-requires-clause-few c =
    let there = sym c.get_mut.ensures.value ∙ ap option_copied_mut c.unwrap.ensures in
    rw (← c.self.view_is, there) at c.requires.few

pub add_member-requires-clause-physical : goal.add_member-requires-clause-physical
add_member-requires-clause-physical c =
    let there = sym c.get_mut.ensures.value ∙ ap option_copied_mut c.unwrap.ensures in
    rw (← c.self.view_is, there) at c.requires.physical

pub invariant_of-self : goal.invariant_of-self
invariant_of-self c =
    let there = sym c.get_mut.ensures.value ∙ ap option_copied_mut c.unwrap.ensures in
    let change = with_member_name c.args.member c.args.number in
    let entries = c.self.inside.files.entries in
    let changed : set_value (same_name c.args.file.now) entries c.add_member.new.self ≡ file_changed c.args.file.now change entries = ap (set_value (same_name c.args.file.now) entries) c.add_member.ensures
    ∙ set_value-file_changed c.args.file.now change c.unwrap.result.now entries c.get_mut.ensures.unique there in
    let its : HasOwnMembers c.add_member.new.self.spec c.add_member.new.self.members = subst (λ (f : FileState). HasOwnMembers f.spec f.members) (sym c.add_member.ensures)
    (member-more c.unwrap.result.now.spec c.unwrap.result.now.members (c.args.member, new_status c.args.number) (rw (← c.self.view_is, there) at c.requires.physical)) in
    rw ((c.get_mut.follows.holds c.add_member.new.self).0 ∙ changed) (
      owned-member_added entries (get nat_eq c.self.inside.owners) (get nat_eq c.insert.new.self) c.args.file.now c.args.member c.args.number c.self.invariant.0
          (rw (← c.self.view_is) at c.requires.fresh)
          (on_ok c.insert.result c.unwrap-replaced.result c.unwrap-replaced.ensures c.insert.ensures.updates).0,
      keyed-member_added c.args.file.now c.args.member c.args.number entries c.self.invariant.1,
      subst (λ (files : Named FileState). HaveOwnMembers files) changed (members-set c.args.file.now c.add_member.new.self entries c.self.invariant.2 its),
    )

pub returns : goal.returns
returns c =
    let there = sym c.get_mut.ensures.value ∙ ap option_copied_mut c.unwrap.ensures in
    let change = with_member_name c.args.member c.args.number in
    let entries = c.self.inside.files.entries in
    rw (← c.self.view_is)
    ((c.get_mut.follows.holds c.add_member.new.self).0 ∙ ap (set_value (same_name c.args.file.now) entries) c.add_member.ensures
    ∙ set_value-file_changed c.args.file.now change c.unwrap.result.now entries c.get_mut.ensures.unique there)
