use Rattle.std.proofs.Common.{◌≡◌, ◌∙◌, ap, sym, Bool}
use Rattle.key_order.specs.EntryList.{EntryList}
use Rattle.member_slots.specs.Members.{with_member}
use Rattle.access_path.specs.KeptEntries.{kept}
use Rattle.access_path.specs.Rebuilding.{member_slots}
use Rattle.access_path.proofs.RebuildLemmas.{added-kept}
use Rattle.access_path.proofs.path.Path.rebuild_with.Goals as goal

pub returns-clause-entries : goal.returns-clause-entries
returns-clause-entries g c =
    let slots = member_slots (g.E.Entrant.members c.args.by.now) (with_member c.args.number c.args.member.now.state c.args.members.now.members) in
    let falls : c.new-pages.result.falling ≡ c.args.self.now.falling =
    ap (λ (p : EntryList). p.falling) c.new-pages.ensures ∙ sym c.self.invariant ∙ ap (λ (p : EntryList). p.falling) c.self.view_is in
    c.in_ok-add_formats_with.ensures.entries ∙ added-kept (g.E.Entrant.keys c.args.by.now) c.new-pages.result.falling slots
    ∙ ap (λ (f : Bool). kept (g.E.Entrant.keys c.args.by.now) f slots) falls
