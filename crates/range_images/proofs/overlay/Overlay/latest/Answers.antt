use Rattle.std.proofs.Common.{Some, sym, ap, ◌∙◌, arith}
use Rattle.range_images.specs.declared.slot_given.SlotGiven.{SlotGiven}
use Rattle.range_images.specs.Given.{GivenState, latest_slot}
use Rattle.range_images.proofs.GivenLemmas.{last-shows, last-none}
use Rattle.range_images.proofs.overlay.Overlay.latest.Goals as goal

pub index-requires : goal.index-requires
index-requires c =
    let items = c.self.inside.given.items in
    let last = last-shows c.args.place items c.in-Some.field-0.now (sym (c.self.invariant c.args.place) ∙ sym c.in-Some.ensures.value) in
    omega (arith, c.self.inside.given.ok.0, last.within)

pub returns-in-Some : goal.returns-in-Some
returns-in-Some c =
    let items = c.self.inside.given.items in
    let last = last-shows c.args.place items c.in-Some.field-0.now (sym (c.self.invariant c.args.place) ∙ sym c.in-Some.ensures.value) in
    ap (λ (g : SlotGiven). Some g.slot) c.index.ensures ∙ last.shows c.index.result.now ∙ ap (λ (s : GivenState). latest_slot c.args.place s.given) c.self.view_is

pub returns-in-None : goal.returns-in-None
returns-in-None c =
    let items = c.self.inside.given.items in
    last-none c.args.place items (sym (c.self.invariant c.args.place) ∙ sym c.in-None.ensures.value) ∙ ap (λ (s : GivenState). latest_slot c.args.place s.given) c.self.view_is
