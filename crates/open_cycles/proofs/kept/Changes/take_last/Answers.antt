use Rattle.std.proofs.Common.{◌∙◌, nat_eq, [], Some, sym, ap}
use Rattle.std.specs.Prelude.{unwrap_or}
use Rattle.indexmap.specs.IndexMap.{get}
use Rattle.open_cycles.specs.Kept.{live, same_record}
use Rattle.open_cycles.proofs.LastLemmas.{split-last, none-live, last-absent, without-absent, last-here, live-emptied, last-live, last-within, found-last}
use Rattle.open_cycles.proofs.ReadLemmas.{none_some}
use Rattle.open_cycles.proofs.kept.Changes.take_last.Goals as goal

pub returns-in_default-clause-change : goal.returns-in_default-clause-change
returns-in_default-clause-change c =
    let none = none-live c.args.cycle 0 c.self.inside.kept.items (sym (c.self.invariant.0 c.args.cycle) ∙ c.in_default.ensures.none) in
    rw (← c.self.view_is) (sym (last-absent c.args.cycle (live c.self.inside.kept.items) none))

pub returns-in_default-clause-left : goal.returns-in_default-clause-left
returns-in_default-clause-left c =
    let none = none-live c.args.cycle 0 c.self.inside.kept.items (sym (c.self.invariant.0 c.args.cycle) ∙ c.in_default.ensures.none) in
    rw (← c.self.view_is) (sym (without-absent c.args.cycle (live c.self.inside.kept.items) none))

pub take_at-requires : goal.take_at-requires
take_at-requires c =
    let kept = c.self.inside.kept.items in
    let ps = unwrap_or (get nat_eq c.take_place.new.places c.args.cycle) [] in
    last-within kept c.args.cycle c.in-Some.place ps (split-last c.args.cycle 0 kept ps c.in-Some.place (sym (c.self.invariant.0 c.args.cycle) ∙ c.in-Some.ensures.taken))

pub invariant_of-self-in_default-take_at : goal.invariant_of-self-in_default-take_at
invariant_of-self-in_default-take_at c =
    let kept = c.self.inside.kept.items in
    let ps = unwrap_or (get nat_eq c.take_place.new.places c.args.cycle) [] in
    absurd (none_some (c.in_default-take_at.ensures.taken ∙ last-here kept c.args.cycle c.in-Some.place ps (split-last c.args.cycle 0 kept ps c.in-Some.place (sym (c.self.invariant.0 c.args.cycle) ∙ c.in-Some.ensures.taken))))

pub returns-in_default-take_at-clause-change : goal.returns-in_default-take_at-clause-change
returns-in_default-take_at-clause-change c =
    let kept = c.self.inside.kept.items in
    let ps = unwrap_or (get nat_eq c.take_place.new.places c.args.cycle) [] in
    absurd (none_some (c.in_default-take_at.ensures.taken ∙ last-here kept c.args.cycle c.in-Some.place ps (split-last c.args.cycle 0 kept ps c.in-Some.place (sym (c.self.invariant.0 c.args.cycle) ∙ c.in-Some.ensures.taken))))

pub returns-in_default-take_at-clause-left : goal.returns-in_default-take_at-clause-left
returns-in_default-take_at-clause-left c =
    let kept = c.self.inside.kept.items in
    let ps = unwrap_or (get nat_eq c.take_place.new.places c.args.cycle) [] in
    absurd (none_some (c.in_default-take_at.ensures.taken ∙ last-here kept c.args.cycle c.in-Some.place ps (split-last c.args.cycle 0 kept ps c.in-Some.place (sym (c.self.invariant.0 c.args.cycle) ∙ c.in-Some.ensures.taken))))

pub invariant_of-self-2 : goal.invariant_of-self-2
invariant_of-self-2 c =
    let inside = c.self.inside in
    let kept = inside.kept.items in
    let ps = unwrap_or (get nat_eq c.take_place.new.places c.args.cycle) [] in
    let last = split-last c.args.cycle 0 kept ps c.in-Some.place (sym (c.self.invariant.0 c.args.cycle) ∙ c.in-Some.ensures.taken) in
    rw c.take_at.ensures.left
    (found-last kept c.args.cycle c.in-Some.place ps last (get nat_eq inside.places) (get nat_eq c.take_place.new.places) (get same_record inside.firsts) (get same_record c.forget_first.new.firsts)
    (get nat_eq inside.counts) (get nat_eq c.count_less.new.counts) _ c.self.invariant (sym c.in-Some-take_at.ensures.taken ∙ ap Some (sym c.change.view_is))
    c.in-Some.ensures.others c.forget_first.ensures c.count_less.ensures)

pub returns-clause-change : goal.returns-clause-change
returns-clause-change c =
    let kept = c.self.inside.kept.items in
    let ps = unwrap_or (get nat_eq c.take_place.new.places c.args.cycle) [] in
    let last = split-last c.args.cycle 0 kept ps c.in-Some.place (sym (c.self.invariant.0 c.args.cycle) ∙ c.in-Some.ensures.taken) in
    rw (← c.self.view_is) (c.in-Some-take_at.ensures.taken ∙ last-here kept c.args.cycle c.in-Some.place ps last ∙ sym (last-live kept c.args.cycle c.in-Some.place ps last))

pub returns-clause-left : goal.returns-clause-left
returns-clause-left c =
    let kept = c.self.inside.kept.items in
    let ps = unwrap_or (get nat_eq c.take_place.new.places c.args.cycle) [] in
    let last = split-last c.args.cycle 0 kept ps c.in-Some.place (sym (c.self.invariant.0 c.args.cycle) ∙ c.in-Some.ensures.taken) in
    rw (← c.self.view_is) (ap live c.take_at.ensures.left ∙ live-emptied kept c.args.cycle c.in-Some.place ps last)
