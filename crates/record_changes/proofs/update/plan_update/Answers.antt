use Rattle.std.proofs.Common.{Bor, ◌≡◌, ℕ, Some, List, length, sym, subst}
use Rattle.lawful_states.proofs.NameLemmas.{some-equal}
use Rattle.member_slots.specs.declared.slot.Slot.TheVariants.{Live}
use Rattle.member_slots.specs.Members.{member_of}
use Rattle.library_steps.specs.State.{memory_of}
use Rattle.library_steps.specs.Records.{live_record}
use Rattle.record_changes.specs.Places.{FitsMember}
use Rattle.record_changes.proofs.PlaceLemmas.{MayPut-live, live-fits}
use Rattle.record_changes.proofs.update.plan_update.Goals as goal

pub image_through-requires-clause-old : goal.image_through-requires-clause-old
image_through-requires-clause-old c = λ image is.
    let state = c.args.contents.now.state in
    let opened = c.in_ok-opened.field-0.opened.now.state in
    let its = c.in_ok-opened.ensures.there in
    let old = c.in-Some.old.now in
    let found : live_record opened.member c.in_ok-rrn.rrn (memory_of state) ≡ Some old = sym (rw (c.member.ensures, c.here.ensures) at c.in-Some.ensures.image) in
    let long : length old ≡ (member_of opened.member state.members).record_length = rw (c.member.ensures, c.here.ensures) at c.in-Some.ensures.fits in
    rw c.here.ensures
    (subst (λ (shown : Bor (List ℕ)). FitsMember state opened.member (Live shown.now)) (some-equal is)
    (live-fits state its.base its.owner opened.member c.in_ok-rrn.rrn its.has old found c.counts-counts.ensures.apart long))

pub returns-clause-may : goal.returns-clause-may
returns-clause-may c =
    let state = c.args.contents.now.state in
    let opened = c.in_ok-opened.field-0.opened.now.state in
    let its = c.in_ok-opened.ensures.there in
    let found : live_record opened.member c.in_ok-rrn.rrn (memory_of state) ≡ Some c.in-Some.old.now = sym (rw (c.member.ensures, c.here.ensures) at c.in-Some.ensures.image) in
    let fits = rw c.here.ensures at c.in_ok-image.ensures.fits in
    rw (c.of.ensures, c.here.ensures) (MayPut-live state its.base its.owner opened.member c.in_ok-rrn.rrn its.has c.in-Some.old.now found (Live c.in_ok-image.image) fits)
