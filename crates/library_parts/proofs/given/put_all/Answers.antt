use Rattle.std.proofs.Common.{◌≡◌, ◌+◌, ◌≤◌, List, length, IsSome, sym, ap, ◌∙◌, subst, arith}
use Rattle.std.specs.Vec.Iter.{into_iter_items, into_iter_len}
use Rattle.member_slots.specs.Member.{MemberState}
use Rattle.member_slots.specs.Members.{NumberedMembers, member_at, member_of, spare_at}
use Rattle.range_images.specs.declared.slot_given.SlotGiven.{SlotGiven}
use Rattle.range_images.specs.Given.{given_slots}
use Rattle.parts_model.specs.Given.{CanTake, members_given}
use Rattle.parts_model.proofs.GivenLemmas.{first-room, first-takes, given-none, given-step, member-next, none-left, rest-takes, there-next}
use Rattle.library_parts.proofs.given.put_all.Goals as goal

pub put-requires-clause-there : goal.put-requires-clause-there
put-requires-clause-there c = c.loop-slot.invariant.there

pub put-requires-clause-takes : goal.put-requires-clause-takes
put-requires-clause-takes c =
    let l = c.loop-slot in
    let items = c.in-Some.ensures.steps.0 in
    first-takes (member_of c.args.number l.members.members) c.in-Some.slot (into_iter_items c.next.new.self)
    (subst (λ (xs : List SlotGiven). CanTake (member_of c.args.number l.members.members) xs) items l.invariant.takes)

pub put-requires-clause-room : goal.put-requires-clause-room
put-requires-clause-room c =
    let l = c.loop-slot in
    let items = c.in-Some.ensures.steps.0 in
    let member = member_of c.args.number l.members.members in
    first-room member c.in-Some.slot (into_iter_items c.next.new.self) (spare_at c.args.number l.members)
    (subst (λ (xs : List SlotGiven). CanTake member xs) items l.invariant.takes)
    (subst (λ (xs : List SlotGiven). length (given_slots xs member.slots) ≤ length member.slots + spare_at c.args.number l.members) items l.invariant.room)

pub loop-slot-preserved : goal.loop-slot-preserved
loop-slot-preserved c =
    let l = c.loop-slot in
    let number = c.args.number in
    let items = c.in-Some.ensures.steps.0 in
    let rest = into_iter_items c.next.new.self in
    let g = c.in-Some.slot in
    let member = member_of number l.members.members in
    let put = c.put.ensures.members in
    let there = l.invariant.there in
    let takes = subst (λ (xs : List SlotGiven). CanTake member xs) items l.invariant.takes in
    let room = subst (λ (xs : List SlotGiven). length (given_slots xs member.slots) ≤ length member.slots + spare_at number l.members) items l.invariant.room in
    let next : member_of number c.put.new.members.members ≡ _ = ap (λ (ms : NumberedMembers). member_of number ms) put ∙ member-next number g rest l.members.members there in
    record {
      members = ap (λ (ms : NumberedMembers). members_given number rest ms) put ∙ given-step number g rest l.members.members there
          ∙ ap (λ (xs : List SlotGiven). members_given number xs l.members.members) (sym items) ∙ l.invariant.members;
      others = c.put.ensures.room ∙ l.invariant.others;
      there = subst (λ (ms : NumberedMembers). IsSome (member_at number ms)) (sym put) (there-next number g rest l.members.members there);
      takes = subst (λ (m : MemberState). CanTake m rest) (sym next) (rest-takes member g rest takes);
      room =
          let spare = c.put.ensures.spare in
          let slots = ap (λ (m : MemberState). length (given_slots rest m.slots)) next in
          omega (arith, room, spare, slots);
      long = omega (arith, l.invariant.long, ap length items, c.in-Some.ensures.steps.1);
    }

pub returns-clause-members : goal.returns-clause-members
returns-clause-members c =
    let l = c.loop-slot in
    sym (given-none c.args.number l.members.members l.invariant.there)
    ∙ ap (λ (xs : List SlotGiven). members_given c.args.number xs l.members.members) (sym (none-left (into_iter_items l.slot-iterator) (into_iter_len l.slot-iterator) l.invariant.long (sym c.in-None.ensures.steps.0)))
    ∙ l.invariant.members
    ∙ ap (λ (xs : List SlotGiven). members_given c.args.number xs c.args.members.now.members) c.into_iter-slot-iterator.ensures.into_iter_gives.0
