use Rattle.std.proofs.Common.{◌≡◌, ◌+◌, ◌<◌, ◌≤◌, [], ◌∷◌, length, sym, ap, ◌∙◌, arith}
use Rattle.member_slots.specs.declared.slot.Slot.{Slot}
use Rattle.member_slots.specs.declared.slot.Slot.TheVariants.{Live, Deleted}
use Rattle.member_slots.specs.Member.{MemberState}
use Rattle.member_slots.specs.Members.{NumberedMembers, member_of, with_member}
use Rattle.parts_model.specs.Given.{members_given}
use Rattle.parts_model.proofs.GivenLemmas.{appended-given, appended-length, changed-given, deleted-within, one_given, spare-set, spare-spent}
use Rattle.parts_model.proofs.ResultLemmas.{on_ok}
use Rattle.library_parts.proofs.given.put.Goals as goal

pub returns-then-rrn-slots_of-clause-members : goal.returns-then-rrn-slots_of-clause-members
returns-then-rrn-slots_of-clause-members c =
    let old = c.args.members.now.members in
    let member = member_of c.args.number old in
    let next : c.args.given.rrn ≡ length member.slots + 1 = omega (arith, c.if-rrn-slots_of.true, c.slots_of.ensures, c.requires.takes.places.1) in
    on_ok c.append.result c.unwrap-rrn.result c.unwrap-rrn.ensures c.append.ensures.appended
    ∙ ap (λ (m : MemberState). with_member c.args.number m old) (appended-given member c.args.given.rrn c.in-Live.image next)
    ∙ ap (λ (s : Slot). members_given c.args.number (one_given c.args.given.rrn s ∷ []) old) (sym c.in-Live.is)

pub returns-then-rrn-slots_of-clause-spare : goal.returns-then-rrn-slots_of-clause-spare
returns-then-rrn-slots_of-clause-spare c =
    let old = c.args.members.now.members in
    let member = member_of c.args.number old in
    let past : length member.slots < c.args.given.rrn = omega (arith, c.if-rrn-slots_of.true, c.slots_of.ensures) in
    let next : c.args.given.rrn ≡ length member.slots + 1 = omega (arith, past, c.requires.takes.places.1) in
    let long = appended-length c.args.number c.args.given.rrn c.in-Live.image old c.requires.there next in
    let same = ap (λ (ms : NumberedMembers). length (member_of c.args.number ms).slots) (returns-then-rrn-slots_of-clause-members c) in
    let given = ap (λ (s : Slot). length (member_of c.args.number (members_given c.args.number (one_given c.args.given.rrn s ∷ []) old)).slots) c.in-Live.is in
    let spent = spare-spent c.args.number c.args.members.now c.append.new.self (c.requires.room past) (on_ok c.append.result c.unwrap-rrn.result c.unwrap-rrn.ensures c.append.ensures.spent) in
    omega (arith, long, same, given, spent)

pub returns-else-rrn-slots_of-clause-members : goal.returns-else-rrn-slots_of-clause-members
returns-else-rrn-slots_of-clause-members c =
    let old = c.args.members.now.members in
    let member = member_of c.args.number old in
    let within : c.args.given.rrn ≤ length member.slots = omega (arith, c.if-rrn-slots_of.false, c.slots_of.ensures) in
    c.set-before.ensures.changed
    ∙ ap (λ (m : MemberState). with_member c.args.number m old) (changed-given member c.args.given.rrn (Live c.in-Live.image) c.requires.takes.places.0 within)
    ∙ ap (λ (s : Slot). members_given c.args.number (one_given c.args.given.rrn s ∷ []) old) (sym c.in-Live.is)

pub returns-else-rrn-slots_of-clause-spare : goal.returns-else-rrn-slots_of-clause-spare
returns-else-rrn-slots_of-clause-spare c =
    let old = c.args.members.now.members in
    let more = spare-set c.args.number c.args.given old c.requires.there in
    let same = ap (λ (ms : NumberedMembers). length (member_of c.args.number ms).slots) (returns-else-rrn-slots_of-clause-members c) in
    rw c.set-before.ensures.spares (omega (arith, more, same))

pub returns-in-Deleted-clause-members : goal.returns-in-Deleted-clause-members
returns-in-Deleted-clause-members c =
    let old = c.args.members.now.members in
    let member = member_of c.args.number old in
    let within = deleted-within member c.args.given c.requires.takes c.in-Deleted.is in
    c.set-before-in-Deleted.ensures.changed
    ∙ ap (λ (m : MemberState). with_member c.args.number m old) (changed-given member c.args.given.rrn Deleted c.requires.takes.places.0 within)
    ∙ ap (λ (s : Slot). members_given c.args.number (one_given c.args.given.rrn s ∷ []) old) (sym c.in-Deleted.is)

pub returns-in-Deleted-clause-spare : goal.returns-in-Deleted-clause-spare
returns-in-Deleted-clause-spare c =
    let old = c.args.members.now.members in
    let more = spare-set c.args.number c.args.given old c.requires.there in
    let same = ap (λ (ms : NumberedMembers). length (member_of c.args.number ms).slots) (returns-in-Deleted-clause-members c) in
    rw c.set-before-in-Deleted.ensures.spares (omega (arith, more, same))
