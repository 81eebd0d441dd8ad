use Rattle.std.proofs.Common.{◌≡◌, ◌∙◌, ◌+◌, ◌-◌, List, Result, Ok, Err, ap, subst, arith}
use Rattle.std.specs.List.{AllByRecursion}
use Rattle.member_slots.specs.Members.{NumberedMembers, member_of}
use Rattle.range_images.specs.declared.slot_given.SlotGiven.{SlotGiven}
use Rattle.parts_model.specs.declared.stop.Stop.{Stop}
use Rattle.parts_model.specs.Given.{given_to}
use Rattle.parts_model.specs.Indexed.{HasBytes}
use Rattle.parts_model.specs.Parts.{state_of}
use Rattle.lawful_states.specs.Slots.{weight}
use Rattle.lawful_states.proofs.DeleteLemmas.{bytes-without}
use Rattle.parts_model.proofs.GivenKeys.{TellsAll, given-told}
use Rattle.parts_model.proofs.GivenLemmas.{given-one}
use Rattle.parts_model.proofs.GivenSteps.{giving-back, giving-indexed, giving-made, giving-shared, giving-undone}
use Rattle.lawful_states.proofs.MemberLemmas.{is_some-IsSome, member_of-with}
use Rattle.library_parts.proofs.contents.Contents.give_slots.Goals as goal

pub change-back-requires : goal.change-back-requires
change-back-requires c =
    let parts = c.self.inside in
    let state = state_of parts.catalogue parts.members parts.next_member parts.journal parts.locks parts.jobs in
    let may = rw (← c.self.view_is) at c.requires.may in
    let moves = rw (← c.self.view_is) at c.requires.moves in
    giving-made state parts.jobs.orders parts.jobs.moves parts.paths c.args.member c.args.given.items c.args.moves c.kept-kept.ensures.shared c.self.invariant.2 may moves.same moves.room

pub change_back-moves-requires : goal.change_back-moves-requires
change_back-moves-requires c =
    let parts = c.self.inside in
    let state = state_of parts.catalogue parts.members parts.next_member parts.journal parts.locks parts.jobs in
    let may = rw (← c.self.view_is) at c.requires.may in
    let moves = rw (← c.self.view_is) at c.requires.moves in
    giving-back state parts.jobs.orders parts.jobs.moves parts.paths c.args.member c.args.given.items c.args.moves c.kept-kept.ensures.shared c.self.invariant.2 may moves.same moves.room
    c.change-back.new.self c.change-back.ensures.paths c.change-back.ensures.rooms c.change-back.result c.change-back.ensures.opposite

pub invariant_of-self : goal.invariant_of-self
invariant_of-self c =
    let parts = c.self.inside in
    let state = state_of parts.catalogue parts.members parts.next_member parts.journal parts.locks parts.jobs in
    let may = rw (← c.self.view_is) at c.requires.may in
    let moves = rw (← c.self.view_is) at c.requires.moves in (
      c.self.invariant.0,
      c.self.invariant.1,
      giving-undone state parts.jobs.orders parts.jobs.moves parts.paths c.args.member c.args.given.items c.args.moves c.kept-kept.ensures.shared c.self.invariant.2 may moves.same moves.room
          c.change-back.new.self c.change-back.ensures.paths c.change-back.ensures.rooms c.change-back.result c.change-back.ensures.opposite
          c.change_back-moves.new.self c.change_back-moves.ensures.paths c.change_back-moves.ensures.rooms,
    )

pub returns-in-Err-clause-apart : goal.returns-in-Err-clause-apart
returns-in-Err-clause-apart c =
    let parts = c.self.inside in
    let state = state_of parts.catalogue parts.members parts.next_member parts.journal parts.locks parts.jobs in
    let may = rw (← c.self.view_is) at c.requires.may in
    let moves = rw (← c.self.view_is) at c.requires.moves in
    let bytes = subst (λ (gs : List SlotGiven). AllByRecursion (λ (g : SlotGiven). HasBytes g.slot) gs) c.as_slice.ensures.value c.are_of_bytes.ensures in
    let now = c.change-back.new.self in
    let indexed = giving-indexed state parts.jobs.orders parts.jobs.moves parts.paths c.args.member c.args.given.items c.args.moves c.kept-kept.ensures.shared c.self.invariant.2 may moves.same moves.room
    now c.change-back.ensures.paths c.change-back.ensures.rooms bytes in
    let shared = giving-shared state parts.jobs.orders parts.jobs.moves parts.paths c.args.member c.args.given.items c.args.moves c.kept-kept.ensures.shared c.self.invariant.2 may moves.same moves.room
    now c.change-back.ensures.paths c.change-back.ensures.rooms in
    rw (← c.self.view_is)
    (given-told state c.args.member c.args.given.items parts.jobs.orders parts.jobs.moves parts.paths now c.self.invariant.0.lawful c.weight-before.ensures.lawful c.self.invariant.2 indexed
    c.kept-kept.ensures.shared shared c.len-files.ensures.unique c.len-files.ensures.keyed may bytes (Err c.in-Err.stop)
    (subst (λ (r : Result (Unit {0}) Stop). TellsAll parts.catalogue.files now.paths c.args.member r) c.in-Err.is c.keys_apart.ensures))

pub overflow_sub-self : goal.overflow_sub-self
overflow_sub-self c =
    let counted = c.self.invariant.0.counted in
    let was = c.weight-before.ensures.value in
    let rest = bytes-without c.args.member c.self.inside.members.members c.weight-before.ensures.lawful in
    omega (arith, counted, was, rest)

pub invariant_of-self-in-Ok-1 : goal.invariant_of-self-in-Ok-1
invariant_of-self-in-Ok-1 c =
    let parts = c.self.inside in
    let state = state_of parts.catalogue parts.members parts.next_member parts.journal parts.locks parts.jobs in
    let may = rw (← c.self.view_is) at c.requires.may in
    let moves = rw (← c.self.view_is) at c.requires.moves in
    let members = parts.members.members in
    let member = member_of c.args.member members in
    let bytes = subst (λ (gs : List SlotGiven). AllByRecursion (λ (g : SlotGiven). HasBytes g.slot) gs) c.as_slice.ensures.value c.are_of_bytes.ensures in
    let counted = c.self.invariant.0.counted in
    let rest = bytes-without c.args.member members c.weight-before.ensures.lawful in
    let was = c.weight-before.ensures.value in
    let after : c.weight-after.result ≡ weight (given_to c.args.given.items member) =
    c.weight-after.ensures.value
    ∙ ap (λ (ms : NumberedMembers). weight (member_of c.args.member ms)) c.put_all.ensures.members
    ∙ ap weight (member_of-with c.args.member (given_to c.args.given.items member) members (is_some-IsSome _ may.there)) in
    rw c.put_all.ensures.members (
      given-one state parts.member_bytes (parts.member_bytes - c.weight-before.result + c.weight-after.result) c.args.member c.args.given.items c.self.invariant.0 may
          (omega (arith, counted, rest, was, after)),
      c.self.invariant.1,
      giving-indexed state parts.jobs.orders parts.jobs.moves parts.paths c.args.member c.args.given.items c.args.moves c.kept-kept.ensures.shared c.self.invariant.2 may moves.same moves.room
          c.change-back.new.self c.change-back.ensures.paths c.change-back.ensures.rooms bytes,
    )

pub returns-in-Ok-clause-apart : goal.returns-in-Ok-clause-apart
returns-in-Ok-clause-apart c =
    let parts = c.self.inside in
    let state = state_of parts.catalogue parts.members parts.next_member parts.journal parts.locks parts.jobs in
    let may = rw (← c.self.view_is) at c.requires.may in
    let moves = rw (← c.self.view_is) at c.requires.moves in
    let bytes = subst (λ (gs : List SlotGiven). AllByRecursion (λ (g : SlotGiven). HasBytes g.slot) gs) c.as_slice.ensures.value c.are_of_bytes.ensures in
    let now = c.change-back.new.self in
    let indexed = giving-indexed state parts.jobs.orders parts.jobs.moves parts.paths c.args.member c.args.given.items c.args.moves c.kept-kept.ensures.shared c.self.invariant.2 may moves.same moves.room
    now c.change-back.ensures.paths c.change-back.ensures.rooms bytes in
    let shared = giving-shared state parts.jobs.orders parts.jobs.moves parts.paths c.args.member c.args.given.items c.args.moves c.kept-kept.ensures.shared c.self.invariant.2 may moves.same moves.room
    now c.change-back.ensures.paths c.change-back.ensures.rooms in
    rw (← c.self.view_is)
    (given-told state c.args.member c.args.given.items parts.jobs.orders parts.jobs.moves parts.paths now c.self.invariant.0.lawful c.weight-before.ensures.lawful c.self.invariant.2 indexed
    c.kept-kept.ensures.shared shared c.len-files.ensures.unique c.len-files.ensures.keyed may bytes (Ok tt)
    (subst (λ (r : Result (Unit {0}) Stop). TellsAll parts.catalogue.files now.paths c.args.member r) c.in-Ok.is c.keys_apart.ensures))
