use Rattle.std.proofs.Common.{◌≡◌, ◌∙◌, ◌≤◌, ap, arith}
use Rattle.member_slots.specs.Members.{NumberedMembers, member_of, with_member}
use Rattle.parts_model.specs.Table.{changes_held}
use Rattle.library_steps.specs.Ranges.{library_bytes}
use Rattle.lawful_states.specs.Slots.{weight}
use Rattle.lawful_states.proofs.MemberLemmas.{member_of-with, is_some-IsSome}
use Rattle.parts_model.proofs.RebuildLemmas.{rebuilt-ties}
use Rattle.parts_model.specs.Filled.{MayFill}
use Rattle.parts_model.proofs.IndexMoves.{changes-held}
use Rattle.parts_model.proofs.IndexRebuilt.{IsIndexed-rebuilt}
use Rattle.parts_model.proofs.FilledLemmas.{AreOne-filled}
use Rattle.library_parts.proofs.contents.Contents.fill.Goals as goal

pub replace-requires : goal.replace-requires
replace-requires c = let may = rw (← c.self.view_is) at c.requires.may in may.there

pub rebuild-requires : goal.rebuild-requires
rebuild-requires c =
    let members = c.self.inside.members.members in
    rebuilt-ties c.args.number (changes_held c.self.inside.jobs.jobs) (with_member c.args.number c.args.member.state members) c.self.inside.paths.paths c.args.paths c.kept-kept.ensures.shared
    (rw (← c.self.view_is) at c.requires.paths)

pub invariant_of-self : goal.invariant_of-self
invariant_of-self c =
    let members = c.self.inside.members.members in
    let number = c.args.number in
    let new = c.args.member.state in
    let may = rw (← c.self.view_is) at c.requires.may in
    let weighs : c.weight-before.result ≡ weight (member_of number members) = rw (← c.self.view_is) at c.weight-before.ensures.value in
    let few : c.weight-before.result ≤ library_bytes members = rw (← c.self.view_is) at c.weight-before.ensures.few in
    let counted : c.self.inside.member_bytes ≡ library_bytes members = c.self.invariant.0.counted in
    let after : c.weight-after.result ≡ weight new =
    c.weight-after.ensures.value ∙ ap (λ (ms : NumberedMembers). weight (member_of number ms)) c.replace.ensures
    ∙ ap weight (member_of-with number new members (is_some-IsSome _ may.there)) in
    rw c.replace.ensures (
      AreOne-filled _ number new may _ _ c.self.invariant.0 (omega (arith, weighs, few, counted, after)),
      c.self.invariant.1,
      IsIndexed-rebuilt _ members c.self.inside.jobs.jobs _ _ c.self.inside.paths c.rebuild.new.self number (changes_held c.self.inside.jobs.jobs) new c.args.paths c.kept-kept.ensures.shared
          c.kept-kept.ensures.rooms c.rebuild.ensures.put (rw (← c.self.view_is) at c.requires.paths) may.bytes
          (λ spec. changes-held spec c.self.inside.jobs.jobs) c.self.invariant.2,
    )
