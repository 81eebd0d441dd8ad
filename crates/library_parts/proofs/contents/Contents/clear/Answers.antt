use Rattle.std.proofs.Common.{◌≡◌, ◌≤◌, arith}
use Rattle.member_slots.specs.Member.{cleared}
use Rattle.member_slots.specs.Members.{member_of, with_member}
use Rattle.parts_model.specs.Table.{changes_held}
use Rattle.library_steps.specs.Ranges.{library_bytes}
use Rattle.lawful_states.specs.Slots.{weight}
use Rattle.lawful_states.proofs.MemberLemmas.{HasRecords-cleared, weight-cleared}
use Rattle.parts_model.proofs.RebuildLemmas.{rebuilt-ties}
use Rattle.parts_model.proofs.IndexMoves.{changes-held}
use Rattle.parts_model.proofs.IndexRebuilt.{IsIndexed-rebuilt, bytes-cleared}
use Rattle.lawful_states.proofs.LawfulLemmas.{AreOne-slots}
use Rattle.library_parts.proofs.contents.Contents.clear.Goals as goal

pub rebuild-requires : goal.rebuild-requires
rebuild-requires c =
    let members = c.self.inside.members.members in
    rebuilt-ties c.args.member (changes_held c.self.inside.jobs.jobs) (with_member c.args.member (cleared (member_of c.args.member members)) members) c.self.inside.paths.paths c.args.paths c.kept-kept.ensures.shared
    (rw (← c.self.view_is) at c.requires.paths)

pub invariant_of-self : goal.invariant_of-self
invariant_of-self c =
    let members = c.self.inside.members.members in
    let member = member_of c.args.member members in
    let weighs : c.weight-before.result ≡ weight member = rw (← c.self.view_is) at c.weight-before.ensures.value in
    let few : c.weight-before.result ≤ library_bytes members = rw (← c.self.view_is) at c.weight-before.ensures.few in
    let counted : c.self.inside.member_bytes ≡ library_bytes members = c.self.invariant.0.counted in
    let none : weight (cleared member) ≡ 0 = weight-cleared member in
    rw c.clear.ensures.cleared (
      AreOne-slots _ _ _ c.args.member cleared c.self.invariant.0 (rw (← c.self.view_is) at c.requires.there) (λ fields m has. HasRecords-cleared fields m has) (omega (arith, none)) (omega
          (arith, weighs, few, counted, none)) (rw (← c.self.view_is) at c.requires.unused),
      c.self.invariant.1,
      IsIndexed-rebuilt _ members c.self.inside.jobs.jobs _ _ c.self.inside.paths c.rebuild.new.self c.args.member (changes_held c.self.inside.jobs.jobs) (cleared member) c.args.paths c.kept-kept.ensures.shared
          c.kept-kept.ensures.rooms c.rebuild.ensures.put (rw (← c.self.view_is) at c.requires.paths) (bytes-cleared member)
          (λ spec. changes-held spec c.self.inside.jobs.jobs) c.self.invariant.2,
    )
