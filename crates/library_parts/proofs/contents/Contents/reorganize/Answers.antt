use Rattle.std.proofs.Common.{◌≡◌, ◌∙◌, ◌≤◌, ap, arith}
use Rattle.member_slots.specs.Member.{reorganized}
use Rattle.member_slots.specs.Members.{NumberedMembers, member_of, with_member}
use Rattle.parts_model.specs.Table.{changes_held}
use Rattle.library_steps.specs.Ranges.{library_bytes}
use Rattle.lawful_states.specs.Slots.{weight}
use Rattle.lawful_states.proofs.MemberLemmas.{HasRecords-reorganized, weight-reorganized, member_of-with, is_some-IsSome}
use Rattle.parts_model.proofs.RebuildLemmas.{rebuilt-ties}
use Rattle.parts_model.proofs.IndexMoves.{changes-held}
use Rattle.parts_model.proofs.IndexRebuilt.{IsIndexed-rebuilt, bytes-reorganized}
use Rattle.parts_model.proofs.IndexRecords.{bytes-member}
use Rattle.lawful_states.proofs.LawfulLemmas.{AreOne-slots}
use Rattle.library_parts.proofs.contents.Contents.reorganize.Goals as goal

pub rebuild-requires : goal.rebuild-requires
rebuild-requires c =
    let members = c.self.inside.members.members in
    rebuilt-ties c.args.member (changes_held c.self.inside.jobs.jobs) (with_member c.args.member (reorganized (member_of c.args.member members)) members) c.self.inside.paths.paths c.args.paths c.kept-kept.ensures.shared
    (rw (← c.self.view_is) at c.requires.paths)

pub invariant_of-self : goal.invariant_of-self
invariant_of-self c =
    let members = c.self.inside.members.members in
    let member = member_of c.args.member members in
    let there = rw (← c.self.view_is) at c.requires.there in
    let weighs : c.weight-before.result ≡ weight member = rw (← c.self.view_is) at c.weight-before.ensures.value in
    let few : c.weight-before.result ≤ library_bytes members = rw (← c.self.view_is) at c.weight-before.ensures.few in
    let counted : c.self.inside.member_bytes ≡ library_bytes members = c.self.invariant.0.counted in
    let fewer : weight (reorganized member) ≤ weight member = weight-reorganized member in
    let after : c.weight-after.result ≡ weight (reorganized member) =
    c.weight-after.ensures.value ∙ ap (λ (ms : NumberedMembers). weight (member_of c.args.member ms)) c.reorganize.ensures.reorganized
    ∙ ap weight (member_of-with c.args.member (reorganized member) members (is_some-IsSome _ there)) in
    rw c.reorganize.ensures.reorganized (
      AreOne-slots _ _ _ c.args.member reorganized c.self.invariant.0 there (λ fields m has. HasRecords-reorganized fields m has) fewer (omega (arith, weighs, few, counted, after)) (rw (← c.self.view_is) at c.requires.unused),
      c.self.invariant.1,
      IsIndexed-rebuilt _ members c.self.inside.jobs.jobs _ _ c.self.inside.paths c.rebuild.new.self c.args.member (changes_held c.self.inside.jobs.jobs) (reorganized member) c.args.paths c.kept-kept.ensures.shared
          c.kept-kept.ensures.rooms c.rebuild.ensures.put (rw (← c.self.view_is) at c.requires.paths) (bytes-reorganized member (bytes-member c.args.member members c.self.invariant.2.bytes))
          (λ spec. changes-held spec c.self.inside.jobs.jobs) c.self.invariant.2,
    )
