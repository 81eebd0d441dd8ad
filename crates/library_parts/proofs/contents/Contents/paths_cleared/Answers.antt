use Rattle.std.proofs.Common.{◌+◌, ℕ, arith, ◌≡◌, ◌∙◌, IfOk, sym, ap, subst}
use Rattle.member_slots.specs.Member.{MemberState, cleared, empty_member}
use Rattle.member_slots.specs.Members.{member_of, with_member}
use Rattle.parts_model.specs.Table.{changes_held}
use Rattle.parts_model.specs.MemberSteps.{paths_over}
use Rattle.parts_model.specs.RebuiltPaths.{AreRebuilt, CanBeRebuilt}
use Rattle.parts_model.specs.Parts.{state_of}
use Rattle.parts_model.proofs.RemadeLemmas.{cleared-can}
use Rattle.library_parts.proofs.contents.Contents.paths_cleared.Goals as goal

pub prepare_rebuild-requires-clause-can : goal.prepare_rebuild-requires-clause-can
prepare_rebuild-requires-clause-can c =
    let parts = c.self.inside in
    let state = state_of parts.catalogue parts.members parts.next_member parts.journal parts.locks parts.jobs in
    let same : c.new-empty.result.state ≡ cleared (member_of c.args.member parts.members.members) = c.new-empty.ensures ∙ ap empty_member (rw (← c.self.view_is) at c.record_length.ensures) in
    subst (λ (m : MemberState). CanBeRebuilt c.args.member (with_member c.args.member m parts.members.members) parts.paths.paths) (sym same)
    (cleared-can state c.args.member parts.jobs.orders parts.jobs.moves parts.paths c.len-files.ensures.keyed c.len-files.ensures.unique c.self.invariant.0.lawful c.at-member.ensures.lawful
    c.kept-kept.ensures.shared c.self.invariant.2 (rw (← c.self.view_is) at c.requires))

pub returns : goal.returns
returns c =
    let parts = c.self.inside in
    let same : c.new-empty.result.state ≡ cleared (member_of c.args.member parts.members.members) = c.new-empty.ensures ∙ ap empty_member (rw (← c.self.view_is) at c.record_length.ensures) in
    let all : c.in-Some.held ≡ changes_held parts.jobs.jobs = (let e = c.in-Some.ensures ∙ ap (λ (n : ℕ). n + 0) c.changes_held.ensures in omega (arith, e)) in
    rw (← c.self.view_is)
    (subst (λ (n : ℕ). IfOk c.prepare_rebuild.result (AreRebuilt (with_member c.args.member (cleared (member_of c.args.member parts.members.members)) parts.members.members) n (paths_over c.args.member parts.paths.paths))) all
    (subst (λ (m : MemberState). IfOk c.prepare_rebuild.result (AreRebuilt (with_member c.args.member m parts.members.members) c.in-Some.held (paths_over c.args.member parts.paths.paths))) same
    c.prepare_rebuild.ensures))
