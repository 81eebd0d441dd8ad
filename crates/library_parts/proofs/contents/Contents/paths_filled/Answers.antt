use Rattle.std.proofs.Common.{◌+◌, ℕ, arith, ◌≡◌, ◌∙◌, IfOk, ap, subst}
use Rattle.member_slots.specs.Members.{with_member}
use Rattle.parts_model.specs.Table.{changes_held}
use Rattle.parts_model.specs.MemberSteps.{paths_over}
use Rattle.parts_model.specs.RebuiltPaths.{AreRebuilt}
use Rattle.parts_model.specs.Parts.{state_of}
use Rattle.parts_model.proofs.FilledLemmas.{filled-records}
use Rattle.parts_model.proofs.RemadeLemmas.{remade-can}
use Rattle.library_parts.proofs.contents.Contents.paths_filled.Goals as goal

pub prepare_rebuild-requires-clause-there : goal.prepare_rebuild-requires-clause-there
prepare_rebuild-requires-clause-there c = let may = rw (← c.self.view_is) at c.requires in may.there

pub prepare_rebuild-requires-clause-can : goal.prepare_rebuild-requires-clause-can
prepare_rebuild-requires-clause-can c =
    let parts = c.self.inside in
    let state = state_of parts.catalogue parts.members parts.next_member parts.journal parts.locks parts.jobs in
    let member = c.args.member.now.state in
    let may = rw (← c.self.view_is) at c.requires in
    remade-can state c.args.number parts.jobs.orders parts.jobs.moves parts.paths c.len-files.ensures.keyed c.len-files.ensures.unique c.self.invariant.0.lawful c.at-member.ensures.lawful
    c.kept-kept.ensures.shared c.self.invariant.2 may.there member (filled-records state c.args.number member may _ c.self.invariant.0 c.length-length.ensures.lawful)

pub returns : goal.returns
returns c =
    let parts = c.self.inside in
    let member = c.args.member.now.state in
    let all : c.in-Some.held ≡ changes_held parts.jobs.jobs = (let e = c.in-Some.ensures ∙ ap (λ (n : ℕ). n + 0) c.changes_held.ensures in omega (arith, e)) in
    rw (← c.self.view_is)
    (subst (λ (n : ℕ). IfOk c.prepare_rebuild.result (AreRebuilt (with_member c.args.number member parts.members.members) n (paths_over c.args.number parts.paths.paths))) all
    c.prepare_rebuild.ensures)
