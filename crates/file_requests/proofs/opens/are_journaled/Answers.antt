use Rattle.std.proofs.Common.{◌≤◌, ℕ, Option, length, ap, arith}
use Rattle.library_model.specs.declared.replies.Reply.TheVariants.{NotJournaled}
use Rattle.library_steps.specs.Refusals.{refuse_with}
use Rattle.library_steps.specs.State.{memory_of}
use Rattle.file_requests.proofs.OpenLemmas.{unjournaled-here, unjournaled-next, unjournaled-none}
use Rattle.file_requests.proofs.opens.are_journaled.Goals as goal

pub loop-member-preserved : goal.loop-member-preserved
loop-member-preserved c =
    unjournaled-next (memory_of c.args.contents.now.state) c.args.members.now c.loop-member.member-index c.loop-member-test.true c.images_of.result c.images_of.ensures c.loop-member.invariant
    c.if-is_none.ensures

pub returns-then-is_none : goal.returns-then-is_none
returns-then-is_none c =
    ap (λ (first : Option ℕ). refuse_with NotJournaled first)
    (unjournaled-here (memory_of c.args.contents.now.state) c.args.members.now c.loop-member.member-index c.loop-member-test.true c.images_of.result c.images_of.ensures c.loop-member.invariant
    c.if-is_none.ensures)

pub returns : goal.returns
returns c =
    let past : length c.args.members.now ≤ c.loop-member.member-index = omega arith in
    ap (λ (first : Option ℕ). refuse_with NotJournaled first) (unjournaled-none (memory_of c.args.contents.now.state) c.args.members.now c.loop-member.member-index past c.loop-member.invariant)
