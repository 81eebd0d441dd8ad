use Rattle.std.proofs.Common.{true, refl}
use Rattle.std.proofs.lemmas.Result.{err_from_is_err_and}
use Rattle.library_model.specs.declared.replies.Reply.TheVariants as replies
use Rattle.library_steps.specs.State.{memory_of}
use Rattle.library_parts.specs.Given.{with_given}
use Rattle.range_requests.proofs.AnswerLemmas.{given-answers, stopped-answers}
use Rattle.range_requests.proofs.commands.give.Goals as goal

pub returns-in_err-give_slots : goal.returns-in_err-give_slots
returns-in_err-give_slots c = λ work is.
    let p = err_from_is_err_and c.from_residual.result c.from_residual.ensures.1 in
    let kept = c.in_err-give_slots.ensures in
    rw (p.1, p.2) (stopped-answers c.args.contents.now.state c.give_slots.new.self.state work c.args.plan is c.in_err-give_slots.field-0.0 kept.refused kept.apart)

pub returns : goal.returns
returns c = λ work is.
    let old = c.args.contents.now.state in
    let plan = c.args.plan in
    let given = c.in_ok-give_slots.ensures in
    given-answers old c.deposit_all.new.contents.state work plan is c.in_ok-give_slots.ensures.apart
    (c.deposits_leave.ensures old c.give_slots.new.self.state c.deposit_all.new.contents.state plan.drafts.items true (replies.Range plan.first plan.last plan.changes)
    (with_given plan.member plan.given.items (memory_of old)) given.memory refl given.entries c.deposit_all.ensures.state)
