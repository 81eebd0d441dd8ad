use Rattle.std.proofs.Common.{◌∙◌, ap}
use Rattle.member_slots.specs.Members.{member_of}
use Rattle.library_model.specs.declared.replies.Reply.TheVariants.{Done}
use Rattle.library_steps.specs.State.{memory_of}
use Rattle.library_steps.specs.Change.{does}
use Rattle.library_steps.specs.Journaling.{start_change}
use Rattle.library_steps.specs.Drafts.{Author, author_of}
use Rattle.file_requests.specs.Records.{journaling_started, start_drafts}
use Rattle.library_parts.proofs.DepositLemmas.{Answers-left}
use Rattle.file_requests.proofs.journaling.start_journaling.Goals as goal

pub returns : goal.returns
returns c =
    let old = c.args.contents.now.state in
    let m = memory_of old in
    let args = c.args.args.now in
    let status = c.in_ok-status.status in
    let slots = (member_of status.number m.members).slots in
    let author = author_of m c.args.job c.args.timestamp in
    let told = λ (a : Author). start_drafts a status.number args.images slots in
    let made = rw c.number.ensures at c.in_ok-drafts.ensures.drafts in
    let left = rw c.number-2.ensures at c.apply_start.ensures in
    record {
      answers = Answers-left old c.reserve_all.new.contents.state c.apply_start.new.contents.state c.in_ok-drafts.drafts.items (told author)
          (journaling_started status.number args.images) Done _ c.reserve_all.ensures.state (made ∙ ap told c.of-author.ensures)
          (ap (does (start_change m c.args.job c.args.timestamp args)) c.in_ok-status.ensures.plan) left;
    }
