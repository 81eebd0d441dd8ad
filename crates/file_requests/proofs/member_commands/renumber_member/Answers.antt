use Rattle.std.proofs.Common.{◌∙◌, ap}
use Rattle.std.specs.Option.{is_some}
use Rattle.library_model.specs.declared.replies.Reply.TheVariants.{Done}
use Rattle.library_steps.specs.State.{memory_of}
use Rattle.library_steps.specs.Change.{does}
use Rattle.library_steps.specs.MemberCommands.{if_journaled, renumbering}
use Rattle.library_steps.specs.Drafts.{Author, author_of, member_draft}
use Rattle.library_parts.proofs.DepositLemmas.{Answers-left}
use Rattle.file_requests.specs.Members.{kind_of, renumbering_of, slots_after}
use Rattle.file_requests.proofs.member_commands.renumber_member.Goals as goal

pub returns : goal.returns
returns c =
    let old = c.args.contents.now.state in
    let m = memory_of old in
    let status = c.in_ok-status.status in
    let author = author_of m c.args.job c.args.timestamp in
    let told = λ (a : Author). if_journaled (is_some status.images) (member_draft a status.number (kind_of c.args.way)) in
    let left = rw c.number-number.ensures at c.apply_renumbering.ensures in
    Answers-left old c.prepare_renumbering.new.contents.state c.apply_renumbering.new.contents.state c.in_ok-drafts.drafts.items (told author)
    (renumbering_of c.args.way status.number) Done _ c.prepare_renumbering.ensures.state
    (c.in_ok-drafts.ensures.drafts ∙ ap told c.of-author.ensures)
    (ap (does (renumbering m c.args.job c.args.timestamp (kind_of c.args.way) (slots_after c.args.way))) c.in_ok-status.ensures.plan) left
