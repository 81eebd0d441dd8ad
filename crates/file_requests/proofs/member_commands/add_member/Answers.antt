use Rattle.std.proofs.Common.{◌≡◌, ◌∙◌, ℕ, [], ◌∷◌, true, sym, ap, subst}
use Rattle.entry_codec.specs.declared.entries.Draft.{Draft}
use Rattle.entry_codec.specs.declared.kinds.EntryKind.TheVariants.{MemberAdded}
use Rattle.library_model.specs.declared.replies.Reply.TheVariants.{Done}
use Rattle.library_steps.specs.State.{State, FileState, memory_of}
use Rattle.library_steps.specs.Change.{does, journaled}
use Rattle.library_steps.specs.MemberCommands.{member_added}
use Rattle.library_steps.specs.Drafts.{Author, author_of, member_draft}
use Rattle.library_parts.proofs.DepositLemmas.{Answers-left}
use Rattle.library_parts.specs.Files.{IsNewMember}
use Rattle.file_requests.proofs.member_commands.add_member.Goals as goal

pub apply_add-requires-clause-new : goal.apply_add-requires-clause-new
apply_add-requires-clause-new c =
    let same = c.reserve_member.ensures.state ∙ c.with_room.ensures.state in
    subst (λ (s : State). IsNewMember s c.args.args.now) (sym same) c.in_ok-_file.ensures.new

pub returns : goal.returns
returns c =
    let old = c.args.contents.now.state in
    let m = memory_of old in
    let args = c.args.args.now in
    let file = c.in_ok-_file._file.now in
    let author = author_of m c.args.job c.args.timestamp in
    let kind = MemberAdded args.file args.member in
    let same = c.reserve_member.ensures.state ∙ c.with_room.ensures.state in
    let draft : c.in_ok-draft.draft ≡ member_draft author m.next_member kind = c.in_ok-draft.ensures.draft ∙ c.member_draft.ensures ∙ ap (λ (a : Author). member_draft a c.counts-number.result.1 kind) c.of-author.ensures
    ∙ ap (λ (n : ℕ). member_draft author n kind) c.counts-number.ensures.next_member in
    let left = c.in_ok-apply_add.ensures.added file (rw same c.in_ok-_file.ensures.there) in
    record {
      answers = Answers-left old c.reserve_member.new.self.state c.apply_add.new.contents.state (c.in_ok-draft.draft ∷ []) (member_draft author m.next_member kind ∷ []) (member_added args file)
          Done _ same (ap (λ (d : Draft). d ∷ []) draft)
          (ap (does (λ (f : FileState). journaled (member_draft author m.next_member kind ∷ []) true Done (member_added args f m))) c.in_ok-_file.ensures.plan) left;
    }
