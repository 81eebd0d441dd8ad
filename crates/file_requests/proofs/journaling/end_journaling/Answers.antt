use Rattle.std.proofs.Common.{◌≡◌, ◌∙◌, ℕ, ◌+◌, [], ◌∷◌, true, Ok, length, sym, ap}
use Rattle.entry_codec.specs.declared.entries.Draft.{Draft}
use Rattle.entry_codec.specs.declared.kinds.EntryKind.TheVariants.{JournalingEnded}
use Rattle.member_slots.specs.Member.{records}
use Rattle.member_slots.specs.Members.{member_of}
use Rattle.library_model.specs.declared.replies.Reply.TheVariants.{Done}
use Rattle.library_steps.specs.State.{memory_of, with_status}
use Rattle.library_steps.specs.Change.{does, journaled}
use Rattle.library_steps.specs.Journaling.{no_longer_journaled, end_change}
use Rattle.library_steps.specs.Drafts.{Author, author_of, member_draft}
use Rattle.file_requests.specs.Records.{journaling_ended}
use Rattle.library_parts.proofs.DepositLemmas.{Answers-left}
use Rattle.file_requests.proofs.journaling.end_journaling.Goals as goal

pub returns : goal.returns
returns c =
    let old = c.args.contents.now.state in
    let m = memory_of old in
    let status = c.in_ok-status.status in
    let number = c.number-number.ensures in
    let author = author_of m c.args.job c.args.timestamp in
    let drafts = member_draft author status.number JournalingEnded ∷ [] in
    let told : c.in_ok-draft.draft ≡ member_draft author status.number JournalingEnded = c.in_ok-draft.ensures.draft ∙ c.member_draft.ensures ∙ ap (λ (a : Author). member_draft a c.number-number.result JournalingEnded) c.of-author.ensures
    ∙ ap (λ (n : ℕ). member_draft author n JournalingEnded) number in
    let counted : c.record_count-records.result ≡ length (records (member_of status.number m.members)) = rw number at c.record_count-records.ensures in
    let left = rw number at c.apply_end.ensures in
    record {
      answers = Answers-left old c.with_room.new.contents.state c.apply_end.new.contents.state (c.in_ok-draft.draft ∷ []) drafts
          (journaling_ended status.number c.record_count-records.result) Done _ c.with_room.ensures.state (ap (λ (d : Draft). d ∷ []) told)
          (ap (does (end_change m c.args.job c.args.timestamp)) c.in_ok-status.ensures.plan
          ∙ ap (λ (n : ℕ). Ok (journaled drafts true Done (with_status status.number (no_longer_journaled (m.last_entry + 1) n) m))) (sym counted)) left;
    }
