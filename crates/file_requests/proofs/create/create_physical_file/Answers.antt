use Rattle.std.proofs.Common.{◌∙◌, [], ◌∷◌, Ok, sym, ap, true}
use Rattle.entry_codec.specs.declared.entries.Draft.{Draft}
use Rattle.entry_codec.specs.declared.kinds.EntryKind.TheVariants.{FileCreated}
use Rattle.entry_codec.specs.declared.kinds.FileKind.TheVariants.{Physical}
use Rattle.library_model.specs.declared.replies.Reply.TheVariants.{Done}
use Rattle.library_steps.specs.State.{FileState, memory_of}
use Rattle.library_steps.specs.Change.{does, journaled}
use Rattle.library_steps.specs.CreatePhysicalFile.{create_change, with_file}
use Rattle.library_steps.specs.Drafts.{author_of, member_draft}
use Rattle.library_parts.proofs.DepositLemmas.{Answers-left}
use Rattle.file_requests.proofs.PhysicalLemmas.{is-new-file}
use Rattle.file_requests.proofs.create.create_physical_file.Goals as goal

pub apply_create-requires-clause-new : goal.apply_create-requires-clause-new
apply_create-requires-clause-new c =
    let described = c.in_ok-described.ensures in
    is-new-file c.args.contents.now.state c.prepare_create.new.contents.state c.args.args.now.file c.in_ok-described.described c.in_ok-new.new.file c.prepare_create.ensures.state described.absent
    described.number c.in_ok-new.ensures.file

pub returns : goal.returns
returns c =
    let old = c.args.contents.now.state in
    let m = memory_of old in
    let args = c.args.args.now in
    let plan = c.in_ok-described.described in
    let new = c.in_ok-new.new in
    let drafts = member_draft (author_of m c.args.job c.args.timestamp) m.next_member (FileCreated Physical args.file plan.source) ∷ [] in
    record {
      answers = Answers-left old c.prepare_create.new.contents.state c.apply_create.new.contents.state (new.draft ∷ []) drafts (with_file args.file new.file)
          Done _ c.prepare_create.ensures.state (ap (λ (d : Draft). d ∷ []) c.in_ok-new.ensures.draft)
          (ap (does (create_change m c.args.job c.args.timestamp args)) c.in_ok-described.ensures.plan
          ∙ ap (λ (f : FileState). Ok (journaled drafts true Done (with_file args.file f m))) (sym c.in_ok-new.ensures.file)) c.in_ok-apply_create.ensures.added;
    }
