use Rattle.std.proofs.Common.{[], ◌∷◌, true, refl}
use Rattle.library_model.specs.declared.replies.Reply.TheVariants.{Done}
use Rattle.library_steps.specs.CreateLogicalFile.{with_logical}
use Rattle.library_steps.specs.State.{memory_of}
use Rattle.library_parts.proofs.DepositLemmas.{Leaves-drafts}
use Rattle.file_requests.proofs.views.apply_view.Goals as goal

pub returns-clause-added : goal.returns-clause-added
returns-clause-added c =
    let old = c.args.contents.now.state in
    Leaves-drafts old c.add_view.new.self.state c.deposit-sequence.new.self.state (c.args.new.draft ∷ []) true Done (with_logical c.args.args.now.file c.args.new.described (memory_of old))
    c.in_ok-add_view.ensures.memory refl c.add_view.ensures.entries c.deposit-sequence.ensures.state
