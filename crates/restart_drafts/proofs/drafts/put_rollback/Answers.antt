use Rattle.std.proofs.Common.{[], ◌∷◌, ◌++◌, ◌∙◌, List, ap, append_assoc}
use Rattle.entry_codec.specs.declared.entries.Draft.{Draft}
use Rattle.journal_model.specs.Rollback.{cycle_draft, undo_drafts}
use Rattle.open_cycles.specs.Kept.{live}
use Rattle.restart_drafts.specs.Undos.{of_cycle}
use Rattle.restart_drafts.proofs.drafts.put_rollback.Goals as goal

pub returns : goal.returns
returns c =
    let undos = undo_drafts c.args.by.now.job c.args.by.now.moment (of_cycle c.args.cycle (live c.args.changes.now)) in
    c.in_ok-push.ensures.items ∙ (ap (λ (ds : List Draft). ds ++ c.cycle_draft.result ∷ []) c.in_ok-put_undos.ensures
    ∙ (append_assoc c.args.drafts.now.items undos (c.cycle_draft.result ∷ []) ∙ ap (λ (d : Draft). c.args.drafts.now.items ++ (undos ++ d ∷ [])) c.cycle_draft.ensures))
