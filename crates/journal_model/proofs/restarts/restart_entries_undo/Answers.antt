use Rattle.journal_model.proofs.RollbackLemmas.{restart_drafts-do}
use Rattle.journal_model.proofs.restarts.restart_entries_undo.Goals as goal

pub returns : goal.returns
returns c = restart_drafts-do
