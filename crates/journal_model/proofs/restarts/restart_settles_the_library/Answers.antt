use Rattle.journal_model.proofs.JournalLemmas.{restarted-replays, restarted-closed, restarted-slots, restarted-settled}
use Rattle.journal_model.proofs.restarts.restart_settles_the_library.Goals as goal

pub returns : goal.returns
returns c = record { replays = restarted-replays; closed = restarted-closed; slots = restarted-slots; settled = restarted-settled }
