use Rattle.std.proofs.Common.{None}
use Rattle.journal_model.specs.Journal.{restarted}
use Rattle.restart_model.specs.Libraries.{journal_with, restart_job}
use Rattle.restart_laws.proofs.LeftLemmas.{left-apart, left-based, left-defaults, left-formats, left-mapped, left-names, left-numbers}
use Rattle.restart_laws.proofs.LibraryLemmas.{catalogue-is, numbered-is}
use Rattle.restart_laws.proofs.laws.restarted_files_are_sound.Goals as goal

pub returns-clause-names : goal.returns-clause-names
returns-clause-names c = λ entries attached moment can. left-names (λ _. 0) (restarted restart_job moment (journal_with entries)) (catalogue-is entries attached moment can)

pub returns-clause-apart : goal.returns-clause-apart
returns-clause-apart c = λ entries attached moment can. left-apart (λ _. 0) (restarted restart_job moment (journal_with entries)) (catalogue-is entries attached moment can)

pub returns-clause-formats : goal.returns-clause-formats
returns-clause-formats c = λ entries attached moment can. left-formats (λ _. 0) (restarted restart_job moment (journal_with entries))

pub returns-clause-defaults : goal.returns-clause-defaults
returns-clause-defaults c = λ entries attached moment can. left-defaults (λ _. 0) (restarted restart_job moment (journal_with entries))

pub returns-clause-views : goal.returns-clause-views
returns-clause-views c = λ entries attached moment can. left-mapped (λ _. 0) (restarted restart_job moment (journal_with entries))

pub returns-clause-bases : goal.returns-clause-bases
returns-clause-bases c = λ entries attached moment can. left-based (λ _. 0) (restarted restart_job moment (journal_with entries)) (catalogue-is entries attached moment can)

pub returns-clause-numbers : goal.returns-clause-numbers
returns-clause-numbers c = λ entries attached moment can. left-numbers (λ _. 0) (restarted restart_job moment (journal_with entries)) (catalogue-is entries attached moment can)

pub returns-clause-numbered : goal.returns-clause-numbered
returns-clause-numbered c = numbered-is
