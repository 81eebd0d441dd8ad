use Rattle.library_kept.proofs.FileRequestLemmas.{files-kept}
use Rattle.library_kept.proofs.RequestLemmas.{request-left}
use Rattle.library_kept.proofs.StandLemmas.{library-after}
use Rattle.library_kept.proofs.library_is_kept.Goals as goal

pub returns-clause-library : goal.returns-clause-library
returns-clause-library c = λ s done it. library-after s done (request-left s it.job it.timestamp it.sound it.running it.read it.reads it.sources done it.request it.does)

pub returns-clause-apart : goal.returns-clause-apart
returns-clause-apart c = λ s done it. (files-kept s it.job it.timestamp it.sound it.read it.sources done it.request it.does).apart

pub returns-clause-formats : goal.returns-clause-formats
returns-clause-formats c = λ s done it. (files-kept s it.job it.timestamp it.sound it.read it.sources done it.request it.does).formats

pub returns-clause-views : goal.returns-clause-views
returns-clause-views c = λ s done it. (files-kept s it.job it.timestamp it.sound it.read it.sources done it.request it.does).views

pub returns-clause-defaults : goal.returns-clause-defaults
returns-clause-defaults c = λ s done it. (files-kept s it.job it.timestamp it.sound it.read it.sources done it.request it.does).defaults

pub returns-clause-within : goal.returns-clause-within
returns-clause-within c = λ s done it. (request-left s it.job it.timestamp it.sound it.running it.read it.reads it.sources done it.request it.does).within
