use Rattle.library_kept.proofs.FileRequestLemmas.{files-kept}
use Rattle.library_kept.proofs.ToldLemmas.{told-after}
use Rattle.library_kept.proofs.ToldRequestLemmas.{request-told}
use Rattle.library_kept.proofs.told_is_kept.Goals as goal

pub returns : goal.returns
returns c = λ s done it.
    let keeps = files-kept s it.job it.timestamp it.sound it.read it.sources done it.request it.does in
    told-after s done it.sound keeps (request-told s it.job it.timestamp it.sound it.running it.read it.reads it.sources done it.request it.does keeps)
