use Rattle.library_steps.specs.State.{memory_of}
use Rattle.file_requests.proofs.ViewLemmas.{is-described}
use Rattle.file_requests.proofs.views.view_named.Goals as goal

pub returns-clause-described : goal.returns-clause-described
returns-clause-described c = is-described c.args.sources.now (memory_of c.args.contents.now.state) c.args.source.now c.view_read.result c.view_read.ensures
