use Rattle.std.proofs.Common.{refl}
use Rattle.file_requests.proofs.ViewLemmas.{unique-join, unique-one}
use Rattle.file_requests.proofs.views.is_unique.Goals as goal

pub returns-in-Simple : goal.returns-in-Simple
returns-in-Simple c = λ bases. unique-one bases c.args.view.now c.in-Simple.view c.in-Simple.is

pub returns-in-Multi : goal.returns-in-Multi
returns-in-Multi c = λ bases. rw c.in-Multi.is refl

pub returns-in-Join : goal.returns-in-Join
returns-in-Join c = λ bases. unique-join bases c.args.view.now c.in-Join.view c.in-Join.is
