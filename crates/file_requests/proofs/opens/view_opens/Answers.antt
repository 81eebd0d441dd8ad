use Rattle.std.proofs.Common.{sym}
use Rattle.file_requests.proofs.OpenLemmas.{opened-by}
use Rattle.file_requests.proofs.opens.view_opens.Goals as goal

pub returns-clause-by_path : goal.returns-clause-by_path
returns-clause-by_path c = opened-by c.args.view.now c.args.args.now (sym c.if-may_not.ensures)
