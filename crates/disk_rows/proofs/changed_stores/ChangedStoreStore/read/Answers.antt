use Rattle.std.proofs.Common.{arith}
use Rattle.folder_store.proofs.UntoldLemmas.{untold_stays}
use Rattle.disk_rows.proofs.changed_stores.ChangedStoreStore.read.Goals as goal

pub returns-in-Err-clause-stays : goal.returns-in-Err-clause-stays
returns-in-Err-clause-stays c = untold_stays c.args.self.now c.fault.new.self (omega (arith, c.fault.ensures.never_falls, c.self.view_is))
