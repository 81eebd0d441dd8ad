use Rattle.std.proofs.Common.{arith}
use Rattle.folder_store.proofs.UntoldLemmas.{untold_does}
use Rattle.disk_rows.proofs.changed_stores.ChangedStoreStore.cut.Goals as goal

pub returns-in-Err-clause-does : goal.returns-in-Err-clause-does
returns-in-Err-clause-does c = untold_does c.args.area _ c.args.self.now c.fault.new.self (omega (arith, c.fault.ensures.never_falls, c.self.view_is))
