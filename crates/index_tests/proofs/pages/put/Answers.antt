-- What was removed isn't there.
use Rattle.std.proofs.Common.{sym}
use Rattle.key_pages.specs.EntryList.{entry_of}
use Rattle.index_tests.proofs.pages.put.Goals as goal

pub insert_reserved-requires-clause-absent : goal.insert_reserved-requires-clause-absent
insert_reserved-requires-clause-absent c = λ there.
    let kept = rw c.remove.ensures.entries at there in
    ((c.removal.ensures.entries c.reserve.new.self.falling (entry_of c.borrowed.result) c.reserve.new.self.entries c.args.entry).0 kept).1 (sym c.borrowed.ensures)
