use Rattle.std.proofs.Common.{arith}
use Rattle.kept_journal.proofs.Putting.{all-put, at-place, none-put, one-put, one-room, put-holds, put-whole}
use Rattle.kept_journal.proofs.journal.put_all.Goals as goal

pub loop-entry-init : goal.loop-entry-init
loop-entry-init c = none-put c.args.book.now c.args.entries.now c.requires.begun c.requires.may c.requires.room

pub deposit_entry-requires-clause-begun : goal.deposit_entry-requires-clause-begun
deposit_entry-requires-clause-begun c = c.loop-entry.invariant.begun

pub deposit_entry-requires-clause-inside : goal.deposit_entry-requires-clause-inside
deposit_entry-requires-clause-inside c =
    (at-place c.args.book.now c.loop-entry.book c.args.entries.now c.loop-entry.entry-index c.entry-item.result c.loop-entry-test.true c.entry-item.is c.loop-entry.invariant).may.inside.0

pub deposit_entry-requires-clause-spelled : goal.deposit_entry-requires-clause-spelled
deposit_entry-requires-clause-spelled c =
    (at-place c.args.book.now c.loop-entry.book c.args.entries.now c.loop-entry.entry-index c.entry-item.result c.loop-entry-test.true c.entry-item.is c.loop-entry.invariant).may.each.0

pub deposit_entry-requires-clause-next : goal.deposit_entry-requires-clause-next
deposit_entry-requires-clause-next c =
    (at-place c.args.book.now c.loop-entry.book c.args.entries.now c.loop-entry.entry-index c.entry-item.result c.loop-entry-test.true c.entry-item.is c.loop-entry.invariant).may.numbered.0

pub deposit_entry-requires-clause-few : goal.deposit_entry-requires-clause-few
deposit_entry-requires-clause-few c =
    let is = at-place c.args.book.now c.loop-entry.book c.args.entries.now c.loop-entry.entry-index c.entry-item.result c.loop-entry-test.true c.entry-item.is c.loop-entry.invariant in
    omega (arith, is.may.few)

pub deposit_entry-requires-clause-room : goal.deposit_entry-requires-clause-room
deposit_entry-requires-clause-room c =
    one-room c.args.book.now c.loop-entry.book c.args.entries.now c.entry-item.result _
    (at-place c.args.book.now c.loop-entry.book c.args.entries.now c.loop-entry.entry-index c.entry-item.result c.loop-entry-test.true c.entry-item.is c.loop-entry.invariant)

pub loop-entry-preserved : goal.loop-entry-preserved
loop-entry-preserved c =
    one-put c.args.book.now c.loop-entry.book c.deposit_entry.new.self c.args.entries.now _ c.entry-item.result
    (at-place c.args.book.now c.loop-entry.book c.args.entries.now c.loop-entry.entry-index c.entry-item.result c.loop-entry-test.true c.entry-item.is c.loop-entry.invariant)
    c.deposit_entry.ensures.deposited c.deposit_entry.ensures.less_room c.deposit_entry.ensures.holds

pub returns-clause-put : goal.returns-clause-put
returns-clause-put c =
    put-whole c.args.book.now c.loop-entry.book c.args.entries.now
    (all-put c.args.book.now c.loop-entry.book c.args.entries.now c.loop-entry.entry-index (omega (arith, c.loop-entry-test.false)) c.loop-entry.invariant)

pub returns-clause-less_room : goal.returns-clause-less_room
returns-clause-less_room c =
    let is = all-put c.args.book.now c.loop-entry.book c.args.entries.now c.loop-entry.entry-index (omega (arith, c.loop-entry-test.false)) c.loop-entry.invariant in
    omega (arith, is.less)

pub returns-clause-holds : goal.returns-clause-holds
returns-clause-holds c =
    put-holds c.args.book.now c.loop-entry.book c.args.entries.now
    (all-put c.args.book.now c.loop-entry.book c.args.entries.now c.loop-entry.entry-index (omega (arith, c.loop-entry-test.false)) c.loop-entry.invariant)
