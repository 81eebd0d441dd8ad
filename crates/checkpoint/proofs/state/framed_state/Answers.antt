use Rattle.std.proofs.Common.{◌++◌, ℕ, List, ap}
use Rattle.checkpoint.specs.States.{spelled}
use Rattle.checkpoint.proofs.Spellings.{each_next, four, spelled_next}
use Rattle.checkpoint.proofs.state.framed_state.Goals as goal

pub loop-entry-init : goal.loop-entry-init
loop-entry-init c = record { whole = ap (λ (l : List ℕ). l ++ spelled c.args.state.now) c.in_ok-framed.ensures.items; each = λ rest. rest }

pub loop-entry-preserved : goal.loop-entry-preserved
loop-entry-preserved c =
    let l = c.loop-entry in
    let e = c.entry-item.result in
    record {
      whole = spelled_next c.args.state.now l.entry-index e l.framed.items c.write_entry.new.out.items (four ++ spelled c.args.state.now) c.loop-entry-test.true c.entry-item.is c.in_ok-write_entry.ensures.written l.invariant.whole;
      each = each_next c.args.state.now l.entry-index e c.loop-entry-test.true c.entry-item.is c.in_ok-write_entry.ensures.spelled l.invariant.each;
    }
