use Rattle.std.proofs.Common.{◌≡◌, ap, arith, nat_eq}
use Rattle.indexmap.specs.IndexMap.{insert_entry}
use Rattle.group_bounds.specs.Walk.{one_open, marks_at, opens}
use Rattle.group_bounds.proofs.CycleLemmas.{opens-insert, opens-within, one_open-within}
use Rattle.group_bounds.proofs.marks.Cycles.mark.Goals as goal

pub recounted-self-inside-requires-clause-room : goal.recounted-self-inside-requires-clause-room
recounted-self-inside-requires-clause-room c = omega (arith, opens-within c.self.inside.marks.entries, c.self.invariant, c.len-count.ensures.len, c.len-count.ensures.small)

pub recounted-self-inside-requires-clause-counted : goal.recounted-self-inside-requires-clause-counted
recounted-self-inside-requires-clause-counted c =
    let e : c.marks-before.result ≡ marks_at c.args.cycle c.self.inside.marks.entries = cc in
    rw e (omega (arith, one_open-within c.args.cycle c.self.inside.marks.entries, c.self.invariant))

pub invariant_of-self-2 : goal.invariant_of-self-2
invariant_of-self-2 c =
    let entries = c.self.inside.marks.entries in
    let told : c.insert.new.self.entries ≡ insert_entry nat_eq entries c.args.cycle c.with-after.result = c.in_ok-_replaced.ensures.entries in
    let before : c.marks-before.result ≡ marks_at c.args.cycle entries = cc in
    omega (
      arith,
      opens-insert c.args.cycle c.with-after.result entries,
      ap opens told,
      ap one_open before,
      c.self.invariant,
      c.recounted-self-inside.ensures,
    )
