use Rattle.std.proofs.Common.{sym, ◌∙◌, arith}
use Rattle.store_model.proofs.Held.{held_read, held_past}
use Rattle.store_model.proofs.past.Past.bytes.Goals as goal

pub returns-then-place-len : goal.returns-then-place-len
returns-then-place-len c =
    let past = c.args.self.now in
    c.deref.ensures.value ∙ held_read past.areas.items c.args.area c.index.result.now (omega arith) c.index.ensures ∙ past.agrees c.args.area

pub returns-else-place-len : goal.returns-else-place-len
returns-else-place-len c =
    let past = c.args.self.now in
    sym (held_past past.areas.items c.args.area (omega arith)) ∙ past.agrees c.args.area
