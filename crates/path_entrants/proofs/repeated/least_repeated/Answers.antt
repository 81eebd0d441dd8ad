use Rattle.std.proofs.Common.{◌≡◌, ◌∙◌, suc, length, ap, sym, arith}
use Rattle.std.specs.Prelude.{filter}
use Rattle.key_pages.specs.Position.{is_past}
use Rattle.path_entrants.proofs.WalkLemmas.{walk-begins, walk-rest, walk-next, walk-ends}
use Rattle.path_entrants.proofs.repeated.least_repeated.Goals as goal

pub loop-entry-init : goal.loop-entry-init
loop-entry-init c = walk-begins c.args.path.now.falling c.args.path.now.entries c.args.path.now.entries

pub loop-entry-smaller : goal.loop-entry-smaller
loop-entry-smaller c =
    let falling = c.args.path.now.falling in
    let entries = c.args.path.now.entries in
    let shorter : length (filter (is_past falling c.loop-entry.from) entries) ≡ suc (length (filter (is_past falling c.place_of-from.result) entries)) =
    ap length (walk-rest falling c.loop-entry.from c.place_of-from.result c.in-Some.entry.now entries c.in_order.ensures c.place_of-from.ensures c.in-Some.ensures) in
    omega (arith, shorter)

pub loop-entry-preserved : goal.loop-entry-preserved
loop-entry-preserved c =
    walk-next c.args.path.now.falling c.loop-entry.from c.place_of-from.result c.in-Some.entry.now c.args.path.now.entries c.loop-entry.least c.with_repeated-least.result c.in_order.ensures
    c.place_of-from.ensures c.in-Some.ensures c.with_repeated-least.ensures
    ∙ c.loop-entry.invariant

pub returns : goal.returns
returns c = sym (walk-ends c.args.path.now.falling c.loop-entry.from c.args.path.now.entries c.loop-entry.least c.in_default.ensures) ∙ c.loop-entry.invariant
