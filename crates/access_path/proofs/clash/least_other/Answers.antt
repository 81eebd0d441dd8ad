use Rattle.std.proofs.Common.{◌≡◌, ◌∙◌, ◌∷◌, suc, false, None, length, ap, sym, subst, arith, refl}
use Rattle.std.specs.Prelude.{filter}
use Rattle.std.specs.List.{AllByRecursion}
use Rattle.key_order.below.key_pages.specs.declared.entries.Entry.{Entry}
use Rattle.key_order.below.key_pages.specs.declared.positions.Position.TheVariants.{Before}
use Rattle.key_order.specs.Position.{is_less, is_past}
use Rattle.access_path.specs.Clash.{lesser, least_other}
use Rattle.access_path.proofs.ClashLemmas.{side-on, clash-begins, clash-above, clash-next, clash-steps, clash-ends, lesser-none}
use Rattle.access_path.proofs.clash.least_other.Goals as goal

pub loop-entry-init : goal.loop-entry-init
loop-entry-init c = record {
  least = clash-begins c.args.pages.now.falling (Before c.args.key) c.args.key.now c.args.rrn c.args.pages.now.entries (λ x. refl);
  above = clash-above c.args.pages.now.falling (Before c.args.key) c.args.key.now c.args.pages.now.entries (λ x. refl);
}

stepped : (c : goal.After-place_of-from) → filter (is_past c.args.pages.now.falling c.loop-entry.from) c.args.pages.now.entries
    ≡ c.in-Some.entry.now ∷ filter (is_past c.args.pages.now.falling c.place_of-from.result) c.args.pages.now.entries
stepped c =
    clash-steps c.args.pages.now.falling c.loop-entry.from c.place_of-from.result c.args.key.now c.in-Some.entry.now c.args.pages.now.entries c.in_order.ensures.order
    (λ x. side-on c.args.pages.now.falling c.place_of-from.result c.in-Some.entry.now x c.place_of-from.ensures) (sym c.in-Some.ensures)

pub loop-entry-smaller : goal.loop-entry-smaller
loop-entry-smaller c =
    let shorter : length (filter (is_past c.args.pages.now.falling c.loop-entry.from) c.args.pages.now.entries)
    ≡ suc (length (filter (is_past c.args.pages.now.falling c.place_of-from.result) c.args.pages.now.entries)) =
    ap length (stepped c) in
    omega (arith, shorter)

pub loop-entry-preserved : goal.loop-entry-preserved
loop-entry-preserved c = record {
  least = clash-next c.args.pages.now.falling c.loop-entry.from c.place_of-from.result c.args.key.now c.args.rrn c.in-Some.entry.now c.args.pages.now.entries c.loop-entry.least c.lesser-least.result
      c.in_order.ensures.order (λ x. side-on c.args.pages.now.falling c.place_of-from.result c.in-Some.entry.now x c.place_of-from.ensures) (sym c.in-Some.ensures) c.lesser-least.ensures
      ∙ c.loop-entry.invariant.least;
  above = (subst (AllByRecursion (λ (e : Entry). is_less e.key c.args.key.now ≡ false)) (stepped c) c.loop-entry.invariant.above).1;
}

pub returns : goal.returns
returns c =
    let none : least_other c.args.key.now c.args.rrn (filter (is_past c.args.pages.now.falling c.loop-entry.from) c.args.pages.now.entries) ≡ None =
    clash-ends c.args.pages.now.falling c.loop-entry.from c.args.key.now c.args.rrn c.args.pages.now.entries c.in_order.ensures.order c.loop-entry.invariant.above (sym c.in_default.ensures) in
    sym (lesser-none c.loop-entry.least) ∙ ap (lesser c.loop-entry.least) (sym none) ∙ c.loop-entry.invariant.least
