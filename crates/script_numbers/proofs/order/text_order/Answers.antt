use Rattle.std.proofs.Common.{◌≡◌, ◌∙◌, sym, arith, refl, get_or, true, false}
use Rattle.std.specs.Ordering.{nat_cmp, is_ne}
use Rattle.script_numbers.specs.Order.{text_order}
use Rattle.script_numbers.specs.declared.order.TheConstants.{BLANK}
use Rattle.script_numbers.proofs.TextLemmas.{place-cmp, then-unequal, then-equal}
use Rattle.script_numbers.proofs.order.text_order.Goals as goal

pub loop-place-init : goal.loop-place-init
unfolding text_order
loop-place-init c = refl

pub returns-then-is_ne : goal.returns-then-is_ne
returns-then-is_ne c =
    let place = place-cmp c.args.left.now c.args.right.now c.loop-place.place (omega (arith, c.max-place-end.ensures)) in
    let here : c.cmp-order.result ≡ nat_cmp (get_or c.args.left.now c.loop-place.place BLANK) (get_or c.args.right.now c.loop-place.place BLANK) =
    c.cmp-order.ensures ∙ rw (c.byte_at.ensures, c.byte_at-in-loop-place.ensures) refl in
    let unequal : is_ne c.cmp-order.result ≡ true = sym c.if-is_ne.ensures in
    sym (sym c.loop-place.invariant ∙ place ∙ rw (← here) (then-unequal c.cmp-order.result _ unequal))

pub loop-place-preserved : goal.loop-place-preserved
loop-place-preserved c =
    let place = place-cmp c.args.left.now c.args.right.now c.loop-place.place (omega (arith, c.max-place-end.ensures)) in
    let here : c.cmp-order.result ≡ nat_cmp (get_or c.args.left.now c.loop-place.place BLANK) (get_or c.args.right.now c.loop-place.place BLANK) =
    c.cmp-order.ensures ∙ rw (c.byte_at.ensures, c.byte_at-in-loop-place.ensures) refl in
    let equal : is_ne c.cmp-order.result ≡ false = sym c.if-is_ne.ensures in
    sym (place ∙ rw (← here) (then-equal c.cmp-order.result _ equal)) ∙ c.loop-place.invariant
