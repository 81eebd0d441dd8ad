use Rattle.std.proofs.Common.{◌≡◌, ◌∙◌, ◌<◌, ◌≤◌, sym, max, get_or, arith}
use Rattle.std.specs.Ordering.{nat_cmp}
use Rattle.view_rules.specs.Operands.{bytes_of}
use Rattle.view_rules.proofs.TextLemmas.{compared-end, other-byte, same-byte, differs, agrees}
use Rattle.view_rules.proofs.texts.compare.Goals as goal

pub returns-then-ne : goal.returns-then-ne
returns-then-ne c =
    let inside : c.loop-i.i < max c.args.a.width c.args.b.width = omega (arith, c.loop-i-test.true, c.max-i-end.ensures) in
    let order : c.cmp-order.result ≡ nat_cmp (get_or (bytes_of c.args.a.bytes) c.loop-i.i 0x40) (get_or (bytes_of c.args.b.bytes) c.loop-i.i 0x40) = cc in
    sym (other-byte c.args.a c.args.b c.loop-i.i c.cmp-order.result c.requires.first c.requires.second inside order (differs c.cmp-order.result (sym c.ne.ensures ∙ c.if-ne.true)))
    ∙ c.loop-i.invariant

pub loop-i-preserved : goal.loop-i-preserved
loop-i-preserved c =
    let inside : c.loop-i.i < max c.args.a.width c.args.b.width = omega (arith, c.loop-i-test.true, c.max-i-end.ensures) in
    let order : c.cmp-order.result ≡ nat_cmp (get_or (bytes_of c.args.a.bytes) c.loop-i.i 0x40) (get_or (bytes_of c.args.b.bytes) c.loop-i.i 0x40) = cc in
    sym (same-byte c.args.a c.args.b c.loop-i.i c.cmp-order.result c.requires.first c.requires.second inside order (agrees c.cmp-order.result (sym c.ne.ensures ∙ c.if-ne.false)))
    ∙ c.loop-i.invariant

pub returns : goal.returns
returns c =
    let past : max c.args.a.width c.args.b.width ≤ c.loop-i.i = omega (arith, c.loop-i-test.false, c.max-i-end.ensures) in
    sym (compared-end c.args.a c.args.b c.loop-i.i c.requires.first c.requires.second past) ∙ c.loop-i.invariant
