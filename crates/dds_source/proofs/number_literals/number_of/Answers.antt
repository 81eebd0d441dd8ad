use Rattle.std.proofs.Common.{◌≡◌, ◌==◌, ◌≤◌, ◌+◌, ◌++◌, true, length, sym, ◌∙◌, arith, rules}
use Rattle.std.proofs.lemmas.Int.{to_z-of_z}
use Rattle.std.specs.List.{before_first, after_first}
use mir.Syntax.{w128}
use mir.Val.{SFits}
use Rattle.dds_source.specs.Numbers.{decimal}
use Rattle.dds_source.specs.ArgumentTexts.{is_unsigned}
use Rattle.dds_source.proofs.NumberLemmas.{pow_below, decimal_after-append, number_of_is}
use Rattle.dds_source.proofs.number_literals.number_of.Goals as goal

pub signed-requires : goal.signed-requires
signed-requires c =
    let short : length c.whole_part-whole.result.now + length c.fraction_part-fraction.result.now ≤ 31 = grind arith in
    let below = pow_below (length c.whole_part-whole.result.now + length c.fraction_part-fraction.result.now) 31 short in
    omega (arith, c.decimal_after-number.ensures.bound, below)

pub returns : goal.returns
returns c =
    let fits : SFits w128 c.signed.result = search rules in
    let unsigned : is_unsigned c.args.word.now ≡ true = grind arith in
    let number : c.decimal_after-number.result ≡ decimal (before_first (λ c. c == 46) c.args.word.now ++ after_first (λ c. c == 46) c.args.word.now) =
    c.decimal_after-number.ensures.value ∙ rw (c.decimal.ensures.value, c.whole_part-whole.ensures, c.fraction_part-fraction.ensures)
    (sym (decimal_after-append 0 (before_first (λ c. c == 46) c.args.word.now) (after_first (λ c. c == 46) c.args.word.now))) in
    rw (to_z-of_z, c.signed.ensures, number, c.fraction_part-fraction.ensures) (sym (number_of_is c.args.negative c.args.word.now unsigned))
