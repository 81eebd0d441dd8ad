use Rattle.std.proofs.Common.{refl, rules, ◌≡◌, ◌<◌, ◌++◌, ◌∷◌, [], ℕ, Option, Some, None, not, cond, position, length, subst, sym, ◌∙◌, arith}
use Rattle.std.specs.Option.{option_or}
use Rattle.field_values.specs.FirstBad.{TellsFirstBad}
use Rattle.field_values.specs.Packed.{is_digit_pair, is_digit_sign}
use Rattle.field_values.proofs.EndsLemmas.{passes, TellsFirstBad-ends}
use Rattle.field_values.proofs.PackedLemmas.{IsFirstBad-spare, TellsFirstBad-clear}
use Rattle.field_values.proofs.packed.first_bad.Goals as goal

pub returns-then-not-is_spare_clear : goal.returns-then-not-is_spare_clear
returns-then-not-is_spare_clear c =
    let some : 0 < length c.args.image.now = omega arith in
    IsFirstBad-spare c.args.digits c.args.image.now some (sym c.is_spare_clear.ensures ∙ c.if-not-is_spare_clear.true)

pub returns : goal.returns
returns c =
    let front = c.in_ok-last.front.now in
    let last = c.in_ok-last.last.now in
    let some : 0 < length c.args.image.now = omega arith in
    let parts : c.args.image.now ≡ front ++ last ∷ [] = c.in_ok-last.ensures.cases.0 in
    let place : c.or.result ≡ option_or (position (λ b. not (is_digit_pair b)) front) (cond (not (is_digit_sign last)) (Some (length front)) None) = search rules in
    TellsFirstBad-clear c.args.digits c.args.image.now c.or.result some (sym c.is_spare_clear.ensures ∙ c.if-not-is_spare_clear.false)
    (subst (λ (p : Option ℕ). TellsFirstBad (passes is_digit_pair is_digit_sign (length c.args.image.now)) c.args.image.now p) (sym place)
    (TellsFirstBad-ends is_digit_pair is_digit_sign 0 15 c.args.image.now front last refl refl parts))
