use Rattle.std.proofs.Common.{refl, rules, ◌≡◌, ◌++◌, ◌∷◌, [], ℕ, Option, Some, None, not, cond, position, length, subst, sym}
use Rattle.std.specs.Option.{option_or}
use Rattle.field_values.specs.FirstBad.{TellsFirstBad}
use Rattle.field_values.specs.Zoned.{is_zone_digit, is_signed_digit}
use Rattle.field_values.proofs.EndsLemmas.{passes, TellsFirstBad-ends}
use Rattle.field_values.proofs.zoned.first_bad.Goals as goal

pub returns : goal.returns
returns c =
    let image = c.args.image.now in
    let front = c.in_ok-last.front.now in
    let last = c.in_ok-last.last.now in
    let parts : c.args.image.now ≡ front ++ last ∷ [] = c.in_ok-last.ensures.cases.0 in
    let place : c.or.result ≡ option_or (position (λ b. not (is_zone_digit b)) front) (cond (not (is_signed_digit last)) (Some (length front)) None) = search rules in
    subst (λ (p : Option ℕ). TellsFirstBad (passes is_zone_digit is_signed_digit (length c.args.image.now)) c.args.image.now p) (sym place)
    (TellsFirstBad-ends is_zone_digit is_signed_digit 0xF0 0xF0 c.args.image.now front last refl refl parts)
