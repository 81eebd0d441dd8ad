use Rattle.std.proofs.Common.{◌≡◌, ℕ, subst}
use Rattle.std.proofs.lemmas.Result.{err_from_is_err_and}
use Rattle.field_values.specs.Moments.{is_date, spells_in, spelled, days_in_month}
use Rattle.field_values.specs.FirstBad.{IsBadPart, part}
use Rattle.field_values.proofs.FirstBadLemmas.{TellsFirstBad-err}
use Rattle.field_values.proofs.DateLemmas.{date-year, date-first_hyphen, date-month, date-second_hyphen, date-day}
use Rattle.field_values.proofs.moments.date.Goals as goal

pub returns-in_err-year : goal.returns-in_err-year
returns-in_err-year c =
    let p = err_from_is_err_and c.from_residual.result c.from_residual.ensures.1 in
    TellsFirstBad-err is_date c.args.text.now c.from_residual.result p.0 p.1 (rw p.2 (date-year c.args.text.now c.requires c.in_err-year.field-0.0 c.in_err-year.ensures.bad))

pub returns-in_err-mark : goal.returns-in_err-mark
returns-in_err-mark c =
    let p = err_from_is_err_and c.from_residual-in_err-mark.result c.from_residual-in_err-mark.ensures.1 in
    TellsFirstBad-err is_date c.args.text.now c.from_residual-in_err-mark.result p.0 p.1 (rw (p.2, c.in_err-mark.ensures.bad.0) (date-first_hyphen c.args.text.now c.requires c.in_ok-year.ensures.number.0 c.in_err-mark.ensures.bad.1))

pub returns-in_err-month : goal.returns-in_err-month
returns-in_err-month c =
    let p = err_from_is_err_and c.from_residual-in_err-month.result c.from_residual-in_err-month.ensures.1 in
    TellsFirstBad-err is_date c.args.text.now c.from_residual-in_err-month.result p.0 p.1 (rw p.2 (date-month c.args.text.now c.requires c.in_err-month.field-0.0 c.in_ok-year.ensures.number.0 c.in_ok-mark.ensures.there c.in_err-month.ensures.bad))

pub returns-in_err-mark-2 : goal.returns-in_err-mark-2
returns-in_err-mark-2 c =
    let p = err_from_is_err_and c.from_residual-in_err-mark-2.result c.from_residual-in_err-mark-2.ensures.1 in
    TellsFirstBad-err is_date c.args.text.now c.from_residual-in_err-mark-2.result p.0 p.1 (rw (p.2, c.in_err-mark-2.ensures.bad.0) (date-second_hyphen c.args.text.now c.requires c.in_ok-year.ensures.number.0 c.in_ok-mark.ensures.there c.in_ok-month.ensures.number.0 c.in_err-mark-2.ensures.bad.1))

pub returns-in_err-number : goal.returns-in_err-number
returns-in_err-number c =
    let p = err_from_is_err_and c.from_residual-in_err-number.result c.from_residual-in_err-number.ensures.1 in
    let days : c.days_in_month.result ≡ days_in_month (spelled (part 0 4 c.args.text.now)) (spelled (part 5 2 c.args.text.now)) = rw (c.in_ok-year.ensures.number.1, c.in_ok-month.ensures.number.1) at c.days_in_month.ensures in
    let there = subst (λ (n : ℕ). IsBadPart (spells_in 1 n 2) 8 2 c.args.text.now c.in_err-number.field-0.0) days c.in_err-number.ensures.bad in
    TellsFirstBad-err is_date c.args.text.now c.from_residual-in_err-number.result p.0 p.1 (rw p.2 (date-day c.args.text.now c.requires c.in_err-number.field-0.0 c.in_ok-year.ensures.number.0 c.in_ok-mark.ensures.there c.in_ok-month.ensures.number.0 c.in_ok-mark-2.ensures.there there))
