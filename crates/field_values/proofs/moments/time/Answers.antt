use Rattle.std.proofs.lemmas.Result.{err_from_is_err_and}
use Rattle.field_values.specs.Moments.{is_time}
use Rattle.field_values.proofs.FirstBadLemmas.{TellsFirstBad-err}
use Rattle.field_values.proofs.TimeLemmas.{time-hour, time-first_period, time-minute, time-second_period, time-second}
use Rattle.field_values.proofs.moments.time.Goals as goal

pub returns-in_err-number : goal.returns-in_err-number
returns-in_err-number c =
    let p = err_from_is_err_and c.from_residual.result c.from_residual.ensures.1 in
    TellsFirstBad-err is_time c.args.text.now c.from_residual.result p.0 p.1 (rw p.2 (time-hour c.args.text.now c.requires c.in_err-number.field-0.0 c.in_err-number.ensures.bad))

pub returns-in_err-mark : goal.returns-in_err-mark
returns-in_err-mark c =
    let p = err_from_is_err_and c.from_residual-in_err-mark.result c.from_residual-in_err-mark.ensures.1 in
    TellsFirstBad-err is_time c.args.text.now c.from_residual-in_err-mark.result p.0 p.1 (rw (p.2, c.in_err-mark.ensures.bad.0) (time-first_period c.args.text.now c.requires c.in_ok-number.ensures.number.0 c.in_err-mark.ensures.bad.1))

pub returns-in_err-number-2 : goal.returns-in_err-number-2
returns-in_err-number-2 c =
    let p = err_from_is_err_and c.from_residual-in_err-number-2.result c.from_residual-in_err-number-2.ensures.1 in
    TellsFirstBad-err is_time c.args.text.now c.from_residual-in_err-number-2.result p.0 p.1 (rw p.2 (time-minute c.args.text.now c.requires c.in_err-number-2.field-0.0 c.in_ok-number.ensures.number.0 c.in_ok-mark.ensures.there c.in_err-number-2.ensures.bad))

pub returns-in_err-mark-2 : goal.returns-in_err-mark-2
returns-in_err-mark-2 c =
    let p = err_from_is_err_and c.from_residual-in_err-mark-2.result c.from_residual-in_err-mark-2.ensures.1 in
    TellsFirstBad-err is_time c.args.text.now c.from_residual-in_err-mark-2.result p.0 p.1 (rw (p.2, c.in_err-mark-2.ensures.bad.0) (time-second_period c.args.text.now c.requires c.in_ok-number.ensures.number.0 c.in_ok-mark.ensures.there c.in_ok-number-2.ensures.number.0 c.in_err-mark-2.ensures.bad.1))

pub returns-in_err-number-3 : goal.returns-in_err-number-3
returns-in_err-number-3 c =
    let p = err_from_is_err_and c.from_residual-in_err-number-3.result c.from_residual-in_err-number-3.ensures.1 in
    TellsFirstBad-err is_time c.args.text.now c.from_residual-in_err-number-3.result p.0 p.1 (rw p.2 (time-second c.args.text.now c.requires c.in_err-number-3.field-0.0 c.in_ok-number.ensures.number.0 c.in_ok-mark.ensures.there c.in_ok-number-2.ensures.number.0 c.in_ok-mark-2.ensures.there c.in_err-number-3.ensures.bad))
