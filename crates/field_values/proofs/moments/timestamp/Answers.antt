use Rattle.std.proofs.Common.{arith}
use Rattle.std.proofs.lemmas.Result.{err_from_is_err_and}
use Rattle.field_values.specs.Moments.{is_timestamp}
use Rattle.field_values.proofs.FirstBadLemmas.{TellsFirstBad-err}
use Rattle.field_values.proofs.StampLemmas.{timestamp-date, timestamp-hyphen, timestamp-time, timestamp-period, timestamp-fraction}
use Rattle.field_values.proofs.moments.timestamp.Goals as goal

pub returns-in_err-date : goal.returns-in_err-date
returns-in_err-date c =
    let p = err_from_is_err_and c.from_residual.result c.from_residual.ensures.1 in
    TellsFirstBad-err is_timestamp c.args.text.now c.from_residual.result p.0 p.1 (rw p.2 (timestamp-date c.args.text.now c.requires c.in_err-date.field-0.0 (record { inner = c.in_err-date.field-0.0; place = omega arith; bad = c.in_err-date.ensures })))

pub returns-in_err-mark : goal.returns-in_err-mark
returns-in_err-mark c =
    let p = err_from_is_err_and c.from_residual-in_err-mark.result c.from_residual-in_err-mark.ensures.1 in
    TellsFirstBad-err is_timestamp c.args.text.now c.from_residual-in_err-mark.result p.0 p.1 (rw (p.2, c.in_err-mark.ensures.bad.0) (timestamp-hyphen c.args.text.now c.requires c.in_ok-date.ensures c.in_err-mark.ensures.bad.1))

pub returns-in_err-time_at : goal.returns-in_err-time_at
returns-in_err-time_at c =
    let p = err_from_is_err_and c.from_residual-in_err-time_at.result c.from_residual-in_err-time_at.ensures.1 in
    TellsFirstBad-err is_timestamp c.args.text.now c.from_residual-in_err-time_at.result p.0 p.1 (rw p.2 (timestamp-time c.args.text.now c.requires c.in_err-time_at.field-0.0 c.in_ok-date.ensures c.in_ok-mark.ensures.there c.in_err-time_at.ensures.bad))

pub returns-in_err-mark-2 : goal.returns-in_err-mark-2
returns-in_err-mark-2 c =
    let p = err_from_is_err_and c.from_residual-in_err-mark-2.result c.from_residual-in_err-mark-2.ensures.1 in
    TellsFirstBad-err is_timestamp c.args.text.now c.from_residual-in_err-mark-2.result p.0 p.1 (rw (p.2, c.in_err-mark-2.ensures.bad.0) (timestamp-period c.args.text.now c.requires c.in_ok-date.ensures c.in_ok-mark.ensures.there c.in_ok-time_at.ensures.there c.in_err-mark-2.ensures.bad.1))

pub returns-in_err-number : goal.returns-in_err-number
returns-in_err-number c =
    let p = err_from_is_err_and c.from_residual-in_err-number.result c.from_residual-in_err-number.ensures.1 in
    TellsFirstBad-err is_timestamp c.args.text.now c.from_residual-in_err-number.result p.0 p.1 (rw p.2 (timestamp-fraction c.args.text.now c.requires c.in_err-number.field-0.0 c.in_ok-date.ensures c.in_ok-mark.ensures.there c.in_ok-time_at.ensures.there c.in_ok-mark-2.ensures.there c.in_err-number.ensures.bad))
