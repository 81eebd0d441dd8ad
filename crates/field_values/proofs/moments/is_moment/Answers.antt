use Rattle.std.proofs.Common.{◌∙◌}
use Rattle.field_values.specs.Moments.{is_date, is_time, is_timestamp}
use Rattle.field_values.proofs.FirstBadLemmas.{TellsFirstBad-is_ok}
use Rattle.field_values.proofs.moments.is_moment.Goals as goal

pub returns-then-text-eq10 : goal.returns-then-text-eq10
returns-then-text-eq10 c =
    let told = c.is_ok.ensures.value ∙ TellsFirstBad-is_ok is_date c.args.text.now c.date.result c.date.ensures in
    rw c.in-Date.is told

pub returns-then-text-eq8 : goal.returns-then-text-eq8
returns-then-text-eq8 c =
    let told = c.is_ok-then-text-eq8.ensures.value ∙ TellsFirstBad-is_ok is_time c.args.text.now c.time.result c.time.ensures in
    rw c.in-Time.is told

pub returns-then-text-eq26 : goal.returns-then-text-eq26
returns-then-text-eq26 c =
    let told = c.is_ok-then-text-eq26.ensures.value ∙ TellsFirstBad-is_ok is_timestamp c.args.text.now c.timestamp.result c.timestamp.ensures in
    rw c.in-Stamp.is told
