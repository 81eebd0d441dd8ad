use Rattle.std.proofs.Common.{ℕ, length, ◌==◌, ◌&&◌, is_some, subst}
use Rattle.field_values.specs.Binary.{binary_number}
use Rattle.field_values.specs.Packed.{is_packed, is_spare_clear}
use Rattle.field_values.specs.FirstBad.{TellsFirstBad}
use Rattle.field_values.proofs.FieldLemmas.{told-char, told-zoned, told-packed, told-binary, told-date, told-time, told-timestamp}
use Rattle.field_values.proofs.fields.first_bad.Goals as goal

pub returns-in-Char : goal.returns-in-Char
returns-in-Char c = told-char c.args.t.now c.args.image.now c.in-Char.is c.requires.room

pub returns-in-Zoned : goal.returns-in-Zoned
returns-in-Zoned c = told-zoned c.args.t.now c.args.image.now c.first_bad.result c.in-Zoned.is c.requires.room c.first_bad.ensures

pub returns-in-Packed : goal.returns-in-Packed
returns-in-Packed c =
    told-packed c.args.t.now c.args.image.now c.first_bad-in-Packed.result c.in-Packed.is c.requires.room
    (subst (λ (n : ℕ). TellsFirstBad (λ w. (length w == length c.args.image.now) && (is_packed w && is_spare_clear n w)) c.args.image.now c.first_bad-in-Packed.result) c.from.ensures c.first_bad-in-Packed.ensures)

pub returns-in-Binary : goal.returns-in-Binary
returns-in-Binary c =
    told-binary c.args.t.now c.args.image.now c.first_bad-in-Binary.result c.in-Binary.is c.requires.room
    (subst (λ (n : ℕ). TellsFirstBad (λ w. (length w == length c.args.image.now) && is_some (binary_number n w)) c.args.image.now c.first_bad-in-Binary.result) c.from-in-Binary.ensures c.first_bad-in-Binary.ensures)

pub returns-in-Date : goal.returns-in-Date
returns-in-Date c = told-date c.args.t.now c.args.image.now c.err.result c.requires.allowed c.in-Date.is (rw c.err.ensures.value c.date.ensures)

pub returns-in-Time : goal.returns-in-Time
returns-in-Time c = told-time c.args.t.now c.args.image.now c.err-in-Time.result c.requires.allowed c.in-Time.is (rw c.err-in-Time.ensures.value c.time.ensures)

pub returns-in-Stamp : goal.returns-in-Stamp
returns-in-Stamp c = told-timestamp c.args.t.now c.args.image.now c.err-in-Stamp.result c.requires.allowed c.in-Stamp.is (rw c.err-in-Stamp.ensures.value c.timestamp.ensures)
