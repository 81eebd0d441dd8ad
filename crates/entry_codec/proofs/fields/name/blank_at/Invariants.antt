use Rattle.std.proofs.Common.{◌≡◌, ◌+◌, length, drop}
use Rattle.entry_codec.specs.Reading.{before_blank}
use Rattle.entry_codec.proofs.fields.name.blank_at.Given as goal

abbrev pub invariant-loop-place : goal.invariant-loop-place
invariant-loop-place l = l.place + length (before_blank (drop l.place l.bytes)) ≡ length (before_blank l.bytes)
