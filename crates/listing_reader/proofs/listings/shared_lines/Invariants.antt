use Rattle.std.proofs.Common.{◌≡◌, ◌≤◌, ◌+◌, drop}
use Rattle.listing_reader.specs.FirstBad.{shared_lines}
use Rattle.listing_reader.proofs.listings.shared_lines.Given as goal

abbrev pub invariant-loop-byte : goal.invariant-loop-byte
invariant-loop-byte l =
    (l.lines + shared_lines (drop l.byte-index l.text) l.left ≡ shared_lines l.text l.others) × (l.lines ≤ l.byte-index)
