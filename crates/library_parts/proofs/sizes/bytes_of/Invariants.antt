use Rattle.std.proofs.Common.{◌≡◌, ◌+◌, ◌≤◌, drop, min}
use Rattle.parts_model.specs.Sizes.{draft_bytes}
use Rattle.library_parts.proofs.sizes.bytes_of.Given as goal

abbrev pub invariant-loop-draft : goal.invariant-loop-draft
invariant-loop-draft l = record {
  counted : min (l.total + draft_bytes (drop l.draft-index l.drafts)) 18446744073709551615 ≡ min (draft_bytes l.drafts) 18446744073709551615;
  few : l.total ≤ 18446744073709551615;
}
