-- How many bytes drafts come to as entries of the journal. (Our own.)
use Rattle.std.specs.Prelude.{ℕ, ◌+◌, List}
use Rattle.std.specs.List.{sum_by}
use Rattle.entry_codec.specs.declared.entries.Draft.{Draft}
use Rattle.library_steps.specs.EntrySizes.{body_size}

abbrev pub draft_size : Draft → ℕ
draft_size d = 49 + body_size d.kind

abbrev pub draft_bytes : List Draft → ℕ
draft_bytes drafts = sum_by draft_size drafts
