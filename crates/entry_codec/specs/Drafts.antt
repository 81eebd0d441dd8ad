-- Which entry does a draft become, once the journal gives it a sequence?
use Rattle.std.specs.Prelude.{ℕ, Option, Some}
use Rattle.entry_codec.specs.declared.entries.Entry.{Entry}
use Rattle.entry_codec.specs.declared.entries.Draft.{Draft}
use Rattle.entry_codec.specs.declared.kinds.EntryKind.{EntryKind}
use Rattle.entry_codec.specs.declared.kinds.EntryKind.TheVariants.{CommitCycleStarted}

-- a commit cycle is named by the sequence of its start
abbrev pub group_at : EntryKind → ℕ → Option ℕ → Option ℕ
group_at CommitCycleStarted sequence group = Some sequence
group_at _ sequence group = group

abbrev pub numbered : Draft → ℕ → Entry
numbered d sequence = record { sequence = sequence; job = d.job; moment = d.moment; group = group_at d.kind sequence d.group; member = d.member; rrn = d.rrn; kind = d.kind }
