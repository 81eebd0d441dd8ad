-- Which entry of a range is the first that breaks a member off? Our own.
use Rattle.std.specs.Prelude.{ℕ, Bool, true, false, if◌then◌else◌, List, [], ◌∷◌, Option, Some, None}
use Rattle.entry_codec.specs.declared.entries.Entry.{Entry}
use Rattle.journal_model.specs.Acts.{Act, Changed, Began, Committed, RolledBack, Journaled, Stood, Cleared, Reorganized, Ended, Nothing, act}
use Rattle.range_images.specs.declared.breaks.Break.{Break}
use Rattle.range_images.specs.declared.breaks.Break.TheVariants.{Gap, Renumbering}

abbrev pub break_in : Act → Option Break
break_in (Journaled images slots) = Some Gap
break_in (Stood place image) = Some Gap
break_in Ended = Some Gap
break_in Cleared = Some Renumbering
break_in Reorganized = Some Renumbering
break_in (Changed c) = None
break_in (Began n) = None
break_in (Committed n) = None
break_in (RolledBack n) = None
break_in Nothing = None

abbrev pub is_kind : Break → Option Break → Bool
is_kind kind None = false
is_kind Gap (Some Gap) = true
is_kind Gap (Some Renumbering) = false
is_kind Renumbering (Some Gap) = false
is_kind Renumbering (Some Renumbering) = true

abbrev pub is_break_of : Break → ℕ → Entry → Bool
is_break_of kind number e = is_kind kind (break_in (act number None e))

abbrev pub first_break_in : Break → ℕ → List Entry → Option ℕ
first_break_in kind number [] = None
first_break_in kind number (e ∷ entries) = if is_break_of kind number e then Some e.sequence else first_break_in kind number entries
