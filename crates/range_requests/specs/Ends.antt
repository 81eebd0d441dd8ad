-- Where does the journaling of a member begin since its last break?
-- (Journal Management, "Applying journaled changes"; what *FIRST means is our own.)
use Rattle.std.specs.Prelude.{ℕ, ◌+◌, if◌then◌else◌, None, List, [], ◌∷◌}
use Rattle.entry_codec.specs.declared.entries.Entry.{Entry}
use Rattle.journal_model.specs.Acts.{act}
use Rattle.journal_model.specs.Ranges.{is_break}

-- one past the last break of the member among the entries, the first of which has the sequence `at`; `now` where there is none
abbrev pub behind_break : (member now at : ℕ) → List Entry → ℕ
behind_break member now at [] = now
behind_break member now at (e ∷ entries) = behind_break member (if is_break (act member None e) then at + 1 else now) (at + 1) entries
