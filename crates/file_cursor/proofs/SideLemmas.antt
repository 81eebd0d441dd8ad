-- A position is the same among the entries of a path and in its pages.
use Rattle.std.proofs.Common.{◌≡◌, ℕ, Bool, cond, ◌||◌, List, reverse, refl, ap, sym, ◌∙◌}
use Rattle.std.specs.declared.cmp.Ordering.{Ordering}
use Rattle.std.specs.declared.cmp.Ordering.TheVariants.{Less, Equal, Greater}
use Rattle.std.specs.Ordering.{ordering_then, is_lt, is_le}
use Rattle.key_pages.specs.Position.{is_less, begins_with}
use Rattle.key_pages.proofs.SideLemmas.{is_less-cut, is_upto-cut}
use Rattle.key_pages.specs.declared.entries.Entry.{Entry}
use Rattle.key_pages.specs.declared.positions.Position as declared
use Rattle.key_pages.specs.Position as pages
use Rattle.file_cursor.specs.CursorPosition.{CursorPosition}
use Rattle.file_cursor.specs.Finding.{compare_part, side_of, is_before, prior_from}
use Rattle.file_cursor.proofs.ListLemmas.{last-reversed, find-same}

then-greater : (o : Ordering) → ordering_then o Greater ≡ cond (is_lt o) Less Greater
then-greater Less = refl
then-greater Equal = refl
then-greater Greater = refl

then-less : (o : Ordering) → ordering_then o Less ≡ cond (is_le o) Less Greater
then-less Less = refl
then-less Equal = refl
then-less Greater = refl

pub side-before : (part key : List ℕ) → cond (is_less key part) Less Greater ≡ ordering_then (compare_part part key) Greater
side-before part key = sym (then-greater (compare_part part key) ∙ ap (λ b. cond b Less Greater) (is_less-cut key part))

pub side-past : (part key : List ℕ) → cond (is_less key part || begins_with key part) Less Greater ≡ ordering_then (compare_part part key) Less
side-past part key = sym (then-less (compare_part part key) ∙ ap (λ b. cond b Less Greater) (is_upto-cut key part))

-- the last entry before a position, where the sides are the same
pub prior-same : (falling : Bool) (from : declared.Position) (position : CursorPosition) (entries : List Entry)
    → ((f : Bool) (entry : Entry) → pages.side_of f from entry ≡ side_of f position entry)
    → pages.prior_entry falling from entries ≡ prior_from falling entries position
prior-same falling from position entries same =
    last-reversed (pages.is_short falling from) entries
    ∙ find-same (pages.is_short falling from) (is_before falling position) (λ entry. ap is_lt (same falling entry)) (reverse entries)
