-- The sections of an input: a card, and the lines up to the next one. (Our own.)
use Rattle.std.specs.Prelude.{ℕ, ◌+◌, if◌then◌else◌, Option, List, [], ◌∷◌}
use Rattle.input_cards.specs.declared.cards.Card.{Card}
use Rattle.input_cards.specs.Cards.{is_card, card_of}

-- the number of the line of the card, counted from 1; the card, None where the line is a faulty one; and the lines up to the next card
pub record Part : Type 0 where
  pub line : ℕ
  pub card : Option Card
  pub lines : List (List ℕ)

-- the lines before the first card
abbrev pub before_card : List (List ℕ) → List (List ℕ)
before_card [] = []
before_card (line ∷ lines) = if is_card line then [] else line ∷ before_card lines

-- the sections of lines of which the first has this number; lines before the first card belong to none
unfoldable pub parts_from : ℕ → List (List ℕ) → List Part
parts_from number [] = []
parts_from number (line ∷ lines) =
    if is_card line then record { line = number; card = card_of line; lines = before_card lines } ∷ parts_from (number + 1) lines
    else parts_from (number + 1) lines

abbrev pub parts_of : List (List ℕ) → List Part
parts_of lines = parts_from 1 lines
