-- Calls on members, and a file whose journal has after images alone.
use Rattle.std.specs.Prelude.{List, [], ◌∷◌, codes}
use Rattle.entry_codec.specs.declared.kinds.Images.TheVariants.{After}
use Rattle.library_model.specs.declared.requests.FileMember.{FileMember}
use Rattle.library_rows.specs.Customers.{cust}
use Rattle.library_rows.specs.Calls.{Asked, by, journal, opens, close, write, chain, update}

abbrev pub its_member : FileMember
its_member = record { file = cust; member = cust }

abbrev pub another : FileMember
another = record { file = cust; member = codes "OLD" }

-- 3 PT, 4 UP without its before image
abbrev pub after_alone : List Asked
after_alone =
    by 1 (journal After) ∷ by 1 opens ∷ by 1 (write cust (codes "A")) ∷ by 1 (chain cust 1) ∷ by 1 (update cust (codes "B")) ∷ by 1 (close cust) ∷ []
