-- Calls on the file of customers with unique names.
use Rattle.std.specs.Prelude.{true, List, [], ◌∷◌, codes}
use Rattle.commit_level.specs.declared.Level.TheVariants.{Chg}
use Rattle.entry_codec.specs.declared.kinds.Images.TheVariants.{Both}
use Rattle.library_rows.specs.Customers.{cust}
use Rattle.library_rows.specs.Calls.{Asked, by, journal, opens, open_as, close, write, chain_key, delete, start_commitment}

-- the record 1 with the name K, which J1 deletes in a commit cycle
abbrev pub deleted_in_cycle : List Asked
deleted_in_cycle =
    by 1 (journal Both) ∷ by 1 opens ∷ by 1 (write cust (codes "K")) ∷ by 1 (start_commitment Chg) ∷ by 1 (open_as (codes "U") true)
    ∷ by 1 (chain_key (codes "U") (codes "K")) ∷ by 1 (delete (codes "U")) ∷ []

-- 3 A is written, 4 it is deleted, 5 it is written as record 2
abbrev pub added_again : List Asked
added_again =
    by 1 (journal Both) ∷ by 1 opens ∷ by 1 (write cust (codes "A")) ∷ by 1 (chain_key cust (codes "A")) ∷ by 1 (delete cust)
    ∷ by 1 (write cust (codes "A")) ∷ by 1 (close cust) ∷ []

abbrev pub by_key : List Asked
by_key = by 1 opens ∷ by 1 (write cust (codes "A")) ∷ by 1 (write cust (codes "B")) ∷ by 1 (write cust (codes "C")) ∷ []
