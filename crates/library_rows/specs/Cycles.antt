-- Calls under commitment control.
use Rattle.std.specs.Prelude.{ℕ, true, List, [], ◌∷◌, ◌++◌, codes}
use Rattle.commit_level.specs.declared.Level.TheVariants.{Chg}
use Rattle.entry_codec.specs.declared.kinds.Images.TheVariants.{Both}
use Rattle.library_model.specs.declared.requests.Request.TheVariants as request
use Rattle.library_model.specs.declared.requests.RangeEnd.TheVariants.{Sequence}
use Rattle.library_rows.specs.Customers.{cust}
use Rattle.library_rows.specs.Calls.{Asked, by, three_customers, journal, opens, open_as, close, write, chain, update, delete, remove, start_commitment}

-- an open under commitment
abbrev pub opened : List ℕ
opened = codes "U"

-- 6 BC; 7 SC; 8 and 9, 10 and 11 record 2; 12 record 4; 13 record 1
abbrev pub pending : List Asked
pending = three_customers
    ++ by 1 (start_commitment Chg) ∷ by 1 (open_as opened true) ∷ by 1 (chain opened 2) ∷ by 1 (update opened (codes "B1"))
    ∷ by 1 (chain opened 2) ∷ by 1 (update opened (codes "B2")) ∷ by 1 (write opened (codes "D")) ∷ by 1 (chain opened 1) ∷ by 1 (delete opened) ∷ []

-- 14 to 20
abbrev pub rolled_back : List Asked
rolled_back = pending ++ by 1 request.Rollback ∷ []

-- a job reads a record for update and changes it
abbrev pub changes : ℕ → ℕ → List ℕ → List Asked
changes job rrn name = by job (chain opened rrn) ∷ by job (update opened name) ∷ []

-- two records; a cycle over record 1; then one over record 1 by J1 and one over record 2 by J2, interleaved. All is closed.
abbrev pub interleaved : List Asked
interleaved =
    (by 1 (journal Both) ∷ by 1 opens ∷ by 1 (write cust (codes "A")) ∷ by 1 (write cust (codes "B")) ∷ by 1 (close cust)
    ∷ by 1 (start_commitment Chg) ∷ by 2 (start_commitment Chg) ∷ by 1 (open_as opened true) ∷ by 2 (open_as opened true) ∷ [])
    ++ changes 1 1 (codes "A1") ++ (by 1 request.Commit ∷ []) ++ changes 1 1 (codes "A2") ++ changes 2 2 (codes "B2") ++ (by 1 request.Commit ∷ [])
    ++ changes 2 2 (codes "B3") ++ (by 2 request.Commit ∷ by 1 (close opened) ∷ by 2 (close opened) ∷ [])

abbrev pub taken_out : List Asked
taken_out = interleaved ++ by 1 (remove (Sequence 20) (Sequence 9)) ∷ []
