-- Calls that spoil three customers, take the changes out, and put them back.
use Rattle.std.specs.Prelude.{List, [], ◌∷◌, ◌++◌, codes}
use Rattle.library_model.specs.declared.requests.RangeEnd.TheVariants.{First, Last, Sequence}
use Rattle.library_rows.specs.Customers.{cust}
use Rattle.library_rows.specs.Calls.{Asked, by, three_customers, close, chain, update, delete, remove, apply}

-- 6 UB, 7 UP of record 1; 8 DL of record 2
abbrev pub spoiled : List Asked
spoiled = three_customers
    ++ by 1 (chain cust 1) ∷ by 1 (update cust (codes "A1")) ∷ by 1 (chain cust 2) ∷ by 1 (delete cust) ∷ by 1 (close cust) ∷ []

-- 9 to 17
abbrev pub removed : List Asked
removed = spoiled ++ by 1 (remove Last First) ∷ []

-- 18 to 26
abbrev pub applied : List Asked
applied = removed ++ by 1 (apply (Sequence 3) (Sequence 8)) ∷ []
