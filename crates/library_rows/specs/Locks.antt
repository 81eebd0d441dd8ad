-- Calls by which records are locked.
use Rattle.std.specs.Prelude.{ℕ, true, List, [], ◌∷◌, ◌++◌, take, map, codes}
use Rattle.commit_level.specs.declared.Level.{Level}
use Rattle.field_types.specs.declared.values.Value.TheVariants.{Chars}
use Rattle.library_model.specs.declared.requests.LockOption.TheVariants.{No}
use Rattle.library_model.specs.declared.replies.Reply.{Reply}
use Rattle.library_model.specs.declared.replies.Reply.TheVariants.{Record}
use Rattle.library_rows.specs.Customers.{cust, no_key, held}
use Rattle.library_rows.specs.Calls.{Asked, by, three_customers, opens, open_as, write, chain, chain_with, start_commitment}
use Rattle.library_rows.specs.Shown.{Locked, locked, led_to}

-- a customer that was read
abbrev pub row : ℕ → List ℕ → Reply
row rrn name = Record (record { format = codes "CUSTR"; rrn = rrn; values = Chars (held name) ∷ [] })

-- J1 holds record 3, J2 has opened the file
abbrev pub two_jobs : List Asked
two_jobs = three_customers ++ by 1 (chain cust 3) ∷ by 2 opens ∷ []

-- four records, and an open U under commitment at a level
abbrev pub at_level : Level → List Asked
at_level level = three_customers ++ by 1 (write cust (codes "D")) ∷ by 1 (start_commitment level) ∷ by 1 (open_as (codes "U") true) ∷ []

-- two records are read for input, and then two for update
abbrev pub four_reads : List Asked
four_reads = by 1 (chain_with No (codes "U") 1) ∷ by 1 (chain_with No (codes "U") 2) ∷ by 1 (chain (codes "U") 3) ∷ by 1 (chain (codes "U") 4) ∷ []

-- the locks after each of the four
abbrev pub levels : Level → List (List Locked)
levels level = map (λ n. locked (led_to no_key (at_level level ++ take n four_reads))) (1 ∷ 2 ∷ 3 ∷ 4 ∷ [])
