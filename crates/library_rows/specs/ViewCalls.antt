-- Calls before rows of logical files.
use Rattle.std.specs.Prelude.{true, false, Some, None, List, [], ◌∷◌, ◌++◌, codes}
use Rattle.commit_level.specs.declared.Level.TheVariants.{Chg}
use Rattle.entry_codec.specs.declared.kinds.Images.TheVariants.{Both}
use Rattle.library_model.specs.declared.requests.Request.TheVariants as request
use Rattle.library_model.specs.declared.requests.OpenOption.TheVariants.{Input}
use Rattle.library_model.specs.declared.requests.AccessPath.TheVariants.{File}
use Rattle.library_rows.specs.Customers.{cust}
use Rattle.library_rows.specs.Calls.{Asked, by, journal, opens, open_as, close, write, chain, update, delete, start_commitment}
use Rattle.library_rows.specs.MemberCalls.{its_member}
use Rattle.library_rows.specs.RefusedCalls.{open_of}
use Rattle.library_rows.specs.Views.{view_name, old_name, open_view, open_view_as, read_view, write_through}

-- two customers have the name A
abbrev pub two_of_one_name : List Asked
two_of_one_name = by 1 (journal Both) ∷ by 1 opens ∷ by 1 (write cust (codes "A")) ∷ by 1 (write cust (codes "A")) ∷ by 1 (close cust) ∷ []

-- the second of them is deleted when the member is no longer journaled
abbrev pub deleted_unjournaled : List Asked
deleted_unjournaled = two_of_one_name ++ by 1 (request.EndJournaling its_member) ∷ by 1 opens ∷ by 1 (chain cust 2) ∷ by 1 (delete cust) ∷ by 1 (close cust) ∷ []

-- the only customer is
abbrev pub one_deleted_unjournaled : List Asked
one_deleted_unjournaled = by 1 (journal Both) ∷ by 1 opens ∷ by 1 (write cust (codes "A")) ∷ by 1 (close cust)
    ∷ by 1 (request.EndJournaling its_member) ∷ by 1 opens ∷ by 1 (chain cust 1) ∷ by 1 (delete cust) ∷ by 1 (close cust) ∷ []

-- J1 changes a customer in a commit cycle
abbrev pub changed_in_cycle : List Asked
changed_in_cycle = by 1 (journal Both) ∷ by 1 opens ∷ by 1 (write cust (codes "A")) ∷ by 1 (start_commitment Chg) ∷ by 1 (open_as (codes "U") true)
    ∷ by 1 (chain (codes "U") 1) ∷ by 1 (update (codes "U") (codes "A1")) ∷ []

-- A and C are written through the first format, B through the second, and all are read
abbrev pub both_files : List Asked
both_files = by 1 open_view ∷ by 1 (write_through None (codes "A")) ∷ by 1 (write_through (Some (codes "OLDR")) (codes "B")) ∷ by 1 (write_through (Some (codes "NEWR")) (codes "C"))
    ∷ by 1 read_view ∷ by 1 read_view ∷ by 1 read_view ∷ by 1 read_view ∷ []

-- customers A and B, of whom B was one before
abbrev pub one_came_back : List Asked
one_came_back = by 1 opens ∷ by 1 (write cust (codes "A")) ∷ by 1 (write cust (codes "B")) ∷ by 1 (open_of old_name old_name old_name false) ∷ by 1 (write old_name (codes "B"))
    ∷ by 1 (open_view_as Input File false view_name) ∷ by 1 read_view ∷ by 1 read_view ∷ []
