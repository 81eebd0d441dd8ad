use Rattle.key_pages.proofs.list.Pages.prior_entry.Given as goal

-- a ledger of one part, made for this call
abbrev pub ghosts-prior_entry_in : goal.ghosts-prior_entry_in
ghosts-prior_entry_in a = record { name = a.blank.name; parts = a.blank.parts }
