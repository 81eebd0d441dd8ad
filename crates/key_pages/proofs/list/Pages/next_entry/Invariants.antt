use Rattle.key_pages.proofs.list.Pages.next_entry.Given as goal

-- a ledger of one part, made for this call
abbrev pub ghosts-next_entry_in : goal.ghosts-next_entry_in
ghosts-next_entry_in a = record { name = a.blank.name; parts = a.blank.parts }
