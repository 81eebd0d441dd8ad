use Rattle.key_pages.proofs.directory.Directory.nearest.Given as goal

-- a ledger of one part, made for this call
abbrev pub ghosts-nearest_in : goal.ghosts-nearest_in
ghosts-nearest_in a = record { name = a.blank.name; parts = a.blank.parts }
