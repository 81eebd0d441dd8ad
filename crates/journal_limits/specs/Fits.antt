-- Has a member that a journal leaves no more slots and bytes than it may?
-- (The limits are those of `IsMember` of member_slots.)
use Rattle.std.specs.Prelude.{ℕ, ◌*◌, ◌&&◌, nat_le, Bool, true, Option, Some, None, length}
use Rattle.journal_model.specs.Catalogue.{CatalogMember, Descriptions, member_numbered}
use Rattle.journal_model.specs.Journal.{record_length}
use Rattle.journal_replay.specs.Standing.{Standing, catalogue_in, slots_at}

-- so many slots of this length
abbrev pub may_have : (record_length slots : ℕ) → Bool
may_have record_length slots = nat_le slots 1000000 && nat_le (slots * record_length) 268435456

abbrev pub fits_found : Descriptions → Standing → ℕ → Option CatalogMember → Bool
fits_found d s number None = true
fits_found d s number (Some member) = may_have (record_length d (catalogue_in s) member) (length (slots_at number s.members))

-- the member that an entry names, where there is one
abbrev pub fits_named : Descriptions → Standing → Option ℕ → Bool
fits_named d s None = true
fits_named d s (Some number) = fits_found d s number (member_numbered (Some number) (catalogue_in s))
