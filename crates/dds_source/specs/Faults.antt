-- Which fault of a source is its first.
use Rattle.std.specs.Prelude.{◌≡◌, ℕ, Bool, false, ◌&&◌, ◌||◌, ◌==◌, nat_lt, List, [], ◌∷◌, Option, Some, None, All, Contains, if◌then◌else◌}
use Rattle.dds_source.specs.declared.faults.DdsFault.{DdsFault}
use Rattle.dds_source.specs.declared.faults.DdsCause.{DdsCause}
use Rattle.dds_source.specs.declared.faults.DdsCause.TheVariants as causes

-- the place of a cause in their list
abbrev pub rank : DdsCause → ℕ
rank causes.BadColumn = 0
rank causes.BadName = 1
rank causes.BadNumber = 2
rank causes.UnfinishedText = 3
rank causes.OutOfOrder = 4
rank causes.DuplicateName = 5
rank causes.BadLength = 6
rank causes.BadDecimals = 7
rank causes.BadType = 8
rank causes.UnknownKeyword = 9
rank causes.BadArguments = 10
rank causes.Conflict = 11
rank causes.NoFormat = 12
rank causes.NoSuchField = 13
rank causes.UnknownReference = 14
rank causes.TooLarge = 15
rank causes.NoBase = 16
rank causes.NoBaseField = 17
rank causes.KeyMismatch = 18
rank causes.JoinKeyNotPrimary = 19
rank causes.ReadOnlyMapping = 20
rank causes.Narrowing = 21

-- an earlier line, or on one line an earlier column, or at one place an earlier cause
abbrev pub is_before : DdsFault → DdsFault → Bool
is_before f g = nat_lt f.line g.line || ((f.line == g.line) && (nat_lt f.column g.column || ((f.column == g.column) && nat_lt (rank f.cause) (rank g.cause))))

-- the earlier of two, where there are two
abbrev pub earlier : Option DdsFault → DdsFault → DdsFault
earlier None g = g
earlier (Some f) g = if is_before g f then g else f

-- the first of a fault, if there is one, and more faults
abbrev pub first_after : Option DdsFault → List DdsFault → Option DdsFault
first_after best [] = best
first_after best (f ∷ fs) = first_after (Some (earlier best f)) fs

-- one of the faults, and none of them is before it
pub record IsFirst (faults : List DdsFault) (fault : DdsFault) : Type 0 where
  pub listed : Contains faults fault
  pub none_before : All (λ other. is_before other fault ≡ false) faults
