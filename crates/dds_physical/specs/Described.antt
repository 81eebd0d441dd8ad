-- Fields that lines have described so far.
use Rattle.std.specs.Prelude.{◌≡◌, ◌≤◌, true, List, length}
use Rattle.record_fmt.specs.declared.formats.Field.{Field}
use Rattle.record_fmt.specs.Layout.{lies_from}

-- at most 1,000, of types that a data description can give, one behind the other
pub record IsDescribed (fields : List Field) : Type 0 where
  pub few : length fields ≤ 1000
  pub lies : lies_from 0 fields ≡ true
