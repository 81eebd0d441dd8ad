-- What contracts see of a library: the store under it, its journal's book, its state, the access paths that it keeps, and whether a call has found the
-- store at fault. (Our own.)
use Rattle.std.specs.Prelude.{Bool}
use Rattle.journal_book.specs.Book.{BookState}
use Rattle.path_set.specs.KeptPaths.{NumberedPaths}
use Rattle.block_places.specs.State.{State}

pub record LibraryOver (S : Type 0) : Type 0 where
  pub store : S
  pub book : BookState
  pub state : State
  pub paths : NumberedPaths
  pub failed : Bool
