use Rattle.std.proofs.Common.{rules}
use Rattle.physical_paths.proofs.SourceLemmas.{described-keyed}
use Rattle.file_catalogue.proofs.described.Described.read.Goals as goal

-- the source that was read is kept, and what it describes has its key by its fields
pub invariant_of-result : goal.invariant_of-result
invariant_of-result g c = (search rules, described-keyed _ _ _ c.in_ok-spec.ensures.exact)
