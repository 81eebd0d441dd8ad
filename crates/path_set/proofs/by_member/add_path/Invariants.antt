use Rattle.std.specs.Prelude.{vec_len, vec_capacity}
use Rattle.path_set.proofs.OverLemmas.{IsAdding}
use Rattle.path_set.proofs.by_member.add_path.Given as goal

abbrev pub invariant-loop-place : goal.invariant-loop-place
invariant-loop-place l = IsAdding l.id l.formats l.fn.paths.items l.place l.paths.items (vec_len l.paths) (vec_capacity l.paths)
