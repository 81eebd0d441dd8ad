use Rattle.std.proofs.Common.{true, ◌&&◌, refl, ◌∙◌}
use Rattle.lock_table.specs.declared.lock.Reach.TheVariants.{Boundary}
use Rattle.lock_table.specs.declared.part.Part.TheVariants.{InMember}
use Rattle.lock_table.specs.Lock.{is_boundary_in, is_by}
use Rattle.lock_table.specs.Index.{is_part}
use Rattle.lock_table.proofs.Found.{keeps-in, run-is_some}
use Rattle.lock_table.proofs.chosen.keeps_in.Goals as goal

pub returns : goal.returns
returns c = c.is_some.ensures ∙ run-is_some (is_part (InMember c.args.job Boundary c.args.member)) (λ _. true) (λ l. is_boundary_in c.args.member l && is_by c.args.job l) (keeps-in c.args.job c.args.member) c.args.tree.now _ c.first_in.result refl c.first_in.ensures
