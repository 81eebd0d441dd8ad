use Rattle.std.proofs.Common.{◌∙◌, ltb, leb, rules}
use Rattle.std.proofs.lemmas.List.Sorted.{IsPartitionPoint-from_clause, IsPartitionedBy-ltb, IsPartitionedBy-leb}
use Rattle.path_set.specs.declared.by_member.PathOver.{PathOver}
use Rattle.path_set.proofs.OverLemmas.{members-rise, in-order, those-between}
use Rattle.path_set.proofs.by_member.paths_of_member.Goals as goal

pub part-requires-clause-order : goal.part-requires-clause-order
part-requires-clause-order c =
    let rise = members-rise c.args.paths.now c.requires in
    let first = IsPartitionPoint-from_clause (λ (path : PathOver). ltb path.member c.args.member) c.args.paths.now c.partition_point-low.result c.partition_point-low.ensures.partitioned
    (IsPartitionedBy-ltb (λ (path : PathOver). path.member) c.args.paths.now c.args.member rise) (λ a r f k. search rules) in
    let last = IsPartitionPoint-from_clause (λ (path : PathOver). leb path.member c.args.member) c.args.paths.now c.partition_point-high.result c.partition_point-high.ensures.partitioned
    (IsPartitionedBy-leb (λ (path : PathOver). path.member) c.args.paths.now c.args.member rise) (λ a r f k. search rules) in
    in-order c.args.member c.args.paths.now c.partition_point-low.result c.partition_point-high.result first last c.partition_point-low.ensures.bound c.partition_point-high.ensures.bound

pub returns : goal.returns
returns c =
    let rise = members-rise c.args.paths.now c.requires in
    let first = IsPartitionPoint-from_clause (λ (path : PathOver). ltb path.member c.args.member) c.args.paths.now c.partition_point-low.result c.partition_point-low.ensures.partitioned
    (IsPartitionedBy-ltb (λ (path : PathOver). path.member) c.args.paths.now c.args.member rise) (λ a r f k. search rules) in
    let last = IsPartitionPoint-from_clause (λ (path : PathOver). leb path.member c.args.member) c.args.paths.now c.partition_point-high.result c.partition_point-high.ensures.partitioned
    (IsPartitionedBy-leb (λ (path : PathOver). path.member) c.args.paths.now c.args.member rise) (λ a r f k. search rules) in
    c.part.ensures
    ∙ those-between c.args.member c.args.paths.now c.partition_point-low.result c.partition_point-high.result first last c.partition_point-low.ensures.bound c.partition_point-high.ensures.bound
