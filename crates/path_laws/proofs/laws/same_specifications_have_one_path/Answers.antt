use Rattle.path_laws.proofs.PathLemmas.{one-path, path-told, path-own, path-either_way}
use Rattle.path_laws.proofs.laws.same_specifications_have_one_path.Goals as goal

pub returns-clause-path : goal.returns-clause-path
returns-clause-path c = one-path

pub returns-clause-own : goal.returns-clause-own
returns-clause-own c = path-own

pub returns-clause-either_way : goal.returns-clause-either_way
returns-clause-either_way c = path-either_way

pub returns-clause-equal : goal.returns-clause-equal
returns-clause-equal c = path-told
