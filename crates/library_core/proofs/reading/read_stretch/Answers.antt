use Rattle.std.proofs.Common.{arith}
use Rattle.library_core.proofs.JudgedLemmas.{few-entries}
use Rattle.library_core.proofs.reading.read_stretch.Goals as goal

pub read_between-requires-clause-few : goal.read_between-requires-clause-few
read_between-requires-clause-few g c =
    let few = few-entries g.S.Store.tells (g.S.Store.disk c.args.store.now) c.args.journal.now c.args.contents.now.state c.requires.kept.0 c.requires.kept.1 in
    omega (arith, few, c.in-Some.ensures.there)
