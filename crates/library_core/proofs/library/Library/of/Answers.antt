use Rattle.library_core.proofs.LibraryLemmas.{same-library}
use Rattle.library_core.proofs.library.Library.of.Goals as goal

pub invariant_of-result : goal.invariant_of-result
invariant_of-result g c = (λ alive. c.into_parts-store.ensures.kept, λ alive told all holds. tt)

pub returns : goal.returns
returns g c =
    same-library c.args.kept c.into_parts-store.result.0 c.into_parts-store.result.1 c.into_parts-store.result.2.state c.into_parts-store.result.2.room.paths.paths
    c.into_parts-store.ensures.store c.into_parts-store.ensures.book c.into_parts-store.ensures.state c.into_parts-store.ensures.paths c.into_parts-store.ensures.alive
