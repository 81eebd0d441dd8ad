use Rattle.std.proofs.Common.{◌∙◌, ◌+◌, ℕ, List, None, Some, ap, refl}
use Rattle.index_tests.proofs.FollowLemmas.{image-takes, record-moves}
use Rattle.index_tests.proofs.followed.prepared_record.Goals as goal

pub prepare-requires-clause-new : goal.prepare-requires-clause-new
prepare-requires-clause-new c =
    image-takes c.args.paths.now.paths c.args.image.now (Some c.as_bytes.result.now) c.requires.fits c.requires.followed.asked (ap (λ (bytes : List ℕ). Some bytes) c.as_bytes.ensures)

pub returns-clause-moves : goal.returns-clause-moves
returns-clause-moves c =
    record-moves c.args.members.now.members c.args.paths.now.paths c.in-Some.rrn c.args.image.now None (Some c.as_bytes.result.now) c.in_ok-moves.moves (c.in-Some.ensures.1 ∙ ap (λ (n : ℕ). n + 1) c.slots_of.ensures) refl
    (ap (λ (bytes : List ℕ). Some bytes) c.as_bytes.ensures) c.in_ok-moves.ensures.moves
