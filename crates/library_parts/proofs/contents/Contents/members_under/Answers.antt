use Rattle.std.proofs.Common.{◌≡◌, ◌∙◌, ◌≤◌, ◌+◌, ◌++◌, ℕ, suc, List, [], ◌∷◌, length, ap, sym, arith}
use Rattle.library_steps.specs.Bases.{base_members, base_names}
use Rattle.library_steps.specs.LogicalFiles.{bases_of}
use Rattle.library_steps.specs.State.{memory_of}
use Rattle.parts_model.proofs.UnderLemmas.{all-taken, take-next}
use Rattle.library_parts.proofs.contents.Contents.members_under.Goals as goal

pub loop-place-preserved : goal.loop-place-preserved
loop-place-preserved c =
    let all = base_members (bases_of (memory_of c.args.self.now.state)) c.args.view.now in
    let next : c.loop-place.place + 1 ≡ suc c.loop-place.place = omega arith in
    c.in_ok-push.ensures.pushed
    ∙ ap (λ (members : List ℕ). members ++ c.base_at.result ∷ []) c.loop-place.invariant
    ∙ sym (take-next all c.loop-place.place (c.loop-place.place + 1) c.base_at.result next c.base_at.ensures)

pub returns : goal.returns
returns c =
    let past : length (base_names c.args.view.now) ≤ c.loop-place.place = omega (arith, c.base_count-count.ensures) in
    c.loop-place.invariant ∙ all-taken (bases_of (memory_of c.args.self.now.state)) c.args.view.now c.loop-place.place past
