use Rattle.std.proofs.Common.{◌≡◌, ◌≤◌, length, drop, ap, arith}
use Rattle.std.proofs.lemmas.List.{drop_all}
use Rattle.parts_model.specs.Sizes.{draft_bytes}
use Rattle.library_parts.proofs.sizes.bytes_of.Goals as goal

pub returns : goal.returns
returns c =
    let drafts = c.args.drafts.now in
    let past : length drafts ≤ c.loop-draft.draft-index = omega arith in
    let none : draft_bytes (drop c.loop-draft.draft-index drafts) ≡ 0 = ap draft_bytes (drop_all c.loop-draft.draft-index drafts past) in
    let counted = c.loop-draft.invariant.counted in
    let few = c.loop-draft.invariant.few in
    omega (arith, none, counted, few)
