-- Past the first ring the page comes from the second.
use Rattle.std.proofs.Common.{◌≡◌, ◌∙◌, ◌++◌, length, ap, sym, arith}
use Rattle.std.proofs.lemmas.List.Edits.{remove-append_right}
use Rattle.key_pages.proofs.halves.take_out.Goals as goal

pub returns-else-number-half-clause-whole : goal.returns-else-number-half-clause-whole
returns-else-number-half-clause-whole c =
    let front = c.args.front.now.items in
    let done = rw c.unwrap-else-number-half.ensures at c.remove-else-number-half.ensures.items in
    let long : length front ≡ c.len-half.result = omega arith in
    ap (λ xs. front ++ xs) done ∙ sym (remove-append_right front c.args.back.now.items c.len-half.result c.args.number long (omega arith))
