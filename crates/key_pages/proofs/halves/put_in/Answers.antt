-- Past the first ring the page goes into the second.
use Rattle.std.proofs.Common.{◌≡◌, ◌∙◌, ◌++◌, length, ap, sym, arith}
use Rattle.std.proofs.lemmas.List.Edits.{insert-append_right}
use Rattle.key_pages.proofs.halves.put_in.Goals as goal

pub returns-else-number-half-clause-whole : goal.returns-else-number-half-clause-whole
returns-else-number-half-clause-whole c =
    let front = c.args.front.now.items in
    let done = rw c.unwrap-else-number-half.ensures at c.insert-else-number-half.ensures.items in
    let long : length front ≡ c.len-half.result = omega arith in
    ap (λ xs. front ++ xs) done ∙ sym (insert-append_right front c.args.back.now.items c.len-half.result c.args.number c.args.page long (omega arith))
