-- The page stands in its ring, and without the entry in its place.
use Rattle.std.proofs.Common.{length-append, ◌≡◌, ◌∙◌, ◌++◌, length, ap, arith}
use Rattle.std.specs.Prelude.{remove, set}
use Rattle.key_pages.specs.PageList.{page_at}
use Rattle.key_pages.proofs.HalvesLemmas.{front-read, front-put, back-read, back-put}
use Rattle.key_pages.proofs.halves.Halves.remove_entry.Goals as goal

pub returns-then-number-half-clause-items : goal.returns-then-number-half-clause-items
returns-then-number-half-clause-items c =
    let front = c.self.inside.front.items in
    let back = c.self.inside.back.items in
    let page = c.index_mut.result.now in
    let new = c.remove.new.self in
    let here : page ≡ page_at (front ++ back) c.args.number = front-read front back c.args.number page new (omega arith) c.index_mut.ensures.value in
    rw (← c.self.view_is)
    (front-put front back c.args.number page new (omega arith)
    ∙ ap (set (front ++ back) c.args.number) (c.remove.ensures.rest ∙ ap (λ p. remove p c.args.place) here))

pub returns-else-number-half-clause-items : goal.returns-else-number-half-clause-items
returns-else-number-half-clause-items c =
    let front = c.self.inside.front.items in
    let back = c.self.inside.back.items in
    let page = c.index_mut-else-number-half.result.now in
    let new = c.remove-else-number-half.new.self in
    let number = rw (← c.self.view_is) at c.requires.number in
    let long : length front ≡ c.len-half.result = omega arith in
    let here : page ≡ page_at (front ++ back) c.args.number =
    back-read front back c.args.number page new c.len-half.result long (omega arith) (omega (arith, number, length-append front back)) c.index_mut-else-number-half.ensures.value in
    rw (← c.self.view_is)
    (back-put front back c.args.number page new c.len-half.result long (omega arith)
    ∙ ap (set (front ++ back) c.args.number) (c.remove-else-number-half.ensures.rest ∙ ap (λ p. remove p c.args.place) here))
