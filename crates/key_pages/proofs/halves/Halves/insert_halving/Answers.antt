-- The page stands in its ring, and its lower half in its place.
use Rattle.std.proofs.Common.{length-append, ◌≡◌, ◌∙◌, ◌++◌, length, ap, arith}
use Rattle.std.specs.Prelude.{insert}
use Rattle.key_pages.specs.PageList.{page_at}
use Rattle.key_pages.proofs.HalvesLemmas.{front-read, front-put, back-read, back-put}
use Rattle.key_pages.proofs.halves.Halves.insert_halving.Goals as goal

pub returns-then-number-half-clause-lower : goal.returns-then-number-half-clause-lower
returns-then-number-half-clause-lower c =
    let front = c.self.inside.front.items in
    let back = c.self.inside.back.items in
    let page = c.index_mut.result.now in
    let new = c.insert_halving.new.page in
    let here : page ≡ page_at (front ++ back) c.args.number = front-read front back c.args.number page new (omega arith) c.index_mut.ensures.value in
    rw (← c.self.view_is) (
      new,
      front-put front back c.args.number page new (omega arith),
      c.insert_halving.ensures.entries ∙ ap (λ p. insert p c.args.place c.args.entry) here,
      c.insert_halving.ensures.lower,
    )

pub returns-else-number-half-clause-lower : goal.returns-else-number-half-clause-lower
returns-else-number-half-clause-lower c =
    let front = c.self.inside.front.items in
    let back = c.self.inside.back.items in
    let page = c.index_mut-else-number-half.result.now in
    let new = c.insert_halving-else-number-half.new.page in
    let number = rw (← c.self.view_is) at c.requires.number in
    let long : length front ≡ c.len-half.result = omega arith in
    let here : page ≡ page_at (front ++ back) c.args.number =
    back-read front back c.args.number page new c.len-half.result long (omega arith) (omega (arith, number, length-append front back)) c.index_mut-else-number-half.ensures.value in
    rw (← c.self.view_is) (
      new,
      back-put front back c.args.number page new c.len-half.result long (omega arith),
      c.insert_halving-else-number-half.ensures.entries ∙ ap (λ p. insert p c.args.place c.args.entry) here,
      c.insert_halving-else-number-half.ensures.lower,
    )
