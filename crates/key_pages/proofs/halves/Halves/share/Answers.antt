-- The page stands in its ring, and half of the entries in its place.
use Rattle.std.proofs.Common.{length-append, ◌≡◌, ◌∙◌, ◌++◌, ◌+◌, ◌/◌, length, ap, arith}
use Rattle.key_pages.specs.PageList.{page_at}
use Rattle.key_pages.proofs.HalvesLemmas.{front-read, front-put, back-read, back-put}
use Rattle.key_pages.proofs.halves.Halves.share.Goals as goal

pub returns-then-number-half-clause-left : goal.returns-then-number-half-clause-left
returns-then-number-half-clause-left c =
    let front = c.self.inside.front.items in
    let back = c.self.inside.back.items in
    let page = c.index_mut.result.now in
    let new = c.share.new.left in
    let here : page ≡ page_at (front ++ back) c.args.number = front-read front back c.args.number page new (omega arith) c.index_mut.ensures.value in
    rw (← c.self.view_is) (
      new,
      front-put front back c.args.number page new (omega arith),
      c.share.ensures.same ∙ ap (λ p. p ++ c.args.right.now) here,
      c.share.ensures.half ∙ ap (λ p. (length p + length c.args.right.now) / 2) here,
    )

pub returns-else-number-half-clause-left : goal.returns-else-number-half-clause-left
returns-else-number-half-clause-left c =
    let front = c.self.inside.front.items in
    let back = c.self.inside.back.items in
    let page = c.index_mut-else-number-half.result.now in
    let new = c.share-else-number-half.new.left in
    let number = rw (← c.self.view_is) at c.requires.number in
    let long : length front ≡ c.len-half.result = omega arith in
    let here : page ≡ page_at (front ++ back) c.args.number =
    back-read front back c.args.number page new c.len-half.result long (omega arith) (omega (arith, number, length-append front back)) c.index_mut-else-number-half.ensures.value in
    rw (← c.self.view_is) (
      new,
      back-put front back c.args.number page new c.len-half.result long (omega arith),
      c.share-else-number-half.ensures.same ∙ ap (λ p. p ++ c.args.right.now) here,
      c.share-else-number-half.ensures.half ∙ ap (λ p. (length p + length c.args.right.now) / 2) here,
    )
