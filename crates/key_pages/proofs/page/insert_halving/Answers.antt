-- The entry goes between the part that moved first and the other one.
use Rattle.std.proofs.Common.{◌∷◌, [], ◌++◌, length, ap, ◌∙◌, arith}
use Rattle.std.proofs.lemmas.List.{append-nil, append_assoc}
use Rattle.key_pages.proofs.CutLemmas.{insert-cut}
use Rattle.key_pages.proofs.page.insert_halving.Goals as goal

pub returns-then-place-half-clause-entries : goal.returns-then-place-half-clause-entries
returns-then-place-half-clause-entries c =
    let front = c.move_first.new.into in
    let back = c.move_first.new.self in
    ap (λ xs. xs ++ c.swap.new.y) c.swap.ensures.x_after
    ∙ ap (λ xs. c.move_first-then-place-half.new.into ++ xs) c.swap.ensures.y_after
    ∙ c.move_first-then-place-half.ensures.whole
    ∙ ap (λ xs. xs ++ back) c.push.ensures
    ∙ append_assoc front (c.args.entry ∷ []) back
    ∙ insert-cut c.args.page.now front back c.args.place c.args.entry (c.move_first.ensures.whole ∙ ap (λ xs. xs ++ c.args.page.now) c.requires.empty) (omega (arith, c.move_first.ensures.moved, ap length c.requires.empty))

pub returns-else-place-half-clause-entries : goal.returns-else-place-half-clause-entries
returns-else-place-half-clause-entries c =
    let front = c.move_last.new.self in
    let back = c.move_last.new.into in
    c.move_last-else-place-half.ensures.whole
    ∙ ap (λ xs. front ++ xs) c.push_first.ensures
    ∙ insert-cut c.args.page.now front back c.args.place c.args.entry (c.move_last.ensures.whole ∙ (ap (λ xs. c.args.page.now ++ xs) c.requires.empty ∙ append-nil c.args.page.now)) (omega (arith, c.move_last.ensures.kept, c.requires.full, c.requires.place))
