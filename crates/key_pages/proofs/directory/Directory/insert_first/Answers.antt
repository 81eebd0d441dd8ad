-- The page that was free holds the entry alone.
use Rattle.std.proofs.Common.{◌≡◌, ◌∙◌, [], ◌∷◌, ◌++◌, length, ap, arith}
use Rattle.key_pages.proofs.PageLemmas.{AreSized-one, last-taken}
use Rattle.key_pages.proofs.directory.Directory.insert_first.Goals as goal

pub push-requires : goal.push-requires
push-requires c =
    let none = (last-taken c.self.inside.free.items c.take_last-page.new.self.items c.take_last-page.result c.take_last-page.ensures.items c.self.invariant.empty).1 in
    rw none (omega arith)

pages : (c : goal.After-push-2) → c.push-2.new.self.items ≡ (c.args.entry ∷ []) ∷ []
pages c =
    let none = (last-taken c.self.inside.free.items c.take_last-page.new.self.items c.take_last-page.result c.take_last-page.ensures.items c.self.invariant.empty).1 in
    let empty = rw (← c.self.view_is) at c.requires.none in
    c.push-2.ensures.items ∙ (ap (λ xs. xs ++ c.push.new.self ∷ []) empty ∙ ap (λ page. page ∷ []) (c.push.ensures ∙ ap (λ page. page ++ c.args.entry ∷ []) none))

pub invariant_of-self : goal.invariant_of-self
invariant_of-self c =
    let long = ap length (pages c) in
    let none = ap length (rw (← c.self.view_is) at c.requires.none) in
    record {
      sized = rw (pages c) (AreSized-one (c.args.entry ∷ []) (omega arith) (omega arith));
      empty = (last-taken c.self.inside.free.items c.take_last-page.new.self.items c.take_last-page.result c.take_last-page.ensures.items c.self.invariant.empty).0;
      room = omega (arith, long, none, c.push-2.ensures.room, c.take_last-page.ensures.len, c.self.invariant.room);
      free_room = omega (arith, long, none, c.take_last-page.ensures.capacity, c.take_last-page.ensures.len, c.self.invariant.free_room);
    }

pub returns-clause-pages : goal.returns-clause-pages
returns-clause-pages c = pages c
