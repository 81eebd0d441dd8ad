use Rattle.std.proofs.Common.{◌≤◌, ◌∙◌, [], length, ap, refl, sym, subst, arith}
use Rattle.std.specs.Prelude.{unwrap_or}
use Rattle.kept_library.specs.Parts.{LibraryOver}
use Rattle.kept_library.specs.Stands.{Stands}
use Rattle.library_core.proofs.CachedLemmas.{room-cached}
use Rattle.library_core.proofs.JournalLemmas.{begun-by, begun-stands, begun-stays}
use Rattle.library_core.proofs.library.Library.begin_job.Goals as goal

pub invariant_of-self : goal.invariant_of-self
invariant_of-self g c = (
  λ alive.
      let few : length c.self.inside.contents.state.jobs ≤ 4294967294 = omega (arith, c.requires, ap (λ (l : LibraryOver g.row.S.Denot). length l.state.jobs) c.self.view_is) in
      let kept = c.self.invariant.0 alive in
      begun-by c.journal_lasts.ensures.begin c.journal_lasts.ensures.begin_places g.S.Store.tells (g.S.Store.disk c.self.inside.store) c.self.inside.journal c.begin.new.journal
      c.self.inside.contents.state c.begin.new.contents.state kept.0 c.args.name.now c.begin.result few c.begin.ensures.same c.begin.ensures.room c.begin.ensures.begun c.begin.ensures.unchanged kept.1,
  λ alive.
      let kept = c.self.invariant.0 alive in
      room-cached g.S.Store.tells (g.S.Store.disk c.self.inside.store) c.self.inside.journal c.begin.new.journal c.self.inside.contents.state kept.0 (unwrap_or c.self.inside.cache []) kept.1
      c.begin.ensures.same (c.self.invariant.1 alive),
)

pub returns-clause-stands : goal.returns-clause-stands
returns-clause-stands g c = λ s stands.
    let old : LibraryOver g.row.S.Denot = record {
      store = c.self.inside.store;
      book = c.self.inside.journal;
      state = c.self.inside.contents.state;
      paths = c.self.inside.contents.room.paths.paths;
      failed = c.self.inside.failed;
    } in
    let new : LibraryOver g.row.S.Denot = record {
      store = c.self.inside.store;
      book = c.begin.new.journal;
      state = c.begin.new.contents.state;
      paths = c.begin.new.contents.room.paths.paths;
      failed = c.self.inside.failed;
    } in
    let few : length c.self.inside.contents.state.jobs ≤ 4294967294 = omega (arith, c.requires, ap (λ (l : LibraryOver g.row.S.Denot). length l.state.jobs) c.self.view_is) in
    begun-stands c.journal_lasts.ensures.begin c.journal_lasts.ensures.begin_places g.S.Store.tells g.S.Store.disk old new s c.args.name.now c.begin.result few c.begin.ensures.same
    c.begin.ensures.room c.begin.ensures.begun refl refl (subst (λ (l : LibraryOver g.row.S.Denot). Stands g.S.Store.tells g.S.Store.disk l s) (sym c.self.view_is) stands)

pub returns-clause-stays : goal.returns-clause-stays
returns-clause-stays g c = λ s stands.
    let old : LibraryOver g.row.S.Denot = record {
      store = c.self.inside.store;
      book = c.self.inside.journal;
      state = c.self.inside.contents.state;
      paths = c.self.inside.contents.room.paths.paths;
      failed = c.self.inside.failed;
    } in
    let new : LibraryOver g.row.S.Denot = record {
      store = c.self.inside.store;
      book = c.begin.new.journal;
      state = c.begin.new.contents.state;
      paths = c.begin.new.contents.room.paths.paths;
      failed = c.self.inside.failed;
    } in
    begun-stays g.S.Store.tells g.S.Store.disk old new s c.begin.result c.begin.ensures.same c.begin.ensures.unchanged refl refl
    (subst (λ (l : LibraryOver g.row.S.Denot). Stands g.S.Store.tells g.S.Store.disk l s) (sym c.self.view_is) stands)

pub returns-clause-forced : goal.returns-clause-forced
returns-clause-forced g c = c.begin.ensures.same.forced ∙ ap (λ (l : LibraryOver g.row.S.Denot). l.book.forced) c.self.view_is

pub returns-clause-waiting : goal.returns-clause-waiting
returns-clause-waiting g c = c.begin.ensures.same.waiting ∙ ap (λ (l : LibraryOver g.row.S.Denot). l.book.waiting) c.self.view_is

pub returns-clause-receiver : goal.returns-clause-receiver
returns-clause-receiver g c = c.begin.ensures.same.receiver ∙ ap (λ (l : LibraryOver g.row.S.Denot). l.book.chain.first) c.self.view_is
