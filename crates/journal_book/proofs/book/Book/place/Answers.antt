use Rattle.std.proofs.Common.{◌≡◌, ◌+◌, ◌<◌, ◌≤◌, ℕ, List, Err, sym, ap, subst, arith}
use Rattle.std.proofs.Math.Logic.{∥∥₁_elim, ∥∥₁_map}
use Rattle.std.proofs.Math.Bridge.{le_prop}
use Rattle.std.proofs.lemmas.Result.{err_from_is_err_and}
use Rattle.entry_codec.specs.declared.entries.Entry.{Entry}
use Rattle.receiver_chain.proofs.Kept.{holds_stays, is_held_stays}
use Rattle.journal_book.specs.Book.{BookState, Holds}
use Rattle.journal_book.specs.Reads.{between}
use Rattle.journal_book.specs.Searches.{StandIn}
use Rattle.journal_book.specs.declared.fault.BookFault.{BookFault}
use Rattle.journal_book.specs.declared.fault.BookFault.TheVariants.{BlockChanged}
use Rattle.journal_book.proofs.Seeking.{one_forced, one_there}
use Rattle.journal_book.proofs.Taking.{fits}
use Rattle.journal_book.proofs.book.Book.place.Goals as goal

pub seek_start-requires : goal.seek_start-requires
seek_start-requires g c = record {
  held = λ tells. ∥∥₁_map (c.requires.held tells) (λ has.
      let here = subst (λ (v : BookState). Holds v has.0 (g.S.Store.disk c.args.store.now)) (sym c.self.view_is) has.1 in
      (here.kept, here.chain));
}

pub seek_from-requires-clause-held : goal.seek_from-requires-clause-held
seek_from-requires-clause-held g c = λ tells. is_held_stays _ (g.S.Store.disk c.args.store.now) (g.S.Store.disk c.seek_start.new.store) c.seek_start.ensures.stays (∥∥₁_map (c.requires.held tells) (λ has.
    let here = subst (λ (v : BookState). Holds v has.0 (g.S.Store.disk c.args.store.now)) (sym c.self.view_is) has.1 in
    (here.kept, here.chain)))

pub returns-in_err-start-clause-whole : goal.returns-in_err-start-clause-whole
returns-in_err-start-clause-whole g c = λ other area at is tells.
    let p = err_from_is_err_and c.from_residual.result c.from_residual.ensures.1 in
    let same : c.in_err-start.field-0.0 ≡ BlockChanged other area at = cc (p.1, p.2, is) in
    c.in_err-start.ensures.whole other area at (ap (λ (e : BookFault). Err e) same)

pub returns-in_err-found-clause-whole : goal.returns-in_err-found-clause-whole
returns-in_err-found-clause-whole g c = λ other area at is tells.
    let p = err_from_is_err_and c.from_residual-in_err-found.result c.from_residual-in_err-found.ensures.1 in
    let same : c.in_err-found.field-0.0 ≡ BlockChanged other area at = cc (p.1, p.2, is) in
    let s = c.args.sequence in
    let old = g.S.Store.disk c.args.store.now in
    let never : 1 ≤ 0 = ∥∥₁_elim (c.requires.held tells) le_prop (λ has.
    subst (λ (v : BookState). Holds v has.0 old → v.first ≤ s → s < v.first + v.forced → 1 ≤ 0) c.self.view_is
    (λ here from below.
    absurd (one_there _ here.kept has.0 here.keeps s from below (c.in_err-found.ensures.whole other area at (ap (λ (e : BookFault). Err e) same) tells here.kept here.keeps.front
    (holds_stays _ here.kept old (g.S.Store.disk c.seek_start.new.store) c.seek_start.ensures.stays here.chain) (c.in_ok-start.ensures.ahead tells here.kept here.keeps.front here.chain here.keeps.on_disk))))
    has.1 c.requires.kept c.requires.forced) in
    absurd (omega (arith, never))

pub returns-clause-stands : goal.returns-clause-stands
returns-clause-stands g c = λ tells all holds.
    let s = c.args.sequence in
    let place = c.in_ok-found.found in
    let old = g.S.Store.disk c.args.store.now in
    subst (λ (v : BookState). Holds v all old → v.first ≤ s → s < v.first + v.forced → StandIn (between v.first s s all) place.1 (old.seen place.0)) c.self.view_is
    (λ here from below.
    subst (λ (l : List Entry). StandIn l place.1 (old.seen place.0)) (one_forced _ here.kept all here.keeps s from below)
    (subst (λ (b : List ℕ). StandIn (fits s s here.keeps.front) place.1 b) (c.seek_start.ensures.stays.seen place.0)
    (c.in_ok-found.ensures.stands tells here.kept here.keeps.front (holds_stays _ here.kept old (g.S.Store.disk c.seek_start.new.store) c.seek_start.ensures.stays here.chain)
    (c.in_ok-start.ensures.ahead tells here.kept here.keeps.front here.chain here.keeps.on_disk))))
    holds c.requires.kept c.requires.forced
