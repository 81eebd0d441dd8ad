use Rattle.std.proofs.Common.{◌≡◌, ◌+◌, ℕ, List, [], ◌∷◌, ◌++◌, OnOk, length, subst, ap, ◌∙◌}
use Rattle.store_model.specs.Disk.{Leaves}
use Rattle.entry_codec.specs.declared.entries.Entry.{Entry}
use Rattle.entry_codec.specs.Drafts.{numbered}
use Rattle.journal_book.specs.Book.{Holds, next_of}
use Rattle.journal_book.specs.Kept.{IsForcedOrFrom, IsKept}
use Rattle.journal_book.specs.Switch.{tied_by}
use Rattle.journal_book.proofs.book.Book.switch.Goals as goal

pub returns-clause-switched : goal.returns-clause-switched
returns-clause-switched g c =
    let next = c.next_sequence-next.ensures in
    let nr : c.numbered-nr.result ≡ numbered c.args.nr (next_of c.args.self.now) = c.numbered-nr.ensures ∙ ap (λ (n : ℕ). numbered c.args.nr n) next in
    let pr : c.numbered-pr.result ≡ numbered c.args.pr (next_of c.args.self.now + 1) = c.numbered-pr.ensures ∙ ap (λ (n : ℕ). numbered c.args.pr (n + 1)) next in
    let same : c.numbered-nr.result ∷ c.numbered-pr.result ∷ [] ≡ tied_by c.args.nr c.args.pr (next_of c.args.self.now) =
    ap (λ (e : Entry). e ∷ c.numbered-pr.result ∷ []) nr ∙ ap (λ (e : Entry). numbered c.args.nr (next_of c.args.self.now) ∷ e ∷ []) pr in
    subst (λ (more : List Entry). OnOk c.switch_by.result (g.S.Store.tells → (entries : List Entry) → Holds c.args.self.now entries (g.S.Store.disk c.args.store.now) → Holds c.switch_by.new.self (entries ++ more) (g.S.Store.disk c.switch_by.new.store))) same
    c.switch_by.ensures.switched

pub returns-clause-moments : goal.returns-clause-moments
returns-clause-moments g c = λ tells entries holds.
    let next = c.next_sequence-next.ensures in
    let nr : c.numbered-nr.result ≡ numbered c.args.nr (next_of c.args.self.now) = c.numbered-nr.ensures ∙ ap (λ (n : ℕ). numbered c.args.nr n) next in
    let pr : c.numbered-pr.result ≡ numbered c.args.pr (next_of c.args.self.now + 1) = c.numbered-pr.ensures ∙ ap (λ (n : ℕ). numbered c.args.pr (n + 1)) next in
    let same : c.numbered-nr.result ∷ c.numbered-pr.result ∷ [] ≡ tied_by c.args.nr c.args.pr (next_of c.args.self.now) =
    ap (λ (e : Entry). e ∷ c.numbered-pr.result ∷ []) nr ∙ ap (λ (e : Entry). numbered c.args.nr (next_of c.args.self.now) ∷ e ∷ []) pr in
    subst (λ (more : List Entry). Leaves (g.S.Store.disk c.args.store.now) (g.S.Store.disk c.switch_by.new.store) (IsKept c.args.self.now.chain.first c.args.self.now.forced (entries ++ more))) same
    (c.switch_by.ensures.moments tells entries holds)

pub returns-clause-exactly : goal.returns-clause-exactly
returns-clause-exactly g c = λ tells entries holds.
    let next = c.next_sequence-next.ensures in
    let nr : c.numbered-nr.result ≡ numbered c.args.nr (next_of c.args.self.now) = c.numbered-nr.ensures ∙ ap (λ (n : ℕ). numbered c.args.nr n) next in
    let pr : c.numbered-pr.result ≡ numbered c.args.pr (next_of c.args.self.now + 1) = c.numbered-pr.ensures ∙ ap (λ (n : ℕ). numbered c.args.pr (n + 1)) next in
    let same : c.numbered-nr.result ∷ c.numbered-pr.result ∷ [] ≡ tied_by c.args.nr c.args.pr (next_of c.args.self.now) =
    ap (λ (e : Entry). e ∷ c.numbered-pr.result ∷ []) nr ∙ ap (λ (e : Entry). numbered c.args.nr (next_of c.args.self.now) ∷ e ∷ []) pr in
    subst (λ (more : List Entry). Leaves (g.S.Store.disk c.args.store.now) (g.S.Store.disk c.switch_by.new.store) (IsForcedOrFrom c.args.self.now.chain.first c.args.self.now.forced (length entries) (entries ++ more))) same
    (c.switch_by.ensures.exactly tells entries holds)
