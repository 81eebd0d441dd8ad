use Rattle.std.proofs.Common.{◌≡◌, ◌∙◌, ◌+◌, ℕ, List, ◌++◌, length, ap, arith, rules}
use Rattle.std.proofs.lemmas.List.{append-nil}
use Rattle.entry_codec.specs.declared.entries.Entry.{Entry}
use Rattle.memory_journal.specs.Blanks.{blanks}
use Rattle.memory_journal.specs.Journal.{Journal}
use Rattle.memory_journal.proofs.BlankLemmas.{length_behind}
use Rattle.memory_journal.proofs.journal.MemoryJournal.forget.Goals as goal

pub returns-clause-journal : goal.returns-clause-journal
returns-clause-journal c =
    let counted : c.len.result ≡ length c.self.inside.entries.items = search (rules, c.len.ensures) in
    let first = c.self.inside.gone + 1 in
    let whole = length (blanks first c.self.inside.passed ++ c.self.inside.entries.items) in
    let same : c.self.inside.passed + c.len.result ≡ whole = omega (arith, counted, length_behind first c.self.inside.passed c.self.inside.entries.items) in
    let of : List Entry → Journal = λ es. record {
      gone = c.self.inside.gone;
      entries = es;
      receivers = record { first = c.self.inside.first; attached = c.self.inside.attached };
      checkpoint = c.self.inside.checkpoint;
    } in
    rw (← c.self.view_is) (ap (λ (es : List Entry). of (blanks first (c.self.inside.passed + c.len.result) ++ es)) c.clear.ensures.items
    ∙ ap of (append-nil (blanks first (c.self.inside.passed + c.len.result))) ∙ ap (λ (n : ℕ). of (blanks first n)) same)
