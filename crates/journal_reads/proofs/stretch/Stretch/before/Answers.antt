use Rattle.std.proofs.Common.{rules, ◌≡◌, ◌∙◌, List, ◌+◌, ◌-◌, ◌<◌, length, get_or, ap, arith}
use Rattle.entry_codec.specs.declared.entries.Entry.{Entry}
use Rattle.journal_reads.specs.Stretches.{EntriesFrom}
use Rattle.journal_reads.proofs.StretchLemmas.{before-read}
use Rattle.journal_reads.proofs.stretch.Stretch.before.Goals as goal

pub returns-clause-read : goal.returns-clause-read
returns-clause-read c = λ kept read is.
    let s = c.args.self.now in
    let e = c.index-as_slice-behind.result in
    let items = ap (λ (e : EntriesFrom). e.entries) c.self.view_is in
    let first = ap (λ (e : EntriesFrom). e.first) c.self.view_is in
    let shown : c.as_slice.result.now ≡ s.entries = c.as_slice.ensures.value ∙ items in
    let m = c.args.sequence - c.self.inside.first in
    let counted : c.len.result ≡ length c.self.inside.entries.items = search (rules, c.len.ensures) in
    let place : s.first + m ≡ c.args.sequence = omega (arith, first, c.if-sequence-self.false) in
    let next : m ≡ m - 1 + 1 = omega (arith, c.if-sequence-self.false) in
    let below : m - 1 < length s.entries = omega (arith, counted, ap length items, c.if-behind-len.false, c.if-sequence-self.false) in
    before-read kept read s c.args.sequence m (m - 1) e is place next below (c.index-as_slice-behind.is ∙ ap (λ (es : List Entry). get_or es (m - 1) e) shown)
