use Rattle.std.proofs.Common.{rules, ◌≡◌, ◌∙◌, ◌+◌, ◌-◌, ◌≤◌, length, take, drop, ap, arith}
use Rattle.journal_reads.specs.Stretches.{EntriesFrom}
use Rattle.journal_reads.proofs.StretchLemmas.{part-numbered, part-read}
use Rattle.journal_reads.proofs.stretch.Stretch.between.Goals as goal

pub returns-clause-read : goal.returns-clause-read
returns-clause-read c = λ kept read is.
    let s = c.args.self.now in
    let items = ap (λ (e : EntriesFrom). e.entries) c.self.view_is in
    let first = ap (λ (e : EntriesFrom). e.first) c.self.view_is in
    let shown : c.as_slice.result.now ≡ s.entries = c.as_slice.ensures.value ∙ items in
    let begin = c.args.from - c.self.inside.first in
    let count = c.args.to - c.args.from + 1 in
    let long : begin + count - begin ≡ count = omega arith in
    let counted : c.len.result ≡ length c.self.inside.entries.items = search (rules, c.len.ensures) in
    let within : begin + count ≤ length s.entries = omega (arith, counted, ap length items, c.if-to-self.false, c.if-from-self.false, c.if-to-from.false) in
    let place : s.first + begin ≡ c.args.from = omega (arith, first, c.if-from-self.false) in
    let same : count ≡ c.args.to + 1 - c.args.from = omega (arith, c.if-to-from.false) in
    (λ i. take (long i) (drop begin (shown i))) ∙ part-read kept read s c.args.from begin count is place within ∙ ap (λ n. take n (drop (c.args.from - kept) read)) same

pub returns-clause-numbered : goal.returns-clause-numbered
returns-clause-numbered c =
    let begin = c.args.from - c.self.inside.first in
    let place : c.self.inside.first + begin ≡ c.args.from = omega (arith, c.if-from-self.false) in
    part-numbered c.self.inside.first c.args.from begin _ c.as_slice.result.now place (rw c.as_slice.ensures.value c.self.invariant.0)
