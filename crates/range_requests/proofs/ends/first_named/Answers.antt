use Rattle.std.proofs.Common.{ℕ, ◌+◌, List, Option, unwrap_or, refl, sym, ◌∙◌, ap}
use Rattle.entry_codec.specs.declared.entries.Entry.{Entry}
use Rattle.range_requests.specs.Ends.{behind_break}
use Rattle.range_requests.proofs.EndLemmas.{first-behind, first-whole}
use Rattle.range_requests.proofs.ends.first_named.Goals as goal

pub returns-in-Some : goal.returns-in-Some
returns-in-Some c = λ read known.
    let s = c.args.contents.now.state in
    let stretch = c.args.stretch.now in
    let reached = c.if-not-reaches.ensures.reached refl ∙ ap (λ (n : ℕ). n + 1) c.bounds-kept.ensures.last in
    first-behind s stretch read known reached c.args.member c.in-Some.behind
    (λ now. ap (λ (n : ℕ). behind_break c.args.member now n stretch.entries) (sym c.first-begin.ensures.first)
    ∙ ap (λ (es : List Entry). behind_break c.args.member now c.first-begin.result es) (sym c.entries.ensures)
    ∙ c.behind_break.ensures now ∙ ap (λ (o : Option ℕ). unwrap_or o now) c.in-Some.is)

pub returns-then-begin-kept : goal.returns-then-begin-kept
returns-then-begin-kept c = λ read known.
    let s = c.args.contents.now.state in
    let stretch = c.args.stretch.now in
    let reached = c.if-not-reaches.ensures.reached refl ∙ ap (λ (n : ℕ). n + 1) c.bounds-kept.ensures.last in
    c.bounds-kept.ensures.first
    ∙ first-whole s stretch read known reached c.args.member
    (λ now. ap (λ (n : ℕ). behind_break c.args.member now n stretch.entries) (sym c.first-begin.ensures.first)
    ∙ ap (λ (es : List Entry). behind_break c.args.member now c.first-begin.result es) (sym c.entries.ensures)
    ∙ c.behind_break.ensures now ∙ ap (λ (o : Option ℕ). unwrap_or o now) c.in_default.is)
    (sym c.first-begin.ensures.first ∙ c.if-begin-kept.true ∙ c.bounds-kept.ensures.first)
