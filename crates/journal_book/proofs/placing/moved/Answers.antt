use Rattle.std.proofs.Common.{◌≡◌, ◌+◌, ◌-◌, ◌^◌, ◌≤◌, ℕ, sym, ◌∙◌, ap, subst, arith}
use Rattle.std.specs.Prelude.{min}
use Rattle.std.proofs.Math.Nat.{min-eq_left}
use Rattle.journal_book.specs.Searches.{IsSought}
use Rattle.journal_book.specs.declared.placing.Sought.{Sought}
use Rattle.journal_book.specs.declared.placing.Sought.TheVariants.{At}
use Rattle.journal_book.proofs.Seeking.{place_stands, place_within}
use Rattle.journal_book.proofs.placing.moved.Goals as goal

pub returns-in-At : goal.returns-in-At
returns-in-At c = λ sequence last group block bytes stands small sought.
    let start = c.args.start in
    let at = c.in-At.at in
    let has = subst (λ (f : Sought). IsSought sequence last group block f) c.in-At.is sought in
    let within = place_within start at block bytes stands has.1 in
    let body : c.saturating_add-body.result ≡ start + 4 = c.saturating_add-body.ensures ∙ min-eq_left (omega (arith, within, small)) in
    let there : c.saturating_add-there.result ≡ start + 4 + at = c.saturating_add-there.ensures ∙ ap (λ (n : ℕ). min (n + at) (2 ^ 64 - 1)) body ∙ min-eq_left (omega (arith, within, small)) in
    subst (λ (n : ℕ). IsSought sequence last group bytes (At n)) (sym there) (has.0, within, place_stands start at block bytes stands has.1 _ has.2)

pub returns-in-Behind : goal.returns-in-Behind
returns-in-Behind c = λ sequence last group block bytes stands small sought. subst (λ (f : Sought). IsSought sequence last group block f) c.in-Behind.is sought
