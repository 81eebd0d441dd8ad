-- No pair of images is open exactly where no begun entry is left.
use Rattle.std.proofs.Common.{◌≡◌, Bool, true, false, Option, Some, None, refl, sym, ap, ◌∙◌, subst}
use Rattle.std.specs.Prelude.{is_none, ℕ}
use Rattle.entry_codec.specs.declared.entries.Entry.{Entry}
use Rattle.journal_model.specs.Acts.{entry_before}
use Rattle.journal_model.specs.Pairs.{Pair, pair_begun, BeginsNoPair}
use Rattle.journal_model.specs.Catalogue.{Descriptions}
use Rattle.journal_model.specs.Journal.{Journal, entries}
use Rattle.journal_replay.specs.SoFar.{EndsWhole}
use Rattle.journal_replay.specs.Standing.{Standing, begun_by, only_begun}
use Rattle.journal_replay.specs.Left.{IsLeft}

begun-none : (prior : Option Entry) → BeginsNoPair prior → is_none (begun_by prior) ≡ true
begun-none None h = refl
begun-none (Some p) h = ap (λ (o : Option Pair). is_none (only_begun o p)) h

none-begun : (prior : Option Entry) → is_none (begun_by prior) ≡ true → BeginsNoPair prior
none-begun None h = tt
none-begun (Some p) h = at (pair_begun p.kind) h where
  at : (pair : Option Pair) → is_none (only_begun pair p) ≡ true → pair ≡ None
  at None h = refl
  at (Some pair) h = absurd cc

module _ (d : Descriptions) (breaks : ℕ → ℕ) (j : Journal) (s : Standing) (l : IsLeft d breaks j s) where
  pub whole-none : EndsWhole j → is_none s.begun ≡ true
  whole-none h = ap is_none l.begun ∙ begun-none (entry_before None (entries j)) h

  pub none-whole : is_none s.begun ≡ true → EndsWhole j
  none-whole h = none-begun (entry_before None (entries j)) (sym (ap is_none l.begun) ∙ h)
