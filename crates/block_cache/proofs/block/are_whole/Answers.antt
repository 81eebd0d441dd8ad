use Rattle.std.proofs.Common.{◌≡◌, ◌+◌, ◌-◌, ℕ, subst, arith}
use Rattle.std.proofs.lemmas.Bool.{eq-eqb, eqb-true, false≢true}
use Rattle.journal_model.specs.Journal.{AreNumbered}
use Rattle.journal_book.proofs.Taking.{none_is, some_match}
use Rattle.block_cache.proofs.block.are_whole.Goals as goal

pub returns-in_default : goal.returns-in_default
returns-in_default c = (
  λ t. absurd (false≢true t),
  λ whole.
      absurd (none_is _ _ _ c.in_default.is c.numbered_to.ensures (subst (λ (n : ℕ). AreNumbered n c.args.entries.now) (omega (arith, c.requires)) whole.numbered)),
)

pub returns : goal.returns
returns c =
    let told = some_match _ _ _ _ c.in-Some.is c.numbered_to.ensures in (
      λ t. record {
        numbered = subst (λ (n : ℕ). AreNumbered n c.args.entries.now) (omega (arith, c.requires)) told.0;
        long = omega (arith, eqb-true c.in-Some.reached c.args.bounds.last t, told.1, c.requires);
      },
      λ whole. eq-eqb c.in-Some.reached c.args.bounds.last (omega (arith, whole.long, told.1, c.requires)),
    )
