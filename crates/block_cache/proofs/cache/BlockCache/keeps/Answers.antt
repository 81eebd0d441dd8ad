use Rattle.std.proofs.Common.{◌≡◌, ◌∙◌, inl, inr, List, refl, sym, subst}
use Rattle.std.proofs.lemmas.Bool.{false≢true}
use Rattle.entry_codec.specs.declared.entries.Entry.{Entry}
use Rattle.block_cache.specs.Cached.{HasSequence}
use Rattle.block_cache.proofs.cache.BlockCache.keeps.Goals as goal

pub returns-then-keeps : goal.returns-then-keeps
returns-then-keeps c = (λ t. inl (c.keeps.ensures.0 c.if-keeps.true), λ kept. refl)

pub returns : goal.returns
returns c = (
  λ t. inr (subst (λ (l : List (List Entry)). HasSequence l c.args.sequence) c.self.view_is (sym c.has_sequence.ensures ∙ t)),
  λ kept. elim kept [
    | inl past ↦ absurd (false≢true (sym c.if-keeps.false ∙ c.keeps.ensures.1 past))
    | inr has ↦ c.has_sequence.ensures ∙ subst (λ (l : List (List Entry)). HasSequence l c.args.sequence) (sym c.self.view_is) has
  ],
)
