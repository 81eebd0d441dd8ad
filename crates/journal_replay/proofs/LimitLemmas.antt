-- The members of a journal with one entry more stay within their limits exactly where they did and are within them then.
use Rattle.std.proofs.Common.{◌≡◌, ℕ, List, [], ◌∷◌, ◌++◌, Option, Some, None, refl, sym, ap, ◌∙◌, subst, inl, inr}
use Rattle.std.proofs.lemmas.List.{append_assoc, append-nil}
use Rattle.entry_codec.specs.declared.entries.Entry.{Entry}
use Rattle.member_slots.specs.Member.{IsMember}
use Rattle.journal_model.specs.Acts.{acts, entry_before}
use Rattle.journal_model.specs.Replay.{replay}
use Rattle.journal_model.specs.Catalogue.{CatalogMember, Descriptions, member_numbered, catalogue_after}
use Rattle.journal_model.specs.Journal.{Journal, start_of, record_length, StaysMembers}
use Rattle.journal_replay.specs.SoFar.{with_entry, AreWithinLimits}
use Rattle.journal_replay.proofs.SplitLemmas.{front_split}

module _ (d : Descriptions) (j : Journal) (e : Entry) where
  -- where these entries are read, the member is within its limits
  Fits : List Entry → CatalogMember → Type 0
  Fits front member = IsMember (record {
    record_length = record_length d (catalogue_after j.catalogue front) member;
    slots = (replay (start_of j member.number) (acts member.number (entry_before None j.kept) front)).slots;
  })

  pub limits-front : StaysMembers d (with_entry e j) → StaysMembers d j
  limits-front r front rest member h there = r front (rest ++ e ∷ []) member (ap (λ (l : List Entry). l ++ e ∷ []) h ∙ append_assoc front rest (e ∷ [])) there

  pub limits-last : StaysMembers d (with_entry e j) → AreWithinLimits d (with_entry e j)
  limits-last r member there = r (j.later ++ e ∷ []) [] member (sym (append-nil (j.later ++ e ∷ []))) there

  pub limits-push : StaysMembers d j → AreWithinLimits d (with_entry e j) → StaysMembers d (with_entry e j)
  unfolding Fits
  limits-push r last front rest member h there = elim (front_split j.later front rest e h) [
    | inl s ↦ r front s.0 member s.1 there
    | inr s ↦ subst (λ (f : List Entry). member_numbered (Some member.number) (catalogue_after j.catalogue f) ≡ Some member → Fits f member) (sym s) (last member) there
  ]
