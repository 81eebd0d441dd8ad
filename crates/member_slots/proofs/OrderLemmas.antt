-- The entries stay in order, and each a member, when one of them changes, comes or goes.
use Rattle.std.proofs.Common.{ℕ, ◌+◌, ◌-◌, ◌<◌, ◌≡◌, List, [], ◌∷◌, length, map, set, get_or, subst, arith}
use Rattle.std.specs.List.{insert, remove, AllPairs}
use Rattle.std.proofs.lemmas.List.{get_or-map, length-map}
use Rattle.std.proofs.lemmas.Grind.{common_steps}
use Rattle.std.proofs.lemmas.List.Elements.{All-set, All-map}
use Rattle.std.proofs.lemmas.List.Quantifiers.{all_pairs_remove}
use Rattle.std.proofs.lemmas.List.Edits.{length-insert, get_or-insert_below, get_or-insert_at, get_or-insert_above, length-remove, get_or-remove_below, get_or-remove_above}
use Rattle.member_slots.specs.declared.members.Entry.{Entry}
use Rattle.member_slots.specs.Member.{IsMember, MemberState}
use Rattle.member_slots.specs.Members.{AreMembers, Numbered}
use Rattle.member_slots.specs.Entries.{AreEntries, IsPlace, IsGap, numbered, state_of}

module _ (entries : List Entry) (h : AreEntries entries) (number place : ℕ) (new : Entry) (same : new.number ≡ number) (member : IsMember new.member.state) where
  -- another entry of the number at its place
  pub AreEntries-set : IsPlace entries number place → AreEntries (set entries place new)
  AreEntries-set is_place = record {
    rising = λ i j d lt within. grind (arith, common_steps, h.rising i j d, is_place.before i d, is_place.behind j d, is_place.here d);
    each = All-set (λ (entry : Entry). IsMember entry.member.state) entries place new member h.each;
  }

  -- an entry of the number in the gap for it
  pub AreEntries-insert : IsGap entries number place → AreEntries (insert entries place new)
  AreEntries-insert gap =
      let longer = length-insert entries place new gap.in_range in
      let below : (k : ℕ) (d : Entry) → k < place → get_or (insert entries place new) k d ≡ get_or entries k d = λ k d lt. get_or-insert_below entries place new d k lt gap.in_range in
      let here : (k : ℕ) (d : Entry) → k ≡ place → get_or (insert entries place new) k d ≡ new = λ k d at. rw at (get_or-insert_at entries place new d gap.in_range) in
      let above : (k : ℕ) (d : Entry) → place < k → get_or (insert entries place new) k d ≡ get_or entries (k - 1) d =
      λ k d lt. subst (λ q. get_or (insert entries place new) q d ≡ get_or entries (k - 1) d) {x = k - 1 + 1} (omega arith) (get_or-insert_above entries place new d (k - 1) (omega arith) gap.in_range) in
      record {
        rising = λ i j d lt within.
            grind (arith, below i d, here i d, above i d, below j d, here j d, above j d, h.rising i j d, h.rising i (j - 1) d, h.rising (i - 1) (j - 1) d, gap.before i d, gap.behind (j - 1) d);
        each = λ k d within. grind (arith, below k d, here k d, above k d, h.each k d, h.each (k - 1) d);
      }

-- without the entry at a place
pub AreEntries-remove : (entries : List Entry) (place : ℕ) → AreEntries entries → place < length entries → AreEntries (remove entries place)
AreEntries-remove entries place h in_range =
    let shorter = length-remove entries place in_range in
    record {
      rising = all_pairs_remove (λ (former later : Entry). former.number < later.number) entries place in_range h.rising;
      each = λ k d within.
          grind (arith, get_or-remove_below entries place d k, get_or-remove_above entries place d k, h.each k d, h.each (k + 1) d);
    }

-- numbers that rise among the entries rise among what they stand for
numbers_rise : (entries : List Entry) → AllPairs (λ (former later : Entry). former.number < later.number) entries → AllPairs (λ (former later : Numbered MemberState). former.number < later.number) (map (numbered state_of) entries)
numbers_rise [] h i j d lt within = absurd (omega arith)
numbers_rise (entry ∷ entries) h i j d lt within =
    let shorter : j < length (entry ∷ entries) = omega (arith, length-map (entry ∷ entries) (numbered state_of)) in
    let earlier : i < length (entry ∷ entries) = omega arith in
    rw (get_or-map (numbered state_of) (entry ∷ entries) i entry d earlier, get_or-map (numbered state_of) (entry ∷ entries) j entry d shorter) (h i j entry lt shorter)

-- what the entries stand for are members
pub AreMembers-entries : (entries : List Entry) → AreEntries entries → AreMembers (map (numbered state_of) entries)
AreMembers-entries entries h = record {
  rising = numbers_rise entries h.rising;
  each = All-map (λ (entry : Numbered MemberState). IsMember entry.item) (numbered state_of) entries h.each;
}
