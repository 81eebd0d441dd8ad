-- What the two calls answer, from what their walks tell.
use Rattle.std.proofs.Common.{◌≡◌, ℕ, zero, suc, ◌+◌, ◌-◌, ◌≤◌, ◌<◌, List, [], ◌∷◌, length, take, get_or, reverse, Option, Some, None, refl, sym, ap, ◌∙◌, arith}
use Rattle.std.proofs.lemmas.List.{length-reverse}
use Rattle.entry_codec.specs.declared.entries.Entry.{Entry}
use Rattle.journal_model.specs.Acts.{Act, acts}
use Rattle.journal_model.specs.Closed.{closed_suffix, last}
use Rattle.journal_model.specs.Parts.{removed_from}
use Rattle.journal_model.specs.Walks.{numbered}
use Rattle.journal_model.specs.Ranges.{straddled}
use Rattle.journal_model.specs.Journal.{AreNumbered}
use Rattle.group_bounds.specs.declared.Part.{Part}
use Rattle.group_bounds.specs.Bounds.{first_sequence, prefix_part, prefix_cut, suffix_part, suffix_cut}
use Rattle.group_bounds.specs.Walk.{WalkState, verdict, IsWalked}
use Rattle.group_bounds.proofs.ReverseLemmas.{closed_suffix-reverse, cut-reverse}

length-acts : (member : ℕ) (entries : List Entry) (prior : Option Entry) → length (acts member prior entries) ≡ length entries
length-acts member [] prior = refl
length-acts member (e ∷ entries) prior = ap suc (length-acts member entries (Some e))

pub numbered-at : (entries : List Entry) (first i : ℕ) (d : Entry) → AreNumbered first entries → i < length entries → (get_or entries i d).sequence ≡ first + i
numbered-at [] first i d h lt = absurd (omega arith)
numbered-at (e ∷ entries) first zero d h lt = h.0 ∙ omega arith
numbered-at (e ∷ entries) first (suc i) d h lt = numbered-at entries (first + 1) i d h.1 (omega arith) ∙ omega arith

pub same_part : (a b c d : ℕ) → a ≡ c → b ≡ d → (let p : Part = record { lo = a; hi = b } in p) ≡ record { lo = c; hi = d }
same_part a b c d p q = cc

module _ (member : ℕ) (entries : List Entry) (some : 0 < length entries) (prior : Option Entry) where
  pub prefix-some : (w : WalkState) → IsWalked (acts member prior entries) w → verdict w ≡ None → 0 < w.closed
  prefix-some w h told = h.some told (omega (arith, length-acts member entries prior))

  pub prefix-within : (w : WalkState) → IsWalked (acts member prior entries) w → w.closed ≤ length entries
  prefix-within w h = omega (arith, h.within, length-acts member entries prior)

  pub suffix-some : (w : WalkState) → IsWalked (reverse (acts member prior entries)) w → verdict w ≡ None → 0 < w.closed
  suffix-some w h told = h.some told (omega (arith, length-reverse (acts member prior entries), length-acts member entries prior))

  pub suffix-within : (w : WalkState) → IsWalked (reverse (acts member prior entries)) w → w.closed ≤ length entries
  suffix-within w h = omega (arith, h.within, length-reverse (acts member prior entries), length-acts member entries prior)

pub prefix-tells : (range : List Act) (first : ℕ) (w : WalkState) → IsWalked range w → prefix_cut first range ≡ verdict w
prefix-tells range first w h = ap (λ (n : ℕ). straddled (numbered first range) (numbered first (take n range))) (sym h.closed) ∙ h.cut first first

pub suffix-tells : (range : List Act) (first : ℕ) (w : WalkState) → IsWalked (reverse range) w → suffix_cut first range ≡ verdict w
suffix-tells range first w h =
    ap (λ (n : ℕ). straddled (reverse (numbered first range)) (numbered (removed_from first range) (last n range))) (closed_suffix-reverse range ∙ sym h.closed)
    ∙ cut-reverse first (removed_from first range) range w h

pub prefix-part : (member : ℕ) (entries : List Entry) (prior : Option Entry) (w : WalkState) (n : ℕ) → IsWalked (acts member prior entries) w → n ≡ w.closed → 0 < n
    → (let p : Part = record { lo = first_sequence entries + 0; hi = first_sequence entries + (n - 1) } in p) ≡ prefix_part (first_sequence entries) (acts member prior entries)
prefix-part member entries prior w n h same some = same_part _ _ _ _ (omega arith) (omega (arith, h.closed))

pub suffix-part : (member : ℕ) (entries : List Entry) (prior : Option Entry) (w : WalkState) (n : ℕ) → IsWalked (reverse (acts member prior entries)) w → n ≡ w.closed → 0 < n → n ≤ length entries
    → (let p : Part = record { lo = first_sequence entries + (length entries - n); hi = first_sequence entries + (length entries - 1) } in p)
    ≡ suffix_part (first_sequence entries) (acts member prior entries)
suffix-part member entries prior w n h same some within =
    let range = acts member prior entries in
    let k : closed_suffix range ≡ n = closed_suffix-reverse range ∙ sym h.closed ∙ sym same in
    same_part _ _ _ _ (omega (arith, k, length-acts member entries prior)) (omega (arith, length-acts member entries prior))
