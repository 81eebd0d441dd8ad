-- Entries that are numbered one after the other, with one more, with fewer, and the sequence that is found among them.
use Rattle.std.proofs.Common.{◌≡◌, ◌≤◌, ◌<◌, ℕ, zero, suc, ◌+◌, true, false, cond, Option, Some, None, List, [], ◌∷◌, ◌++◌, length, drop, unwrap_or, subst, arith, refl}
use Rattle.std.specs.List.{find}
use Rattle.std.specs.Option.{option_map}
use Rattle.entry_codec.specs.declared.entries.Entry.{Entry}
use Rattle.library_steps.specs.Journal.{AreNumbered}
use Rattle.library_steps.specs.Receivers.{last_in, is_number, next_receiver}

pub numbered-more : (first : ℕ) (entries : List Entry) (new : Entry) → AreNumbered first entries → new.sequence ≡ first + length entries → AreNumbered first (entries ++ new ∷ [])
numbered-more first [] new all is = (omega (arith, is), tt)
numbered-more first (e ∷ entries) new all is = (all.0, numbered-more (first + 1) entries new all.1 (omega (arith, is)))

pub numbered-fewer : (n first : ℕ) (entries : List Entry) → AreNumbered first entries → AreNumbered (first + n) (drop n entries)
numbered-fewer zero first entries all = subst (λ n. AreNumbered n entries) (omega arith) all
numbered-fewer (suc n) first [] all = tt
numbered-fewer (suc n) first (e ∷ entries) all = subst (λ k. AreNumbered k (drop n entries)) (omega arith) (numbered-fewer n (first + 1) entries all.1)

-- a sequence found among them is one of theirs
pub found-within : (number first : ℕ) (entries : List Entry) (last : ℕ) → AreNumbered first entries → last_in number entries ≡ Some last → (first ≤ last) × (last < first + length entries)
found-within number first [] last all found = absurd cc
found-within number first (e ∷ entries) last all found =
    elim (is_number (number + 1) (next_receiver e.kind)) as (λ b. option_map (λ (x : Entry). x.sequence)
    (cond b (Some e) (find (λ (x : Entry). is_number (number + 1) (next_receiver x.kind)) entries)) ≡ Some last → (first ≤ last) × (last < first + length (e ∷ entries))) [
      | true ↦ λ f. let same : e.sequence ≡ last = cc in (omega (arith, same, all.0), omega (arith, same, all.0))
      | false ↦ λ f. let rest = found-within number (first + 1) entries last all.1 f in (omega (arith, rest.0), omega (arith, rest.1))
    ] found

-- what is given up with a receiver is kept now
pub given-within : (number gone : ℕ) (entries : List Entry) → AreNumbered (gone + 1) entries
    → (gone ≤ unwrap_or (last_in number entries) gone) × (unwrap_or (last_in number entries) gone ≤ gone + length entries)
given-within number gone entries all = by (last_in number entries) (λ last found. found-within number (gone + 1) entries last all found)
  where
    by : (o : Option ℕ) → ((last : ℕ) → o ≡ Some last → (gone + 1 ≤ last) × (last < gone + 1 + length entries)) → (gone ≤ unwrap_or o gone) × (unwrap_or o gone ≤ gone + length entries)
    by None within = (omega arith, omega arith)
    by (Some last) within = let w = within last refl in (omega (arith, w.0), omega (arith, w.1))
