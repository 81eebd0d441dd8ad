-- An area's bytes spell one list, or break at one place, and never both.
use Rattle.std.proofs.Common.{◌≡◌, inl, inr, ℕ, ◌+◌, ◌^◌, ◌<◌, List, [], ◌∷◌, ◌++◌, length, take, drop, sym, ◌∙◌, ap, subst, arith}
use Rattle.std.proofs.lemmas.List.{drop_at}
use Rattle.byteorder.specs.Endian.{big_number}
use Rattle.gated_log.specs.Blocks.{header, block_bytes, MayBegin, Opens, Spells, extent, sizes, IsFaultAt, IsDamagedAt}
use Rattle.gated_log.proofs.Numbers.{first_back, version_back, version_fits, length-header}
use Rattle.gated_log.proofs.Blocks.{heads, one_block, one_opens, fault_spells_none}

one_head : (area first version other another : ℕ) (bytes body next : List ℕ) → MayBegin area first version → MayBegin area other another → bytes ≡ header area first version ++ body → bytes ≡ header area other another ++ next → (first ≡ other) × (version ≡ another) × (body ≡ next)
one_head area first version other another bytes body next may too is same = (
  sym (first_back area first version body may.fits) ∙ ap (λ (l : List ℕ). big_number 8 (take 8 (drop 16 l))) (sym is ∙ same) ∙ first_back area other another next too.fits,
  sym (version_back area first version body (version_fits area first version may)) ∙ ap (λ (l : List ℕ). big_number 4 (take 4 (drop 8 l))) (sym is ∙ same) ∙ version_back area other another next (version_fits area other another too),
  sym (drop_at (header area first version) body 32 (length-header area first version)) ∙ ap (λ (l : List ℕ). drop 32 l) (sym is ∙ same) ∙ drop_at (header area other another) next 32 (length-header area other another),
)

pub one_list : (area first version other another : ℕ) (blocks others : List (List ℕ)) (bytes : List ℕ) → Spells area first version blocks bytes → Spells area other another others bytes → (first ≡ other) × (version ≡ another) × (blocks ≡ others)
one_list area first version other another blocks others bytes spells same =
    let both = one_head area first version other another bytes spells.body same.body spells.may_begin same.may_begin spells.header same.header in
    (both.0, both.1, one_opens blocks others same.body spells.rest same.rest (subst (λ (l : List ℕ). Opens blocks l (0 ∷ spells.rest)) both.2 spells.opens) same.opens)

pub never_both : (area first version at : ℕ) (blocks : List (List ℕ)) (bytes : List ℕ) → IsDamagedAt area bytes at → Spells area first version blocks bytes → ⊥
never_both area first version at blocks bytes (inl (none, _)) spells = none first version spells.body spells.may_begin spells.header
never_both area first version at blocks bytes (inr breaks) spells =
    let both = one_head area breaks.first breaks.version first version bytes breaks.body spells.body breaks.may_begin spells.may_begin breaks.header spells.header in
    fault_spells_none breaks.blocks blocks spells.body breaks.rest spells.rest _ at (subst (λ (l : List ℕ). Opens breaks.blocks l breaks.rest) both.2 breaks.opens) breaks.fault spells.opens

one_place : (place at other : ℕ) (rest : List ℕ) → IsFaultAt place rest at → IsFaultAt place rest other → at ≡ other
one_place place at other [] fault same = fault ∙ sym same
one_place place at other (gate ∷ rest) fault same = fault.2 ∙ sym same.2

-- no block stands where the fault is
no_more : (place at gate : ℕ) (block rest after : List ℕ) → IsFaultAt place rest at → length block < 2 ^ 32 → rest ≡ gate ∷ block_bytes block ++ after → ⊥
no_more place at gate block [] after fault small is = cc
no_more place at gate block (value ∷ rest) after fault small is = fault.1 block after small (heads value gate rest (block_bytes block ++ after) is).1

one_fault : (blocks others : List (List ℕ)) (body rest after : List ℕ) (place at other : ℕ) → Opens blocks body rest → IsFaultAt (place + extent (sizes blocks)) rest at → Opens others body after → IsFaultAt (place + extent (sizes others)) after other → at ≡ other
one_fault [] [] body rest after place at other is fault same there = one_place (place + 0) at other after (subst (λ (l : List ℕ). IsFaultAt (place + 0) l at) (sym is ∙ same) fault) there
one_fault [] (block ∷ others) body rest after place at other is fault (g, next, o, s, same, more) there = absurd (no_more (place + 0) at g block rest next fault s (sym is ∙ same))
one_fault (block ∷ blocks) [] body rest after place at other (gate, next, opened, small, is, more) fault same there = absurd (no_more (place + 0) other gate block after next there small (sym same ∙ is))
one_fault (block ∷ blocks) (second ∷ others) body rest after place at other (gate, next, opened, small, is, more) fault (g, n, o, s, same, others_are) there =
    let parts = one_block block second next n small s (heads gate g (block_bytes block ++ next) (block_bytes second ++ n) (sym is ∙ same)).1 in
    let moved : (bs : List (List ℕ)) → place + extent (sizes (block ∷ bs)) ≡ (place + (5 + length block)) + extent (sizes bs) = λ bs. omega arith in
    let moved_too : place + extent (sizes (second ∷ others)) ≡ (place + (5 + length block)) + extent (sizes others) = omega (arith, ap length parts.0) in
    one_fault blocks others next rest after (place + (5 + length block)) at other more
    (subst (λ (k : ℕ). IsFaultAt k rest at) (moved blocks) fault)
    (subst (λ (l : List ℕ). Opens others l after) (sym parts.1) others_are)
    (subst (λ (k : ℕ). IsFaultAt k after other) moved_too there)

pub one_damage : (area at other : ℕ) (bytes : List ℕ) → IsDamagedAt area bytes at → IsDamagedAt area bytes other → at ≡ other
one_damage area at other bytes (inl first) (inl second) = first.1 ∙ sym second.1
one_damage area at other bytes (inl first) (inr second) = absurd (first.0 second.first second.version second.body second.may_begin second.header)
one_damage area at other bytes (inr first) (inl second) = absurd (second.0 first.first first.version first.body first.may_begin first.header)
one_damage area at other bytes (inr first) (inr second) =
    let both = one_head area first.first first.version second.first second.version bytes first.body second.body first.may_begin second.may_begin first.header second.header in
    one_fault first.blocks second.blocks second.body first.rest second.rest 32 at other (subst (λ (l : List ℕ). Opens first.blocks l first.rest) both.2 first.opens) first.fault second.opens second.fault
