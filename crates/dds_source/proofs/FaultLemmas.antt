-- The first of many faults.
use Rattle.std.proofs.Common.{◌≡◌, ◌<◌, ℕ, zero, suc, Bool, true, false, ◌&&◌, ◌||◌, ◌==◌, nat_lt, ◌⊎◌, inl, inr, List, [], ◌∷◌, ◌++◌, length, get_or, Option, Some, None, Result, Ok, Err, IfOk, IfErr, refl, subst, arith}
use Rattle.std.specs.List.{Contains}
use Rattle.std.proofs.lemmas.Bool.{cases_Bool}
use Rattle.dds_source.specs.declared.faults.SourceError.{SourceError}
use Rattle.dds_source.specs.declared.faults.SourceError.TheVariants as errors
use Rattle.dds_source.specs.declared.specifications.Source.{Source}
use Rattle.dds_source.specs.Reading.{source_in, faults_in, source_of, source_unless, Gives, ReportsFirst}
use Rattle.dds_source.specs.declared.faults.DdsFault.{DdsFault}
use Rattle.dds_source.specs.Faults.{rank, is_before, first_after, earlier, IsFirst}

-- faults may be noted in two parts
pub first_after_append : (best : Option DdsFault) (fs gs : List DdsFault) → first_after best (fs ++ gs) ≡ first_after (first_after best fs) gs
first_after_append best [] gs = refl
first_after_append best (f ∷ fs) gs = first_after_append (Some (earlier best f)) fs gs

-- The order of faults.

abbrev less_or : ℕ → ℕ → Bool → Bool
less_or a x more = nat_lt a x || ((a == x) && more)

below_trans : (a k x : ℕ) → nat_lt a k ≡ true → nat_lt a x ≡ false → nat_lt k x ≡ false
below_trans a k x h g = grind arith

below_cotrans : (a k x : ℕ) → nat_lt a k ≡ false → nat_lt k x ≡ false → nat_lt a x ≡ false
below_cotrans a k x h g = grind arith

trans_at : (a k x : ℕ) (s t u : Bool) → (s ≡ true → t ≡ false → u ≡ false) → less_or a k s ≡ true → less_or a x t ≡ false → less_or k x u ≡ false
trans_at a k x true true true f h g = grind arith
trans_at a k x true true false f h g = grind arith
trans_at a k x true false true f h g = absurd (let e : true ≡ false = f refl refl in cc)
trans_at a k x true false false f h g = grind arith
trans_at a k x false true true f h g = grind arith
trans_at a k x false true false f h g = grind arith
trans_at a k x false false true f h g = grind arith
trans_at a k x false false false f h g = grind arith

cotrans_at : (a k x : ℕ) (s t u : Bool) → (s ≡ false → t ≡ false → u ≡ false) → less_or a k s ≡ false → less_or k x t ≡ false → less_or a x u ≡ false
cotrans_at a k x true true true f h g = grind arith
cotrans_at a k x true true false f h g = grind arith
cotrans_at a k x true false true f h g = grind arith
cotrans_at a k x true false false f h g = grind arith
cotrans_at a k x false true true f h g = grind arith
cotrans_at a k x false true false f h g = grind arith
cotrans_at a k x false false true f h g = absurd (let e : true ≡ false = f refl refl in cc)
cotrans_at a k x false false false f h g = grind arith

-- what isn't behind one that is before isn't before what isn't behind the latter
is_before_trans : (f g h : DdsFault) → is_before f g ≡ true → is_before f h ≡ false → is_before g h ≡ false
is_before_trans f g h = trans_at f.line g.line h.line _ _ _ (trans_at f.column g.column h.column _ _ _ (below_trans (rank f.cause) (rank g.cause) (rank h.cause)))

is_before_cotrans : (f g h : DdsFault) → is_before f g ≡ false → is_before g h ≡ false → is_before f h ≡ false
is_before_cotrans f g h = cotrans_at f.line g.line h.line _ _ _ (cotrans_at f.column g.column h.column _ _ _ (below_cotrans (rank f.cause) (rank g.cause) (rank h.cause)))

is_before_self : (f : DdsFault) → is_before f f ≡ false
is_before_self f = grind arith

abbrev NoneBefore : List DdsFault → DdsFault → Type 0
NoneBefore [] fault = Unit {0}
NoneBefore (f ∷ fs) fault = (is_before f fault ≡ false) × NoneBefore fs fault

abbrev IsListed : List DdsFault → DdsFault → Type 0
IsListed [] fault = ⊥
IsListed (f ∷ fs) fault = (f ≡ fault) ⊎ IsListed fs fault

-- the first of a fault and more is one of them, and none is before it
first_of : (best : DdsFault) (fs : List DdsFault) (fault : DdsFault) → first_after (Some best) fs ≡ Some fault → IsListed (best ∷ fs) fault × NoneBefore (best ∷ fs) fault
first_of best [] fault h =
    let e : best ≡ fault = cc in
    (inl e, (subst (λ (f : DdsFault). is_before best f ≡ false) e (is_before_self best), tt))
first_of best (f ∷ fs) fault h = elim (cases_Bool (is_before f best)) [
  | inl b ↦
      let rest = first_of f fs fault (rw b at h) in
      (inr rest.0, (is_before_trans f best fault b rest.1.0, rest.1))
  | inr b ↦
      let rest = first_of best fs fault (rw b at h) in
      (elim rest.0 [ inl e ↦ inl e | inr l ↦ inr (inr l) ], (rest.1.0, (is_before_cotrans f best fault b rest.1.0, rest.1.1)))
]

contains_listed : (fs : List DdsFault) (fault : DdsFault) → IsListed fs fault → Contains fs fault
contains_listed [] fault h = absurd h
contains_listed (f ∷ fs) fault (inl e) = (0, omega arith, e)
contains_listed (f ∷ fs) fault (inr l) = let c = contains_listed fs fault l in (suc c.0, omega (arith, c.1), c.2)

all_none : (fs : List DdsFault) (fault : DdsFault) → NoneBefore fs fault → (k : ℕ) (d : DdsFault) → k < length fs → is_before (get_or fs k d) fault ≡ false
all_none [] fault h k d lt = absurd (omega arith)
all_none (f ∷ fs) fault h zero d lt = h.0
all_none (f ∷ fs) fault h (suc k) d lt = all_none fs fault h.1 k d (omega arith)

is_first : (fs : List DdsFault) (fault : DdsFault) → first_after None fs ≡ Some fault → IsFirst fs fault
is_first [] fault h = absurd (cc)
is_first (f ∷ fs) fault h =
    let first = first_of f fs fault h in
    record { listed = contains_listed (f ∷ fs) fault first.0; none_before = all_none (f ∷ fs) fault first.1 }

first_some : (f : DdsFault) (fs : List DdsFault) → (g : DdsFault) × (first_after (Some f) fs ≡ Some g)
first_some f [] = (f, refl)
first_some f (g ∷ fs) = first_some (earlier (Some f) g) fs

none_first : (fs : List DdsFault) → first_after None fs ≡ None → fs ≡ []
none_first [] h = refl
none_first (f ∷ fs) h = absurd (let s = first_some f fs in let e = s.1 in cc)

-- What was read, in other words.

no_faults : (source wanted : Source) (first : Option DdsFault) → source_unless wanted first ≡ Ok source → (first ≡ None) × (source ≡ wanted)
no_faults source wanted None h = (refl, cc)
no_faults source wanted (Some f) h = absurd (cc)

a_fault : (wanted : Source) (first : Option DdsFault) (fault : DdsFault) → source_unless wanted first ≡ Err fault → first ≡ Some fault
a_fault wanted None fault h = absurd (cc)
a_fault wanted (Some f) fault h = cc

pub found_is : (text : List ℕ) (result : Result Source SourceError) → Gives result (source_of text) → IfOk result (λ source. (faults_in text ≡ []) × (source ≡ source_in text))
unfolding source_of
found_is text (Ok source) h = let parts = no_faults source (source_in text) (first_after None (faults_in text)) h in (none_first (faults_in text) parts.0, parts.1)
found_is text (Err e) h = tt

pub first_is : (text : List ℕ) (result : Result Source SourceError) → Gives result (source_of text) → IfErr result (ReportsFirst (faults_in text))
unfolding source_of
first_is text (Ok source) h = tt
first_is text (Err errors.NoMemory) h = tt
first_is text (Err (errors.Fault fault)) h = is_first (faults_in text) fault (a_fault (source_in text) (first_after None (faults_in text)) fault h)
