-- The first of many faults is one of them, and none is before it.
use Rattle.std.proofs.Common.{◌≡◌, ◌<◌, ℕ, zero, suc, Bool, true, false, ◌&&◌, ◌||◌, ◌==◌, nat_lt, ◌⊎◌, inl, inr, List, [], ◌∷◌, length, get_or, Option, Some, None, Result, Ok, Err, IfOk, IfErr, refl, subst, arith}
use Rattle.std.specs.List.{Contains}
use Rattle.std.proofs.lemmas.Bool.{cases_Bool}
use Rattle.record_fmt.specs.declared.formats.Format.{Format}
use Rattle.dds_source.specs.declared.specifications.Source.{Source}
use Rattle.dds_source.specs.declared.faults.DdsFault.{DdsFault}
use Rattle.dds_source.specs.Faults.{rank, is_before, first_after, IsFirst}
use Rattle.dds_physical.specs.declared.physical_files.PhysicalSpec.{PhysicalSpec}
use Rattle.dds_physical.specs.declared.physical_files.PhysicalError.{PhysicalError}
use Rattle.dds_physical.specs.declared.physical_files.PhysicalError.TheVariants as errors
use Rattle.dds_physical.specs.Physical.{specification, faults_of, physical_of, specification_unless, Gives, ReportsFirst}
use Rattle.dds_physical.proofs.FaultLemmas.{nothing_noted}

-- The order of faults.

abbrev less_or : ℕ → ℕ → Bool → Bool
less_or a x more = nat_lt a x || ((a == x) && more)

below_trans : (a k x : ℕ) → nat_lt a k ≡ true → nat_lt a x ≡ false → nat_lt k x ≡ false
below_trans a k x h g = grind arith

below_cotrans : (a k x : ℕ) → nat_lt a k ≡ false → nat_lt k x ≡ false → nat_lt a x ≡ false
below_cotrans a k x h g = grind arith

trans_at : (a k x : ℕ) (s t u : Bool) → (s ≡ true → t ≡ false → u ≡ false) → less_or a k s ≡ true → less_or a x t ≡ false → less_or k x u ≡ false
trans_at a k x true true true f h g = grind arith
trans_at a k x true true false f h g = grind arith
trans_at a k x true false true f h g = absurd (let e : true ≡ false = f refl refl in cc)
trans_at a k x true false false f h g = grind arith
trans_at a k x false true true f h g = grind arith
trans_at a k x false true false f h g = grind arith
trans_at a k x false false true f h g = grind arith
trans_at a k x false false false f h g = grind arith

cotrans_at : (a k x : ℕ) (s t u : Bool) → (s ≡ false → t ≡ false → u ≡ false) → less_or a k s ≡ false → less_or k x t ≡ false → less_or a x u ≡ false
cotrans_at a k x true true true f h g = grind arith
cotrans_at a k x true true false f h g = grind arith
cotrans_at a k x true false true f h g = grind arith
cotrans_at a k x true false false f h g = grind arith
cotrans_at a k x false true true f h g = grind arith
cotrans_at a k x false true false f h g = grind arith
cotrans_at a k x false false true f h g = absurd (let e : true ≡ false = f refl refl in cc)
cotrans_at a k x false false false f h g = grind arith

-- what isn't behind one that is before isn't before what isn't behind the latter
is_before_trans : (f g h : DdsFault) → is_before f g ≡ true → is_before f h ≡ false → is_before g h ≡ false
is_before_trans f g h = trans_at f.line g.line h.line _ _ _ (trans_at f.column g.column h.column _ _ _ (below_trans (rank f.cause) (rank g.cause) (rank h.cause)))

is_before_cotrans : (f g h : DdsFault) → is_before f g ≡ false → is_before g h ≡ false → is_before f h ≡ false
is_before_cotrans f g h = cotrans_at f.line g.line h.line _ _ _ (cotrans_at f.column g.column h.column _ _ _ (below_cotrans (rank f.cause) (rank g.cause) (rank h.cause)))

is_before_self : (f : DdsFault) → is_before f f ≡ false
is_before_self f = grind arith

abbrev NoneBefore : List DdsFault → DdsFault → Type 0
NoneBefore [] fault = Unit {0}
NoneBefore (f ∷ fs) fault = (is_before f fault ≡ false) × NoneBefore fs fault

abbrev IsListed : List DdsFault → DdsFault → Type 0
IsListed [] fault = ⊥
IsListed (f ∷ fs) fault = (f ≡ fault) ⊎ IsListed fs fault

-- the first of a fault and more is one of them, and none is before it
first_of : (best : DdsFault) (fs : List DdsFault) (fault : DdsFault) → first_after (Some best) fs ≡ Some fault → IsListed (best ∷ fs) fault × NoneBefore (best ∷ fs) fault
first_of best [] fault h =
    let e : best ≡ fault = cc in
    (inl e, (subst (λ (f : DdsFault). is_before best f ≡ false) e (is_before_self best), tt))
first_of best (f ∷ fs) fault h = elim (cases_Bool (is_before f best)) [
  | inl b ↦
      let rest = first_of f fs fault (rw b at h) in
      (inr rest.0, (is_before_trans f best fault b rest.1.0, rest.1))
  | inr b ↦
      let rest = first_of best fs fault (rw b at h) in
      (elim rest.0 [ inl e ↦ inl e | inr l ↦ inr (inr l) ], (rest.1.0, (is_before_cotrans f best fault b rest.1.0, rest.1.1)))
]

contains_listed : (fs : List DdsFault) (fault : DdsFault) → IsListed fs fault → Contains fs fault
contains_listed [] fault h = absurd h
contains_listed (f ∷ fs) fault (inl e) = (0, omega arith, e)
contains_listed (f ∷ fs) fault (inr l) = let c = contains_listed fs fault l in (suc c.0, omega (arith, c.1), c.2)

all_none : (fs : List DdsFault) (fault : DdsFault) → NoneBefore fs fault → (k : ℕ) (d : DdsFault) → k < length fs → is_before (get_or fs k d) fault ≡ false
all_none [] fault h k d lt = absurd (omega arith)
all_none (f ∷ fs) fault h zero d lt = h.0
all_none (f ∷ fs) fault h (suc k) d lt = all_none fs fault h.1 k d (omega arith)

pub is_first : (fs : List DdsFault) (fault : DdsFault) → first_after None fs ≡ Some fault → IsFirst fs fault
is_first [] fault h = absurd (cc)
is_first (f ∷ fs) fault h =
    let first = first_of f fs fault h in
    record { listed = contains_listed (f ∷ fs) fault first.0; none_before = all_none (f ∷ fs) fault first.1 }

-- What was answered, in other words.

no_faults : (spec wanted : PhysicalSpec) (first : Option DdsFault) → specification_unless wanted first ≡ Ok spec → (first ≡ None) × (spec ≡ wanted)
no_faults spec wanted None h = (refl, cc)
no_faults spec wanted (Some f) h = absurd (cc)

a_fault : (wanted : PhysicalSpec) (first : Option DdsFault) (fault : DdsFault) → specification_unless wanted first ≡ Err fault → first ≡ Some fault
a_fault wanted None fault h = absurd (cc)
a_fault wanted (Some f) fault h = cc

pub found_is : (formats : List ℕ → Option Format) (source : Source) (result : Result PhysicalSpec PhysicalError) → Gives result (physical_of formats source)
    → IfOk result (λ spec. (faults_of formats source ≡ []) × (spec ≡ specification formats source))
unfolding physical_of
found_is formats source (Ok spec) h = let parts = no_faults spec (specification formats source) (first_after None (faults_of formats source)) h in (nothing_noted None (faults_of formats source) parts.0, parts.1)
found_is formats source (Err e) h = tt

pub first_is : (formats : List ℕ → Option Format) (source : Source) (result : Result PhysicalSpec PhysicalError) → Gives result (physical_of formats source) → IfErr result (ReportsFirst (faults_of formats source))
unfolding physical_of
first_is formats source (Ok spec) h = tt
first_is formats source (Err errors.NoMemory) h = tt
first_is formats source (Err (errors.Fault fault)) h = is_first (faults_of formats source) fault (a_fault (specification formats source) (first_after None (faults_of formats source)) fault h)
