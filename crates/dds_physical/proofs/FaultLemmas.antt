-- The first of the faults that are noted one after another.
use Rattle.std.proofs.Common.{◌≡◌, ◌∙◌, ◌<◌, sym, ap, length, get_or, drop, Bool, true, false, List, [], ◌∷◌, ◌++◌, Option, Some, None, refl, arith}
use Rattle.dds_source.specs.declared.faults.DdsFault.{DdsFault}
use Rattle.dds_source.specs.Entries.{when}
use Rattle.dds_source.specs.Faults.{first_after, earlier}

-- faults may be noted in two parts
pub first_after_append : (best : Option DdsFault) (fs gs : List DdsFault) → first_after best (fs ++ gs) ≡ first_after (first_after best fs) gs
first_after_append best [] gs = refl
first_after_append best (f ∷ fs) gs = first_after_append (Some (earlier best f)) fs gs

first_some : (f : DdsFault) (fs : List DdsFault) → (g : DdsFault) × (first_after (Some f) fs ≡ Some g)
first_some f [] = (f, refl)
first_some f (g ∷ fs) = first_some (earlier (Some f) g) fs

-- where no fault was noted, none was noted before, and there was none to note
pub clear_before : (best : Option DdsFault) (fs : List DdsFault) → first_after best fs ≡ None → best ≡ None
clear_before None fs h = refl
clear_before (Some f) fs h = absurd (let s = first_some f fs in let e = s.1 in cc)

pub nothing_noted : (best : Option DdsFault) (fs : List DdsFault) → first_after best fs ≡ None → fs ≡ []
nothing_noted best [] h = refl
nothing_noted best (f ∷ fs) h = absurd (let s = first_some (earlier best f) fs in let e = s.1 in cc)

pub not_wrong : (best : Option DdsFault) (wrong : Bool) (f : DdsFault) → first_after best (when wrong f) ≡ None → wrong ≡ false
not_wrong best true f h = absurd (let s = first_some (earlier best f) [] in let e = s.1 in cc)
not_wrong best false f h = refl

-- The first of a list, and those behind it.

pub cons-parts : {A : Type 0} (xs : List A) (x : A) (more : List A) → 0 < length xs → x ≡ get_or xs 0 x → more ≡ drop 1 xs → x ∷ more ≡ xs
cons-parts [] x more some is rest = absurd (omega arith)
cons-parts {A} (y ∷ ys) x more some is rest = ap (λ (z : A). z ∷ more) is ∙ ap (λ (zs : List A). y ∷ zs) rest

-- the faults of the first were noted, and those of the others are left
pub noted-first : (best new total : Option DdsFault) (here rest all : List DdsFault) → new ≡ first_after best here → here ++ rest ≡ all → first_after best all ≡ total → first_after new rest ≡ total
noted-first best new total here rest all noted parts whole =
    ap (λ (b : Option DdsFault). first_after b rest) noted ∙ sym (first_after_append best here rest) ∙ ap (λ (fs : List DdsFault). first_after best fs) parts ∙ whole
