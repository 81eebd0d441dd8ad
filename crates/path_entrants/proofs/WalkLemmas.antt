-- A walk over the entries of a path, from one to the next.
use Rattle.std.proofs.Common.{◌≡◌, ℕ, Bool, Option, Some, None, List, [], ◌∷◌, min, refl, sym, ◌∙◌, ap, arith}
use Rattle.std.specs.Prelude.{filter}
use Rattle.key_pages.specs.declared.entries.Entry.{Entry}
use Rattle.key_pages.specs.declared.positions.Position.{Position}
use Rattle.key_pages.specs.declared.positions.Position.TheVariants.{Start}
use Rattle.key_pages.specs.Order.{IsInOrder}
use Rattle.key_pages.specs.Position.{is_past, next_entry, IsOn}
use Rattle.access_path.specs.Clash.{lesser}
use Rattle.access_path.proofs.ClashLemmas.{side-on, past-step, past-none, lesser-none}
use Rattle.path_entrants.specs.Repeated.{repeated_number, least_repeated}

lesser-assoc : (a b c : Option ℕ) → lesser (lesser a b) c ≡ lesser a (lesser b c)
lesser-assoc None b c = refl
lesser-assoc (Some n) None c = refl
lesser-assoc (Some n) (Some m) None = refl
lesser-assoc (Some n) (Some m) (Some k) = ap (λ (i : ℕ). Some i) (let e : min (min n m) k ≡ min n (min m k) = omega arith in e)

-- every entry is past the start
pub walk-begins : (falling : Bool) (entries some : List Entry) → least_repeated entries (filter (is_past falling Start) some) ≡ least_repeated entries some
walk-begins falling entries [] = refl
walk-begins falling entries (x ∷ some) = ap (lesser (repeated_number entries x)) (walk-begins falling entries some)

-- the next entry, and those past it
pub walk-rest : (falling : Bool) (from on : Position) (e : Entry) (xs : List Entry) → IsInOrder falling xs → IsOn on e → Some e ≡ next_entry falling from xs
    → filter (is_past falling from) xs ≡ e ∷ filter (is_past falling on) xs
walk-rest falling from on e xs sorted is next = past-step falling from on e xs sorted (λ x. side-on falling on e x is) (sym next)

-- the number of the next entry, where another record has its key
pub walk-next : (falling : Bool) (from on : Position) (e : Entry) (xs : List Entry) (least more : Option ℕ) → IsInOrder falling xs → IsOn on e → Some e ≡ next_entry falling from xs
    → more ≡ lesser least (repeated_number xs e)
    → lesser more (least_repeated xs (filter (is_past falling on) xs)) ≡ lesser least (least_repeated xs (filter (is_past falling from) xs))
walk-next falling from on e xs least more sorted is next new =
    ap (λ (o : Option ℕ). lesser o (least_repeated xs (filter (is_past falling on) xs))) new
    ∙ lesser-assoc least (repeated_number xs e) (least_repeated xs (filter (is_past falling on) xs))
    ∙ ap (λ (w : List Entry). lesser least (least_repeated xs w)) (sym (walk-rest falling from on e xs sorted is next))

-- at the end nothing is left
pub walk-ends : (falling : Bool) (from : Position) (xs : List Entry) (least : Option ℕ) → None ≡ next_entry falling from xs
    → lesser least (least_repeated xs (filter (is_past falling from) xs)) ≡ least
walk-ends falling from xs least none = ap (λ (w : List Entry). lesser least (least_repeated xs w)) (past-none (is_past falling from) xs (sym none)) ∙ lesser-none least
