-- What is asked of each member under a logical file.
use Rattle.std.proofs.Common.{◌≡◌, ◌∙◌, ◌≤◌, ◌||◌, ◌++◌, ℕ, zero, suc, Bool, Option, Some, List, [], ◌∷◌, length, take, drop, slice_get, map, ap, sym, arith}
use Rattle.std.specs.List.{list_any}
use Rattle.std.proofs.lemmas.List.{drop_all, length-map, take_all}
use Rattle.library_steps.below.dds_logical.specs.declared.views.View.{View}
use Rattle.library_steps.below.dds_logical.specs.declared.views.LogicalSpec.{LogicalSpec}
use Rattle.library_steps.below.dds_logical.specs.declared.views.LogicalSpec.TheVariants.{Simple, Multi}
use Rattle.library_steps.specs.Bases.{Bases, base_members, base_names}
use Rattle.library_steps.below.dds_logical.specs.declared.join_views.JoinedFile.{JoinedFile}

take-suc : {X : Type 0} (xs : List X) (n : ℕ) (x : X) → slice_get xs n ≡ Some x → take (suc n) xs ≡ take n xs ++ x ∷ []
take-suc {X = X} [] n x at = absurd cc
take-suc {X = X} (y ∷ xs) zero x at = let same : y ≡ x = cc in ap (λ (z : X). z ∷ []) same
take-suc {X = X} (y ∷ xs) (suc n) x at = ap (λ (zs : List X). y ∷ zs) (take-suc xs n x at)

drop-suc : {X : Type 0} (xs : List X) (n : ℕ) (x : X) → slice_get xs n ≡ Some x → drop n xs ≡ x ∷ drop (suc n) xs
drop-suc {X = X} [] n x at = absurd cc
drop-suc {X = X} (y ∷ xs) zero x at = let same : y ≡ x = cc in ap (λ (z : X). z ∷ xs) same
drop-suc {X = X} (y ∷ xs) (suc n) x at = drop-suc xs n x at

pub take-next : {X : Type 0} (xs : List X) (n next : ℕ) (x : X) → next ≡ suc n → slice_get xs n ≡ Some x → take next xs ≡ take n xs ++ x ∷ []
take-next xs n next x is at = ap (λ (k : ℕ). take k xs) is ∙ take-suc xs n x at

pub drop-next : {X : Type 0} (xs : List X) (n next : ℕ) (x : X) → next ≡ suc n → slice_get xs n ≡ Some x → drop n xs ≡ x ∷ drop next xs
drop-next xs n next x is at = drop-suc xs n x at ∙ sym (ap (λ (k : ℕ). x ∷ drop k xs) is)

count : (bases : Bases) (view : LogicalSpec) → length (base_members bases view) ≡ length (base_names view)
count bases view = length-map (base_names view) (λ (name : List ℕ). (bases name).member)

-- all of them, and none
pub all-taken : (bases : Bases) (view : LogicalSpec) (n : ℕ) → length (base_names view) ≤ n → take n (base_members bases view) ≡ base_members bases view
all-taken bases view n past = take_all n (base_members bases view) (omega (arith, past, count bases view))

pub all-dropped : (bases : Bases) (view : LogicalSpec) (n : ℕ) → length (base_names view) ≤ n → drop n (base_members bases view) ≡ []
all-dropped bases view n past = drop_all n (base_members bases view) (omega (arith, past, count bases view))

-- the member under a format
mapped-at : {X Y : Type 0} (f : X → Y) (xs : List X) (n : ℕ) (x : X) → slice_get xs n ≡ Some x → slice_get (map f xs) n ≡ Some (f x)
mapped-at {X = X} f [] n x at = absurd cc
mapped-at {X = X} f (y ∷ xs) zero x at = let same : y ≡ x = cc in ap (λ (z : X). Some (f z)) same
mapped-at {X = X} f (y ∷ xs) (suc n) x at = mapped-at f xs n x at

pub first-under : (bases : Bases) (view : View) (place member : ℕ) → place ≡ 0 → member ≡ (bases view.base).member → slice_get (base_members bases (Simple view)) place ≡ Some member
first-under bases view place member first is = ap (slice_get (base_members bases (Simple view))) first ∙ ap Some (sym is)

pub each-under : (bases : Bases) (views : List View) (place member : ℕ) (view : View) → slice_get views place ≡ Some view → member ≡ (bases view.base).member
    → slice_get (base_members bases (Multi views)) place ≡ Some member
each-under bases views place member view at is =
    mapped-at (λ (name : List ℕ). (bases name).member) (map (λ (v : View). v.base) views) place view.base (mapped-at (λ (v : View). v.base) views place view at) ∙ ap Some (sym is)

pub each-joined : (bases : Bases) (files : List JoinedFile) (place member : ℕ) (joined : JoinedFile) → slice_get files place ≡ Some joined → member ≡ (bases joined.file).member
    → slice_get (map (λ (name : List ℕ). (bases name).member) (map (λ (j : JoinedFile). j.file) files)) place ≡ Some member
each-joined bases files place member joined at is =
    mapped-at (λ (name : List ℕ). (bases name).member) (map (λ (j : JoinedFile). j.file) files) place joined.file (mapped-at (λ (j : JoinedFile). j.file) files place joined at) ∙ ap Some (sym is)

-- one more that is asked
pub any-more : (p : ℕ → Bool) (members : List ℕ) (n next member : ℕ) (here so_far : Bool) → next ≡ suc n → slice_get members n ≡ Some member → here ≡ p member → so_far ≡ list_any p (drop next members)
    → here || so_far ≡ list_any p (drop n members)
any-more p members n next member here so_far is at first rest =
    ap (λ (b : Bool). b || so_far) first ∙ ap (λ (b : Bool). p member || b) rest ∙ sym (ap (list_any p) (drop-next members n next member is at))

pub least-more : (least : List ℕ → Option ℕ) (lesser : Option ℕ → Option ℕ → Option ℕ) (of : ℕ → Option ℕ) (members : List ℕ) (n next member : ℕ) (its so_far all : Option ℕ)
    → ((first : ℕ) (more : List ℕ) → least (first ∷ more) ≡ lesser (of first) (least more))
    → next ≡ suc n → slice_get members n ≡ Some member → its ≡ of member → so_far ≡ least (drop next members) → all ≡ lesser its so_far → all ≡ least (drop n members)
least-more least lesser of members n next member its so_far all joins is at here rest made =
    made
    ∙ ap (λ (o : Option ℕ). lesser o so_far) here
    ∙ ap (lesser (of member)) rest
    ∙ sym (joins member (drop next members))
    ∙ sym (ap least (drop-next members n next member is at))
