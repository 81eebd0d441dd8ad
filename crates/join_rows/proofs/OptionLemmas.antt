-- What follows of a test that fails and passes, and of options that are equal.
use Rattle.std.proofs.Common.{◌≡◌, true, false, Option, Some, None}

pub none-some : {A B : Type 0} (x : A) → None ≡ Some x → B
none-some {A = A} x h = absurd (let e : ◌≡◌ {A = Option A} None (Some x) = h in cc)

pub some-none : {A B : Type 0} (x : A) → Some x ≡ None → B
some-none {A = A} x h = absurd (let e : ◌≡◌ {A = Option A} (Some x) None = h in cc)

pub some-same : {A : Type 0} (x y : A) → Some x ≡ Some y → x ≡ y
some-same {A = A} x y h = let e : ◌≡◌ {A = Option A} (Some x) (Some y) = h in cc

pub true-false : {A : Type 0} → true ≡ false → A
true-false h = absurd (let e : true ≡ false = h in cc)
