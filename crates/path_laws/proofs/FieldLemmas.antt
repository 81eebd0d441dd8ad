-- Equal types, values and fields are what the tests say that they are.
-- A test that can't be named here is reached through one that can: by what holds it, the rest of which is the same.
use Rattle.std.proofs.Common.{◌≡◌, refl, ap, ℤ, pos, negsuc, Bool, true, ◌&&◌, ◌==◌, List, [], ◌∷◌}
use Rattle.std.specs.Cmp.{first_so, second_so}
use Rattle.std.proofs.lemmas.Bool.{false≢true}
use Rattle.std.proofs.lemmas.Slice.Eq.{bytes_eq-Decides}
use Rattle.field_types.specs.declared.kinds.Kind.{Kind}
use Rattle.field_types.specs.declared.kinds.Kind.TheVariants.{Char, Zoned, Packed, Binary, Date, Time, Stamp}
use Rattle.field_types.specs.declared.kinds.FieldType.{FieldType}
use Rattle.field_types.specs.declared.values.Value.{Value}
use Rattle.field_types.specs.declared.values.Value.TheVariants.{Chars, Number}
use Rattle.file_model.specs.declared.views.Piece.{Piece}
use Rattle.file_model.specs.declared.views.FieldSource.{FieldSource}
use Rattle.file_model.specs.declared.views.FieldSource.TheVariants.{Copied, Converted, Concatenated, Substring}
use Rattle.file_model.specs.declared.views.ViewField.{ViewField}
use Rattle.logical_model.specs.SamePaths.{same_type, same_value, same_field}
use Rattle.path_laws.proofs.TestLemmas.{with-one, with-two, but-one, but-two, number-told, number-own}

-- ---- types

abbrev of_kind : Kind → FieldType
of_kind kind = record { kind = kind; length = 0; decimals = 0 }

kind-told : (kind other : Kind) → same_type (of_kind kind) (of_kind other) ≡ true → kind ≡ other
kind-told Char Char same = refl
kind-told Char Zoned same = absurd (false≢true same)
kind-told Char Packed same = absurd (false≢true same)
kind-told Char Binary same = absurd (false≢true same)
kind-told Char Date same = absurd (false≢true same)
kind-told Char Time same = absurd (false≢true same)
kind-told Char Stamp same = absurd (false≢true same)
kind-told Zoned Char same = absurd (false≢true same)
kind-told Zoned Zoned same = refl
kind-told Zoned Packed same = absurd (false≢true same)
kind-told Zoned Binary same = absurd (false≢true same)
kind-told Zoned Date same = absurd (false≢true same)
kind-told Zoned Time same = absurd (false≢true same)
kind-told Zoned Stamp same = absurd (false≢true same)
kind-told Packed Char same = absurd (false≢true same)
kind-told Packed Zoned same = absurd (false≢true same)
kind-told Packed Packed same = refl
kind-told Packed Binary same = absurd (false≢true same)
kind-told Packed Date same = absurd (false≢true same)
kind-told Packed Time same = absurd (false≢true same)
kind-told Packed Stamp same = absurd (false≢true same)
kind-told Binary Char same = absurd (false≢true same)
kind-told Binary Zoned same = absurd (false≢true same)
kind-told Binary Packed same = absurd (false≢true same)
kind-told Binary Binary same = refl
kind-told Binary Date same = absurd (false≢true same)
kind-told Binary Time same = absurd (false≢true same)
kind-told Binary Stamp same = absurd (false≢true same)
kind-told Date Char same = absurd (false≢true same)
kind-told Date Zoned same = absurd (false≢true same)
kind-told Date Packed same = absurd (false≢true same)
kind-told Date Binary same = absurd (false≢true same)
kind-told Date Date same = refl
kind-told Date Time same = absurd (false≢true same)
kind-told Date Stamp same = absurd (false≢true same)
kind-told Time Char same = absurd (false≢true same)
kind-told Time Zoned same = absurd (false≢true same)
kind-told Time Packed same = absurd (false≢true same)
kind-told Time Binary same = absurd (false≢true same)
kind-told Time Date same = absurd (false≢true same)
kind-told Time Time same = refl
kind-told Time Stamp same = absurd (false≢true same)
kind-told Stamp Char same = absurd (false≢true same)
kind-told Stamp Zoned same = absurd (false≢true same)
kind-told Stamp Packed same = absurd (false≢true same)
kind-told Stamp Binary same = absurd (false≢true same)
kind-told Stamp Date same = absurd (false≢true same)
kind-told Stamp Time same = absurd (false≢true same)
kind-told Stamp Stamp same = refl

kind-own : (kind : Kind) → same_type (of_kind kind) (of_kind kind) ≡ true
kind-own Char = refl
kind-own Zoned = refl
kind-own Packed = refl
kind-own Binary = refl
kind-own Date = refl
kind-own Time = refl
kind-own Stamp = refl

pub type-told : (t u : FieldType) → same_type t u ≡ true → t ≡ u
type-told t u same =
    let front = first_so _ (t.decimals == u.decimals) same in
    let named = with-two (first_so _ (t.length == u.length) front) in
    let kinds = kind-told t.kind u.kind named in
    let lengths = number-told t.length u.length (second_so _ (t.length == u.length) front) in
    let decimals = number-told t.decimals u.decimals (second_so _ (t.decimals == u.decimals) same) in
    λ i. record { kind = kinds i; length = lengths i; decimals = decimals i }

pub type-own : (t : FieldType) → same_type t t ≡ true
type-own t = let kinds = but-two (kind-own t.kind) in λ i. (kinds i && number-own t.length i) && number-own t.decimals i

-- ---- values

abbrev whole : ℤ → Value
whole units = Number (record { units = units; scale = 0 })

units-told : (a b : ℤ) → same_value (whole a) (whole b) ≡ true → a ≡ b
units-told (pos n) (pos k) same = ap pos (number-told n k (first_so (n == k) true same))
units-told (negsuc n) (negsuc k) same = ap negsuc (number-told n k (first_so (n == k) true same))
units-told (pos n) (negsuc k) same = absurd (false≢true same)
units-told (negsuc n) (pos k) same = absurd (false≢true same)

units-own : (a : ℤ) → same_value (whole a) (whole a) ≡ true
units-own (pos n) = with-one (number-own n)
units-own (negsuc n) = with-one (number-own n)

pub value-told : (v w : Value) → same_value v w ≡ true → v ≡ w
value-told (Chars text) (Chars other) same = ap Chars ((bytes_eq-Decides text other).0 same)
value-told (Number n) (Number k) same =
    let alone = with-one (first_so _ (n.scale == k.scale) same) in
    let units = units-told n.units k.units alone in
    let scales = number-told n.scale k.scale (second_so _ (n.scale == k.scale) same) in
    λ i. Number (record { units = units i; scale = scales i })
value-told (Chars text) (Number k) same = absurd (false≢true same)
value-told (Number n) (Chars other) same = absurd (false≢true same)

pub value-own : (v : Value) → same_value v v ≡ true
value-own (Chars text) = (bytes_eq-Decides text text).1 refl
value-own (Number n) = let units = but-one (units-own n.units) in λ i. units i && number-own n.scale i

-- ---- fields

-- a field that shows this
abbrev pub showing : FieldSource → ViewField
showing source = record { ty = of_kind Char; source = source }

abbrev are_alike : FieldSource → FieldSource → Bool
are_alike source other = same_field (showing source) (showing other)

piece-told : (p q : Piece) → are_alike (Substring p) (Substring q) ≡ true → p ≡ q
piece-told p q same =
    let offsets = number-told p.offset q.offset (first_so (p.offset == q.offset) (p.length == q.length) same) in
    let lengths = number-told p.length q.length (second_so (p.offset == q.offset) (p.length == q.length) same) in
    λ i. record { offset = offsets i; length = lengths i }

piece-own : (p : Piece) → are_alike (Substring p) (Substring p) ≡ true
piece-own p = λ i. number-own p.offset i && number-own p.length i

pieces-told : (ps qs : List Piece) → are_alike (Concatenated ps) (Concatenated qs) ≡ true → ps ≡ qs
pieces-told [] [] same = refl
pieces-told [] (q ∷ qs) same = absurd (false≢true same)
pieces-told (p ∷ ps) [] same = absurd (false≢true same)
pieces-told (p ∷ ps) (q ∷ qs) same =
    let here = piece-told p q (first_so (are_alike (Substring p) (Substring q)) (are_alike (Concatenated ps) (Concatenated qs)) same) in
    let rest = pieces-told ps qs (second_so (are_alike (Substring p) (Substring q)) (are_alike (Concatenated ps) (Concatenated qs)) same) in
    λ i. here i ∷ rest i

pieces-own : (ps : List Piece) → are_alike (Concatenated ps) (Concatenated ps) ≡ true
pieces-own [] = refl
pieces-own (p ∷ ps) = λ i. piece-own p i && pieces-own ps i

source-told : (s t : FieldSource) → are_alike s t ≡ true → s ≡ t
source-told (Copied at) (Copied offset) same = ap Copied (number-told at offset same)
source-told (Converted t at) (Converted u offset) same =
    let types = type-told t u (first_so (same_type t u) (at == offset) same) in
    let offsets = number-told at offset (second_so (same_type t u) (at == offset) same) in
    λ i. Converted (types i) (offsets i)
source-told (Concatenated ps) (Concatenated qs) same = ap Concatenated (pieces-told ps qs same)
source-told (Substring p) (Substring q) same = ap Substring (piece-told p q same)
source-told (Copied at) (Converted u offset) same = absurd (false≢true same)
source-told (Copied at) (Concatenated qs) same = absurd (false≢true same)
source-told (Copied at) (Substring q) same = absurd (false≢true same)
source-told (Converted t at) (Copied offset) same = absurd (false≢true same)
source-told (Converted t at) (Concatenated qs) same = absurd (false≢true same)
source-told (Converted t at) (Substring q) same = absurd (false≢true same)
source-told (Concatenated ps) (Copied offset) same = absurd (false≢true same)
source-told (Concatenated ps) (Converted u offset) same = absurd (false≢true same)
source-told (Concatenated ps) (Substring q) same = absurd (false≢true same)
source-told (Substring p) (Copied offset) same = absurd (false≢true same)
source-told (Substring p) (Converted u offset) same = absurd (false≢true same)
source-told (Substring p) (Concatenated qs) same = absurd (false≢true same)

source-own : (s : FieldSource) → are_alike s s ≡ true
source-own (Copied at) = number-own at
source-own (Converted t at) = λ i. type-own t i && number-own at i
source-own (Concatenated ps) = pieces-own ps
source-own (Substring p) = piece-own p

pub field-told : (f g : ViewField) → same_field f g ≡ true → f ≡ g
field-told f g same =
    let types = type-told f.ty g.ty (first_so (same_type f.ty g.ty) _ same) in
    let sources = source-told f.source g.source (second_so (same_type f.ty g.ty) _ same) in
    λ i. record { ty = types i; source = sources i }

pub field-own : (f : ViewField) → same_field f f ≡ true
field-own f = λ i. type-own f.ty i && source-own f.source i
