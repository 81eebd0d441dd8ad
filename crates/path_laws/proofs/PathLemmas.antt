-- Equal key positions, formats and specifications of paths are what the tests of them say that they are.
use Rattle.std.proofs.Common.{◌≡◌, refl, sym, ap, subst, Bool, true, false, ◌&&◌, ◌==◌, []}
use Rattle.std.specs.Bool.{Decides}
use Rattle.std.specs.Cmp.{first_so, second_so}
use Rattle.std.specs.Cmp.Lexicographic.{pointwise}
use Rattle.std.proofs.lemmas.Bool.{false≢true}
use Rattle.std.proofs.lemmas.Bool.Decides.{same_from_decides}
use Rattle.field_types.specs.declared.kinds.Kind.TheVariants.{Char}
use Rattle.field_types.specs.declared.kinds.FieldType.{FieldType}
use Rattle.key_spec.specs.declared.KeyPart.{KeyPart}
use Rattle.key_spec.specs.declared.KeyPart.TheVariants.{Field, Absent}
use Rattle.key_spec.specs.declared.Ties.{Ties}
use Rattle.key_spec.specs.declared.Ties.TheVariants.{Rising, Falling}
use Rattle.member_slots.specs.Members.{NumberedMembers}
use Rattle.file_model.specs.declared.paths.PathFormat.{PathFormat}
use Rattle.file_model.specs.declared.paths.PathSpec.{PathSpec}
use Rattle.file_model.specs.Paths.{path}
use Rattle.logical_model.specs.SamePaths.{same_type, same_field, same_rules, same_part, same_format, same_path}
use Rattle.path_laws.proofs.TestLemmas.{number-told, number-own, list-told, list-own}
use Rattle.path_laws.proofs.FieldLemmas.{type-told, type-own, field-told, field-own}
use Rattle.path_laws.proofs.RuleLemmas.{rules-told, rules-own}

-- ---- key positions

abbrev short : FieldType
short = record { kind = Char; length = 0; decimals = 0 }

abbrev flagged : Bool → KeyPart
flagged flag = Field short 0 false flag

flag-told : (a b : Bool) → same_part (flagged a) (flagged b) ≡ true → a ≡ b
flag-told true true same = refl
flag-told true false same = absurd (false≢true same)
flag-told false true same = absurd (false≢true same)
flag-told false false same = refl

flag-own : (a : Bool) → same_part (flagged a) (flagged a) ≡ true
flag-own true = refl
flag-own false = refl

part-told : (p q : KeyPart) → same_part p q ≡ true → p ≡ q
part-told (Field t at descend absval) (Field u offset other_descend other_absval) same =
    let front = first_so _ _ same in
    let place = first_so _ _ front in
    let types = type-told t u (first_so (same_type t u) (at == offset) place) in
    let offsets = number-told at offset (second_so (same_type t u) (at == offset) place) in
    let by_descend = second_so _ _ front in
    let by_absval = second_so _ _ same in
    let descends = flag-told descend other_descend by_descend in
    let absvals = flag-told absval other_absval by_absval in
    λ i. Field (types i) (offsets i) (descends i) (absvals i)
part-told Absent Absent same = refl
part-told (Field t at descend absval) Absent same = absurd (false≢true same)
part-told Absent (Field u offset descend absval) same = absurd (false≢true same)

part-own : (p : KeyPart) → same_part p p ≡ true
part-own (Field t at descend absval) = λ i. ((type-own t i && number-own at i) && flag-own descend i) && flag-own absval i
part-own Absent = refl

-- ---- formats

pub format-told : (f g : PathFormat) → same_format f g ≡ true → f ≡ g
format-told f g same =
    let front = first_so _ (pointwise same_part f.key g.key) same in
    let base = first_so _ (pointwise same_field f.fields g.fields) front in
    let members = number-told f.member g.member (first_so (f.member == g.member) (same_rules f.rules g.rules) base) in
    let rules = rules-told f.rules g.rules (second_so (f.member == g.member) (same_rules f.rules g.rules) base) in
    let fields = list-told same_field field-told f.fields g.fields (second_so _ (pointwise same_field f.fields g.fields) front) in
    let keys = list-told same_part part-told f.key g.key (second_so _ (pointwise same_part f.key g.key) same) in
    λ i. record { member = members i; rules = rules i; fields = fields i; key = keys i }

pub format-own : (f : PathFormat) → same_format f f ≡ true
format-own f =
    let fields = list-own same_field field-own f.fields in
    let keys = list-own same_part part-own f.key in
    λ i. ((number-own f.member i && rules-own f.rules i) && fields i) && keys i

-- ---- specifications

abbrev tied : Ties → PathSpec
tied ties = record { formats = []; unique = false; ties = ties }

ties-told : (a b : Ties) → same_path (tied a) (tied b) ≡ true → a ≡ b
ties-told Rising Rising same = refl
ties-told Rising Falling same = absurd (false≢true same)
ties-told Falling Rising same = absurd (false≢true same)
ties-told Falling Falling same = refl

ties-own : (a : Ties) → same_path (tied a) (tied a) ≡ true
ties-own Rising = refl
ties-own Falling = refl

-- the test tells equality
pub path-told : (p q : PathSpec) → same_path p q ≡ true → p ≡ q
path-told p q same =
    let front = first_so _ _ same in
    let formats = list-told same_format format-told p.formats q.formats (first_so (pointwise same_format p.formats q.formats) _ front) in
    let by_flag = second_so (pointwise same_format p.formats q.formats) _ front in
    let by_ties = second_so _ _ same in
    let flags = flag-told p.unique q.unique by_flag in
    let orders = ties-told p.ties q.ties by_ties in
    λ i. record { formats = formats i; unique = flags i; ties = orders i }

pub path-own : (p : PathSpec) → same_path p p ≡ true
path-own p = let formats = list-own same_format format-own p.formats in λ i. (formats i && flag-own p.unique i) && ties-own p.ties i

pub path-decides : (p q : PathSpec) → Decides (same_path p q) (p ≡ q)
path-decides p q = (path-told p q, λ e. subst (λ (other : PathSpec). same_path p other ≡ true) e (path-own p))

pub path-either_way : (p q : PathSpec) → same_path p q ≡ same_path q p
path-either_way p q =
    same_from_decides (same_path p q) (same_path q p) (path-decides p q) (λ same. sym (path-told q p same), λ e. (path-decides q p).1 (sym e))

pub one-path : (p q : PathSpec) (members : NumberedMembers) → same_path p q ≡ true → path p members ≡ path q members
one-path p q members same = ap (λ (spec : PathSpec). path spec members) (path-told p q same)
