-- Equal tests, statements and rules are what the tests of them say that they are.
use Rattle.std.proofs.Common.{◌≡◌, refl, ap, true, ◌&&◌, List, [], ◌∷◌, Option, Some, None}
use Rattle.std.specs.Cmp.{first_so, second_so}
use Rattle.std.specs.Cmp.Lexicographic.{pointwise}
use Rattle.std.proofs.lemmas.Bool.{false≢true}
use Rattle.field_types.specs.declared.values.Value.{Value}
use Rattle.file_model.specs.declared.views.ViewField.{ViewField}
use Rattle.file_model.specs.declared.views.FieldSource.TheVariants.{Copied}
use Rattle.file_model.specs.declared.rules.Relation.{Relation}
use Rattle.file_model.specs.declared.rules.Relation.TheVariants.{Equals, Differs, Below, AtMost, Above, AtLeast}
use Rattle.file_model.specs.declared.rules.Test.{Test}
use Rattle.file_model.specs.declared.rules.Test.TheVariants as tests
use Rattle.file_model.specs.declared.rules.Condition.{Condition}
use Rattle.file_model.specs.declared.rules.Choice.{Choice}
use Rattle.file_model.specs.declared.rules.Choice.TheVariants.{Select, Omit}
use Rattle.file_model.specs.declared.rules.Statement.{Statement}
use Rattle.file_model.specs.declared.rules.Rules.{Rules}
use Rattle.logical_model.specs.SamePaths.{same_value, same_field, same_rules}
use Rattle.path_laws.proofs.TestLemmas.{with-one, with-two, with-three, but-one, but-two, but-three, list-told, list-own}
use Rattle.path_laws.proofs.FieldLemmas.{showing, value-told, value-own, field-told, field-own}

-- ---- rules that hold one thing

abbrev stating : List Statement → Rules
stating statements = record { statements = statements; all = None }

abbrev selecting : List Condition → Statement
selecting conditions = record { choice = Select; conditions = conditions }

abbrev holding : List Condition → Rules
holding conditions = stating (selecting conditions ∷ [])

abbrev asking : Test → Condition
asking test = record { field = showing (Copied 0); test = test }

abbrev testing : Test → Rules
testing test = holding (asking test ∷ [])

abbrev ending : Option Choice → Rules
ending all = record { statements = []; all = all }

-- ---- tests

literal-told : (r q : Relation) (v w : Value) → same_rules (testing (tests.Literal r v)) (testing (tests.Literal q w)) ≡ true → (r ≡ q) × (v ≡ w)
literal-told Equals Equals v w same = (refl, value-told v w (but-three (same_value v w) same))
literal-told Equals Differs v w same = absurd (false≢true same)
literal-told Equals Below v w same = absurd (false≢true same)
literal-told Equals AtMost v w same = absurd (false≢true same)
literal-told Equals Above v w same = absurd (false≢true same)
literal-told Equals AtLeast v w same = absurd (false≢true same)
literal-told Differs Equals v w same = absurd (false≢true same)
literal-told Differs Differs v w same = (refl, value-told v w (but-three (same_value v w) same))
literal-told Differs Below v w same = absurd (false≢true same)
literal-told Differs AtMost v w same = absurd (false≢true same)
literal-told Differs Above v w same = absurd (false≢true same)
literal-told Differs AtLeast v w same = absurd (false≢true same)
literal-told Below Equals v w same = absurd (false≢true same)
literal-told Below Differs v w same = absurd (false≢true same)
literal-told Below Below v w same = (refl, value-told v w (but-three (same_value v w) same))
literal-told Below AtMost v w same = absurd (false≢true same)
literal-told Below Above v w same = absurd (false≢true same)
literal-told Below AtLeast v w same = absurd (false≢true same)
literal-told AtMost Equals v w same = absurd (false≢true same)
literal-told AtMost Differs v w same = absurd (false≢true same)
literal-told AtMost Below v w same = absurd (false≢true same)
literal-told AtMost AtMost v w same = (refl, value-told v w (but-three (same_value v w) same))
literal-told AtMost Above v w same = absurd (false≢true same)
literal-told AtMost AtLeast v w same = absurd (false≢true same)
literal-told Above Equals v w same = absurd (false≢true same)
literal-told Above Differs v w same = absurd (false≢true same)
literal-told Above Below v w same = absurd (false≢true same)
literal-told Above AtMost v w same = absurd (false≢true same)
literal-told Above Above v w same = (refl, value-told v w (but-three (same_value v w) same))
literal-told Above AtLeast v w same = absurd (false≢true same)
literal-told AtLeast Equals v w same = absurd (false≢true same)
literal-told AtLeast Differs v w same = absurd (false≢true same)
literal-told AtLeast Below v w same = absurd (false≢true same)
literal-told AtLeast AtMost v w same = absurd (false≢true same)
literal-told AtLeast Above v w same = absurd (false≢true same)
literal-told AtLeast AtLeast v w same = (refl, value-told v w (but-three (same_value v w) same))

related-told : (r q : Relation) (f g : ViewField) → same_rules (testing (tests.Field r f)) (testing (tests.Field q g)) ≡ true → (r ≡ q) × (f ≡ g)
related-told Equals Equals f g same = (refl, field-told f g (but-three (same_field f g) same))
related-told Equals Differs f g same = absurd (false≢true same)
related-told Equals Below f g same = absurd (false≢true same)
related-told Equals AtMost f g same = absurd (false≢true same)
related-told Equals Above f g same = absurd (false≢true same)
related-told Equals AtLeast f g same = absurd (false≢true same)
related-told Differs Equals f g same = absurd (false≢true same)
related-told Differs Differs f g same = (refl, field-told f g (but-three (same_field f g) same))
related-told Differs Below f g same = absurd (false≢true same)
related-told Differs AtMost f g same = absurd (false≢true same)
related-told Differs Above f g same = absurd (false≢true same)
related-told Differs AtLeast f g same = absurd (false≢true same)
related-told Below Equals f g same = absurd (false≢true same)
related-told Below Differs f g same = absurd (false≢true same)
related-told Below Below f g same = (refl, field-told f g (but-three (same_field f g) same))
related-told Below AtMost f g same = absurd (false≢true same)
related-told Below Above f g same = absurd (false≢true same)
related-told Below AtLeast f g same = absurd (false≢true same)
related-told AtMost Equals f g same = absurd (false≢true same)
related-told AtMost Differs f g same = absurd (false≢true same)
related-told AtMost Below f g same = absurd (false≢true same)
related-told AtMost AtMost f g same = (refl, field-told f g (but-three (same_field f g) same))
related-told AtMost Above f g same = absurd (false≢true same)
related-told AtMost AtLeast f g same = absurd (false≢true same)
related-told Above Equals f g same = absurd (false≢true same)
related-told Above Differs f g same = absurd (false≢true same)
related-told Above Below f g same = absurd (false≢true same)
related-told Above AtMost f g same = absurd (false≢true same)
related-told Above Above f g same = (refl, field-told f g (but-three (same_field f g) same))
related-told Above AtLeast f g same = absurd (false≢true same)
related-told AtLeast Equals f g same = absurd (false≢true same)
related-told AtLeast Differs f g same = absurd (false≢true same)
related-told AtLeast Below f g same = absurd (false≢true same)
related-told AtLeast AtMost f g same = absurd (false≢true same)
related-told AtLeast Above f g same = absurd (false≢true same)
related-told AtLeast AtLeast f g same = (refl, field-told f g (but-three (same_field f g) same))

test-told : (t u : Test) → same_rules (testing t) (testing u) ≡ true → t ≡ u
test-told (tests.Literal r v) (tests.Literal q w) same = let both = literal-told r q v w same in λ i. tests.Literal (both.0 i) (both.1 i)
test-told (tests.Field r f) (tests.Field q g) same = let both = related-told r q f g same in λ i. tests.Field (both.0 i) (both.1 i)
test-told (tests.Range low high) (tests.Range least most) same =
    let both = but-three (same_value low least && same_value high most) same in
    let lows = value-told low least (first_so (same_value low least) (same_value high most) both) in
    let highs = value-told high most (second_so (same_value low least) (same_value high most) both) in
    λ i. tests.Range (lows i) (highs i)
test-told (tests.Values vs) (tests.Values ws) same = ap tests.Values (list-told same_value value-told vs ws (but-three (pointwise same_value vs ws) same))
test-told (tests.Literal r v) (tests.Field q g) same = absurd (false≢true same)
test-told (tests.Literal r v) (tests.Range least most) same = absurd (false≢true same)
test-told (tests.Literal r v) (tests.Values ws) same = absurd (false≢true same)
test-told (tests.Field r f) (tests.Literal q w) same = absurd (false≢true same)
test-told (tests.Field r f) (tests.Range least most) same = absurd (false≢true same)
test-told (tests.Field r f) (tests.Values ws) same = absurd (false≢true same)
test-told (tests.Range low high) (tests.Literal q w) same = absurd (false≢true same)
test-told (tests.Range low high) (tests.Field q g) same = absurd (false≢true same)
test-told (tests.Range low high) (tests.Values ws) same = absurd (false≢true same)
test-told (tests.Values vs) (tests.Literal q w) same = absurd (false≢true same)
test-told (tests.Values vs) (tests.Field q g) same = absurd (false≢true same)
test-told (tests.Values vs) (tests.Range least most) same = absurd (false≢true same)

-- ---- conditions

condition-same : (c d : Condition) → c.field ≡ d.field → c.test ≡ d.test → c ≡ d
condition-same c d fields same = λ i. record { field = fields i; test = same i }

conditions-told : (cs ds : List Condition) → same_rules (holding cs) (holding ds) ≡ true → cs ≡ ds
conditions-told [] [] same = refl
conditions-told [] (d ∷ ds) same = absurd (false≢true same)
conditions-told (c ∷ cs) [] same = absurd (false≢true same)
conditions-told (c ∷ cs) (d ∷ ds) same =
    let one = first_so _ _ same in
    let all = first_so _ _ one in
    let both = first_so (same_field c.field d.field && _) _ all in
    let others = second_so (same_field c.field d.field && _) _ all in
    let fields = field-told c.field d.field (first_so (same_field c.field d.field) _ both) in
    let asked = with-three _ (second_so (same_field c.field d.field) _ both) in
    let left = with-two others in
    let here = condition-same c d fields (test-told c.test d.test asked) in
    let rest = conditions-told cs ds left in
    λ i. here i ∷ rest i

abbrev asked_of : ViewField → Test → Condition
asked_of field test = record { field = field; test = test }

condition-own : (f : ViewField) (t : Test) (cs : List Condition) → same_rules (holding cs) (holding cs) ≡ true
    → same_rules (holding (asked_of f t ∷ cs)) (holding (asked_of f t ∷ cs)) ≡ true
condition-own f (tests.Literal Equals v) cs rest = let later = but-two rest in λ i. (((field-own f i && value-own v i) && later i) && true) && true
condition-own f (tests.Literal Differs v) cs rest = let later = but-two rest in λ i. (((field-own f i && value-own v i) && later i) && true) && true
condition-own f (tests.Literal Below v) cs rest = let later = but-two rest in λ i. (((field-own f i && value-own v i) && later i) && true) && true
condition-own f (tests.Literal AtMost v) cs rest = let later = but-two rest in λ i. (((field-own f i && value-own v i) && later i) && true) && true
condition-own f (tests.Literal Above v) cs rest = let later = but-two rest in λ i. (((field-own f i && value-own v i) && later i) && true) && true
condition-own f (tests.Literal AtLeast v) cs rest = let later = but-two rest in λ i. (((field-own f i && value-own v i) && later i) && true) && true
condition-own f (tests.Field Equals g) cs rest = let later = but-two rest in λ i. (((field-own f i && field-own g i) && later i) && true) && true
condition-own f (tests.Field Differs g) cs rest = let later = but-two rest in λ i. (((field-own f i && field-own g i) && later i) && true) && true
condition-own f (tests.Field Below g) cs rest = let later = but-two rest in λ i. (((field-own f i && field-own g i) && later i) && true) && true
condition-own f (tests.Field AtMost g) cs rest = let later = but-two rest in λ i. (((field-own f i && field-own g i) && later i) && true) && true
condition-own f (tests.Field Above g) cs rest = let later = but-two rest in λ i. (((field-own f i && field-own g i) && later i) && true) && true
condition-own f (tests.Field AtLeast g) cs rest = let later = but-two rest in λ i. (((field-own f i && field-own g i) && later i) && true) && true
condition-own f (tests.Range low high) cs rest = let later = but-two rest in λ i. (((field-own f i && (value-own low i && value-own high i)) && later i) && true) && true
condition-own f (tests.Values vs) cs rest =
    let later = but-two rest in
    let values = list-own same_value value-own vs in
    λ i. (((field-own f i && values i) && later i) && true) && true

conditions-own : (cs : List Condition) → same_rules (holding cs) (holding cs) ≡ true
conditions-own [] = refl
conditions-own (c ∷ cs) = condition-own c.field c.test cs (conditions-own cs)

-- ---- statements

choice-told : (c d : Choice) → same_rules (ending (Some c)) (ending (Some d)) ≡ true → c ≡ d
choice-told Select Select same = refl
choice-told Select Omit same = absurd (false≢true same)
choice-told Omit Select same = absurd (false≢true same)
choice-told Omit Omit same = refl

choice-own : (c : Choice) → same_rules (ending (Some c)) (ending (Some c)) ≡ true
choice-own Select = refl
choice-own Omit = refl

statement-same : (s t : Statement) → s.choice ≡ t.choice → s.conditions ≡ t.conditions → s ≡ t
statement-same s t choices conditions = λ i. record { choice = choices i; conditions = conditions i }

statements-told : (ss ts : List Statement) → same_rules (stating ss) (stating ts) ≡ true → ss ≡ ts
statements-told [] [] same = refl
statements-told [] (t ∷ ts) same = absurd (false≢true same)
statements-told (s ∷ ss) [] same = absurd (false≢true same)
statements-told (s ∷ ss) (t ∷ ts) same =
    let all = first_so _ _ same in
    let both = first_so _ _ all in
    let chosen = first_so _ _ both in
    let asked = with-two (second_so _ _ both) in
    let left = with-one (second_so _ _ all) in
    let here = statement-same s t (choice-told s.choice t.choice chosen) (conditions-told s.conditions t.conditions asked) in
    let rest = statements-told ss ts left in
    λ i. here i ∷ rest i

statements-own : (ss : List Statement) → same_rules (stating ss) (stating ss) ≡ true
statements-own [] = refl
statements-own (s ∷ ss) =
    let conditions = but-two (conditions-own s.conditions) in
    let rest = but-one (statements-own ss) in
    with-one (λ i. (choice-own s.choice i && conditions i) && rest i)

-- ---- rules

all-told : (a b : Option Choice) → same_rules (ending a) (ending b) ≡ true → a ≡ b
all-told None None same = refl
all-told (Some c) (Some d) same = ap Some (choice-told c d same)
all-told None (Some d) same = absurd (false≢true same)
all-told (Some c) None same = absurd (false≢true same)

all-own : (a : Option Choice) → same_rules (ending a) (ending a) ≡ true
all-own None = refl
all-own (Some c) = choice-own c

pub rules-told : (r s : Rules) → same_rules r s ≡ true → r ≡ s
rules-told r s same =
    let stated = with-one (first_so _ _ same) in
    let ended = second_so _ _ same in
    let statements = statements-told r.statements s.statements stated in
    let alls = all-told r.all s.all ended in
    λ i. record { statements = statements i; all = alls i }

pub rules-own : (r : Rules) → same_rules r r ≡ true
rules-own r = let statements = but-one (statements-own r.statements) in λ i. statements i && all-own r.all i
