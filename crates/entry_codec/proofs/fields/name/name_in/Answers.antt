use Rattle.std.proofs.Common.{◌≡◌, ℕ, ◌↔◌, Bool, true, false, cond, List, length, take, drop, IsTrue, Option, Some, None, Result, refl, sym, ap, subst, ◌∙◌}
use Rattle.std.specs.Prelude.{IsSome, IfSome}
use Rattle.std.specs.List.{list_all}
use Rattle.std.specs.Option.{ok_or}
use Rattle.field_types.specs.SystemName.{is_name}
use Rattle.entry_codec.specs.declared.unread.NotInGrammar.{NotInGrammar}
use Rattle.entry_codec.specs.Reading.{Reads, is_blank, before_blank, name_in}
use Rattle.entry_codec.proofs.FieldLemmas.{take-before_blank}
use Rattle.entry_codec.proofs.fields.name.name_in.Goals as goal

-- the name that was made of a field's front, where blanks are behind it
by_name : (gap : NotInGrammar) (o : Option (List ℕ)) (b : Bool) (front : List ℕ) → (IsSome o ↔ (b ≡ true)) → IfSome o (λ n. n ≡ front) → Reads (λ x. x) (ok_or o gap) (cond b (Some front) None)
by_name gap (Some n) true front iff same = ap Some (sym same)
by_name gap (Some n) false front iff same = let e : false ≡ true = iff.0 refl in cc
by_name gap None true front iff same = let e : false ≡ true = iff.1 refl in cc
by_name gap None false front iff same = refl

named : (gap : NotInGrammar) (o : Option (List ℕ)) (r : Result (List ℕ) NotInGrammar) (field name blanks : List ℕ) → name ≡ before_blank field → blanks ≡ drop (length (before_blank field)) field → true ≡ list_all is_blank blanks
    → (IsSome o ↔ IsTrue (is_name name)) → IfSome o (λ n. n ≡ name) → r ≡ ok_or o gap → Reads (λ x. x) r (name_in field)
unfolding name_in
named gap o r field name blanks en eb all iff same er =
    rw (er, ← eb, ← all) (subst (λ (front : List ℕ). Reads (λ x. x) (ok_or o gap) (cond (is_name front) (Some front) None)) en (by_name gap o (is_name name) name iff same))

pub returns : goal.returns
returns c =
    let field = c.args.field.now in
    let place = c.blank_at.ensures.place in
    let front : c.split_at.result.0.now ≡ before_blank field = c.split_at.ensures.front ∙ ap (λ (n : ℕ). take n field) place ∙ take-before_blank field in
    let back : c.split_at.result.1.now ≡ drop (length (before_blank field)) field = c.split_at.ensures.back ∙ ap (λ (n : ℕ). drop n field) place in
    named _ c.from_bytes.result c.ok_or.result field c.split_at.result.0.now c.split_at.result.1.now front back c.if-not-are_blank.ensures c.from_bytes.ensures.valid c.from_bytes.ensures.value c.ok_or.ensures.value
