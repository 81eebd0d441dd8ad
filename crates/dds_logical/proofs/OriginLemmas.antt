-- What a field is made of, by the arguments of a keyword.
use Rattle.std.proofs.Common.{◌≡◌, ◌∙◌, ◌+◌, ◌-◌, ◌≤◌, ℕ, sym, ap, refl, Bool, true, false, not, ◌&&◌, ◌||◌, nat_le, List, [], ◌∷◌, map, Option, Some, None, is_none, is_some, if◌then◌else◌, subst, nat_eq, arith}
use Rattle.std.proofs.lemmas.Bool.Decides.{nat_tests}
use lib.Pointwise.{pointwise}
use Rattle.record_fmt.specs.FieldTypes.{width}
use Rattle.std.specs.List.{list_any, list_all, filter_map, cons_option}
use Rattle.std.specs.Option.{option_map}
use Rattle.dds_physical.below.dds_source.specs.declared.arguments.Argument.{Argument}
use Rattle.record_fmt.specs.declared.formats.Field.{Field}
use Rattle.record_fmt.specs.Layout.{record_length, lies_from, IsLaidOut}
use Rattle.record_fmt.proofs.LayoutLemmas.{lies-parts}
use Rattle.file_model.specs.declared.views.Piece.{Piece}
use Rattle.dds_physical.specs.Names.{field_named}
use Rattle.dds_physical.specs.KeywordRules.{argument_name}
use Rattle.dds_logical.specs.declared.parts.Part.{Part}
use Rattle.dds_logical.specs.KeywordArguments.{names_among}
use Rattle.dds_logical.specs.Keys.{field_of_name}
use Rattle.dds_logical.specs.Origins.{Origin, own_name, lacks_one, fields_of_names, is_character, are_characters, whole_field, copied_from, first_copied, substring_of, part_origin, is_part_outside, lies_within, if_within, part_said}
use Rattle.dds_logical.specs.Made.{first_of, is_text_or_none, origin_by_name, part_by, is_outside_of, or_first, IsLow}

pub ends_within : (a b e : ℕ) → nat_le (a + b) e ≡ (nat_le a e && nat_le b (e - a))
ends_within a b e = grind (arith, nat_tests)

-- ---- names that no field has

not_both : (p q : Bool) → (not (p && true) || not q) ≡ not (p && q)
not_both true q = refl
not_both false q = refl

lacks_cons : (base : List Field) (m : Option (List ℕ)) (ns : List (List ℕ)) → (lacks_one base (own_name m) || lacks_one base ns) ≡ lacks_one base (cons_option m ns)
lacks_cons base None ns = refl
lacks_cons base (Some n) ns = not_both (is_some (field_named n base)) (list_all (λ name. is_some (field_named name base)) ns)

pub lacks_is : (base : List Field) (args : List Argument) → list_any (λ a. lacks_one base (own_name (argument_name a))) args ≡ lacks_one base (names_among args)
lacks_is base [] = refl
lacks_is base (a ∷ args) =
    ap (λ (b : Bool). lacks_one base (own_name (argument_name a)) || b) (lacks_is base args) ∙ lacks_cons base (argument_name a) (names_among args)

-- ---- fields of several names

chars_field : (o : Option Field) (fs : List Field) → (is_text_or_none o && are_characters fs) ≡ are_characters (cons_option o fs)
chars_field None fs = refl
chars_field (Some f) fs = refl

chars_cons : (base : List Field) (m : Option (List ℕ)) (ns : List (List ℕ))
    → (is_text_or_none (field_of_name base m) && are_characters (fields_of_names base ns)) ≡ are_characters (fields_of_names base (cons_option m ns))
chars_cons base None ns = refl
chars_cons base (Some n) ns = chars_field (field_named n base) (fields_of_names base ns)

pub are_characters_is : (base : List Field) (args : List Argument)
    → list_all (λ a. is_text_or_none (field_of_name base (argument_name a))) args ≡ are_characters (fields_of_names base (names_among args))
are_characters_is base [] = refl
are_characters_is base (a ∷ args) =
    ap (λ (b : Bool). is_text_or_none (field_of_name base (argument_name a)) && b) (are_characters_is base args) ∙ chars_cons base (argument_name a) (names_among args)

first_field : (o : Option Field) (fs : List Field) → first_of (cons_option o fs) ≡ or_first o (first_of fs)
first_field None fs = refl
first_field (Some f) fs = refl

pub first_cons : (base : List Field) (m : Option (List ℕ)) (ns : List (List ℕ))
    → first_of (fields_of_names base (cons_option m ns)) ≡ or_first (field_of_name base m) (first_of (fields_of_names base ns))
first_cons base None ns = refl
first_cons base (Some n) ns = first_field (field_named n base) (fields_of_names base ns)

pieces_field : (o : Option Field) (fs : List Field) → cons_option (option_map whole_field o) (map whole_field fs) ≡ map whole_field (cons_option o fs)
pieces_field None fs = refl
pieces_field (Some f) fs = refl

pieces_cons : (base : List Field) (m : Option (List ℕ)) (ns : List (List ℕ))
    → cons_option (option_map whole_field (field_of_name base m)) (map whole_field (fields_of_names base ns)) ≡ map whole_field (fields_of_names base (cons_option m ns))
pieces_cons base None ns = refl
pieces_cons base (Some n) ns = pieces_field (field_named n base) (fields_of_names base ns)

pub pieces_are : (base : List Field) (args : List Argument)
    → filter_map (λ a. option_map whole_field (field_of_name base (argument_name a))) args ≡ map whole_field (fields_of_names base (names_among args))
pieces_are base [] = refl
pieces_are base (a ∷ args) =
    ap (λ (ps : List Piece). cons_option (option_map whole_field (field_of_name base (argument_name a))) ps) (pieces_are base args) ∙ pieces_cons base (argument_name a) (names_among args)

-- ---- what it is made of

own_field : (o : Option Field) → copied_from o ≡ (if not (is_some o && true) then None else first_copied (cons_option o []))
own_field None = refl
own_field (Some f) = refl

pub own_is : (base : List Field) (name : Option (List ℕ)) → copied_from (field_of_name base name) ≡ origin_by_name base (own_name name)
own_is base None = refl
own_is base (Some n) = own_field (field_named n base)

pub copied_is : (fs : List Field) → copied_from (first_of fs) ≡ first_copied fs
copied_is [] = refl
copied_is (f ∷ fs) = refl

pub substring_is : (args : List Argument) (fs : List Field) → part_by args (first_of fs) ≡ substring_of args fs
substring_is args [] = refl
substring_is args (f ∷ fs) = refl

pub outside_is : (args : List Argument) (fs : List Field) → is_outside_of args (first_of fs) ≡ is_part_outside args fs
outside_is args [] = refl
outside_is args (f ∷ fs) = refl

-- ---- where a field begins

named_low : (start : ℕ) (fs : List Field) (name : List ℕ) (f : Field) → lies_from start fs ≡ true → field_named name fs ≡ Some f → f.offset ≤ start + record_length fs
named_low start [] name f lies h = absurd cc
named_low start (g ∷ gs) name f lies h =
    let parts = lies-parts start g gs lies in
    named_case (pointwise nat_eq g.name name) start g gs name f parts.0 (named_low (start + width g.ty) gs name f parts.2) h
  where
    named_case : (b : Bool) (start : ℕ) (g : Field) (gs : List Field) (name : List ℕ) (f : Field) → g.offset ≡ start
        → (field_named name gs ≡ Some f → f.offset ≤ start + width g.ty + record_length gs) → (if b then Some g else field_named name gs) ≡ Some f → f.offset ≤ start + (width g.ty + record_length gs)
    named_case true start g gs name f at more h =
        let same : g ≡ f = cc in
        subst (λ (k : Field). k.offset ≤ start + (width g.ty + record_length gs)) same (omega (arith, at))
    named_case false start g gs name f at more h = let low = more h in omega (arith, low)

low_case : (o : Option Field) (fs : List Field) → IsLow o → IsLow (first_of fs) → IsLow (first_of (cons_option o fs))
low_case None fs here more = more
low_case (Some f) fs here more = here

low_field : (base : List Field) (name : List ℕ) → IsLaidOut base → (o : Option Field) → field_named name base ≡ o → IsLow o
low_field base name laid None h = tt
low_field base name laid (Some f) h =
    let low = named_low 0 base name f laid.lies h in
    let narrow : record_length base ≤ 32766 = laid.narrow in
    omega (arith, low, narrow)

pub first_low : (base : List Field) (ns : List (List ℕ)) → IsLaidOut base → IsLow (first_of (fields_of_names base ns))
first_low base [] laid = tt
first_low base (n ∷ ns) laid = low_case (field_named n base) (fields_of_names base ns) (low_field base n laid (field_named n base) refl) (first_low base ns laid)

-- ---- parts

pub within_parts : (n : ℕ) (p : Part) → lies_within n p ≡ true → (1 ≤ p.start) × (1 ≤ p.size) × (p.start + p.size ≤ n + 1)
within_parts n p h = grind (arith, nat_tests, h)
