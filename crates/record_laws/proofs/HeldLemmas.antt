-- Which values stand in a packed record, field after field.
use Rattle.std.proofs.Common.{◌≡◌, ℕ, ◌+◌, Bool, true, false, Option, Some, None, is_some, Result, Ok, Err, List, [], ◌∷◌, ◌++◌, length, take, drop, refl, ap, subst, arith}
use Rattle.std.proofs.Math.Seq.{take-append_seam, drop-append_seam}
use Rattle.std.proofs.lemmas.Bool.{eqb-true}
use Rattle.std.proofs.Common.{cond, ◌==◌}
use Rattle.field_types.specs.declared.values.Value.{Value}
use Rattle.field_types.specs.declared.faults.ValueFault.{ValueFault}
use Rattle.field_types.specs.declared.faults.RecordFault.{RecordFault}
use Rattle.field_types.specs.declared.faults.RecordFault.TheVariants.{Count}
use Rattle.field_values.specs.FieldTypes.{width}
use Rattle.field_values.specs.FieldBytes.{held, written, fault_of, as_held}
use Rattle.field_laws.proofs.WrittenLemmas.{stands-written}
use Rattle.record_fmt.specs.declared.formats.Field.{Field}
use Rattle.record_fmt.specs.Layout.{lies_from, IsLaidOut}
use Rattle.record_fmt.specs.Records.{behind, field_before, fields_given, record_given, both, fields_held, record_held}
use Rattle.record_fmt.proofs.LayoutLemmas.{lies-parts}
use Rattle.record_fmt.proofs.HeldLemmas.{held-length}
use Rattle.record_laws.specs.HeldValues.{new_values, changed_values}

-- bytes before others
record IsBehind (front : List ℕ) (rest : Result (List ℕ) RecordFault) (image : List ℕ) : Type 0 where
  more : List ℕ
  rest_is : rest ≡ Ok more
  image_is : image ≡ front ++ more

is_behind : (front image : List ℕ) (rest : Result (List ℕ) RecordFault) → behind front rest ≡ Ok image → IsBehind front rest image
is_behind front image (Ok bytes) h = record { more = bytes; rest_is = refl; image_is = (let e : image ≡ front ++ bytes = cc in e) }
is_behind front image (Err fault) h = cc

-- a field that took its value
taken : (number : ℕ) (o : Option ValueFault) (bytes image : List ℕ) (rest : Result (List ℕ) RecordFault) → field_before number o bytes rest ≡ Ok image → (o ≡ None) × IsBehind bytes rest image
taken number None bytes image rest h = (refl, is_behind bytes image rest h)
taken number (Some cause) bytes image rest h = cc

-- what stands in a field stands before what stands in the fields behind it
held-cons : (f : Field) (fs : List Field) (p rest : List ℕ) (v : Value) (vs : List Value) → held f.ty p ≡ Some v → fields_held fs rest ≡ Some vs → fields_held (f ∷ fs) (p ++ rest) ≡ Some (v ∷ vs)
held-cons f fs p rest v vs here there =
    let long : length p ≡ width f.ty = held-length f.ty p (ap is_some here) in
    let front : take (width f.ty) (p ++ rest) ≡ p = subst (λ (n : ℕ). take n (p ++ rest) ≡ p) long (take-append_seam p rest) in
    let back : drop (width f.ty) (p ++ rest) ≡ rest = subst (λ (n : ℕ). drop n (p ++ rest) ≡ rest) long (drop-append_seam p rest) in
    rw (front, back, here, there) refl

-- what stands in the first field and in those behind it
record IsBoth (o : Option Value) (p : Option (List Value)) (values : List Value) : Type 0 where
  first : Value
  others : List Value
  first_is : o ≡ Some first
  others_are : p ≡ Some others
  values_are : values ≡ first ∷ others

is_both : (o : Option Value) (p : Option (List Value)) (values : List Value) → both o p ≡ Some values → IsBoth o p values
is_both None p values h = cc
is_both (Some v) None values h = cc
is_both (Some v) (Some vs) values h = record { first = v; others = vs; first_is = refl; others_are = refl; values_are = (let e : values ≡ v ∷ vs = cc in e) }

new-cons : (number start : ℕ) (f : Field) (fs : List Field) (v : Value) (image : List ℕ) (rest : Result (List ℕ) RecordFault) (vs : List Value) → lies_from start (f ∷ fs) ≡ true →
    field_before number (fault_of f.ty v) (written f.ty v) rest ≡ Ok image → ((more : List ℕ) → rest ≡ Ok more → fields_held fs more ≡ Some vs) → fields_held (f ∷ fs) image ≡ Some (as_held f.ty v ∷ vs)
new-cons number start f fs v image rest vs lies h there =
    let good = taken number (fault_of f.ty v) (written f.ty v) image rest h in
    let parts = lies-parts start f fs lies in
    rw good.1.image_is (held-cons f fs (written f.ty v) good.1.more (as_held f.ty v) vs (stands-written f.ty v parts.1 good.0) (there good.1.more good.1.rest_is))

pub new-held : (number start : ℕ) (fs : List Field) (given : List (Option Value)) (image : List ℕ) → lies_from start fs ≡ true → length given ≡ length fs →
    fields_given number fs given None ≡ Ok image → fields_held fs image ≡ Some (new_values fs given)
new-held number start [] given image lies same h = (let none : image ≡ [] = cc in rw none refl)
new-held number start (f ∷ fs) [] image lies same h = absurd (omega arith)
new-held number start (f ∷ fs) (Some v ∷ vs) image lies same h =
    new-cons number start f fs v image (fields_given (number + 1) fs vs None) (new_values fs vs) lies h
    (λ more e. new-held (number + 1) (start + width f.ty) fs vs more (lies-parts start f fs lies).2 (omega arith) e)
new-held number start (f ∷ fs) (None ∷ vs) image lies same h =
    new-cons number start f fs f.default image (fields_given (number + 1) fs vs None) (new_values fs vs) lies h
    (λ more e. new-held (number + 1) (start + width f.ty) fs vs more (lies-parts start f fs lies).2 (omega arith) e)

pub changed-held : (number start : ℕ) (fs : List Field) (given : List (Option Value)) (old image : List ℕ) (values : List Value) → lies_from start fs ≡ true → length given ≡ length fs →
    fields_held fs old ≡ Some values → fields_given number fs given (Some old) ≡ Ok image → fields_held fs image ≡ Some (changed_values fs given values)
changed-held number start [] given old image values lies same there h = (let none : image ≡ [] = cc in rw none refl)
changed-held number start (f ∷ fs) [] old image values lies same there h = absurd (omega arith)
changed-held number start (f ∷ fs) (Some v ∷ vs) old image values lies same there h =
    let b = is_both (held f.ty (take (width f.ty) old)) (fields_held fs (drop (width f.ty) old)) values there in
    rw b.values_are
    (new-cons number start f fs v image (fields_given (number + 1) fs vs (Some (drop (width f.ty) old))) (changed_values fs vs b.others) lies h
    (λ more e. changed-held (number + 1) (start + width f.ty) fs vs (drop (width f.ty) old) more b.others (lies-parts start f fs lies).2 (omega arith) b.others_are e))
changed-held number start (f ∷ fs) (None ∷ vs) old image values lies same there h =
    let b = is_both (held f.ty (take (width f.ty) old)) (fields_held fs (drop (width f.ty) old)) values there in
    let good = is_behind (take (width f.ty) old) image (fields_given (number + 1) fs vs (Some (drop (width f.ty) old))) h in
    rw (b.values_are, good.image_is)
    (held-cons f fs (take (width f.ty) old) good.more b.first (changed_values fs vs b.others) b.first_is
    (changed-held (number + 1) (start + width f.ty) fs vs (drop (width f.ty) old) good.more b.others (lies-parts start f fs lies).2 (omega arith) b.others_are good.rest_is))

-- an image was made only of as many values as fields
record IsCounted (fs : List Field) (given : List (Option Value)) (old : Option (List ℕ)) (image : List ℕ) : Type 0 where
  pub same : length given ≡ length fs
  pub fields : fields_given 1 fs given old ≡ Ok image

counted-if : (b : Bool) (r : Result (List ℕ) RecordFault) (image : List ℕ) → cond b r (Err Count) ≡ Ok image → (b ≡ true) × (r ≡ Ok image)
counted-if true r image h = (refl, h)
counted-if false r image h = cc

counted : (fs : List Field) (given : List (Option Value)) (old : Option (List ℕ)) (image : List ℕ) → record_given fs given old ≡ Ok image → IsCounted fs given old image
unfolding record_given
counted fs given old image h =
    let both_are = counted-if (length given == length fs) (fields_given 1 fs given old) image h in
    record { same = eqb-true (length given) (length fs) both_are.0; fields = both_are.1 }

pub new-record : (fs : List Field) (given : List (Option Value)) (image : List ℕ) → IsLaidOut fs → record_given fs given None ≡ Ok image → record_held fs image ≡ Some (new_values fs given)
unfolding record_held
new-record fs given image laid h = (let all = counted fs given None image h in new-held 1 0 fs given image laid.lies all.same all.fields)

pub changed-record : (fs : List Field) (given : List (Option Value)) (old image : List ℕ) (values : List Value) → IsLaidOut fs → record_held fs old ≡ Some values → record_given fs given (Some old) ≡ Ok image → record_held fs image ≡ Some (changed_values fs given values)
unfolding record_held
changed-record fs given old image values laid there h = (let all = counted fs given (Some old) image h in changed-held 1 0 fs given old image values laid.lies all.same there all.fields)
