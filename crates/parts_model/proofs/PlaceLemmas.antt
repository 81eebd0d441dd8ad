-- The key that a request gives and the place where it sets a position, by the positions of the open's key.
use Rattle.std.proofs.Common.{◌≡◌, ℕ, ◌+◌, ◌||◌, nat_lt, not, Bool, true, false, if◌then◌else◌, List, [], ◌∷◌, length, Option, Some, None, Result, Ok, Err, refl, sym, ap, subst, ◌∙◌, map, ◌&&◌}
use Rattle.parts_model.proofs.AlikeParts.{views-fault, views-given}
use Rattle.library_steps.below.dds_logical.specs.declared.views.View.{View}
use Rattle.std.specs.Prelude.{is_ok}
use Rattle.field_types.specs.declared.values.Value.{Value}
use Rattle.field_types.specs.declared.faults.ValueFault.{ValueFault}
use Rattle.field_types.specs.declared.faults.RecordFault.{RecordFault}
use Rattle.field_types.specs.declared.faults.RecordFault.TheVariants.{Count}
use Rattle.field_values.specs.FieldBytes.{fault_of}
use Rattle.key_spec.specs.declared.KeyPart.{KeyPart}
use Rattle.key_spec.specs.declared.KeyPart.TheVariants as parts
use Rattle.library_steps.below.dds_logical.specs.declared.views.LogicalSpec.TheVariants.{Simple, Multi, Join}
use Rattle.file_model.specs.FilePaths.{key_parts}
use Rattle.file_model.specs.KeyOrder.{KeyValue, given_key, merged_parts}
use Rattle.file_model.specs.Paths.{PathEntry}
use Rattle.file_model.specs.Positions.{Bound, KeyBound, NumberBound, Position, Start, End}
use Rattle.library_steps.specs.Bases.{Bases, FileSpec, PhysicalFile, LogicalFile}
use Rattle.library_steps.specs.Formats.{parts_in, has_key}
use Rattle.library_steps.specs.Readings.{has_numbers, join_in}
use Rattle.access_path.specs.GivenValues as given
use Rattle.library_model.specs.declared.replies.Reply.{Reply}
use Rattle.library_model.specs.declared.replies.Reply.TheVariants.{BadValue, WrongOpen}
use Rattle.library_model.specs.declared.requests.Limit.{Limit}
use Rattle.library_model.specs.declared.requests.Limit.TheVariants as limits
use Rattle.open_position.specs.Reads.{side_of, IsStandAt, stood}
use Rattle.open_position.specs.declared.position.Side.{Side}
use Rattle.file_catalogue.proofs.PositionLemmas.{same-given_key, same-key_fault}
use Rattle.job_table.specs.Opens.{OpenOrder, AllOfNumber, JoinOrder}
use Rattle.library_model.specs.Named.{Named}
use Rattle.library_steps.specs.Reads.{bound_asked}
use Rattle.library_steps.specs.Records as steps
use Rattle.library_steps.specs.Records.{is_file_path, is_keyed, key_asked, key_or_fault, number_asked}
use Rattle.library_steps.specs.Refusals.{◌>>=◌, OpenedFile}
use Rattle.library_steps.specs.State.{FileState, OpenState}
use Rattle.parts_model.specs.declared.stop.Stop.{Stop}
use Rattle.parts_model.specs.declared.stop.Stop.TheVariants.{NoMemory, Refused}
use Rattle.parts_model.specs.Indexed.{IsReadSo, ReadsRowsBy, path_by}
use Rattle.parts_model.specs.Reads.{CanStandIn, GivesKey, HasKeyOf, MayHaveKey, ReadsSo, Stands, formats_read, parts_read, refusal, stood_at, TakesNumbers, CanStandAmong, formats_by}
use Rattle.parts_model.proofs.OpenLooks.{formats-are, merged-one, own_parts, HasOneFormat, formats-of-views}
use Rattle.library_steps.below.dds_logical.specs.declared.join_views.JoinView.{JoinView}
use Rattle.open_position.specs.declared.position.StandAt.{StandAt}
use Rattle.job_table.specs.RowStand as rows
use Rattle.path_set.specs.KeptPaths.{NumberedPaths}
use Rattle.job_table.specs.OpenChanges.{CanStand, IsStood}
use Rattle.library_steps.specs.Opens.{first_of}

-- ---- two definitions of what is wrong with given values are the same

before-same : (number : ℕ) (fault : Option ValueFault) (rest other : Option RecordFault) → rest ≡ other → steps.fault_before number fault rest ≡ given.fault_before number fault other
before-same number None rest other same = same
before-same number (Some cause) rest other same = refl

value-same : (number : ℕ) (ps : List KeyPart) (values : List Value) → steps.value_fault number ps values ≡ given.value_fault number ps values
value-same number [] [] = refl
value-same number [] (v ∷ values) = refl
value-same number (p ∷ ps) [] = refl
value-same number (parts.Field t offset descend absval ∷ ps) (v ∷ values) =
    before-same number (fault_of t v) (steps.value_fault (number + 1) ps values) (given.value_fault (number + 1) ps values) (value-same (number + 1) ps values)
value-same number (parts.Absent ∷ ps) (v ∷ values) = refl

fault-same : (ps : List KeyPart) (values : List Value) → steps.key_fault ps values ≡ given.key_fault ps values
fault-same ps values = ap (λ (fault : Option RecordFault). if nat_lt (length ps) (length values) then Some Count else fault) (value-same 1 ps values)

-- ---- the positions of an open's key

-- where it reads by a key, they are those of its file's key, one behind another
record IsByKey (bases : Bases) (file : FileState) (opened : OpenState) : Type 0 where
  faults : (values : List Value) → steps.key_fault (parts_in file.spec) values ≡ given.key_fault (parts_read bases file opened) values
  given_is : (values : List Value) → given_key (parts_in file.spec) values ≡ given_key (parts_read bases file opened) values

by-key : (bases : Bases) (file : FileState) (opened : OpenState) → IsReadSo (is_file_path opened.access_path) file.spec → is_keyed file opened ≡ true → IsByKey bases file opened
by-key bases file opened so keyed = kind file.spec refl
  where
    single : HasOneFormat file.spec → IsByKey bases file opened
    single one =
        let ps : List KeyPart = parts_in file.spec in
        let parts : parts_read bases file opened ≡ key_parts 0 ps =
        ap merged_parts (formats-are bases file opened one so ∙ ap (λ (b : Bool). key_parts 0 (own_parts b file.spec) ∷ []) keyed) ∙ merged-one (key_parts 0 ps) in
        record {
          faults = λ values. fault-same ps values ∙ sym (same-key_fault 0 ps values) ∙ ap (λ (qs : List KeyPart). given.key_fault qs values) (sym parts);
          given_is = λ values. sym (same-given_key 0 ps values) ∙ ap (λ (qs : List KeyPart). given_key qs values) (sym parts);
        }

    several : (views : List View) → file.spec ≡ LogicalFile (Multi views) → IsByKey bases file opened
    several views is =
        let ps : List KeyPart = merged_parts (map (λ (view : View). view.keys.parts) views) in
        let own : parts_in file.spec ≡ ps = ap parts_in is in
        let parts : parts_read bases file opened ≡ merged_parts (map (λ (view : View). key_parts 0 view.keys.parts) views) = ap merged_parts (formats-of-views bases file opened views is) in
        record {
          faults = λ values. ap (λ (qs : List KeyPart). steps.key_fault qs values) own ∙ fault-same ps values ∙ views-fault views values ∙ ap (λ (qs : List KeyPart). given.key_fault qs values) (sym parts);
          given_is = λ values. ap (λ (qs : List KeyPart). given_key qs values) own ∙ views-given views values ∙ ap (λ (qs : List KeyPart). given_key qs values) (sym parts);
        }

    kind : (spec : FileSpec) → file.spec ≡ spec → IsByKey bases file opened
    kind (PhysicalFile spec) is = single (subst HasOneFormat (sym is) tt)
    kind (LogicalFile (Simple view)) is = single (subst HasOneFormat (sym is) tt)
    kind (LogicalFile (Multi views)) is = several views is
    kind (LogicalFile (Join view)) is = single (subst HasOneFormat (sym is) tt)

-- a file in which a number says which record is meant has one format
numbered-one : (spec : FileSpec) → has_numbers spec ≡ true → HasOneFormat spec
numbered-one (PhysicalFile spec) numbered = tt
numbered-one (LogicalFile (Simple view)) numbered = tt
numbered-one (LogicalFile (Multi views)) numbered = absurd cc
numbered-one (LogicalFile (Join view)) numbered = absurd cc

pub by-arrival : (bases : Bases) (file : FileState) (opened : OpenState) → has_numbers file.spec ≡ true → IsReadSo (is_file_path opened.access_path) file.spec → is_keyed file opened ≡ false
    → formats_read bases file opened ≡ [] ∷ []
by-arrival bases file opened numbered so not_keyed =
    formats-are bases file opened (numbered-one file.spec numbered) so ∙ ap (λ (b : Bool). key_parts 0 (own_parts b file.spec) ∷ []) not_keyed

-- ---- the key that a request gives

abbrev key_with : Bool → List KeyPart → List Value → Option RecordFault → Result (List KeyValue) Reply
key_with keyed ps values fault = if keyed then key_or_fault ps values fault else Err WrongOpen

asked-good : (bases : Bases) (file : FileState) (opened : OpenState) (values : List Value) → IsReadSo (is_file_path opened.access_path) file.spec → is_keyed file opened ≡ true
    → given.key_fault (parts_read bases file opened) values ≡ None → key_asked file opened values ≡ Ok (given_key (parts_read bases file opened) values)
asked-good bases file opened values so keyed none =
    let its = by-key bases file opened so keyed in
    (λ i. key_with (keyed i) (parts_in file.spec) values (its.faults values i)) ∙ (λ i. key_or_fault (parts_in file.spec) values (none i))
    ∙ ap (λ (key : List KeyValue). Ok key) (its.given_is values)

some-bad : (fault : Option RecordFault) (reply : Reply) → refusal true fault ≡ Some reply → (bad : RecordFault) × (fault ≡ Some bad) × (BadValue bad ≡ reply)
some-bad None reply h = absurd cc
some-bad (Some bad) reply h = (bad, refl, let e : BadValue bad ≡ reply = cc in e)

asked-bad : (bases : Bases) (file : FileState) (opened : OpenState) (values : List Value) (reply : Reply) → IsReadSo (is_file_path opened.access_path) file.spec
    → refusal (is_keyed file opened) (given.key_fault (parts_read bases file opened) values) ≡ Some reply → key_asked file opened values ≡ Err reply
asked-bad bases file opened values reply so refused = by (is_keyed file opened) refl
  where
    by : (b : Bool) → is_keyed file opened ≡ b → key_asked file opened values ≡ Err reply
    by false not_keyed =
        let wrong : Some WrongOpen ≡ Some reply = ap (λ (k : Bool). refusal k (given.key_fault (parts_read bases file opened) values)) (sym not_keyed) ∙ refused in
        let same : WrongOpen ≡ reply = cc in
        ap (λ (k : Bool). key_with k (parts_in file.spec) values (steps.key_fault (parts_in file.spec) values)) not_keyed ∙ ap (λ (r : Reply). Err r) same
    by true keyed =
        let its = by-key bases file opened so keyed in
        let bad = some-bad (given.key_fault (parts_read bases file opened) values) reply (ap (λ (k : Bool). refusal k (given.key_fault (parts_read bases file opened) values)) (sym keyed) ∙ refused) in
        (λ i. key_with (keyed i) (parts_in file.spec) values (its.faults values i)) ∙ (λ i. key_or_fault (parts_in file.spec) values (bad.1 i)) ∙ ap (λ (r : Reply). Err r) bad.2

pub gives-key : (bases : Bases) (file : FileState) (opened : OpenState) (values : List Value) (result : Result (List ℕ) Stop) → IsReadSo (is_file_path opened.access_path) file.spec → HasKeyOf (is_keyed file opened) (parts_read bases file opened) values result → GivesKey bases file opened values result
gives-key bases file opened values (Ok key) so has =
    (given_key (parts_read bases file opened) values, asked-good bases file opened values so has.0 has.1.fits, has.1.stands)
gives-key bases file opened values (Err NoMemory) so has = tt
gives-key bases file opened values (Err (Refused reply)) so has = asked-bad bases file opened values reply so has

-- ---- where a position is set

abbrev key-bound : (side : Bound → Position PathEntry) → Result (List KeyValue) Reply → Result (Position PathEntry) Reply
key-bound side r = r >>= (λ key. Ok (side (KeyBound key)))

pub stands-key : (bases : Bases) (its : OpenedFile) (values : List Value) (result : Result (Unit {0}) Stop) → IsReadSo (is_file_path its.opened.access_path) its.file.spec → MayHaveKey (is_keyed its.file its.opened) (parts_read bases its.file its.opened) values result
    → Stands its (limits.Key values) result
stands-key bases its values (Ok nothing) so may =
    λ side. ap (λ (r : Result (List KeyValue) Reply). is_ok (key-bound side r)) (asked-good bases its.file its.opened values so may.0 may.1)
stands-key bases its values (Err NoMemory) so may = absurd may
stands-key bases its values (Err (Refused reply)) so may = λ side. ap (key-bound side) (asked-bad bases its.file its.opened values reply so may)

abbrev end_with : Bool → Position PathEntry → Result (Position PathEntry) Reply
end_with keyed end = if keyed then Ok end else Err WrongOpen

pub stands-low : (its : OpenedFile) (result : Result (Unit {0}) Stop) → ReadsSo (is_keyed its.file its.opened) true result → Stands its limits.LowValue result
stands-low its (Ok nothing) so = λ side. ap (λ (b : Bool). is_ok (end_with b Start)) so
stands-low its (Err NoMemory) so = absurd so
stands-low its (Err (Refused reply)) so = λ side. ap (λ (b : Bool). end_with b Start) so.0 ∙ ap (λ (r : Reply). Err r) (sym so.1)

pub stands-high : (its : OpenedFile) (result : Result (Unit {0}) Stop) → ReadsSo (is_keyed its.file its.opened) true result → Stands its limits.HighValue result
stands-high its (Ok nothing) so = λ side. ap (λ (b : Bool). is_ok (end_with b End)) so
stands-high its (Err NoMemory) so = absurd so
stands-high its (Err (Refused reply)) so = λ side. ap (λ (b : Bool). end_with b End) so.0 ∙ ap (λ (r : Reply). Err r) (sym so.1)

abbrev number_with : (keyed numbered : Bool) → ℕ → Result ℕ Reply
number_with keyed numbered rrn = if keyed || not numbered then Err WrongOpen else Ok rrn

abbrev number-bound : (side : Bound → Position PathEntry) → Result ℕ Reply → Result (Position PathEntry) Reply
number-bound side r = r >>= (λ number. Ok (side (NumberBound number)))

number-refused : (keyed numbered : Bool) (rrn : ℕ) (reply : Reply) → (keyed || not numbered) ≡ true → reply ≡ WrongOpen → number_with keyed numbered rrn ≡ Err reply
number-refused true numbered rrn reply refused is = ap (λ (r : Reply). Err r) (sym is)
number-refused false false rrn reply refused is = ap (λ (r : Reply). Err r) (sym is)
number-refused false true rrn reply refused is = absurd cc

pub stands-number : (its : OpenedFile) (rrn : ℕ) (result : Result (Unit {0}) Stop) → TakesNumbers (is_keyed its.file its.opened) (has_numbers its.file.spec) result
    → Stands its (limits.RecordNumber rrn) result
stands-number its rrn (Ok nothing) so = λ side. (λ i. is_ok (number-bound side (number_with (so.0 i) (so.1 i) rrn)))
stands-number its rrn (Err NoMemory) so = absurd so
stands-number its rrn (Err (Refused reply)) so =
    λ side. ap (number-bound side) (number-refused (is_keyed its.file its.opened) (has_numbers its.file.spec) rrn reply so.0 so.1)

-- ---- what is known of the place that a request names, and of the position there

-- the place is one of the open's formats, and the position is the one that is set
pub record IsPlace (bases : Bases) (its : OpenedFile) (side : Side) (to : Limit) (position : Position PathEntry) : Type 0 where
  pub can : CanStandIn (formats_read bases its.file its.opened) to
  pub stood : stood_at side (parts_read bases its.file its.opened) to ≡ position

end-is : (b : Bool) (end position : Position PathEntry) → end_with b end ≡ Ok position → end ≡ position
end-is true end position h = cc
end-is false end position h = absurd cc

module _ (bases : Bases) (its : OpenedFile) (so : IsReadSo (is_file_path its.opened.access_path) its.file.spec) where
  place-number : (side : Side) (rrn : ℕ) (position : Position PathEntry) → bound_asked its (side_of side) (limits.RecordNumber rrn) ≡ Ok position
      → IsPlace bases its side (limits.RecordNumber rrn) position
  place-number side rrn position is = by (is_keyed its.file its.opened) (has_numbers its.file.spec) refl refl is
    where
      by : (b n : Bool) → is_keyed its.file its.opened ≡ b → has_numbers its.file.spec ≡ n → number-bound (side_of side) (number_with b n rrn) ≡ Ok position
          → IsPlace bases its side (limits.RecordNumber rrn) position
      by true n keyed numbered h = absurd cc
      by false false keyed numbered h = absurd cc
      by false true keyed numbered h = record { can = by-arrival bases its.file its.opened numbered so keyed; stood = let e : side_of side (NumberBound rrn) ≡ position = cc in e }

  place-key : (side : Side) (values : List Value) (position : Position PathEntry) → bound_asked its (side_of side) (limits.Key values) ≡ Ok position
      → IsPlace bases its side (limits.Key values) position
  place-key side values position is = by (is_keyed its.file its.opened) refl is
    where
      with-fault : (fault : Option RecordFault) → is_keyed its.file its.opened ≡ true → steps.key_fault (parts_in its.file.spec) values ≡ fault
          → key-bound (side_of side) (key_or_fault (parts_in its.file.spec) values fault) ≡ Ok position → IsPlace bases its side (limits.Key values) position
      with-fault (Some fault) keyed none h = absurd cc
      with-fault None keyed none h =
          let own = by-key bases its.file its.opened so keyed in
          let e : side_of side (KeyBound (given_key (parts_in its.file.spec) values)) ≡ position = cc in
          record { can = sym (own.faults values) ∙ none; stood = ap (λ (key : List KeyValue). side_of side (KeyBound key)) (sym (own.given_is values)) ∙ e }

      by : (b : Bool) → is_keyed its.file its.opened ≡ b → key-bound (side_of side) (key_with b (parts_in its.file.spec) values (steps.key_fault (parts_in its.file.spec) values)) ≡ Ok position
          → IsPlace bases its side (limits.Key values) position
      by false keyed h = absurd cc
      by true keyed h = with-fault (steps.key_fault (parts_in its.file.spec) values) keyed refl h

  pub is-place : (side : Side) (to : Limit) (position : Position PathEntry) → bound_asked its (side_of side) to ≡ Ok position → IsPlace bases its side to position
  is-place side limits.LowValue position is = record { can = tt; stood = end-is (is_keyed its.file its.opened) Start position is }
  is-place side limits.HighValue position is = record { can = tt; stood = end-is (is_keyed its.file its.opened) End position is }
  is-place side (limits.RecordNumber rrn) position is = place-number side rrn position is
  is-place side (limits.Key values) position is = place-key side values position is

-- what is there where a place is one
pub ok-is : {A E : Type 0} (r : Result A E) → is_ok r ≡ true → (a : A) × (r ≡ Ok a)
ok-is (Ok a) h = (a, refl)
ok-is (Err e) h = absurd cc

-- what was found is what was asked for
pub found-same : (r : Result OpenedFile Reply) (its other : OpenedFile) → r ≡ Ok its → r ≡ Ok other → its ≡ other
found-same r its other is also = let e : Ok its ≡ Ok other = sym is ∙ also in cc

-- the open that was found stands at the place that was asked of it
pub record IsPlaced (bases : Bases) (its : OpenedFile) (side : Side) (to : Limit) : Type 0 where
  pub position : Position PathEntry
  pub is : bound_asked its (side_of side) to ≡ Ok position
  pub placed : IsPlace bases its side to position

pub placed-there : (bases : Bases) (r : Result OpenedFile Reply) (asked its : OpenedFile) (side : Side) (to : Limit) → IsReadSo (is_file_path its.opened.access_path) its.file.spec → r ≡ Ok asked → r ≡ Ok its → is_ok (bound_asked asked (side_of side) to) ≡ true → IsPlaced bases its side to
placed-there bases r asked its side to so is also ok =
    let there = ok-is (bound_asked its (side_of side) to) (subst (λ (o : OpenedFile). is_ok (bound_asked o (side_of side) to) ≡ true) (found-same r asked its is also) ok) in
    record { position = there.0; is = there.1; placed = is-place bases its so side to there.0 there.1 }

-- what holds of the way in which the open reads holds of all of its number
pub of-number : (number : ℕ) (order : OpenOrder) (P : OpenOrder → Type 0) (orders : Named OpenOrder) → AllOfNumber number (λ other. other ≡ order) orders → P order → AllOfNumber number P orders
of-number number order P orders alone holds = λ k d low same. subst P (sym (alone k d low same)) holds

-- ---- an open that stands there, of a join among its rows

-- an open of a join reads by the positions of the key of its primary file
pub joined-parts : (bases : Bases) (its : OpenedFile) (view : JoinView) → its.file.spec ≡ LogicalFile (Join view) → parts_read bases its.file its.opened ≡ key_parts 0 view.keys.parts
joined-parts bases its view is =
    ap (λ (spec : FileSpec). merged_parts (formats_by (path_by bases (is_file_path its.opened.access_path && has_key spec) (first_of its.opened.members) spec))) is ∙ merged-one (key_parts 0 view.keys.parts)

module _ (bases : Bases) (paths : NumberedPaths) (its : OpenedFile) (order : OpenOrder) (side : Side) (to : Limit) (at : StandAt) (position : Position PathEntry)
    (formats : formats_read bases its.file its.opened ≡ order.formats) (bound : bound_asked its (side_of side) to ≡ Ok position) (placed : IsPlace bases its side to position) where
  -- a number is refused
  no-number : (rrn : ℕ) → to ≡ limits.RecordNumber rrn → has_numbers its.file.spec ≡ false → ⊥
  no-number rrn is none =
      let refused : bound_asked its (side_of side) (limits.RecordNumber rrn) ≡ Err WrongOpen =
      ap (number-bound (side_of side)) (number-refused (is_keyed its.file its.opened) (has_numbers its.file.spec) rrn WrongOpen (ap (λ (b : Bool). is_keyed its.file its.opened || not b) none ∙ or-true (is_keyed its.file its.opened)) refl) in
      let asked : bound_asked its (side_of side) (limits.RecordNumber rrn) ≡ Ok position = subst (λ (l : Limit). bound_asked its (side_of side) l ≡ Ok position) is bound in
      absurd cc
    where
      or-true : (b : Bool) → (b || true) ≡ true
      or-true true = refl
      or-true false = refl

  among : (parts : List KeyPart) → parts_read bases its.file its.opened ≡ parts → has_numbers its.file.spec ≡ false → CanStandAmong parts to
  among parts same none = by to refl placed.can
    where
      by : (l : Limit) → to ≡ l → CanStandIn (formats_read bases its.file its.opened) l → CanStandAmong parts l
      by limits.LowValue is can = tt
      by limits.HighValue is can = tt
      by (limits.Key values) is can = subst (λ (ps : List KeyPart). given.key_fault ps values ≡ None) same can
      by (limits.RecordNumber rrn) is can = absurd (no-number rrn is none)

  module _ (can : (fs : List (List KeyPart)) → CanStandIn fs to → IsStandAt fs at) (rows_can : (ps : List KeyPart) → CanStandAmong ps to → rows.IsStandAt ps at)
      (is_stood : (parts : List KeyPart) → stood side parts at ≡ stood_at side parts to) where
    plain-can : (join : Option JoinOrder) → join ≡ None → CanStand join order.formats at
    plain-can join none = subst (λ (j : Option JoinOrder). CanStand j order.formats at) (sym none) (can order.formats (subst (λ (fs : List (List KeyPart)). CanStandIn fs to) formats placed.can))

    plain-is : (join : Option JoinOrder) → join ≡ None → IsStood None join side at order.formats position
    plain-is join none =
        subst (λ (j : Option JoinOrder). IsStood None j side at order.formats position) (sym none)
        (is_stood (merged_parts order.formats) ∙ subst (λ (fs : List (List KeyPart)). stood_at side (merged_parts fs) to ≡ position) formats placed.stood)

    kind-can : (spec : FileSpec) → its.file.spec ≡ spec → (join : Option JoinOrder) → ReadsRowsBy bases paths spec join → CanStand join order.formats at
    kind-can (PhysicalFile spec) is join reads = plain-can join reads
    kind-can (LogicalFile (Simple view)) is join reads = plain-can join reads
    kind-can (LogicalFile (Multi views)) is join reads = plain-can join reads
    kind-can (LogicalFile (Join view)) is None reads = absurd reads
    kind-can (LogicalFile (Join view)) is (Some join) reads = rows_can join.parts (among join.parts (joined-parts bases its view is ∙ reads.parts) (ap has_numbers is))

    kind-is : (spec : FileSpec) → its.file.spec ≡ spec → (join : Option JoinOrder) → ReadsRowsBy bases paths spec join → IsStood (join_in spec) join side at order.formats position
    kind-is (PhysicalFile spec) is join reads = plain-is join reads
    kind-is (LogicalFile (Simple view)) is join reads = plain-is join reads
    kind-is (LogicalFile (Multi views)) is join reads = plain-is join reads
    kind-is (LogicalFile (Join view)) is None reads = absurd reads
    kind-is (LogicalFile (Join view)) is (Some join) reads =
        is_stood join.parts ∙ subst (λ (ps : List KeyPart). stood_at side ps to ≡ position) (joined-parts bases its view is ∙ reads.parts) placed.stood

    pub stand-can : ReadsRowsBy bases paths its.file.spec order.join → CanStand order.join order.formats at
    stand-can reads = kind-can its.file.spec refl order.join reads

    pub stand-is : ReadsRowsBy bases paths its.file.spec order.join → IsStood (join_in its.file.spec) order.join side at order.formats position
    stand-is reads = kind-is its.file.spec refl order.join reads
