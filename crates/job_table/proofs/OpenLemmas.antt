-- What a change of each open makes of the list of opens, that their numbers stay in order, and that each stays beside how it reads.
use Rattle.std.proofs.Common.{◌≡◌, ℕ, zero, suc, ◌+◌, ◌<◌, ◌≤◌, ◌==◌, Bool, true, false, not, if◌then◌else◌}
use Rattle.std.proofs.Common.{Option, Some, None, List, [], ◌∷◌, ◌++◌, length, map, filter, get_or, option_map, option_copied}
use Rattle.std.proofs.Common.{refl, sym, ◌∙◌, ap, subst, arith}
use Rattle.std.proofs.Common.{All, IfSome, Bor, inl, inr, ◌||◌}
use Rattle.std.specs.List.{AllZip, list_any}
use Rattle.std.proofs.lemmas.Bool.{cases_order}
use Rattle.std.proofs.lemmas.Bool.Decides.{nat_tests}
use Rattle.std.proofs.lemmas.List.{length-map, get_or-map, map-append}
use Rattle.std.proofs.lemmas.List.Elements.{All-filter, All-map, All-push}
use Rattle.std.proofs.lemmas.List.Kept.{AllPairs-filter}
use Rattle.std.proofs.lemmas.List.Quantifiers.{all_pairs_push}
use Rattle.std.proofs.lemmas.Map.Entries.{All-lookup}
use Rattle.std.proofs.lemmas.Map.Made.{lookup-map_values}
use Rattle.library_model.specs.Named.{Named, named, same_name}
use Rattle.lawful_states.specs.State.{OpenState}
use Rattle.lawful_states.specs.Reads.{as_rows, positioned, has_read, entry_found, row_found}
use Rattle.lawful_states.specs.ChangeRecord.{is_current, without_current}
use Rattle.file_model.specs.KeyOrder.{merged_parts}
use Rattle.dds_logical.specs.declared.join_views.JoinView.{JoinView}
use Rattle.file_model.specs.Joins.{RowPlace}
use Rattle.file_model.specs.Paths.{PathEntry}
use Rattle.file_model.specs.Positions.{Position}
use Rattle.file_cursor.specs.declared.places.Hit.{Hit}
use Rattle.join_position.below.open_position.specs.declared.position.StandAt.{StandAt}
use Rattle.join_position.below.open_position.specs.declared.position.StandAt.TheVariants as places
use Rattle.join_position.below.open_position.specs.declared.position.Side.{Side}
use Rattle.join_position.below.open_position.specs.declared.position.Side.TheVariants as sides
use Rattle.join_position.specs.RowStand as rows
use Rattle.join_position.specs.Reads.{stood, entry_hit}
use Rattle.lock_table.specs.declared.levels.Call.{Call}
use Rattle.key_spec.specs.declared.KeyPart.{KeyPart}
use Rattle.job_table.specs.declared.opens.OpenChange.{OpenChange}
use Rattle.job_table.specs.declared.opens.OpenChange.TheVariants.{Positioned, HasRead, HasReadRow, WithoutCurrent, WithoutRecord, Committed, RolledBack}
use Rattle.commit_level.specs.declared.Level.{Level}
use Rattle.library_model.specs.declared.requests.OpenFile.{OpenFile}
use Rattle.lawful_states.specs.Opens.{new_open, with_open, without_open}
use Rattle.job_table.specs.Changes.{RoomyCycle}
use Rattle.job_table.specs.Table.{RoomyJob, job_state}
use Rattle.job_table.specs.Opens.{JoinOrder, OpenOrder, KeptOpen, AreKept, HasOneNumber, AllOfNumber, SameOpen, state_in, order_in, states_of, orders_of}
use Rattle.job_table.specs.declared.opens.RowRead.{RowRead}
use Rattle.job_table.specs.OpenChanges.{among_rows, stood_by, place_by, IsStood, state_after, open_after, opens_after, job_after}

abbrev pub changed_entry : (KeptOpen → KeptOpen) → List ℕ × KeptOpen → List ℕ × KeptOpen
changed_entry change entry = (entry.0, change entry.1)

-- ---- numbers

number-either : (b : Bool) (one other : OpenState) (number : ℕ) → one.number ≡ number → other.number ≡ number → (if b then one else other).number ≡ number
number-either true one other number first second = first
number-either false one other number first second = second

-- no change gives an open another number
number-stood : (join : Option JoinOrder) (side : Side) (at : StandAt) (formats : List (List KeyPart)) (opened : OpenState) → (stood_by join side at formats opened).number ≡ opened.number
number-stood None side at formats opened = refl
number-stood (Some join) side at formats opened = refl

pub number-state_after : (change : OpenChange) (order : OpenOrder) (opened : OpenState) → (state_after change order opened).number ≡ opened.number
number-state_after (Positioned number side at) order opened =
    number-either (opened.number == number) (stood_by order.join side at order.formats opened) opened opened.number (number-stood order.join side at order.formats opened) refl
number-state_after (HasRead number call hit) order opened =
    number-either (opened.number == number) (has_read call (entry_found (entry_hit (merged_parts order.formats) hit)) opened) opened opened.number refl refl
number-state_after (HasReadRow number call read) order opened =
    number-either (opened.number == number) (has_read call (row_found (place_by order.join read)) opened) opened opened.number refl refl
number-state_after (WithoutCurrent number) order opened = number-either (opened.number == number) (without_current opened) opened opened.number refl refl
number-state_after (WithoutRecord member rrn) order opened = number-either (is_current member rrn opened) (without_current opened) opened opened.number refl refl
number-state_after Committed order opened = number-either opened.commit _ opened opened.number refl refl
number-state_after RolledBack order opened = number-either opened.commit _ _ opened.number refl refl

number-at : (change : OpenChange) (opens : Named KeptOpen) (k : ℕ) (d : List ℕ × OpenState)
    → (get_or (states_of (map (changed_entry (open_after change)) opens)) k d).1.number ≡ (get_or (states_of opens) k d).1.number
number-at change [] k d = refl
number-at change (entry ∷ opens) zero d = number-state_after change entry.1.order entry.1.state
number-at change (entry ∷ opens) (suc k) d = number-at change opens k d

pub AreKept-map : (change : OpenChange) (opens : Named KeptOpen) (opened : ℕ) → AreKept opens opened → AreKept (map (changed_entry (open_after change)) opens) opened
AreKept-map change opens opened kept =
    let long : length (states_of (map (changed_entry (open_after change)) opens)) ≡ length (states_of opens) =
    length-map (map (changed_entry (open_after change)) opens) state_in ∙ length-map opens (changed_entry (open_after change)) ∙ sym (length-map opens state_in) in
    record {
      numbered = record {
        ascending = λ i j d before within.
            rw (number-at change opens i d, number-at change opens j d) (kept.numbered.ascending i j d before (omega (arith, long)));
        had = λ k d within. rw (number-at change opens k d) (kept.numbered.had k d (omega (arith, long)));
      };
      alike = All-map HasOneNumber (changed_entry (open_after change)) opens
          (λ k d within. kept.alike k d within ∙ sym (number-state_after change (get_or opens k d).1.order (get_or opens k d).1.state));
    }

-- ---- opens that are closed

pub map-filter : {A B : Type 0} (f : A → B) (test : A → Bool) (other : B → Bool) (items : List A) → ((item : A) → test item ≡ other (f item)) → map f (filter test items) ≡ filter other (map f items)
map-filter f test other [] same = refl
map-filter f test other (item ∷ items) same =
    by (test item) (other (f item)) (same item) (map-filter f test other items same)
  where
    by : (a b : Bool) → a ≡ b → map f (filter test items) ≡ filter other (map f items)
        → map f (if a then item ∷ filter test items else filter test items) ≡ (if b then f item ∷ filter other (map f items) else filter other (map f items))
    by true true e rest = ap (λ l. f item ∷ l) rest
    by true false e rest = absurd cc
    by false true e rest = absurd cc
    by false false e rest = rest

pub states-filter : (name : List ℕ) (opens : Named KeptOpen) → states_of (filter (λ entry. not (same_name name entry.0)) opens) ≡ filter (λ entry. not (same_name name entry.0)) (states_of opens)
states-filter name opens = map-filter state_in (λ entry. not (same_name name entry.0)) (λ entry. not (same_name name entry.0)) opens (λ entry. refl)

pub orders-filter : (name : List ℕ) (opens : Named KeptOpen) → orders_of (filter (λ entry. not (same_name name entry.0)) opens) ≡ filter (λ entry. not (same_name name entry.0)) (orders_of opens)
orders-filter name opens = map-filter order_in (λ entry. not (same_name name entry.0)) (λ entry. not (same_name name entry.0)) opens (λ entry. refl)

pub AreKept-filter : (name : List ℕ) (opens : Named KeptOpen) (opened : ℕ) → AreKept opens opened → AreKept (filter (λ entry. not (same_name name entry.0)) opens) opened
AreKept-filter name opens opened kept = record {
  numbered = rw (states-filter name opens)
      (record {
        ascending = AllPairs-filter (λ former later. former.1.number < later.1.number) (λ entry. not (same_name name entry.0)) (states_of opens) kept.numbered.ascending;
        had = All-filter (λ entry. not (same_name name entry.0)) (λ entry. entry.1.number ≤ opened) (states_of opens) kept.numbered.had;
      });
  alike = All-filter (λ entry. not (same_name name entry.0)) HasOneNumber opens kept.alike;
}

-- ---- one open more

pub AreKept-push : (opens : Named KeptOpen) (opened : ℕ) (entry : List ℕ × KeptOpen) → AreKept opens opened → entry.1.state.number ≡ opened + 1 → entry.1.order.number ≡ opened + 1
    → AreKept (opens ++ entry ∷ []) (opened + 1)
AreKept-push opens opened entry kept number order = record {
  numbered = rw (map-append state_in opens (entry ∷ []))
      (record {
        ascending = all_pairs_push (λ former later. former.1.number < later.1.number) (states_of opens) (state_in entry) kept.numbered.ascending
            (λ k d within. let had = kept.numbered.had k d within in omega (arith, number));
        had = All-push (λ entry. entry.1.number ≤ opened + 1) (states_of opens) (state_in entry) (λ k d within. let had = kept.numbered.had k d within in omega arith) (omega (arith, number));
      });
  alike = All-push HasOneNumber opens entry kept.alike (order ∙ sym number);
}

-- ---- each open beside how it reads

pub same-opens : (opens : Named KeptOpen) → All HasOneNumber opens → AllZip SameOpen (states_of opens) (orders_of opens)
same-opens [] alike = tt
same-opens (entry ∷ opens) alike = ((refl, sym (alike 0 entry (omega arith))), same-opens opens (λ k d within. alike (suc k) d (omega arith)))

pub opens_after-kept : (change : OpenChange) (opens : Named KeptOpen) → states_of (map (changed_entry (open_after change)) opens) ≡ opens_after change (states_of opens) (orders_of opens)
opens_after-kept change [] = refl
opens_after-kept change (entry ∷ opens) = ap (λ rest. (entry.0, state_after change entry.1.order entry.1.state) ∷ rest) (opens_after-kept change opens)

pub orders-kept : (change : OpenChange) (opens : Named KeptOpen) → orders_of (map (changed_entry (open_after change)) opens) ≡ orders_of opens
orders-kept change [] = refl
orders-kept change (entry ∷ opens) = ap (λ rest. order_in entry ∷ rest) (orders-kept change opens)

-- ---- the open of a name

-- no other open has its number
alone-at : (opens : Named KeptOpen) (opened : ℕ) → AreKept opens opened → All (λ entry. AllOfNumber entry.1.state.number (λ order. order ≡ entry.1.order) (orders_of opens)) opens
alone-at opens opened kept = λ k d within j e inside same.
    let there : j < length opens = omega (arith, length-map opens order_in, inside) in
    let order_is : get_or (orders_of opens) j e ≡ order_in (get_or opens j d) = get_or-map order_in opens j d e there in
    let at : (i : ℕ) → i < length opens → get_or (states_of opens) i (state_in d) ≡ state_in (get_or opens i d) = λ i h. get_or-map state_in opens i d (state_in d) h in
    let numbers : (get_or opens j d).1.state.number ≡ (get_or opens k d).1.state.number = sym (kept.alike j d there) ∙ sym (ap (λ o. o.1.number) order_is) ∙ same in
    let there_too : j < length (states_of opens) = omega (arith, length-map opens state_in, there) in
    let within_too : k < length (states_of opens) = omega (arith, length-map opens state_in, within) in
    let place : j ≡ k = elim (cases_order j k) [
      | inl e ↦ e
      | inr other ↦ elim other [
        | inl before ↦ (
            let less : (get_or opens j d).1.state.number < (get_or opens k d).1.state.number = (rw (at j there, at k within) at (kept.numbered.ascending j k (state_in d) before within_too)) in
            absurd (omega (arith, numbers)))
        | inr behind ↦ (
            let less : (get_or opens k d).1.state.number < (get_or opens j d).1.state.number = (rw (at j there, at k within) at (kept.numbered.ascending k j (state_in d) behind there_too)) in
            absurd (omega (arith, numbers)))
      ]
    ] in
    ap (λ o. o.1) order_is ∙ ap (λ i. (get_or opens i d).1.order) place

pub named-state : (name : List ℕ) (opens : Named KeptOpen) → option_map (λ o. o.state) (named name opens) ≡ named name (states_of opens)
named-state name opens = sym (lookup-map_values (λ o. o.state) (same_name name) opens)

pub named-order : (name : List ℕ) (opens : Named KeptOpen) → option_map (λ o. o.order) (named name opens) ≡ named name (orders_of opens)
named-order name opens = sym (lookup-map_values (λ o. o.order) (same_name name) opens)

of_copied : (P : KeptOpen → Type 0) (found : Option (Bor KeptOpen)) → IfSome (option_copied found) P → IfSome found (λ o. P o.now)
of_copied P None h = h
of_copied P (Some o) h = h

pub named-alone : (name : List ℕ) (opens : Named KeptOpen) (opened : ℕ) (found : Option (Bor KeptOpen)) → AreKept opens opened → option_copied found ≡ named name opens
    → IfSome found (λ o. AllOfNumber o.now.state.number (λ order. order ≡ o.now.order) (orders_of opens))
named-alone name opens opened found kept is =
    let P : KeptOpen → Type 0 = λ o. AllOfNumber o.state.number (λ order. order ≡ o.order) (orders_of opens) in
    of_copied P found (subst (λ o. IfSome o P) (sym is) (All-lookup P (same_name name) opens (alone-at opens opened kept)))

-- ---- a change of the opens as a change of each by itself

-- the change makes of the open what the function makes of it
abbrev Makes : OpenChange → (OpenState → OpenState) → List ℕ × OpenState → List ℕ × OpenOrder → Type 0
Makes change each entry order = entry.1.number ≡ order.1.number → state_after change order.1 entry.1 ≡ each entry.1

pub opens_after-each : (change : OpenChange) (each : OpenState → OpenState) (opens : Named OpenState) (orders : Named OpenOrder) → AllZip SameOpen opens orders
    → ((entry : List ℕ × OpenState) → All (λ order. entry.1.number ≡ order.1.number → state_after change order.1 entry.1 ≡ each entry.1) orders)
    → opens_after change opens orders ≡ map (λ entry. (entry.0, each entry.1)) opens
opens_after-each change each [] [] same makes = refl
opens_after-each change each [] (order ∷ orders) same makes = refl
opens_after-each change each (entry ∷ opens) [] same makes = absurd same
opens_after-each change each (entry ∷ opens) (order ∷ orders) same makes =
    let first : state_after change order.1 entry.1 ≡ each entry.1 = makes entry 0 order (omega arith) same.0.1 in
    let rest = opens_after-each change each opens orders same.1 (λ other k d within. makes other (suc k) d (omega arith)) in
    λ i. (entry.0, first i) ∷ rest i

-- where the change doesn't read how an open reads
pub opens_after-same : (change : OpenChange) (each : OpenState → OpenState) (opens : Named OpenState) (orders : Named OpenOrder) → AllZip SameOpen opens orders
    → ((order : OpenOrder) (opened : OpenState) → state_after change order opened ≡ each opened) → opens_after change opens orders ≡ map (λ entry. (entry.0, each entry.1)) opens
opens_after-same change each opens orders same makes = opens_after-each change each opens orders same (λ entry k d within numbers. makes (get_or orders k d).1 entry.1)

if-number : (a b : ℕ) (one two other : OpenState) → (a ≡ b → one ≡ two) → (if a == b then one else other) ≡ (if a == b then two else other)
if-number a b one two other same =
    elim (a == b) as (λ t. (a == b) ≡ t → (if t then one else other) ≡ (if t then two else other)) [
      | true ↦ λ e. same (grind (arith, nat_tests, e))
      | false ↦ λ e. refl
    ] refl

-- a position that is set, of a join file among its rows
rows-stood : (side : Side) (parts : List KeyPart) (at : StandAt) → rows.stood side parts at ≡ as_rows (stood side parts at)
rows-stood side parts places.Low = refl
rows-stood side parts places.High = refl
rows-stood sides.Before parts (places.Values values) = refl
rows-stood sides.Past parts (places.Values values) = refl
rows-stood sides.Before parts (places.Number rrn) = refl
rows-stood sides.Past parts (places.Number rrn) = refl

pub stood-is : (view : Option JoinView) (join : Option JoinOrder) (side : Side) (at : StandAt) (formats : List (List KeyPart)) (position : Position PathEntry) (opened : OpenState)
    → IsStood view join side at formats position → stood_by join side at formats opened ≡ positioned view position opened
stood-is None None side at formats position opened is = ap (λ p. positioned None p opened) is
stood-is None (Some join) side at formats position opened is = absurd is
stood-is (Some view) None side at formats position opened is = absurd is
stood-is (Some view) (Some join) side at formats position opened is = ap (λ p. among_rows p opened) (rows-stood side join.parts at ∙ ap as_rows is)

pub opens_after-positioned : (number : ℕ) (side : Side) (at : StandAt) (view : Option JoinView) (position : Position PathEntry) (opens : Named OpenState) (orders : Named OpenOrder)
    → AllZip SameOpen opens orders → AllOfNumber number (λ order. IsStood view order.join side at order.formats position) orders
    → opens_after (Positioned number side at) opens orders ≡ map (λ entry. (entry.0, if entry.1.number == number then positioned view position entry.1 else entry.1)) opens
opens_after-positioned number side at view position opens orders same all =
    opens_after-each (Positioned number side at) (λ opened. if opened.number == number then positioned view position opened else opened) opens orders same
    (λ entry k d within numbers.
    if-number entry.1.number number (stood_by (get_or orders k d).1.join side at (get_or orders k d).1.formats entry.1) (positioned view position entry.1) entry.1
    (λ e. stood-is view (get_or orders k d).1.join side at (get_or orders k d).1.formats position entry.1 (all k d within (sym numbers ∙ e))))

-- a row that is read
pub opens_after-row : (number : ℕ) (call : Call) (read : RowRead) (place : RowPlace) (opens : Named OpenState) (orders : Named OpenOrder) → AllZip SameOpen opens orders
    → AllOfNumber number (λ order. place_by order.join read ≡ place) orders
    → opens_after (HasReadRow number call read) opens orders ≡ map (λ entry. (entry.0, if entry.1.number == number then has_read call (row_found place) entry.1 else entry.1)) opens
opens_after-row number call read place opens orders same all =
    opens_after-each (HasReadRow number call read) (λ opened. if opened.number == number then has_read call (row_found place) opened else opened) opens orders same
    (λ entry k d within numbers.
    if-number entry.1.number number (has_read call (row_found (place_by (get_or orders k d).1.join read)) entry.1) (has_read call (row_found place) entry.1) entry.1
    (λ e. ap (λ p. has_read call (row_found p) entry.1) (all k d within (sym numbers ∙ e))))

-- an entry that is read
pub opens_after-read : (number : ℕ) (call : Call) (hit : Hit) (found : PathEntry) (opens : Named OpenState) (orders : Named OpenOrder) → AllZip SameOpen opens orders
    → AllOfNumber number (λ order. entry_hit (merged_parts order.formats) hit ≡ found) orders
    → opens_after (HasRead number call hit) opens orders ≡ map (λ entry. (entry.0, if entry.1.number == number then has_read call (entry_found found) entry.1 else entry.1)) opens
opens_after-read number call hit found opens orders same all =
    opens_after-each (HasRead number call hit) (λ opened. if opened.number == number then has_read call (entry_found found) opened else opened) opens orders same
    (λ entry k d within numbers.
    if-number entry.1.number number (has_read call (entry_found (entry_hit (merged_parts (get_or orders k d).1.formats) hit)) entry.1) (has_read call (entry_found found) entry.1) entry.1
    (λ e. ap (λ p. has_read call (entry_found p) entry.1) (all k d within (sym numbers ∙ e))))

-- ---- what is asked of all

pub none-asked : {A : Type 0} (items : List A) → All (λ item. Unit {0}) items
none-asked items = λ k d within. tt

pub any-state : (test : List ℕ × OpenState → Bool) (opens : Named KeptOpen) → list_any test (states_of opens) ≡ list_any (λ entry. test (state_in entry)) opens
any-state test [] = refl
any-state test (entry ∷ opens) = ap (λ rest. test (state_in entry) || rest) (any-state test opens)

pub asked-of_opens : (P : OpenOrder → Type 0) (opens : Named KeptOpen) → All (λ entry. P entry.1) (orders_of opens) → All (λ entry. P entry.1.order) opens
asked-of_opens P opens all = λ k d within.
    let is : get_or (orders_of opens) k (order_in d) ≡ order_in (get_or opens k d) = get_or-map order_in opens k d (order_in d) within in
    subst (λ (e : List ℕ × OpenOrder). P e.1) is (all k (order_in d) (omega (arith, length-map opens order_in, within)))

-- ---- a job whose opens are changed

abbrev pub kept_job : (name : List ℕ) (ended : Bool) → Option Level → RoomyCycle → Named KeptOpen → (opened : ℕ) → RoomyJob
kept_job name ended level cycle opens opened =
    record { state = job_state name ended level cycle.cycle (states_of opens) opened; room = cycle.room; orders = orders_of opens; moves = cycle.moves }

module _ (name : List ℕ) (ended : Bool) (level : Option Level) (cycle : RoomyCycle) (opens : Named KeptOpen) (opened : ℕ) where
  pub job-added : (args : OpenFile) (members : List ℕ) (order : OpenOrder) (new : KeptOpen) → new.state ≡ new_open args (opened + 1) members → new.order ≡ order
      → kept_job name ended level cycle (opens ++ (args.open_id, new) ∷ []) (opened + 1) ≡ record (kept_job name ended level cycle opens opened)
      { state = with_open args members (kept_job name ended level cycle opens opened).state; orders = orders_of opens ++ (args.open_id, order) ∷ [] }
  job-added args members order new state_is order_is =
      let states : states_of (opens ++ (args.open_id, new) ∷ []) ≡ states_of opens ++ (args.open_id, new_open args (opened + 1) members) ∷ [] =
      map-append state_in opens ((args.open_id, new) ∷ []) ∙ ap (λ s. states_of opens ++ (args.open_id, s) ∷ []) state_is in
      let orders : orders_of (opens ++ (args.open_id, new) ∷ []) ≡ orders_of opens ++ (args.open_id, order) ∷ [] =
      map-append order_in opens ((args.open_id, new) ∷ []) ∙ ap (λ o. orders_of opens ++ (args.open_id, o) ∷ []) order_is in
      λ i. record { state = job_state name ended level cycle.cycle (states i) (opened + 1); room = cycle.room; orders = orders i; moves = cycle.moves }

  pub job-removed : (gone : List ℕ) → kept_job name ended level cycle (filter (λ entry. not (same_name gone entry.0)) opens) opened ≡ record (kept_job name ended level cycle opens opened)
      { state = without_open gone (kept_job name ended level cycle opens opened).state; orders = filter (λ entry. not (same_name gone entry.0)) (orders_of opens) }
  job-removed gone =
      λ i. record { state = job_state name ended level cycle.cycle (states-filter gone opens i) opened; room = cycle.room; orders = orders-filter gone opens i; moves = cycle.moves }

  pub job-changed : (change : OpenChange) → kept_job name ended level cycle (map (changed_entry (open_after change)) opens) opened ≡ record (kept_job name ended level cycle opens opened)
      { state = job_after change (orders_of opens) (kept_job name ended level cycle opens opened).state }
  job-changed change =
      λ i. record { state = job_state name ended level cycle.cycle (opens_after-kept change opens i) opened; room = cycle.room; orders = orders-kept change opens i; moves = cycle.moves }
