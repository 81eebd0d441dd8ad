-- The moves of a change of one record lead each path of the members before it to that of the members after it.
use Rattle.std.proofs.Common.{ℕ, zero, suc, ◌+◌, ◌*◌, ◌<◌, ◌≤◌, ◌≡◌, ◌≢◌, ◌==◌, ◌⊎◌, inl, inr, Bool, true, false, cond, List, [], ◌∷◌, ◌++◌, length, map, Option, Some, None, IsSome, refl}
use Rattle.std.proofs.Common.{sym, ap, arith, ◌∙◌, subst, append_assoc}
use Rattle.std.specs.Prelude.{filter, AllPairs, Any}
use Rattle.std.specs.List.{AllByRecursion}
use Rattle.std.proofs.lemmas.Bool.{cond-true, cond-false}
use Rattle.std.proofs.lemmas.Bool.Decides.{nat_tests}
use Rattle.std.proofs.lemmas.List.{map-append}
use Rattle.std.proofs.lemmas.List.Elements.{All-map, All-from_recursion, recursion_from_All}
use Rattle.key_pages.specs.declared.entries.Entry.{Entry}
use Rattle.member_slots.specs.declared.slot.Slot.{Slot}
use Rattle.member_slots.specs.declared.slot.Slot.TheVariants.{Deleted}
use Rattle.member_slots.specs.Members.{Numbered, NumberedMembers, item_at, member_of}
use Rattle.file_model.specs.declared.paths.PathFormat.{PathFormat}
use Rattle.file_model.specs.declared.paths.PathSpec.{PathSpec}
use Rattle.access_path.specs.KeptEntries.{KeyOf, slot_key, image_key, kept}
use Rattle.access_path.specs.Moves.{Move, opposite, moved, FitsIn}
use Rattle.access_path.specs.PathBytes.{is_falling, members_of}
use Rattle.access_path.specs.Rebuilding.{member_slots}
use Rattle.access_path.proofs.MoveLemmas.{path-moved, path-fits}
use Rattle.access_path.proofs.EntryLemmas.{kept-deleted}
use Rattle.path_entrants.specs.Formats.{keys_of}
use Rattle.path_set.specs.declared.moves.PathMove.{PathMove}
use Rattle.path_set.specs.KeptPaths.{KeptPath, KeptPaths, NumberedPaths, AreShared, AreOver, entries_of, spare_of}
use Rattle.path_set.specs.RecordChanges.{RecordChange, reversed, move_in, moves_at, moves_from, moves_of, in_path, moves_in, opposites, entries_after, path_after, paths_after, FitEntries}
use Rattle.path_set.specs.RecordChanges.{count_in, CanBeMade}
use Rattle.path_set.specs.MemberChanges.{slot_with, IsAfterLast, IsRecordChange, AreReady}

-- ---- the moves of one path

abbrev pub moved_all : Bool → List Move → List Entry → List Entry
moved_all falling [] entries = entries
moved_all falling (m ∷ moves) entries = moved_all falling moves (moved falling m entries)

abbrev pub FitAll : Bool → List Move → List Entry → Type 0
FitAll falling [] entries = Unit {0}
FitAll falling (m ∷ moves) entries = FitsIn falling m entries × FitAll falling moves (moved falling m entries)

slot-key : (key : List ℕ → Option (List ℕ)) (image : Option (List ℕ)) → slot_key key (slot_with image) ≡ image_key key image
slot-key key None = refl
slot-key key (Some image) = refl

module _ (keys : KeyOf) (falling : Bool) (c : RecordChange) (before after : NumberedMembers) (changes : IsRecordChange c before after) where
  -- the entries with the formats done over the members after, and the others before
  abbrev pub mixed : List (List Slot) → List ℕ → List Entry
  mixed done members = kept keys falling (done ++ member_slots members before)

  -- over the member one slot is moved
  pub record IsLed (done : List (List Slot)) (members : List ℕ) : Type 0 where
    pub fits : FitsIn falling (move_in keys c (length done)) (mixed done (c.member ∷ members))
    pub is : moved falling (move_in keys c (length done)) (mixed done (c.member ∷ members)) ≡ kept keys falling (done ++ (member_of c.member after).slots ∷ member_slots members before)

  led : (done : List (List Slot)) (members : List ℕ) → IsLed done members
  led done members = by changes.slots.was
    where
      rest : List (List Slot)
      rest = member_slots members before

      old : Slot
      old = slot_with c.old

      new : Slot
      new = slot_with c.new

      front : List Slot
      front = changes.slots.front

      back : List Slot
      back = changes.slots.back

      same_move : record { format = length done; rrn = 1 + length front; old = slot_key (keys (length done)) old; new = slot_key (keys (length done)) new } ≡ move_in keys c (length done)
      same_move =
          ap (λ (o : Option (List ℕ)). record { format = length done; rrn = 1 + length changes.slots.front; old = o; new = slot_key (keys (length done)) (slot_with c.new) })
          (slot-key (keys (length done)) c.old)
          ∙ ap (λ (o : Option (List ℕ)). record { format = length done; rrn = 1 + length changes.slots.front; old = image_key (keys (length done)) c.old; new = o })
          (slot-key (keys (length done)) c.new)
          ∙ ap (λ (n : ℕ). record { format = length done; rrn = n; old = image_key (keys (length done)) c.old; new = image_key (keys (length done)) c.new }) (sym changes.slots.number)

      from : kept keys falling (done ++ (front ++ old ∷ back) ∷ rest) ≡ kept keys falling (done ++ (member_of c.member before).slots ∷ rest) → IsLed done members
      from same = record {
        fits = subst (λ (w : List Entry). FitsIn falling (move_in keys c (length done)) w) same
            (subst (λ (m : Move). FitsIn falling m (kept keys falling (done ++ (changes.slots.front ++ slot_with c.old ∷ changes.slots.back) ∷ member_slots members before))) same_move
            (path-fits keys falling done (member_slots members before) changes.slots.front changes.slots.back (slot_with c.old) (slot_with c.new)));
        is = ap (moved falling (move_in keys c (length done))) (sym same)
            ∙ ap (λ (m : Move). moved falling m (kept keys falling (done ++ (changes.slots.front ++ slot_with c.old ∷ changes.slots.back) ∷ member_slots members before))) (sym same_move)
            ∙ path-moved keys falling done (member_slots members before) changes.slots.front changes.slots.back (slot_with c.old) (slot_with c.new)
            ∙ ap (λ (s : List Slot). kept keys falling (done ++ s ∷ member_slots members before)) (sym changes.slots.is);
      }

      by : ((member_of c.member before).slots ≡ front ++ old ∷ back) ⊎ IsAfterLast old (member_of c.member before).slots front back → IsLed done members
      by (inl was) = from (ap (λ (s : List Slot). kept keys falling (done ++ s ∷ rest)) (sym was))
      by (inr last) =
          from (ap (λ (s : Slot). kept keys falling (done ++ (front ++ s ∷ back) ∷ rest)) last.deleted
          ∙ ap (λ (s : List Slot). kept keys falling (done ++ (front ++ Deleted ∷ s) ∷ rest)) last.none
          ∙ kept-deleted keys falling done rest front
          ∙ ap (λ (s : List Slot). kept keys falling (done ++ s ∷ rest)) (sym last.all))

  -- the moves from a format on
  pub record IsLedFrom (done : List (List Slot)) (members : List ℕ) : Type 0 where
    pub fits : FitAll falling (moves_from keys c (length done) members) (mixed done members)
    pub is : moved_all falling (moves_from keys c (length done) members) (mixed done members) ≡ kept keys falling (done ++ member_slots members after)

  led-from : (done : List (List Slot)) (members : List ℕ) → IsLedFrom done members
  led-from done [] = record { fits = tt; is = refl }
  led-from done (member ∷ members) = by (member == c.member) refl (λ slots. led-from (done ++ slots ∷ []) members)
    where
      longer : (slots : List Slot) → length (done ++ slots ∷ []) ≡ length done + 1
      longer slots = count done
        where
          count : (xs : List (List Slot)) → length (xs ++ slots ∷ []) ≡ length xs + 1
          count [] = omega arith
          count (x ∷ xs) = let e = count xs in omega (arith, e)

      next : (slots : List Slot) → IsLedFrom (done ++ slots ∷ []) members → slots ≡ (member_of member after).slots → record {
        fits : FitAll falling (moves_from keys c (length done + 1) members) (kept keys falling (done ++ slots ∷ member_slots members before));
        is : moved_all falling (moves_from keys c (length done + 1) members) (kept keys falling (done ++ slots ∷ member_slots members before))
            ≡ kept keys falling (done ++ member_slots (member ∷ members) after);
      }
      next slots rest same =
          let count = longer slots in
          let join : kept keys falling ((done ++ slots ∷ []) ++ member_slots members before) ≡ kept keys falling (done ++ slots ∷ member_slots members before) =
          ap (kept keys falling) (append_assoc done (slots ∷ []) (member_slots members before)) in
          let also : kept keys falling ((done ++ slots ∷ []) ++ member_slots members after) ≡ kept keys falling (done ++ member_slots (member ∷ members) after) =
          ap (kept keys falling) (append_assoc done (slots ∷ []) (member_slots members after) ∙ ap (λ (s : List Slot). done ++ s ∷ member_slots members after) same) in
          record {
            fits = subst (λ (w : List Entry). FitAll falling (moves_from keys c (length done + 1) members) w) join
                (subst (λ (n : ℕ). FitAll falling (moves_from keys c n members) (kept keys falling ((done ++ slots ∷ []) ++ member_slots members before))) count rest.fits);
            is = ap (moved_all falling (moves_from keys c (length done + 1) members)) (sym join)
                ∙ ap (λ (n : ℕ). moved_all falling (moves_from keys c n members) (kept keys falling ((done ++ slots ∷ []) ++ member_slots members before))) (sym count)
                ∙ rest.is ∙ also;
          }

      by : (b : Bool) → (member == c.member) ≡ b → ((slots : List Slot) → IsLedFrom (done ++ slots ∷ []) members) → IsLedFrom done (member ∷ members)
      by true same more =
          let own : member ≡ c.member = grind (arith, nat_tests) in
          let now = led done members in
          let rest = next (member_of c.member after).slots (more (member_of c.member after).slots) (ap (λ (n : ℕ). (member_of n after).slots) (sym own)) in
          let moves : moves_from keys c (length done) (member ∷ members) ≡ move_in keys c (length done) ∷ moves_from keys c (length done + 1) members =
          ap (λ (w : List Move). w ++ moves_from keys c (length done + 1) members) (cond-true (member == c.member) (move_in keys c (length done) ∷ []) [] same) in
          let start : mixed done (c.member ∷ members) ≡ mixed done (member ∷ members) = ap (λ (n : ℕ). mixed done (n ∷ members)) (sym own) in
          let first : moved falling (move_in keys c (length done)) (mixed done (member ∷ members)) ≡ kept keys falling (done ++ (member_of c.member after).slots ∷ member_slots members before) =
          ap (moved falling (move_in keys c (length done))) (sym start) ∙ now.is in
          record {
            fits = subst (λ (w : List Move). FitAll falling w (mixed done (member ∷ members))) (sym moves) (
              subst (FitsIn falling (move_in keys c (length done))) start now.fits,
              subst (FitAll falling (moves_from keys c (length done + 1) members)) (sym first) rest.fits,
            );
            is = ap (λ (w : List Move). moved_all falling w (mixed done (member ∷ members))) moves
                ∙ ap (moved_all falling (moves_from keys c (length done + 1) members)) first
                ∙ rest.is;
          }
      by false same more =
          let other : member ≢ c.member = grind (arith, nat_tests) in
          let rest = next (member_of member before).slots (more (member_of member before).slots) (sym (changes.others member other)) in
          let moves : moves_from keys c (length done) (member ∷ members) ≡ moves_from keys c (length done + 1) members =
          ap (λ (w : List Move). w ++ moves_from keys c (length done + 1) members) (cond-false (member == c.member) (move_in keys c (length done) ∷ []) [] same) in
          record {
            fits = subst (λ (w : List Move). FitAll falling w (mixed done (member ∷ members))) (sym moves) rest.fits;
            is = ap (λ (w : List Move). moved_all falling w (mixed done (member ∷ members))) moves ∙ rest.is;
          }

-- the moves of a path
pub record IsLedPath (c : RecordChange) (before after : NumberedMembers) (spec : PathSpec) : Type 0 where
  pub fits : FitAll (is_falling spec.ties) (moves_of c spec) (entries_of spec before)
  pub is : moved_all (is_falling spec.ties) (moves_of c spec) (entries_of spec before) ≡ entries_of spec after

led-path : (c : RecordChange) (before after : NumberedMembers) → IsRecordChange c before after → (spec : PathSpec) → IsLedPath c before after spec
led-path c before after changes spec =
    let led = led-from (keys_of spec.formats) (is_falling spec.ties) c before after changes [] (members_of spec.formats) in
    record { fits = led.fits; is = led.is }

-- ---- the moves of all paths

module _ (falling : Bool) (id : ℕ) where
  -- those of the path itself
  own-after : (moves : List Move) (entries : List Entry) → entries_after falling id (in_path id moves) entries ≡ moved_all falling moves entries
  own-after [] entries = refl
  own-after (m ∷ moves) entries =
      ap (entries_after falling id (in_path id moves)) (cond-true (id == id) (moved falling m entries) entries (let e : (id == id) ≡ true = grind (arith, nat_tests) in e))
      ∙ own-after moves (moved falling m entries)

  own-fit : (moves : List Move) (entries : List Entry) → FitAll falling moves entries → FitEntries falling id (in_path id moves) entries
  own-fit [] entries fit = tt
  own-fit (m ∷ moves) entries fit = (
    λ same. fit.0,
    subst (FitEntries falling id (in_path id moves)) (sym (cond-true (id == id) (moved falling m entries) entries (let e : (id == id) ≡ true = grind (arith, nat_tests) in e)))
        (own-fit moves (moved falling m entries) fit.1),
  )

  -- those of another path
  other-after : (other : ℕ) (moves : List Move) (entries : List Entry) → other ≢ id → entries_after falling id (in_path other moves) entries ≡ entries
  other-after other [] entries differs = refl
  other-after other (m ∷ moves) entries differs =
      ap (entries_after falling id (in_path other moves)) (cond-false (other == id) (moved falling m entries) entries (let e : (other == id) ≡ false = grind (arith, nat_tests) in e))
      ∙ other-after other moves entries differs

  other-fit : (other : ℕ) (moves : List Move) (entries : List Entry) → other ≢ id → FitEntries falling id (in_path other moves) entries
  other-fit other [] entries differs = tt
  other-fit other (m ∷ moves) entries differs = (
    λ same. absurd (differs same),
    other-fit other moves (cond (other == id) (moved falling m entries) entries) differs,
  )

  pub after-append : (xs ys : List PathMove) (entries : List Entry) → entries_after falling id (xs ++ ys) entries ≡ entries_after falling id ys (entries_after falling id xs entries)
  after-append [] ys entries = refl
  after-append (x ∷ xs) ys entries = after-append xs ys (cond (x.id == id) (moved falling x.change entries) entries)

  pub fit-append : (xs ys : List PathMove) (entries : List Entry) → FitEntries falling id xs entries → FitEntries falling id ys (entries_after falling id xs entries)
      → FitEntries falling id (xs ++ ys) entries
  fit-append [] ys entries first second = second
  fit-append (x ∷ xs) ys entries first second = (first.0, fit-append xs ys (cond (x.id == id) (moved falling x.change entries) entries) first.1 second)

  others-after : (c : RecordChange) (paths : NumberedPaths) (entries : List Entry) → AllByRecursion (λ (path : Numbered KeptPath). path.number ≢ id) paths
      → entries_after falling id (moves_in c paths) entries ≡ entries
  others-after c [] entries apart = refl
  others-after c (path ∷ paths) entries apart =
      after-append (in_path path.number (moves_of c path.item.spec)) (moves_in c paths) entries
      ∙ ap (entries_after falling id (moves_in c paths)) (other-after path.number (moves_of c path.item.spec) entries apart.0)
      ∙ others-after c paths entries apart.1

  others-fit : (c : RecordChange) (paths : NumberedPaths) (entries : List Entry) → AllByRecursion (λ (path : Numbered KeptPath). path.number ≢ id) paths
      → FitEntries falling id (moves_in c paths) entries
  others-fit c [] entries apart = tt
  others-fit c (path ∷ paths) entries apart =
      fit-append (in_path path.number (moves_of c path.item.spec)) (moves_in c paths) entries (other-fit path.number (moves_of c path.item.spec) entries apart.0)
      (others-fit c paths (entries_after falling id (in_path path.number (moves_of c path.item.spec)) entries) apart.1)

-- ---- paths apart

abbrev pub Ascend : NumberedPaths → Type 0
Ascend [] = Unit {0}
Ascend (path ∷ paths) = AllByRecursion (λ (later : Numbered KeptPath). path.number < later.number) paths × Ascend paths

pub ascend-from : (paths : NumberedPaths) → AllPairs (λ (former later : Numbered KeptPath). former.number < later.number) paths → Ascend paths
ascend-from [] h = tt
ascend-from (path ∷ paths) h = (
  recursion_from_All (λ (later : Numbered KeptPath). path.number < later.number) paths (λ k d low. h zero (suc k) d (omega arith) (omega arith)),
  ascend-from paths (λ i j d lt low. h (suc i) (suc j) d (omega arith) (omega arith)),
)

-- each path of the second list, between those of the first and those after it
abbrev AreEach : (P : Numbered KeptPath → NumberedPaths → NumberedPaths → Type 0) → NumberedPaths → NumberedPaths → Type 0
AreEach P front [] = Unit {0}
AreEach P front (path ∷ paths) = P path front paths × AreEach P (front ++ path ∷ []) paths

pub weaken : (P Q : Numbered KeptPath → Type 0) → ((path : Numbered KeptPath) → P path → Q path) → (paths : NumberedPaths) → AllByRecursion P paths → AllByRecursion Q paths
weaken P Q f [] all = tt
weaken P Q f (path ∷ paths) all = (f path all.0, weaken P Q f paths all.1)

both : (P : Numbered KeptPath → Type 0) (xs ys : NumberedPaths) → AllByRecursion P xs → AllByRecursion P ys → AllByRecursion P (xs ++ ys)
both P [] ys first second = second
both P (x ∷ xs) ys first second = (first.0, both P xs ys first.1 second)

-- a fact that follows where all others have another number holds of each
pub each-apart : (P : Numbered KeptPath → Type 0) (whole : NumberedPaths)
    → ((front : NumberedPaths) (path : Numbered KeptPath) (back : NumberedPaths) → whole ≡ front ++ path ∷ back → AllByRecursion (λ (other : Numbered KeptPath). other.number ≢ path.number) front
    → AllByRecursion (λ (other : Numbered KeptPath). other.number ≢ path.number) back → P path)
    → Ascend whole → AllByRecursion P whole
each-apart P whole fact ascend = go [] whole refl ascend tt
  where
    go : (front paths : NumberedPaths) → whole ≡ front ++ paths → Ascend paths
        → AllByRecursion (λ (former : Numbered KeptPath). AllByRecursion (λ (later : Numbered KeptPath). former.number < later.number) paths) front
        → AllByRecursion P paths
    go front [] is ascend below = tt
    go front (path ∷ paths) is ascend below = (
      fact front path paths is
          (weaken (λ (former : Numbered KeptPath). AllByRecursion (λ (later : Numbered KeptPath). former.number < later.number) (path ∷ paths))
          (λ (other : Numbered KeptPath). other.number ≢ path.number)
          (λ former all same. let lt = all.0 in omega (arith, lt, same)) front below)
          (weaken (λ (later : Numbered KeptPath). path.number < later.number) (λ (other : Numbered KeptPath). other.number ≢ path.number) (λ later lt same. omega (arith, lt, same)) paths ascend.0),
      go (front ++ path ∷ []) paths (is ∙ sym (append_assoc front (path ∷ []) paths)) ascend.1
          (both (λ (former : Numbered KeptPath). AllByRecursion (λ (later : Numbered KeptPath). former.number < later.number) paths) front (path ∷ [])
          (weaken (λ (former : Numbered KeptPath). AllByRecursion (λ (later : Numbered KeptPath). former.number < later.number) (path ∷ paths))
          (λ (former : Numbered KeptPath). AllByRecursion (λ (later : Numbered KeptPath). former.number < later.number) paths) (λ former all. all.1) front below)
          (ascend.0, tt)),
    )

moves-split : (c : RecordChange) (front : NumberedPaths) (path : Numbered KeptPath) (back : NumberedPaths)
    → moves_in c (front ++ path ∷ back) ≡ moves_in c front ++ (in_path path.number (moves_of c path.item.spec) ++ moves_in c back)
moves-split c [] path back = refl
moves-split c (first ∷ front) path back =
    ap (λ (w : List PathMove). in_path first.number (moves_of c first.item.spec) ++ w) (moves-split c front path back)
    ∙ sym (append_assoc (in_path first.number (moves_of c first.item.spec)) (moves_in c front) (in_path path.number (moves_of c path.item.spec) ++ moves_in c back))

module _ (c : RecordChange) (whole front back : NumberedPaths) (path : Numbered KeptPath) (is : whole ≡ front ++ path ∷ back)
    (before_apart : AllByRecursion (λ (other : Numbered KeptPath). other.number ≢ path.number) front)
    (after_apart : AllByRecursion (λ (other : Numbered KeptPath). other.number ≢ path.number) back) where
  abbrev falls : Bool
  falls = is_falling path.item.spec.ties

  abbrev own : List PathMove
  own = in_path path.number (moves_of c path.item.spec)

  one-after : (entries : List Entry) → entries_after falls path.number (moves_in c whole) entries ≡ moved_all falls (moves_of c path.item.spec) entries
  one-after entries =
      ap (λ (w : NumberedPaths). entries_after falls path.number (moves_in c w) entries) is
      ∙ ap (λ (w : List PathMove). entries_after falls path.number w entries) (moves-split c front path back)
      ∙ after-append falls path.number (moves_in c front) (own ++ moves_in c back) entries
      ∙ ap (entries_after falls path.number (own ++ moves_in c back)) (others-after falls path.number c front entries before_apart)
      ∙ after-append falls path.number own (moves_in c back) entries
      ∙ ap (entries_after falls path.number (moves_in c back)) (own-after falls path.number (moves_of c path.item.spec) entries)
      ∙ others-after falls path.number c back (moved_all falls (moves_of c path.item.spec) entries) after_apart

  one-fit : (entries : List Entry) → FitAll falls (moves_of c path.item.spec) entries → FitEntries falls path.number (moves_in c whole) entries
  one-fit entries fit =
      subst (λ (w : NumberedPaths). FitEntries falls path.number (moves_in c w) entries) (sym is)
      (subst (λ (w : List PathMove). FitEntries falls path.number w entries) (sym (moves-split c front path back))
      (fit-append falls path.number (moves_in c front) (own ++ moves_in c back) entries (others-fit falls path.number c front entries before_apart)
      (fit-append falls path.number own (moves_in c back) (entries_after falls path.number (moves_in c front) entries)
      (subst (FitEntries falls path.number own) (sym (others-after falls path.number c front entries before_apart)) (own-fit falls path.number (moves_of c path.item.spec) entries fit))
      (others-fit falls path.number c back (entries_after falls path.number own (entries_after falls path.number (moves_in c front) entries)) after_apart))))

-- ---- the laws

pub paths-over : (c : RecordChange) (before after : NumberedMembers) (paths : NumberedPaths) → IsRecordChange c before after → AreShared paths → AreOver before paths
    → AreOver after (paths_after (moves_in c paths) paths)
paths-over c before after paths changes shared over =
    All-map (λ (path : Numbered KeptPath). path.item.entries ≡ entries_of path.item.spec after) (path_after (moves_in c paths)) paths
    (All-from_recursion (λ (path : Numbered KeptPath). entries_after (is_falling path.item.spec.ties) path.number (moves_in c paths) path.item.entries ≡ entries_of path.item.spec after) paths
    (join paths (recursion_from_All (λ (path : Numbered KeptPath). path.item.entries ≡ entries_of path.item.spec before) paths over)
    (each-apart (λ (path : Numbered KeptPath). (entries : List Entry) → entries_after (is_falling path.item.spec.ties) path.number (moves_in c paths) entries
    ≡ moved_all (is_falling path.item.spec.ties) (moves_of c path.item.spec) entries) paths
    (λ front path back is first second entries. one-after c paths front back path is first second entries) (ascend-from paths shared.ascend))))
  where
    join : (rest : NumberedPaths) → AllByRecursion (λ (path : Numbered KeptPath). path.item.entries ≡ entries_of path.item.spec before) rest
        → AllByRecursion (λ (path : Numbered KeptPath). (entries : List Entry) → entries_after (is_falling path.item.spec.ties) path.number (moves_in c paths) entries
        ≡ moved_all (is_falling path.item.spec.ties) (moves_of c path.item.spec) entries) rest
        → AllByRecursion (λ (path : Numbered KeptPath). entries_after (is_falling path.item.spec.ties) path.number (moves_in c paths) path.item.entries ≡ entries_of path.item.spec after) rest
    join [] was follows = tt
    join (path ∷ rest) was follows = (
      follows.0 path.item.entries ∙ ap (moved_all (is_falling path.item.spec.ties) (moves_of c path.item.spec)) was.0 ∙ (led-path c before after changes path.item.spec).is,
      join rest was.1 follows.1,
    )

some-at : (front : NumberedPaths) (path : Numbered KeptPath) (back : NumberedPaths) → IsSome (item_at path.number (front ++ path ∷ back))
some-at [] path back = rw (let e : cond (path.number == path.number) (Some path.item) (item_at path.number back)
    ≡ Some path.item = cond-true (path.number == path.number) (Some path.item) (item_at path.number back) (let t : (path.number == path.number) ≡ true = grind (arith, nat_tests) in t) in e) refl
some-at (first ∷ front) path back = by (first.number == path.number) (some-at front path back)
  where
    by : (b : Bool) → IsSome (item_at path.number (front ++ path ∷ back)) → IsSome (cond b (Some first.item) (item_at path.number (front ++ path ∷ back)))
    by true rest = refl
    by false rest = rest

pub both-moves : (P : PathMove → Type 0) (xs ys : List PathMove) → AllByRecursion P xs → AllByRecursion P ys → AllByRecursion P (xs ++ ys)
both-moves P [] ys first second = second
both-moves P (x ∷ xs) ys first second = (first.0, both-moves P xs ys first.1 second)

there-all : (c : RecordChange) (whole paths : NumberedPaths) → AllByRecursion (λ (path : Numbered KeptPath). IsSome (item_at path.number whole)) paths
    → AllByRecursion (λ (m : PathMove). IsSome (item_at m.id whole)) (moves_in c paths)
there-all c whole [] some = tt
there-all c whole (path ∷ paths) some =
    both-moves (λ (m : PathMove). IsSome (item_at m.id whole)) (in_path path.number (moves_of c path.item.spec)) (moves_in c paths)
    (own-there (moves_of c path.item.spec)) (there-all c whole paths some.1)
  where
    own-there : (moves : List Move) → AllByRecursion (λ (m : PathMove). IsSome (item_at m.id whole)) (in_path path.number moves)
    own-there [] = tt
    own-there (m ∷ moves) = (some.0, own-there moves)

-- ---- room

length-parts : (xs ys : List PathMove) → length (xs ++ ys) ≡ length xs + length ys
length-parts [] ys = omega arith
length-parts (x ∷ xs) ys = let e = length-parts xs ys in omega (arith, e)

pub count-append : (id : ℕ) (xs ys : List PathMove) → count_in id (xs ++ ys) ≡ count_in id xs + count_in id ys
count-append id [] ys = omega arith
count-append id (x ∷ xs) ys = by (x.id == id) (count-append id xs ys)
  where
    by : (b : Bool) → count_in id (xs ++ ys) ≡ count_in id xs + count_in id ys
        → length (cond b (x ∷ filter (λ (m : PathMove). m.id == id) (xs ++ ys)) (filter (λ (m : PathMove). m.id == id) (xs ++ ys)))
        ≡ length (cond b (x ∷ filter (λ (m : PathMove). m.id == id) xs) (filter (λ (m : PathMove). m.id == id) xs)) + count_in id ys
    by true e = omega (arith, e)
    by false e = e

pub count-other : (id other : ℕ) (moves : List Move) → other ≢ id → count_in id (in_path other moves) ≡ 0
count-other id other [] differs = refl
count-other id other (m ∷ moves) differs =
    ap length (cond-false (other == id) (record { id = other; change = m } ∷ filter (λ (x : PathMove). x.id == id) (in_path other moves)) (filter (λ (x : PathMove). x.id == id) (in_path other moves))
    (let e : (other == id) ≡ false = grind (arith, nat_tests) in e))
    ∙ count-other id other moves differs

pub count-few : (id other : ℕ) (moves : List Move) → count_in id (in_path other moves) ≤ length moves
count-few id other [] = omega arith
count-few id other (m ∷ moves) = by (other == id) (count-few id other moves)
  where
    by : (b : Bool) → count_in id (in_path other moves) ≤ length moves
        → length (cond b (record { id = other; change = m } ∷ filter (λ (x : PathMove). x.id == id) (in_path other moves))
        (filter (λ (x : PathMove). x.id == id) (in_path other moves))) ≤ suc (length moves)
    by true e = omega (arith, e)
    by false e = omega (arith, e)

-- no format over the member has a move
pub record AreFew (keys : KeyOf) (c : RecordChange) (format : ℕ) (formats : List PathFormat) : Type 0 where
  pub few : length (moves_from keys c format (members_of formats)) ≤ length formats
  pub none : (length (moves_from keys c format (members_of formats)) ≡ 0) ⊎ Any (λ (f : PathFormat). f.member ≡ c.member) formats

pub are-few : (keys : KeyOf) (c : RecordChange) (format : ℕ) (formats : List PathFormat) → AreFew keys c format formats
are-few keys c format [] = record { few = omega arith; none = inl refl }
are-few keys c format (f ∷ formats) = by (f.member == c.member) refl (are-few keys c (format + 1) formats)
  where
    later : Any (λ (g : PathFormat). g.member ≡ c.member) formats → Any (λ (g : PathFormat). g.member ≡ c.member) (f ∷ formats)
    later (k, x, low, at, is) = (suc k, x, (omega arith), at, is)

    by : (b : Bool) → (f.member == c.member) ≡ b → AreFew keys c (format + 1) formats → AreFew keys c format (f ∷ formats)
    by true same rest =
        let moves : moves_from keys c format (members_of (f ∷ formats)) ≡ move_in keys c format ∷ moves_from keys c (format + 1) (members_of formats) =
        ap (λ (w : List Move). w ++ moves_from keys c (format + 1) (members_of formats)) (cond-true (f.member == c.member) (move_in keys c format ∷ []) [] same) in
        let count = ap length moves in
        let fewer = rest.few in
        record {
          few = omega (arith, count, fewer);
          none = inr (zero, f, (omega arith), refl, (let e : f.member ≡ c.member = grind (arith, nat_tests) in e));
        }
    by false same rest =
        let moves : moves_from keys c format (members_of (f ∷ formats)) ≡ moves_from keys c (format + 1) (members_of formats) =
        ap (λ (w : List Move). w ++ moves_from keys c (format + 1) (members_of formats)) (cond-false (f.member == c.member) (move_in keys c format ∷ []) [] same) in
        let count = ap length moves in
        let fewer = rest.few in
        record {
          few = omega (arith, count, fewer);
          none = elim rest.none [ inl zero_moves ↦ inl (count ∙ zero_moves) | inr any ↦ inr (later any) ];
        }

path-room : (c : RecordChange) (path : Numbered KeptPath) (spare : ℕ) → (Any (λ (f : PathFormat). f.member ≡ c.member) path.item.spec.formats → 1 * length path.item.spec.formats ≤ spare)
    → count_in path.number (in_path path.number (moves_of c path.item.spec)) ≤ spare
path-room c path spare room =
    let few = are-few (keys_of path.item.spec.formats) c 0 path.item.spec.formats in
    let most = count-few path.number path.number (moves_of c path.item.spec) in
    let all = few.few in
    elim few.none [
      | inl none ↦ omega (arith, most, none)
      | inr any ↦ (let r = room any in omega (arith, most, all, r))
    ]

counts : (id spare : ℕ) (c : RecordChange) (paths : NumberedPaths) → Ascend paths
    → AllByRecursion (λ (path : Numbered KeptPath). path.number ≡ id → count_in id (in_path path.number (moves_of c path.item.spec)) ≤ spare) paths → count_in id (moves_in c paths) ≤ spare
counts id spare c [] ascend room = omega arith
counts id spare c (path ∷ paths) ascend room =
    let both_counts = count-append id (in_path path.number (moves_of c path.item.spec)) (moves_in c paths) in
    by (path.number == id) refl both_counts (counts id spare c paths ascend.1 room.1)
  where
    none-later : (rest : NumberedPaths) → AllByRecursion (λ (other : Numbered KeptPath). other.number ≢ id) rest → count_in id (moves_in c rest) ≡ 0
    none-later [] apart = refl
    none-later (other ∷ rest) apart =
        let e = count-append id (in_path other.number (moves_of c other.item.spec)) (moves_in c rest) in
        let z = count-other id other.number (moves_of c other.item.spec) apart.0 in
        let r = none-later rest apart.1 in
        omega (arith, e, z, r)

    by : (b : Bool) → (path.number == id) ≡ b
        → count_in id (moves_in c (path ∷ paths)) ≡ count_in id (in_path path.number (moves_of c path.item.spec)) + count_in id (moves_in c paths)
        → count_in id (moves_in c paths) ≤ spare → count_in id (moves_in c (path ∷ paths)) ≤ spare
    by true same e rest =
        let own : path.number ≡ id = grind (arith, nat_tests) in
        let z = none-later paths (weaken (λ (later : Numbered KeptPath). path.number < later.number)
        (λ (other : Numbered KeptPath). other.number ≢ id) (λ later lt equal. omega (arith, lt, equal, own)) paths ascend.0) in
        let r = room.0 own in
        omega (arith, e, z, r)
    by false same e rest =
        let other : path.number ≢ id = grind (arith, nat_tests) in
        let z = count-other id path.number (moves_of c path.item.spec) other in
        omega (arith, e, z, rest)

pub paths-there : (c : RecordChange) (paths : NumberedPaths) → AreShared paths → AllByRecursion (λ (m : PathMove). IsSome (item_at m.id paths)) (moves_in c paths)
paths-there c paths shared =
    there-all c paths paths (each-apart (λ (path : Numbered KeptPath). IsSome (item_at path.number paths)) paths
    (λ front path back is first second. subst (λ (w : NumberedPaths). IsSome (item_at path.number w)) (sym is) (some-at front path back)) (ascend-from paths shared.ascend))

pub paths-fit : (c : RecordChange) (before after : NumberedMembers) (paths : NumberedPaths) → IsRecordChange c before after → AreShared paths → AreOver before paths
    → AllByRecursion (λ (path : Numbered KeptPath). FitEntries (is_falling path.item.spec.ties) path.number (moves_in c paths) path.item.entries) paths
paths-fit c before after paths changes shared over =
    join paths (recursion_from_All (λ (path : Numbered KeptPath). path.item.entries ≡ entries_of path.item.spec before) paths over)
    (each-apart (λ (path : Numbered KeptPath). (entries : List Entry) → FitAll (is_falling path.item.spec.ties) (moves_of c path.item.spec) entries
    → FitEntries (is_falling path.item.spec.ties) path.number (moves_in c paths) entries) paths
    (λ front path back is first second entries fit. one-fit c paths front back path is first second entries fit) (ascend-from paths shared.ascend))
  where
    join : (rest : NumberedPaths) → AllByRecursion (λ (path : Numbered KeptPath). path.item.entries ≡ entries_of path.item.spec before) rest
        → AllByRecursion (λ (path : Numbered KeptPath). (entries : List Entry) → FitAll (is_falling path.item.spec.ties) (moves_of c path.item.spec) entries
        → FitEntries (is_falling path.item.spec.ties) path.number (moves_in c paths) entries) rest
        → AllByRecursion (λ (path : Numbered KeptPath). FitEntries (is_falling path.item.spec.ties) path.number (moves_in c paths) path.item.entries) rest
    join [] was fits = tt
    join (path ∷ rest) was fits = (
      fits.0 path.item.entries
          (subst (FitAll (is_falling path.item.spec.ties) (moves_of c path.item.spec)) (sym was.0) (led-path c before after changes path.item.spec).fits),
      join rest was.1 fits.1,
    )

pub paths-made : (c : RecordChange) (before after : NumberedMembers) (kept : KeptPaths) → AreReady c before after kept → CanBeMade (moves_in c kept.paths) kept
paths-made c before after kept ready =
    let paths = kept.paths in
    record {
      there = All-from_recursion (λ (m : PathMove). IsSome (item_at m.id paths)) (moves_in c paths) (paths-there c paths ready.shared);
      fit = All-from_recursion (λ (path : Numbered KeptPath). FitEntries (is_falling path.item.spec.ties) path.number (moves_in c paths) path.item.entries) paths
          (paths-fit c before after paths ready.changes ready.shared ready.over);
      room = λ id.
          counts id (spare_of id kept) c paths (ascend-from paths ready.shared.ascend)
          (each-room id paths (recursion_from_All (λ (path : Numbered KeptPath). Any (λ (f : PathFormat). f.member ≡ c.member) path.item.spec.formats
          → 1 * length path.item.spec.formats ≤ spare_of path.number kept) paths ready.room));
    }
  where
    each-room : (id : ℕ) (rest : NumberedPaths)
        → AllByRecursion (λ (path : Numbered KeptPath). Any (λ (f : PathFormat). f.member ≡ c.member) path.item.spec.formats → 1 * length path.item.spec.formats ≤ spare_of path.number kept) rest
        → AllByRecursion (λ (path : Numbered KeptPath). path.number ≡ id → count_in id (in_path path.number (moves_of c path.item.spec)) ≤ spare_of id kept) rest
    each-room id [] room = tt
    each-room id (path ∷ rest) room = (
      λ same. subst (λ n. count_in n (in_path path.number (moves_of c path.item.spec)) ≤ spare_of n kept) same (path-room c path (spare_of path.number kept) room.0),
      each-room id rest room.1,
    )

-- ---- the change back

back-from : (keys : KeyOf) (c : RecordChange) (format : ℕ) (members : List ℕ) → map opposite (moves_from keys c format members) ≡ moves_from keys (reversed c) format members
back-from keys c format [] = refl
back-from keys c format (member ∷ members) =
    map-append opposite (moves_at keys c format member) (moves_from keys c (format + 1) members)
    ∙ ap (λ (w : List Move). w ++ map opposite (moves_from keys c (format + 1) members)) (by (member == c.member))
    ∙ ap (λ (w : List Move). moves_at keys (reversed c) format member ++ w) (back-from keys c (format + 1) members)
  where
    by : (b : Bool) → map opposite (cond b (move_in keys c format ∷ []) []) ≡ cond b (move_in keys (reversed c) format ∷ []) []
    by true = refl
    by false = refl

back-in : (id : ℕ) (moves : List Move) → opposites (in_path id moves) ≡ in_path id (map opposite moves)
back-in id [] = refl
back-in id (m ∷ moves) = ap (λ (w : List PathMove). record { id = id; change = opposite m } ∷ w) (back-in id moves)

pub moves-opposite : (c : RecordChange) (paths : NumberedPaths) → opposites (moves_in c paths) ≡ moves_in (reversed c) paths
moves-opposite c [] = refl
moves-opposite c (path ∷ paths) =
    map-append (λ (m : PathMove). record { id = m.id; change = opposite m.change }) (in_path path.number (moves_of c path.item.spec)) (moves_in c paths)
    ∙ ap (λ (w : List PathMove). w ++ opposites (moves_in c paths))
    (back-in path.number (moves_of c path.item.spec) ∙ ap (in_path path.number) (back-from (keys_of path.item.spec.formats) c 0 (members_of path.item.spec.formats)))
    ∙ ap (λ (w : List PathMove). in_path path.number (moves_of (reversed c) path.item.spec) ++ w) (moves-opposite c paths)

pub moves-later : (c : RecordChange) (moves : List PathMove) (paths : NumberedPaths) → moves_in c (paths_after moves paths) ≡ moves_in c paths
moves-later c moves [] = refl
moves-later c moves (path ∷ paths) = ap (λ (w : List PathMove). in_path path.number (moves_of c path.item.spec) ++ w) (moves-later c moves paths)
