-- What a journal leaves tells whether an entry may come next, and moves on with it.
use Rattle.std.proofs.Common.{◌≡◌, ℕ, ◌+◌, Bool, true, false, ◌==◌, ◌||◌, cond, List, [], ◌∷◌, ◌++◌, map, length, Option, Some, None, refl, sym, ap, ◌∙◌, subst, arith}
use Rattle.std.specs.Prelude.{⊤, not, ◌≤◌, ◌<◌}
use Rattle.std.specs.List.{filter, find, AllByRecursion}
use Rattle.std.specs.Str.{bytes_eq}
use Rattle.std.proofs.lemmas.List.{append_assoc}
use Rattle.std.proofs.lemmas.Bool.{eqb-true}
use Rattle.entry_codec.specs.declared.entries.Entry.{Entry}
use Rattle.entry_codec.specs.declared.kinds.EntryKind.{EntryKind}
use Rattle.entry_codec.specs.declared.kinds.EntryKind.TheVariants.{FileDeleted, CommitCycleStarted}
use Rattle.member_slots.specs.declared.slot.Slot.{Slot}
use Rattle.journal_model.specs.Acts.{Act, Nothing, Change, act, acts, act_there, act_elsewhere, is_number, entry_before}
use Rattle.journal_model.specs.Replay.{State, step, replay, moved, cycles_after, undos_after}
use Rattle.journal_model.specs.Replayable.{CanReplay, MayFollow, IsFree, IsOpen}
use Rattle.journal_model.specs.Pairs.{EndsPair}
use Rattle.journal_model.specs.Catalogue.{Catalogue, CatalogMember, Descriptions, MayEnterBy, member_numbered, members_of, is_in_file, catalogue_by, catalogue_after}
use Rattle.journal_model.specs.Images.{HasRecords}
use Rattle.journal_model.specs.Rollback.{MemberChange, undos_by, undos_of, of_member, named}
use Rattle.journal_model.specs.Journal.{Journal, entries, last_sequence, start_of, acts_after, state_of, open_cycles, catalogue_of}
use Rattle.journal_model.proofs.ReplayLemmas.{replay-append}
use Rattle.journal_model.proofs.EachLemmas.{each-weaker}
use Rattle.journal_model.proofs.LibraryLemmas.{IsLinked, linked}
use Rattle.journal_replay.specs.SoFar.{CanReplaySoFar, with_entry, MayComeNext}
use Rattle.journal_replay.specs.Standing.{HeldMember, Standing, catalog_member, catalogue_in, slots_at, state_in, begun_by, break_by, member_by, members_by, new_member, made_by, left_by, next_after, standing_after, MayStandNext}
use Rattle.journal_replay.specs.Left.{last_break, last_break_of, is_held, IsLeft}
use Rattle.journal_replay.proofs.SoFarLemmas.{entry_before-append, catalogue_after-append, acts_with, so_far-front, so_far-last, so_far-push}
use Rattle.journal_replay.proofs.KindLemmas.{quiet_slots, quiet_break, quiet_undos, quiet_follows, absent_act, cycles_alike, begun_act, begun_ends, ends_begun, catalogue-after, each-left, each-made, next-grows, gone, held-found, slots-held}

-- ---- lists with one entry more

length-push : (xs : List Entry) (e : Entry) → length (xs ++ e ∷ []) ≡ length xs + 1
length-push [] e = refl
length-push (x ∷ xs) e = let more = length-push xs e in omega (arith, more)

length-acts : (member : ℕ) (prior : Option Entry) (xs : List Entry) → length (acts member prior xs) ≡ length xs
length-acts member prior [] = refl
length-acts member prior (x ∷ xs) = let more = length-acts member (Some x) xs in omega (arith, more)

undos_of-push : (undos : List MemberChange) (prior : Option Entry) (xs : List Entry) (e : Entry)
    → undos_of undos prior (xs ++ e ∷ []) ≡ undos_by (act (named e.member) (entry_before prior xs) e) (named e.member) (undos_of undos prior xs)
undos_of-push undos prior [] e = refl
undos_of-push undos prior (x ∷ xs) e = undos_of-push (undos_by (act (named x.member) prior x) (named x.member) undos) (Some x) xs e

last_break-push : (member old : ℕ) (prior : Option Entry) (xs : List Entry) (e : Entry)
    → last_break member old prior (xs ++ e ∷ []) ≡ break_by (act member (entry_before prior xs) e) e.sequence (last_break member old prior xs)
last_break-push member old prior [] e = refl
last_break-push member old prior (x ∷ xs) e = last_break-push member (break_by (act member prior x) x.sequence old) (Some x) xs e

next-replay : (s : State) (xs : List Act) → (replay s xs).next ≡ s.next + length xs
next-replay s [] = omega arith
next-replay s (a ∷ xs) = let more = next-replay (step s a) xs in omega (arith, more)

-- ---- what holds of each

each-map : (f : HeldMember → HeldMember) (P Q : HeldMember → Type 0) (xs : List HeldMember) → ((m : HeldMember) → P m → Q (f m)) → AllByRecursion P xs → AllByRecursion Q (map f xs)
each-map f P Q [] w h = tt
each-map f P Q (x ∷ xs) w h = (w x h.0, each-map f P Q xs w h.1)

each-append : (P : HeldMember → Type 0) (xs ys : List HeldMember) → AllByRecursion P xs → AllByRecursion P ys → AllByRecursion P (xs ++ ys)
each-append P [] ys h g = g
each-append P (x ∷ xs) ys h g = (h.0, each-append P xs ys h.1 g)

fresh_not_held : (number : ℕ) (members : List HeldMember) (next : ℕ) → next ≤ number → AllByRecursion (λ (m : HeldMember). m.number < next) members → is_held number members ≡ false
fresh_not_held number [] next n h = refl
fresh_not_held number (m ∷ members) next n h = let more = fresh_not_held number members next n h.1 in let below = h.0 in rw more (at (m.number == number) refl below) where
  at : (b : Bool) → m.number == number ≡ b → m.number < next → b || false ≡ false
  at true e below = absurd (omega (arith, eqb-true m.number number e))
  at false e below = refl

same_state : (s t : State) → s.slots ≡ t.slots → s.cycles ≡ t.cycles → s.undos ≡ t.undos → s.next ≡ t.next → s ≡ t
same_state s t slots cycles undos next =
    ap (λ (x : List Slot). record { slots = x; cycles = s.cycles; undos = s.undos; next = s.next }) slots
    ∙ ap (λ (x : List ℕ). record { slots = t.slots; cycles = x; undos = s.undos; next = s.next }) cycles
    ∙ ap (λ (x : List Change). record { slots = t.slots; cycles = t.cycles; undos = x; next = s.next }) undos
    ∙ ap (λ (x : ℕ). record { slots = t.slots; cycles = t.cycles; undos = t.undos; next = x }) next

-- the deletion of a file changes no slot
deleted_act : (prior : Option Entry) (e : Entry) (name : List ℕ) → e.kind ≡ FileDeleted name → (number : ℕ) (undos : List Change) → undos_after undos (act number prior e) ≡ undos
deleted_act prior e name k number undos =
    ap (λ (kind : EntryKind). undos_after undos (cond (is_number e.member number) (act_there kind prior e) (act_elsewhere kind e))) k ∙ at (is_number e.member number)
  where
    at : (b : Bool) → undos_after undos (cond b Nothing Nothing) ≡ undos
    at true = refl
    at false = refl

module _ (d : Descriptions) (breaks : ℕ → ℕ) (j : Journal) (s : Standing) (l : IsLeft d breaks j s) (e : Entry) where
  prior : Option Entry
  prior = entry_before None (entries j)

  -- the entry does to each member what it does behind the begun one
  acts_alike : (member : ℕ) → act member s.begun e ≡ act member prior e
  unfolding prior
  acts_alike member = ap (λ (p : Option Entry). act member p e) l.begun ∙ begun_act member (entry_before None (entries j)) e

  all : IsLinked (λ member. state_of j member) (undos_of [] (entry_before None j.kept) j.later)
  all = linked j.later (λ member. start_of j member) [] (entry_before None j.kept) (record { cycles = λ member. refl; undos = λ member. refl; real = tt }) l.so_far.replays

  cycles_of : (member : ℕ) → s.cycles ≡ (state_of j member).cycles
  unfolding all
  cycles_of member = l.cycles ∙ sym (all.cycles member)

  undos_are : (member : ℕ) → of_member member s.undos ≡ (state_of j member).undos
  unfolding all
  undos_are member = ap (of_member member) l.undos ∙ sym (all.undos member)

  next_is : (member : ℕ) → s.next ≡ (state_of j member).next
  next_is member =
      let own = next-replay (start_of j member) (acts_after j member) in
      let acts = length-acts member (entry_before None j.kept) j.later in
      let next = l.next in
      omega (arith, own, acts, next)

  -- a member that is there has the state of the journal
  state_held : (member : ℕ) → is_held member s.members ≡ true → state_in s member ≡ state_of j member
  unfolding cycles_of undos_are next_is
  state_held member held = same_state (state_in s member) (state_of j member)
      (slots-held member s.members (λ n. (state_of j n).slots) held l.slots) (cycles_of member) (undos_are member) (next_is member)

  absent_in : (member : ℕ) → is_held member s.members ≡ false → member_numbered (Some member) (catalogue_in s) ≡ None
  absent_in member held = held-found member s.members held

  -- the member's act where it isn't there
  quiet_act : MayEnterBy d e.kind e (catalogue_in s) → (member : ℕ) → is_held member s.members ≡ false → act member prior e ≡ act_elsewhere e.kind e
  unfolding absent_in
  quiet_act enters member held = absent_act d prior e (catalogue_in s) member enters (absent_in member held)

  -- ---- which entry may come

  come-replays : MayEnterBy d e.kind e (catalogue_in s) → ((member : ℕ) → MayFollow (state_of j member) (act member prior e)) → (member : ℕ) → MayFollow (state_in s member) (act member s.begun e)
  unfolding acts_alike cycles_of undos_are next_is state_held quiet_act
  come-replays enters h member = at (is_held member s.members) refl where
    at : (b : Bool) → is_held member s.members ≡ b → MayFollow (state_in s member) (act member s.begun e)
    at true held = subst (λ (a : Act). MayFollow (state_in s member) a) (sym (acts_alike member)) (subst (λ (t : State). MayFollow t (act member prior e)) (sym (state_held member held)) (h member))
    at false held = subst (λ (a : Act). MayFollow (state_in s member) a) (sym (acts_alike member ∙ quiet_act enters member held))
        (quiet_follows e.kind e (state_of j member) (state_in s member) (sym (cycles_of member)) (sym (next_is member)) (l.owned member held)
        (subst (λ (a : Act). MayFollow (state_of j member) a) (quiet_act enters member held) (h member)))

  stand-replays : MayEnterBy d e.kind e (catalogue_in s) → ((member : ℕ) → MayFollow (state_in s member) (act member s.begun e)) → (member : ℕ) → MayFollow (state_of j member) (act member prior e)
  unfolding acts_alike cycles_of undos_are next_is state_held quiet_act
  stand-replays enters h member = at (is_held member s.members) refl where
    at : (b : Bool) → is_held member s.members ≡ b → MayFollow (state_of j member) (act member prior e)
    at true held = subst (λ (t : State). MayFollow t (act member prior e)) (state_held member held) (subst (λ (a : Act). MayFollow (state_in s member) a) (acts_alike member) (h member))
    at false held = subst (λ (a : Act). MayFollow (state_of j member) a) (sym (quiet_act enters member held))
        (quiet_follows e.kind e (state_in s member) (state_of j member) (cycles_of member) (next_is member) (sym (undos_are member) ∙ l.owned member held)
        (subst (λ (a : Act). MayFollow (state_in s member) a) (acts_alike member ∙ quiet_act enters member held) (h member)))

  pub come-stand : MayComeNext d j e → MayStandNext d s e
  unfolding prior undos_are
  come-stand n =
      let enters = subst (λ (c : Catalogue). MayEnterBy d e.kind e c) (sym l.catalogue) n.enters in
      record {
        sequence = n.sequence ∙ sym l.next;
        enters = enters;
        replays = come-replays enters n.replays;
        names = λ k. subst (λ (cycles : List ℕ). IsOpen cycles e.group) (sym l.cycles) (n.names k);
        deletes = λ name k. each-weaker (λ (m : CatalogMember). IsFree (state_of j m.number)) (λ (m : CatalogMember). of_member m.number s.undos ≡ []) (members_of name (catalogue_in s))
            (λ m free. undos_are m.number ∙ free) (subst (λ (c : Catalogue). AllByRecursion (λ (m : CatalogMember). IsFree (state_of j m.number)) (members_of name c)) (sym l.catalogue) (n.deletes name k));
        pairs = subst (λ (p : Option Entry). EndsPair p e) (sym l.begun) (begun_ends (entry_before None (entries j)) e n.pairs);
        records = subst (λ (c : Catalogue). HasRecords d c e) (sym l.catalogue) n.records;
      }

  pub stand-come : MayStandNext d s e → MayComeNext d j e
  unfolding prior undos_are
  stand-come n = record {
    sequence = n.sequence ∙ l.next;
    enters = subst (λ (c : Catalogue). MayEnterBy d e.kind e c) l.catalogue n.enters;
    replays = stand-replays n.enters n.replays;
    names = λ k. subst (λ (cycles : List ℕ). IsOpen cycles e.group) l.cycles (n.names k);
    deletes = λ name k. subst (λ (c : Catalogue). AllByRecursion (λ (m : CatalogMember). IsFree (state_of j m.number)) (members_of name c)) l.catalogue
        (each-weaker (λ (m : CatalogMember). of_member m.number s.undos ≡ []) (λ (m : CatalogMember). IsFree (state_of j m.number)) (members_of name (catalogue_in s))
        (λ m free. sym (undos_are m.number) ∙ free) (n.deletes name k));
    pairs = ends_begun (entry_before None (entries j)) e (subst (λ (p : Option Entry). EndsPair p e) l.begun n.pairs);
    records = subst (λ (c : Catalogue). HasRecords d c e) l.catalogue n.records;
  }

  -- ---- what it leaves then

  entries_with : entries (with_entry e j) ≡ entries j ++ e ∷ []
  entries_with = sym (append_assoc j.kept j.later (e ∷ []))

  state_with : (member : ℕ) → state_of (with_entry e j) member ≡ step (state_of j member) (act member prior e)
  unfolding prior
  state_with member = ap (replay (start_of j member)) (acts_with d j e member) ∙ replay-append (start_of j member) (acts_after j member) (act member (entry_before None (entries j)) e ∷ [])

  prior_is : entry_before (entry_before None j.kept) j.later ≡ prior
  unfolding prior
  prior_is = sym (entry_before-append None j.kept j.later)

  break_with : (member : ℕ) → last_break_of breaks (with_entry e j) member ≡ break_by (act member prior e) e.sequence (last_break_of breaks j member)
  unfolding prior prior_is
  break_with member = last_break-push member (breaks member) (entry_before None j.kept) j.later e
      ∙ ap (λ (p : Option Entry). break_by (act member p e) e.sequence (last_break_of breaks j member)) prior_is

  fresh_with : MayEnterBy d e.kind e (catalogue_in s) → (number : ℕ) → s.next_member ≤ number → ((state_of (with_entry e j) number).slots ≡ []) × (last_break_of breaks (with_entry e j) number ≡ 0)
  unfolding state_with break_with quiet_act
  fresh_with enters number n =
      let quiet = quiet_act enters number (fresh_not_held number s.members s.next_member n l.numbered) in
      let before = l.fresh number n in (
        ap (λ (t : State). t.slots) (state_with number) ∙ ap (moved (state_of j number).slots) quiet ∙ quiet_slots e.kind e (state_of j number).slots ∙ before.0,
        break_with number ∙ ap (λ (a : Act). break_by a e.sequence (last_break_of breaks j number)) quiet ∙ quiet_break e.kind e e.sequence (last_break_of breaks j number) ∙ before.1,
      )

  undos_with : undos_by (act (named e.member) s.begun e) (named e.member) s.undos ≡ undos_of [] (entry_before None j.kept) (j.later ++ e ∷ [])
  unfolding acts_alike prior prior_is
  undos_with =
      ap (λ (a : Act). undos_by a (named e.member) s.undos) (acts_alike (named e.member))
      ∙ ap (undos_by (act (named e.member) (entry_before None (entries j)) e) (named e.member)) l.undos
      ∙ ap (λ (p : Option Entry). undos_by (act (named e.member) p e) (named e.member) (undos_of [] (entry_before None j.kept) j.later)) (sym prior_is)
      ∙ sym (undos_of-push [] (entry_before None j.kept) j.later e)

  is_held-map : (number : ℕ) (members : List HeldMember) → is_held number (members_by s.begun e members) ≡ is_held number members
  is_held-map number [] = refl
  is_held-map number (m ∷ members) = ap (λ (b : Bool). (m.number == number) || b) (is_held-map number members)

  catalog-files : (name : List ℕ) (members : List HeldMember) → map (λ (m : CatalogMember). m.number) (filter (is_in_file name) (map catalog_member (members_by s.begun e members)))
      ≡ map (λ (m : CatalogMember). m.number) (filter (is_in_file name) (map catalog_member members))
  catalog-files name [] = refl
  catalog-files name (m ∷ members) = at (bytes_eq m.file name) (catalog-files name members) where
    at : (b : Bool) → map (λ (m : CatalogMember). m.number) (filter (is_in_file name) (map catalog_member (members_by s.begun e members)))
        ≡ map (λ (m : CatalogMember). m.number) (filter (is_in_file name) (map catalog_member members))
        → map (λ (m : CatalogMember). m.number) (cond b (catalog_member (member_by (act m.number s.begun e) e.sequence m) ∷ filter (is_in_file name) (map catalog_member (members_by s.begun e members))) (filter (is_in_file name) (map catalog_member (members_by s.begun e members))))
        ≡ map (λ (m : CatalogMember). m.number) (cond b (catalog_member m ∷ filter (is_in_file name) (map catalog_member members)) (filter (is_in_file name) (map catalog_member members)))
    at true more = ap (λ ns. m.number ∷ ns) more
    at false more = more

  each-number : (Q : ℕ → Type 0) (xs ys : List CatalogMember) → map (λ (m : CatalogMember). m.number) xs ≡ map (λ (m : CatalogMember). m.number) ys
      → AllByRecursion (λ (m : CatalogMember). Q m.number) xs → AllByRecursion (λ (m : CatalogMember). Q m.number) ys
  each-number Q xs ys same h = numbers-each ys (subst (AllByRecursion Q) same (each-numbers xs h)) where
    each-numbers : (xs : List CatalogMember) → AllByRecursion (λ (m : CatalogMember). Q m.number) xs → AllByRecursion Q (map (λ (m : CatalogMember). m.number) xs)
    each-numbers [] h = tt
    each-numbers (x ∷ xs) h = (h.0, each-numbers xs h.1)

    numbers-each : (xs : List CatalogMember) → AllByRecursion Q (map (λ (m : CatalogMember). m.number) xs) → AllByRecursion (λ (m : CatalogMember). Q m.number) xs
    numbers-each [] h = tt
    numbers-each (x ∷ xs) h = (h.0, numbers-each xs h.1)

  -- open commit cycles have changed no member that isn't there behind the entry
  owned_with : MayStandNext d s e → (number : ℕ) → is_held number (standing_after e s).members ≡ false → undos_after (state_of j number).undos (act number prior e) ≡ []
  unfolding prior undos_are acts_alike quiet_act is_held-map catalog-files each-number
  owned_with n number absent = at (is_held number s.members) refl where
    at : (b : Bool) → is_held number s.members ≡ b → undos_after (state_of j number).undos (act number prior e) ≡ []
    at false held = ap (λ (us : List Change). undos_after us (act number prior e)) (sym (undos_are number) ∙ l.owned number held) ∙ ap (undos_after []) (quiet_act n.enters number held) ∙ quiet_undos e.kind e
    at true held = gone number e.kind (λ n. undos_after (state_of j n).undos (act n prior e) ≡ []) (members_by s.begun e s.members) e absent (is_held-map number s.members ∙ held)
        (λ name k. each-number (λ n. undos_after (state_of j n).undos (act n prior e) ≡ []) (members_of name (catalogue_in s)) (filter (is_in_file name) (map catalog_member (members_by s.begun e s.members)))
        (sym (catalog-files name s.members))
        (each-weaker (λ (m : CatalogMember). of_member m.number s.undos ≡ []) (λ (m : CatalogMember). undos_after (state_of j m.number).undos (act m.number prior e) ≡ []) (members_of name (catalogue_in s))
        (λ m free. deleted_act prior e name k m.number (state_of j m.number).undos ∙ sym (undos_are m.number) ∙ free) (n.deletes name k)))

  pub left-after : MayStandNext d s e → IsLeft d breaks (with_entry e j) (standing_after e s)
  unfolding prior acts_alike entries_with state_with break_with fresh_with undos_with
  left-after n =
      let so_far = so_far-push d j e l.so_far (stand-come n) in
      let linked_after = linked (j.later ++ e ∷ []) (λ member. start_of j member) [] (entry_before None j.kept) (record { cycles = λ member. refl; undos = λ member. refl; real = tt }) so_far.replays in
      record {
        so_far = so_far;
        next = let pushed = length-push j.later e in let next = l.next in omega (arith, pushed, next);
        begun = ap begun_by (sym (ap (entry_before None) entries_with ∙ entry_before-append None (entries j) (e ∷ [])));
        catalogue = catalogue-after e s ∙ ap (catalogue_by e.kind e) l.catalogue ∙ sym (catalogue_after-append j.catalogue j.later (e ∷ []));
        cycles = ap (λ (cycles : List ℕ). cycles_after cycles (act_elsewhere e.kind e)) l.cycles ∙ sym (cycles_alike 0 prior e (open_cycles j)) ∙ sym (ap (λ (t : State). t.cycles) (state_with 0));
        undos = undos_with;
        slots = each-append (λ (m : HeldMember). m.slots ≡ (state_of (with_entry e j) m.number).slots) (left_by e.kind (members_by s.begun e s.members)) (made_by e.kind e)
            (each-left e.kind (λ (m : HeldMember). m.slots ≡ (state_of (with_entry e j) m.number).slots) (members_by s.begun e s.members)
            (each-map (λ (m : HeldMember). member_by (act m.number s.begun e) e.sequence m) (λ (m : HeldMember). m.slots ≡ (state_of j m.number).slots) (λ (m : HeldMember). m.slots ≡ (state_of (with_entry e j) m.number).slots) s.members
            (λ m is. ap (λ (slots : List Slot). moved slots (act m.number s.begun e)) is ∙ ap (moved (state_of j m.number).slots) (acts_alike m.number) ∙ sym (ap (λ (t : State). t.slots) (state_with m.number))) l.slots))
            (each-made d e.kind e (catalogue_in s) (λ (m : HeldMember). m.slots ≡ (state_of (with_entry e j) m.number).slots) n.enters
            (λ number file name is next. sym (fresh_with n.enters number (omega (arith, is))).0));
        last_breaks = each-append (λ (m : HeldMember). m.last_break ≡ last_break_of breaks (with_entry e j) m.number) (left_by e.kind (members_by s.begun e s.members)) (made_by e.kind e)
            (each-left e.kind (λ (m : HeldMember). m.last_break ≡ last_break_of breaks (with_entry e j) m.number) (members_by s.begun e s.members)
            (each-map (λ (m : HeldMember). member_by (act m.number s.begun e) e.sequence m) (λ (m : HeldMember). m.last_break ≡ last_break_of breaks j m.number) (λ (m : HeldMember). m.last_break ≡ last_break_of breaks (with_entry e j) m.number) s.members
            (λ m is. ap (λ (old : ℕ). break_by (act m.number s.begun e) e.sequence old) is ∙ ap (λ (a : Act). break_by a e.sequence (last_break_of breaks j m.number)) (acts_alike m.number) ∙ sym (break_with m.number)) l.last_breaks))
            (each-made d e.kind e (catalogue_in s) (λ (m : HeldMember). m.last_break ≡ last_break_of breaks (with_entry e j) m.number) n.enters
            (λ number file name is next. sym (fresh_with n.enters number (omega (arith, is))).1));
        numbered = each-append (λ (m : HeldMember). m.number < next_after s.next_member (made_by e.kind e)) (left_by e.kind (members_by s.begun e s.members)) (made_by e.kind e)
            (each-left e.kind (λ (m : HeldMember). m.number < next_after s.next_member (made_by e.kind e)) (members_by s.begun e s.members)
            (each-map (λ (m : HeldMember). member_by (act m.number s.begun e) e.sequence m) (λ (m : HeldMember). m.number < s.next_member) (λ (m : HeldMember). m.number < next_after s.next_member (made_by e.kind e)) s.members
            (λ m below. let grows = next-grows d e.kind e (catalogue_in s) n.enters in omega (arith, below, grows)) l.numbered))
            (each-made d e.kind e (catalogue_in s) (λ (m : HeldMember). m.number < next_after s.next_member (made_by e.kind e)) n.enters
            (λ number file name is next. omega (arith, next)));
        fresh = λ number m. let grows = next-grows d e.kind e (catalogue_in s) n.enters in fresh_with n.enters number (omega (arith, grows, m));
        owned = λ number absent. ap (of_member number) undos_with ∙ sym (linked_after.undos number) ∙ ap (λ (t : State). t.undos) (state_with number) ∙ owned_with n number absent;
      }
