-- The kept paths are those that files have, where a path gets one file more or one fewer, or its entries change.
use Rattle.std.proofs.Common.{ℕ, suc, ◌+◌, ◌-◌, ◌<◌, ◌≤◌, ◌≡◌, ◌≢◌, ◌==◌, ◌⊎◌, inl, inr, nat_lt, Bool, true}
use Rattle.std.proofs.Common.{false, cond, not, List, [], ◌∷◌, ◌++◌, map, Contains, Option, Some, None, refl, sym, arith, subst, ◌∙◌}
use Rattle.std.specs.Prelude.{All, Any}
use Rattle.std.specs.List.{AllByRecursion}
use Rattle.std.proofs.lemmas.Bool.Decides.{nat_tests}
use Rattle.std.proofs.lemmas.List.Elements.{All-from_recursion, recursion_from_All}
use Rattle.key_pages.specs.declared.entries.Entry.{Entry}
use Rattle.member_slots.specs.Members.{Numbered, NumberedMembers, item_at, put_item, with_item, without_item}
use Rattle.file_model.specs.declared.paths.PathSpec.{PathSpec}
use Rattle.path_set.specs.KeptPaths.{KeptPath, NumberedPaths, AreOver, AreShared, entries_of}
use Rattle.path_set.specs.Sharing.{IsShared, IsPut, detached, given_up, one_fewer, one_more, path_over}
use Rattle.library_paths.specs.AllPaths.{AreKeptFor, count_in}
use Rattle.library_paths.specs.KeptOnce.{IsKeptOnce, with_entries}
use Rattle.library_paths.proofs.ListLemmas.{EachTwo, any-apart, any-map, each-filter, each-map, each-of, each-two, two-all, two-filter, two-from, two-map}
use Rattle.library_paths.proofs.CountLemmas.{contained-count, count-append, count-contained, count-each, count-none, count-other, count-own, each-count, none-count}
use Rattle.library_paths.proofs.NumberLemmas.{IsAnother, IsBelow, another-put, any-at, any-new, any-put, any-with, any-without}
use Rattle.library_paths.proofs.NumberLemmas.{at-any, below-put, each-at, each-put, each-with, one-number, others-with, others-without, two-with}

-- ---- what is known of the paths, item by item

abbrev IsOver : NumberedMembers → Numbered KeptPath → Type 0
IsOver members path = path.item.entries ≡ entries_of path.item.spec members

abbrev IsCounted : List PathSpec → Numbered KeptPath → Type 0
IsCounted specs path = path.item.files ≡ count_in path.item.spec specs

abbrev Has : PathSpec → Numbered KeptPath → Type 0
Has spec path = path.item.spec ≡ spec

abbrev IsAttached : Numbered KeptPath → Type 0
IsAttached path = 1 ≤ path.item.files

-- the same, as recursions
record AreThose (specs : List PathSpec) (members : NumberedMembers) (kept : NumberedPaths) : Type 0 where
  over : AllByRecursion (IsOver members) kept
  there : AllByRecursion (λ spec. Any (Has spec) kept) specs
  counted : AllByRecursion (IsCounted specs) kept

record AreApart (kept : NumberedPaths) : Type 0 where
  below : EachTwo IsBelow kept
  another : EachTwo IsAnother kept
  attached : AllByRecursion IsAttached kept

those-of : (specs : List PathSpec) (members : NumberedMembers) (kept : NumberedPaths) → AreKeptFor specs members kept → AreThose specs members kept
those-of specs members kept is = record {
  over = recursion_from_All (IsOver members) kept is.over;
  there = is.there;
  counted = recursion_from_All (IsCounted specs) kept is.counted;
}

of-those : (specs : List PathSpec) (members : NumberedMembers) (kept : NumberedPaths) → AreThose specs members kept → AreKeptFor specs members kept
of-those specs members kept is = record {
  over = All-from_recursion (IsOver members) kept is.over;
  there = is.there;
  counted = All-from_recursion (IsCounted specs) kept is.counted;
}

apart-of : (kept : NumberedPaths) → AreShared kept → AreApart kept
apart-of kept shared = record {
  below = two-from IsBelow kept shared.ascend;
  another = two-from IsAnother kept shared.once;
  attached = recursion_from_All IsAttached kept shared.attached;
}

of-apart : (kept : NumberedPaths) → AreApart kept → AreShared kept
of-apart kept is = record {
  ascend = two-all IsBelow kept is.below;
  once = two-all IsAnother kept is.another;
  attached = All-from_recursion IsAttached kept is.attached;
}

-- a specification more or less changes the count of no other
more-others : (spec : PathSpec) (specs : List PathSpec) (paths : NumberedPaths) → AllByRecursion (IsCounted specs) paths
    → AllByRecursion (λ (q : Numbered KeptPath). q.item.spec ≢ spec → IsCounted (spec ∷ specs) q) paths
more-others spec specs paths all =
    each-of (IsCounted specs) (λ (q : Numbered KeptPath). q.item.spec ≢ spec → IsCounted (spec ∷ specs) q)
    (λ q is differs. is ∙ sym (count-other q.item.spec spec specs differs)) paths all

fewer-others : (spec : PathSpec) (specs : List PathSpec) (paths : NumberedPaths) → AllByRecursion (IsCounted (spec ∷ specs)) paths
    → AllByRecursion (λ (q : Numbered KeptPath). q.item.spec ≢ spec → IsCounted specs q) paths
fewer-others spec specs paths all =
    each-of (IsCounted (spec ∷ specs)) (λ (q : Numbered KeptPath). q.item.spec ≢ spec → IsCounted specs q)
    (λ q is differs. is ∙ count-other q.item.spec spec specs differs) paths all

-- ---- a path that one file more has

those-shared : (specs : List PathSpec) (members : NumberedMembers) (old : NumberedPaths) (id : ℕ) (path : KeptPath) → AreApart old → AreThose specs members old → item_at id old ≡ Some path
    → AreThose (path.spec ∷ specs) members (with_item id (one_more path) old)
those-shared specs members old id path two is at = record {
  over = each-with id path (one_more path) (IsOver members) old (λ own. own) at is.over;
  there = (
    any-with id path (one_more path) (Has path.spec) old (λ own. own) at (any-at (Has path.spec) id path old at refl),
    each-of (λ (spec : PathSpec). Any (Has spec) old) (λ (spec : PathSpec). Any (Has spec) (with_item id (one_more path) old))
        (λ spec any. any-with id path (one_more path) (Has spec) old (λ own. own) at any) specs is.there,
  );
  counted = others-with id path (one_more path) (IsCounted (path.spec ∷ specs)) old two.another (more-others path.spec specs old is.counted) more at;
}
  where
    more : path.files + 1 ≡ count_in path.spec (path.spec ∷ specs)
    more =
        let was : path.files ≡ count_in path.spec specs = each-at (IsCounted specs) id path old is.counted at in
        let own : count_in path.spec (path.spec ∷ specs) ≡ suc (count_in path.spec specs) = count-own path.spec path.spec specs refl in
        omega (arith, was, own)

apart-shared : (old : NumberedPaths) (id : ℕ) (path : KeptPath) → AreApart old → item_at id old ≡ Some path → AreApart (with_item id (one_more path) old)
apart-shared old id path two at = record {
  below = two-with id path (one_more path) IsBelow old (λ q is. is) (λ q is. is) at two.below;
  another = two-with id path (one_more path) IsAnother old (λ q is. is) (λ q is. is) at two.another;
  attached = each-with id path (one_more path) IsAttached old (λ own. omega (arith, own)) at two.attached;
}

-- ---- a path that is new

module _ (spec : PathSpec) (members : NumberedMembers) (old : NumberedPaths) (id : ℕ) (free : item_at id old ≡ None) (new : AllByRecursion (λ (q : Numbered KeptPath). q.item.spec ≢ spec) old) where
  those-put : (specs : List PathSpec) → AreThose specs members old → AreThose (spec ∷ specs) members (put_item id (path_over spec members) old)
  those-put specs is = record {
    over = each-put id (path_over spec members) (IsOver members) old refl is.over;
    there = (
      any-new id (path_over spec members) (Has spec) old refl,
      each-of (λ (other : PathSpec). Any (Has other) old) (λ (other : PathSpec). Any (Has other) (put_item id (path_over spec members) old))
          (λ other any. any-put id (path_over spec members) (Has other) old free any) specs is.there,
    );
    counted = each-put id (path_over spec members) (IsCounted (spec ∷ specs)) old one
        (each-two (λ (q : Numbered KeptPath). q.item.spec ≢ spec → IsCounted (spec ∷ specs) q) (λ (q : Numbered KeptPath). q.item.spec ≢ spec) (IsCounted (spec ∷ specs))
        (λ q is_so differs. is_so differs) old (more-others spec specs old is.counted) new);
  }
    where
      one : 1 ≡ count_in spec (spec ∷ specs)
      one =
          let none : count_in spec specs ≡ 0 = count-none spec specs
          (each-of (λ (other : PathSpec). Any (Has other) old) (λ (other : PathSpec). spec ≢ other)
          (λ other any same. any-apart (Has other) old
          (each-of (λ (q : Numbered KeptPath). q.item.spec ≢ spec) (λ (q : Numbered KeptPath). Has other q → ⊥) (λ q differs has. differs (has ∙ sym same)) old new) any) specs is.there) in
          let own : count_in spec (spec ∷ specs) ≡ suc (count_in spec specs) = count-own spec spec specs refl in
          omega (arith, none, own)

  apart-put : AreApart old → AreApart (put_item id (path_over spec members) old)
  apart-put two = record {
    below = below-put id (path_over spec members) old free two.below;
    another = another-put id (path_over spec members) old new two.another;
    attached = each-put id (path_over spec members) IsAttached old (omega arith) two.attached;
  }

-- ---- a file more has the path

module _ (members : NumberedMembers) (spec : PathSpec) (id : ℕ) (old new : NumberedPaths) (shared : AreShared old) where
  pub attached : (specs : List PathSpec) → AreKeptFor specs members old → (IsShared spec id old new ⊎ IsPut spec members id old new) → AreKeptFor (spec ∷ specs) members new
  attached specs is (inl its) =
      subst (λ (paths : NumberedPaths). AreKeptFor (spec ∷ specs) members paths) (sym its.counted)
      (subst (λ (s : PathSpec). AreKeptFor (s ∷ specs) members (with_item id (one_more its.path) old)) its.same
      (of-those (its.path.spec ∷ specs) members (with_item id (one_more its.path) old)
      (those-shared specs members old id its.path (apart-of old shared) (those-of specs members old is) its.there)))
  attached specs is (inr its) =
      subst (λ (paths : NumberedPaths). AreKeptFor (spec ∷ specs) members paths) (sym its.put)
      (of-those (spec ∷ specs) members (put_item id (path_over spec members) old)
      (those-put spec members old id its.number.free (recursion_from_All (λ (q : Numbered KeptPath). q.item.spec ≢ spec) old its.absent) specs (those-of specs members old is)))

  pub attached-shared : (IsShared spec id old new ⊎ IsPut spec members id old new) → AreShared new
  attached-shared (inl its) =
      subst AreShared (sym its.counted) (of-apart (with_item id (one_more its.path) old) (apart-shared old id its.path (apart-of old shared) its.there))
  attached-shared (inr its) =
      subst AreShared (sym its.put)
      (of-apart (put_item id (path_over spec members) old)
      (apart-put spec members old id its.number.free (recursion_from_All (λ (q : Numbered KeptPath). q.item.spec ≢ spec) old its.absent) (apart-of old shared)))

-- ---- a file fewer has it

module _ (id : ℕ) (path : KeptPath) (old : NumberedPaths) (two : AreApart old) (at : item_at id old ≡ Some path) where
  those-fewer : (specs : List PathSpec) (members : NumberedMembers) → AreThose (path.spec ∷ specs) members old → AreThose specs members (with_item id (one_fewer path) old)
  those-fewer specs members is = record {
    over = each-with id path (one_fewer path) (IsOver members) old (λ own. own) at is.over;
    there = each-of (λ (spec : PathSpec). Any (Has spec) old) (λ (spec : PathSpec). Any (Has spec) (with_item id (one_fewer path) old))
        (λ spec any. any-with id path (one_fewer path) (Has spec) old (λ own. own) at any) specs is.there.1;
    counted = others-with id path (one_fewer path) (IsCounted specs) old two.another (fewer-others path.spec specs old is.counted) fewer at;
  }
    where
      fewer : path.files - 1 ≡ count_in path.spec specs
      fewer =
          let was : path.files ≡ count_in path.spec (path.spec ∷ specs) = each-at (IsCounted (path.spec ∷ specs)) id path old is.counted at in
          let own : count_in path.spec (path.spec ∷ specs) ≡ suc (count_in path.spec specs) = count-own path.spec path.spec specs refl in
          omega (arith, was, own)

  apart-fewer : 1 < path.files → AreApart (with_item id (one_fewer path) old)
  apart-fewer more = record {
    below = two-with id path (one_fewer path) IsBelow old (λ q is. is) (λ q is. is) at two.below;
    another = two-with id path (one_fewer path) IsAnother old (λ q is. is) (λ q is. is) at two.another;
    attached = each-with id path (one_fewer path) IsAttached old (λ own. omega (arith, more)) at two.attached;
  }

  those-last : (specs : List PathSpec) (members : NumberedMembers) → path.files ≤ 1 → AreThose (path.spec ∷ specs) members old → AreThose specs members (without_item id old)
  those-last specs members few is = record {
    over = each-filter (λ (q : Numbered KeptPath). not (q.number == id)) (IsOver members) old is.over;
    there = each-two (λ (spec : PathSpec). Any (Has spec) old) (λ (spec : PathSpec). path.spec ≢ spec) (λ (spec : PathSpec). Any (Has spec) (without_item id old))
        (λ spec any differs. any-without id path (Has spec) old two.below differs at any) specs is.there.1 (none-count path.spec specs none);
    counted = others-without id path (IsCounted specs) old two.another (fewer-others path.spec specs old is.counted) at;
  }
    where
      none : count_in path.spec specs ≡ 0
      none =
          let was : path.files ≡ count_in path.spec (path.spec ∷ specs) = each-at (IsCounted (path.spec ∷ specs)) id path old is.counted at in
          let own : count_in path.spec (path.spec ∷ specs) ≡ suc (count_in path.spec specs) = count-own path.spec path.spec specs refl in
          omega (arith, was, own, few)

  apart-last : AreApart (without_item id old)
  apart-last = record {
    below = two-filter (λ (q : Numbered KeptPath). not (q.number == id)) IsBelow old two.below;
    another = two-filter (λ (q : Numbered KeptPath). not (q.number == id)) IsAnother old two.another;
    attached = each-filter (λ (q : Numbered KeptPath). not (q.number == id)) IsAttached old two.attached;
  }

  -- one file fewer has it, or none
  fewer-or-last : (P : NumberedPaths → Type 0) → (1 < path.files → P (with_item id (one_fewer path) old)) → (path.files ≤ 1 → P (without_item id old)) → P (detached id old)
  fewer-or-last P fewer last = subst (λ (o : Option KeptPath). P (given_up id o old)) (sym at) (by (nat_lt 1 path.files) refl)
    where
      by : (b : Bool) → nat_lt 1 path.files ≡ b → P (cond b (with_item id (one_fewer path) old) (without_item id old))
      by true is = fewer (let more : 1 < path.files = grind (arith, nat_tests) in more)
      by false is = last (let few : path.files ≤ 1 = grind (arith, nat_tests) in few)

module _ (id : ℕ) (path : KeptPath) (old : NumberedPaths) (shared : AreShared old) (at : item_at id old ≡ Some path) where
  pub detached-kept : (specs : List PathSpec) (members : NumberedMembers) (spec : PathSpec) → AreKeptFor (spec ∷ specs) members old → path.spec ≡ spec → AreKeptFor specs members (detached id old)
  detached-kept specs members spec is same =
      let those = those-of (path.spec ∷ specs) members old (subst (λ (s : PathSpec). AreKeptFor (s ∷ specs) members old) (sym same) is) in
      fewer-or-last id path old (apart-of old shared) at (AreKeptFor specs members)
      (λ more. of-those specs members (with_item id (one_fewer path) old) (those-fewer id path old (apart-of old shared) at specs members those))
      (λ few. of-those specs members (without_item id old) (those-last id path old (apart-of old shared) at specs members few those))

  pub detached-shared : AreShared (detached id old)
  detached-shared =
      fewer-or-last id path old (apart-of old shared) at AreShared
      (λ more. of-apart (with_item id (one_fewer path) old) (apart-fewer id path old (apart-of old shared) at more))
      (λ few. of-apart (without_item id old) (apart-last id path old (apart-of old shared) at))

-- ---- the same paths in another order

pub counted-alike : (specs others : List PathSpec) (members : NumberedMembers) (kept : NumberedPaths) → ((path : PathSpec) → count_in path specs ≡ count_in path others)
    → AreKeptFor specs members kept → AreKeptFor others members kept
counted-alike specs others members kept alike is = record {
  over = is.over;
  there = each-count (λ (spec : PathSpec). Any (Has spec) kept) others
      (λ spec some. count-each (λ (s : PathSpec). Any (Has s) kept) specs is.there spec (let same : count_in spec specs ≡ count_in spec others = alike spec in omega (arith, some, same)));
  counted = All-from_recursion (IsCounted others) kept
      (each-of (IsCounted specs) (IsCounted others) (λ q its. its ∙ alike q.item.spec) kept (recursion_from_All (IsCounted specs) kept is.counted));
}

-- a file more has the path, which comes last
pub attached-last : (members : NumberedMembers) (spec : PathSpec) (id : ℕ) (old new : NumberedPaths) → AreShared old → (specs : List PathSpec) → AreKeptFor specs members old
    → (IsShared spec id old new ⊎ IsPut spec members id old new) → AreKeptFor (specs ++ spec ∷ []) members new
attached-last members spec id old new shared specs is its =
    counted-alike (spec ∷ specs) (specs ++ spec ∷ []) members new
    (λ path. count-append path (spec ∷ []) specs ∙ turned (count_in path (spec ∷ [])) (count_in path specs) ∙ sym (count-append path specs (spec ∷ [])))
    (attached members spec id old new shared specs is its)
  where
    turned : (a b : ℕ) → a + b ≡ b + a
    turned a b = omega arith

-- ---- which paths are kept

pub kept-contained : (specs : List PathSpec) (members : NumberedMembers) (kept : NumberedPaths) → AreShared kept → AreKeptFor specs members kept
    → All (λ path. Contains specs path.item.spec) kept
kept-contained specs members kept shared is =
    All-from_recursion (λ (q : Numbered KeptPath). Contains specs q.item.spec) kept
    (each-two IsAttached (IsCounted specs) (λ (q : Numbered KeptPath). Contains specs q.item.spec)
    (λ q some its. count-contained q.item.spec specs (omega (arith, some, its))) kept
    (recursion_from_All IsAttached kept shared.attached) (recursion_from_All (IsCounted specs) kept is.counted))

pub kept-once : (specs : List PathSpec) (members : NumberedMembers) (kept : NumberedPaths) (spec : PathSpec) → AreShared kept → AreKeptFor specs members kept → Contains specs spec
    → IsKeptOnce spec kept
kept-once specs members kept spec shared is among =
    let any : Any (Has spec) kept = count-each (λ (s : PathSpec). Any (Has s) kept) specs is.there spec (contained-count spec specs among) in
    let found = at-any (Has spec) kept (apart-of kept shared).below any in
    record {
      id = found.id;
      path = found.path;
      at = found.at;
      same = found.holds;
      only = λ other another at same. one-number other found.id another found.path kept (apart-of kept shared).another at found.at (same ∙ sym found.holds);
    }

-- ---- no path, and other entries

pub none-kept : (members : NumberedMembers) → AreKeptFor [] members []
none-kept members = of-those [] members [] (record { over = tt; there = tt; counted = tt })

-- members change that give none of them another entry
pub kept-elsewhere : (specs : List PathSpec) (members others : NumberedMembers) (kept : NumberedPaths) → AreOver others kept → AreKeptFor specs members kept → AreKeptFor specs others kept
kept-elsewhere specs members others kept over is = record { over = over; there = is.there; counted = is.counted }

module _ (entries : Numbered KeptPath → List Entry) (kept : NumberedPaths) where
  pub kept-with : (specs : List PathSpec) (members others : NumberedMembers) → AreOver others (map (with_entries entries) kept) → AreKeptFor specs members kept
      → AreKeptFor specs others (map (with_entries entries) kept)
  kept-with specs members others over is = record {
    over = over;
    there = each-of (λ (spec : PathSpec). Any (Has spec) kept) (λ (spec : PathSpec). Any (Has spec) (map (with_entries entries) kept))
        (λ spec any. any-map (Has spec) (with_entries entries) kept any) specs is.there;
    counted = All-from_recursion (IsCounted specs) (map (with_entries entries) kept)
        (each-map (IsCounted specs) (with_entries entries) kept (recursion_from_All (IsCounted specs) kept is.counted));
  }

  pub shared-with : AreShared kept → AreShared (map (with_entries entries) kept)
  shared-with shared =
      let two = apart-of kept shared in
      of-apart (map (with_entries entries) kept) (record {
        below = two-map IsBelow (with_entries entries) kept two.below;
        another = two-map IsAnother (with_entries entries) kept two.another;
        attached = each-map IsAttached (with_entries entries) kept two.attached;
      })
