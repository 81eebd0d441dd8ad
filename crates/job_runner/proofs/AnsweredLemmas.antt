-- From when on the answers of calls are kept: of one call, and of calls that others follow. The moment of a call's answer is the one at which it returned.
use Rattle.std.proofs.Common.{◌≡◌, ◌⊎◌, inl, inr, ℕ, zero, suc, ◌+◌, ◌≤◌, List, [], ◌∷◌, ◌++◌, length, take, refl, sym, ◌∙◌, ap, subst, arith}
use Rattle.std.proofs.Common.{append_assoc, append-nil, length-append}
use Rattle.std.proofs.lemmas.List.{take-append-le}
use Rattle.std.proofs.Math.Seq.{take-append-add}
use Rattle.store_model.specs.Disk.{Areas, Disk, May, Leaves}
use Rattle.entry_codec.specs.declared.entries.Entry.{Entry}
use Rattle.journal_book.specs.Book.{BookState}
use Rattle.library_model.specs.declared.calls.Call.{Call}
use Rattle.library_model.specs.declared.sources.NamedSource.{NamedSource}
use Rattle.library_steps.specs.State.{State}
use Rattle.library_steps.specs.History.{Outcome, Standing, Runs}
use Rattle.library_core.specs.Fronts.{entries_at}
use Rattle.job_runner.specs.Moments.{EndsWhole, IsLeft, IsAnsweredBy}
use Rattle.job_runner.proofs.FrontLemmas.{left-more, left-joined, left-front, left-behind}
use Rattle.run_laws.proofs.OutcomeLemmas.{Runs-append}

-- the entries of an outcome stand behind those of the start
abbrev pub Grows : State → Outcome → Type 0
Grows start outcome = (more : List Entry) × (entries_at outcome ≡ start.entries ++ more)

-- ---- no call, and one

pub answered-none : (sources : List NamedSource) (start : State) (book : BookState) (disk : Disk)
    → ((areas : Areas) → May disk areas → IsLeft sources start book [] [] (Standing start) areas) → (number : ℕ) → number ≤ 0
    → IsAnsweredBy sources start book [] (Standing start) disk disk number
answered-none sources start book disk left zero few = record {
  moment = disk.moment;
  begun = omega arith;
  ended = omega arith;
  reached = Standing start;
  runs = refl;
  grows = ([], sym (append-nil start.entries));
  before = λ areas since. inl since;
  since = left;
}
answered-none sources start book disk left (suc number) few = absurd (omega (arith, few))

module _ (sources : List NamedSource) (start : State) (book : BookState) (call : Call) (outcome : Outcome) (old new : Disk) (runs : Runs sources (Standing start) (call ∷ []) outcome)
    (grows : Grows start outcome) (moments : Leaves old new (IsLeft sources start book (call ∷ []) [] outcome))
    (now : (areas : Areas) → May new areas → IsLeft sources start book (call ∷ []) (call ∷ []) outcome areas) where
  pub answered-one : (number : ℕ) → number ≤ 1 → IsAnsweredBy sources start book (call ∷ []) outcome old new number
  answered-one zero few = record {
    moment = old.moment;
    begun = omega arith;
    ended = moments.later.moment;
    reached = Standing start;
    runs = refl;
    grows = ([], sym (append-nil start.entries));
    before = λ areas since. inl since;
    since = moments.images;
  }
  answered-one (suc zero) few = record {
    moment = new.moment;
    begun = moments.later.moment;
    ended = omega arith;
    reached = outcome;
    runs = runs;
    grows = grows;
    before = λ areas since. inr (moments.images areas since);
    since = now;
  }
  answered-one (suc (suc number)) few = absurd (omega (arith, few))

-- ---- calls, and then others

-- so many of two lists are of the first, or all of it and some of the second
reaches : (first number : ℕ) → (number ≤ first) ⊎ ((more : ℕ) × (number ≡ first + more))
reaches zero number = inr (number, omega arith)
reaches (suc first) zero = inl (omega arith)
reaches (suc first) (suc number) = elim (reaches first number) [
  | inl few ↦ inl (omega (arith, few))
  | inr behind ↦ inr (behind.0, omega (arith, behind.1))
]

-- the first led from a disk to another, and the others from that one on
module _ (sources : List NamedSource) (start between : State) (first mid : BookState) (made more : List Call) (led : Runs sources (Standing start) made (Standing between))
    (grown : Grows start (Standing between)) (front : EndsWhole sources start first.forced made made mid.forced) (receiver : mid.chain.first ≡ first.chain.first)
    (outcome : Outcome) (grows : Grows between outcome) (a b c : Disk) (earlier : Leaves a b (IsLeft sources start first made [] (Standing between)))
    (later : Leaves b c (IsLeft sources between mid more [] outcome)) where
  -- one of the first
  answered-within : (number : ℕ) → number ≤ length made → IsAnsweredBy sources start first made (Standing between) a b number
      → IsAnsweredBy sources start first (made ++ more) outcome a c number
  answered-within number few one = record {
    moment = one.moment;
    begun = one.begun;
    ended = omega (arith, one.ended, later.later.moment);
    reached = one.reached;
    runs = subst (λ (cs : List Call). Runs sources (Standing start) cs one.reached) same one.runs;
    grows = one.grows;
    before = λ areas since. elim (later.later.parts a.moment areas earlier.later.moment since) [
      | inl early ↦ elim (one.before areas early) [
        | inl kept ↦ inl (later.later.keeps one.moment areas one.ended kept)
        | inr left ↦ inr (subst (λ (cs : List Call). IsLeft sources start first cs [] one.reached areas) same left)
      ]
      | inr late ↦ inl (c.wider one.moment b.moment areas one.ended late)
    ];
    since = λ areas since. subst (λ (cs : List Call). IsLeft sources start first (made ++ more) cs outcome areas) same (elim (later.later.parts one.moment areas one.ended since) [
      | inl early ↦ left-more sources start between first made more (take number made) outcome areas grows.0 grows.1 (one.since areas early)
      | inr late ↦ left-front sources start between made more led first mid front receiver outcome areas number (later.images areas late)
    ]);
  }
    where
      same : take number made ≡ take number (made ++ more)
      same = sym (take-append-le number made more few)

  -- one of the others
  answered-behind : (number : ℕ) → IsAnsweredBy sources between mid more outcome b c number → IsAnsweredBy sources start first (made ++ more) outcome a c (length made + number)
  answered-behind number one = record {
    moment = one.moment;
    begun = omega (arith, earlier.later.moment, one.begun);
    ended = one.ended;
    reached = one.reached;
    runs =
        subst (λ (cs : List Call). Runs sources (Standing start) cs one.reached) same
        (Runs-append sources (Standing start) (Standing between) one.reached made (take number more) led one.runs);
    grows = (grown.0 ++ one.grows.0, one.grows.1 ∙ ap (λ (es : List Entry). es ++ one.grows.0) grown.1 ∙ append_assoc start.entries grown.0 one.grows.0);
    before = λ areas since. elim (later.later.parts a.moment areas earlier.later.moment since) [
      | inl early ↦ inr (subst (λ (cs : List Call). IsLeft sources start first cs [] one.reached areas) same
          (left-more sources start between first made (take number more) [] one.reached areas one.grows.0 one.grows.1 (earlier.images areas early)))
      | inr late ↦ elim (one.before areas late) [
        | inl kept ↦ inl kept
        | inr left ↦ inr (subst (λ (cs : List Call). IsLeft sources start first cs [] one.reached areas) same
            (left-behind sources start between made (take number more) led first mid front receiver one.reached areas left))
      ]
    ];
    since = λ areas since. subst (λ (cs : List Call). IsLeft sources start first (made ++ more) cs outcome areas) same
        (left-joined sources start between made more led first mid front receiver outcome areas (take number more) (one.since areas since));
  }
    where
      same : made ++ take number more ≡ take (length made + number) (made ++ more)
      same = sym (take-append-add made more number)

  pub answered-append : ((number : ℕ) → number ≤ length made → IsAnsweredBy sources start first made (Standing between) a b number)
      → ((number : ℕ) → number ≤ length more → IsAnsweredBy sources between mid more outcome b c number)
      → (number : ℕ) → number ≤ length (made ++ more) → IsAnsweredBy sources start first (made ++ more) outcome a c number
  answered-append ones others number few = elim (reaches (length made) number) [
    | inl within ↦ answered-within number within (ones number within)
    | inr behind ↦ subst (IsAnsweredBy sources start first (made ++ more) outcome a c) (sym behind.1)
        (answered-behind behind.0 (others behind.0 (omega (arith, few, behind.1, length-append made more))))
  ]
