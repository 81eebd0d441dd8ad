-- What more calls make of those that a session made before: they lead on, and their timestamps follow.
use Rattle.std.proofs.Common.{◌≡◌, inl, inr, ℕ, ◌≤◌, true, List, [], ◌∷◌, ◌++◌, refl, sym, ◌∙◌, ap, subst, arith, append_assoc, append-nil}
use Rattle.store_model.specs.Disk.{Disk}
use Rattle.store_model.specs.Faults.{Rose}
use Rattle.library_model.specs.declared.calls.Call.{Call}
use Rattle.input_scripts.specs.declared.Scripts.{Scripts}
use Rattle.job_runner.specs.Asked.{asked, AreAsked}
use Rattle.job_runner.specs.Made.{AreGiven}
use Rattle.job_runner.specs.Moments.{Leads}
use Rattle.job_runner.specs.Session.{SessionOver, HasMade}
use Rattle.job_runner.proofs.CallLemmas.{AreAsked-append}
use Rattle.job_runner.proofs.LedLemmas.{Leads-append, Leads-called, Leads-none, HasCalled}

AreGiven-append : {C : Type 0} (gives : C → ℕ → C → Type 0) (clock mid last : C) (made more : List Call) → AreGiven gives clock mid made → AreGiven gives mid last more
    → AreGiven gives clock last (made ++ more)
AreGiven-append {C = C} gives clock mid last [] more front back = subst (λ (c : C). AreGiven gives c last more) front back
AreGiven-append gives clock mid last (call ∷ made) more front back =
    (front.0, front.1, AreGiven-append gives front.0 mid last made more front.2 back)

-- ---- faults of the store

rose-later : (a b c : ℕ) → Rose a b → b ≤ c → Rose a c
rose-later a b c rose later = omega (arith, rose, later)

rose-earlier : (a b c : ℕ) → a ≤ b → Rose b c → Rose a c
rose-earlier a b c earlier rose = omega (arith, earlier, rose)

-- ---- runs

-- what was made of what had been made
pub HasMade-more : {S C : Type 0} (tells : Type 0) (disk : S → Disk) (gives : C → ℕ → C → Type 0) (first mid later : SessionOver S C) (made more : List Call)
    → HasMade tells disk gives first mid made → HasMade tells disk gives mid later more → HasMade tells disk gives first later (made ++ more)
HasMade-more tells disk gives first mid later made more front back = record {
  calls = back.calls ∙ ap (λ xs. xs ++ more) front.calls ∙ append_assoc first.calls made more;
  leads = λ start stands.
      Leads-append tells disk first.scripts.sources first.library mid.library later.library start made more (front.leads start stands)
      (λ between on. subst (λ (scripts : Scripts). Leads tells disk scripts.sources mid.library later.library between more) front.scripts (back.leads between on))
      (λ failed. let rest = back.stays failed in (rest.0, ap (λ (s : SessionOver _ _). s.library) rest.1));
  asked = AreAsked-append first.scripts.scripts first.calls made more front.asked
      (subst (λ (calls : List Call). AreAsked first.scripts.scripts calls more) front.calls (subst (λ (scripts : Scripts). AreAsked scripts.scripts mid.calls more) front.scripts back.asked));
  given = AreGiven-append gives first.clock mid.clock later.clock made more front.given back.given;
  scripts = back.scripts ∙ front.scripts;
  stays = λ failed.
      let before = front.stays failed in
      let behind = back.stays (ap (λ (s : SessionOver _ _). s.library.failed) before.1 ∙ failed) in
      (ap (λ (calls : List Call). calls ++ more) before.0 ∙ behind.0, behind.1 ∙ before.1);
  faults = omega (arith, front.faults, back.faults);
  cause = λ failed. elim (back.cause failed) [
    | inl before ↦ elim (front.cause before) [
      | inl earlier ↦ inl earlier
      | inr found ↦ inr (rose-later (disk first.library.store).faults (disk mid.library.store).faults (disk later.library.store).faults found back.faults)
    ]
    | inr found ↦ inr (rose-earlier (disk first.library.store).faults (disk mid.library.store).faults (disk later.library.store).faults front.faults found)
  ];
}

pub HasMade-none : {S C : Type 0} (tells : Type 0) (disk : S → Disk) (gives : C → ℕ → C → Type 0) (first : SessionOver S C) → HasMade tells disk gives first first []
HasMade-none tells disk gives first = record {
  calls = sym (append-nil {A = Call} first.calls);
  leads = λ start stands. Leads-none tells disk first.scripts.sources first.library start stands;
  asked = tt;
  given = refl;
  scripts = refl;
  stays = λ failed. (refl, refl);
  faults = omega arith;
  cause = λ failed. inl failed;
}

-- one call, from what the library's own call says of it
pub HasMade-called : {S C : Type 0} (tells : Type 0) (disk : S → Disk) (gives : C → ℕ → C → Type 0) (first later : SessionOver S C) (made : Call)
    → HasCalled tells disk first.scripts.sources first.library later.library made → (disk first.library.store).faults ≤ (disk later.library.store).faults
    → (later.library.failed ≡ true → Rose (disk first.library.store).faults (disk later.library.store).faults) → later.calls ≡ first.calls ++ made ∷ []
    → made.request ≡ asked first.scripts.scripts made.job first.calls → gives first.clock made.timestamp later.clock → later.scripts ≡ first.scripts
    → HasMade tells disk gives first later (made ∷ [])
HasMade-called tells disk gives first later made called faults cause calls asks_it given scripts = record {
  calls = calls;
  leads = λ start stands. Leads-called tells disk first.scripts.sources first.library later.library made called start stands;
  asked = (asks_it, tt);
  given = (later.clock, given, refl);
  scripts = scripts;
  stays = λ failed. absurd (let alive = called.alive in let e = failed in cc);
  faults = faults;
  cause = λ failed. inr (cause failed);
}
