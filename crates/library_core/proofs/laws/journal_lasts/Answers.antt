use Rattle.std.proofs.Common.{◌≤◌, ℕ, ◌^◌, [], ◌∷◌, length, length-append, sym, ◌∙◌, subst, arith}
use Rattle.journal_model.specs.Journal.{AreNumbered}
use Rattle.library_steps.specs.State.{memory_of, new_job}
use Rattle.library_core.proofs.PlaceLemmas.{due-new, places-last}
use Rattle.library_core.proofs.SameLemmas.{free-same}
use Rattle.library_core.proofs.laws.journal_lasts.Goals as goal

pub returns-clause-wait : goal.returns-clause-wait
returns-clause-wait c = λ s done d book short other may behind.
    let jobs : length s.jobs ≤ 2 ^ 60 = omega (arith, may.few) in
    let few = c.sequences_suffice.ensures.few s done d short may.groups may.sequences jobs in
    let small = c.deposits_fit_a_block.ensures s done d short may.groups in
    record {
      numbered = subst (λ (n : ℕ). AreNumbered n done.entries) (sym behind.next) (c.deposits_are_numbered.ensures s done d);
      each = c.deposits_have_spellings.ensures s done d short may.counted;
      inside = c.deposits_are_inside.ensures.inside s done d other;
      few = omega (arith, behind.next, few);
      small = omega (arith, behind.little, small);
    }

pub returns-clause-spelled : goal.returns-clause-spelled
returns-clause-spelled c = λ s done d short may. c.deposits_have_spellings.ensures s done d short may.counted

pub returns-clause-begin : goal.returns-clause-begin
returns-clause-begin c = λ s name few may. record {
  counted = c.numbers_stay_counted.ensures.begun s (name ∷ []) may.counted;
  groups = c.groups_stay_within.ensures.begun s (name ∷ []) may.groups;
  sequences = c.sequences_suffice.ensures.begun s (name ∷ []) may.sequences;
  few = omega (arith, few, length-append s.jobs (new_job name ∷ []));
  unsaved = may.unsaved;
}

pub returns-clause-stay : goal.returns-clause-stay
returns-clause-stay c = λ s done d short saved may.
    let jobs = c.places_suffice.ensures.jobs d.sources d.read (memory_of s) d.job d.timestamp d.request done d.does in
    record {
      counted = c.numbers_stay_counted.ensures.kept s done d may.counted;
      groups = c.groups_stay_within.ensures.kept s done d may.groups;
      sequences = c.sequences_suffice.ensures.kept s done d short may.groups may.sequences;
      few = omega (arith, jobs, may.few);
      unsaved = saved ∙ may.unsaved;
    }

pub returns-clause-places : goal.returns-clause-places
returns-clause-places c = λ s done d room due made.
    places-last s done d room (c.places_suffice.ensures.most done.memory.jobs) (c.places_suffice.ensures.jobs d.sources d.read (memory_of s) d.job d.timestamp d.request done d.does) due made
    (λ free. c.places_suffice.ensures.spent d.sources s d.job d.timestamp d.request done d.running free
    (free-same d.sources s.entries d.read (memory_of s) d.job d.timestamp d.request free ∙ d.does))

pub returns-clause-begin_places : goal.returns-clause-begin_places
returns-clause-begin_places c = λ s name room made.
    let most = c.places_suffice.ensures.most s.jobs in
    let new = due-new name s.jobs in
    omega (arith, most, new, made)
