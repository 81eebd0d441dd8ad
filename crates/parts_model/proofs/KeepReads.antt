-- What a read leaves of an open that is over several members: it goes on reading one of its formats.
use Rattle.std.proofs.Common.{◌≡◌, ℕ, zero, suc, ◌<◌, ◌≤◌, List, [], ◌∷◌, length, Option, Some, None, slice_get, refl, sym, ◌∙◌, ap, subst, arith}
use Rattle.std.specs.Prelude.{slice_index_or}
use Rattle.std.specs.List.{AllZip}
use Rattle.lock_table.specs.declared.levels.Call.{Call}
use Rattle.path_set.specs.KeptPaths.{NumberedPaths}
use Rattle.lawful_states.proofs.NameLemmas.{some-equal}
use Rattle.job_table.specs.Opens.{AllOfNumber, OpenOrder, SameOpen}
use Rattle.library_model.specs.Named.{Named, named}
use Rattle.library_steps.specs.LogicalFiles.{bases_in}
use Rattle.library_steps.specs.Reads.{Found, has_read}
use Rattle.library_steps.specs.State.{FileState, JobState, OpenState}
use Rattle.parts_model.specs.Indexed.{AreViews, OpensRead, ReadsFile, ReadsIn}
use Rattle.lawful_states.specs.Lawful.{OpenHolds}
use Rattle.lawful_states.proofs.BaseLemmas.{OpenHolds-has_read}
use Rattle.parts_model.proofs.FindLemmas.{some-below}
use Rattle.lawful_states.proofs.LawfulLemmas.{KeepsOpens}
use Rattle.parts_model.proofs.ReadLemmas.{formats-many}

module _ (files : Named FileState) (views : AreViews files) (paths : NumberedPaths) (number : ℕ) (kept : OpenOrder) (call : Call) (it : Found) (low : it.entry.format < length kept.formats) where
  -- an open that reads as the one does
  one-read : (opened : OpenState) (order : OpenOrder) → order ≡ kept → ReadsFile (bases_in files) paths opened order (named opened.file files) → OpenHolds files opened
      → OpenHolds files (has_read call it opened)
  one-read opened order is reads holds = by (named opened.file files) refl reads
    where
      by : (o : Option FileState) → named opened.file files ≡ o → ReadsFile (bases_in files) paths opened order o → OpenHolds files (has_read call it opened)
      by None here h = absurd h
      by (Some file) here h =
          let many : length order.formats ≤ length opened.members = formats-many files paths file opened order here holds h.1 h.0 in
          let same : length order.formats ≡ length kept.formats = ap (λ (o : OpenOrder). length o.formats) is in
          OpenHolds-has_read files call it opened (some-below opened.members it.entry.format (omega (arith, low, many, same))) holds

  keeps-opens : (opens : Named OpenState) (orders : Named OpenOrder) → AllZip SameOpen opens orders → AllZip (ReadsIn files paths) opens orders
      → AllOfNumber number (λ order. order ≡ kept) orders → KeepsOpens files number (has_read call it) opens
  keeps-opens [] orders same reads all = tt
  keeps-opens (own ∷ opens) [] same reads all = absurd same
  keeps-opens (own ∷ opens) (order ∷ orders) same reads all = (
    λ is holds. one-read own.1 order.1 (all 0 order (omega arith) (sym same.0.1 ∙ is)) reads.0 holds,
    keeps-opens opens orders same.1 reads.1 (λ k d within. all (suc k) d (omega (arith, within))),
  )

  pub keeps-read : (place : ℕ) (jobs : List JobState) (orders : List (Named OpenOrder)) → AllZip (λ (job : JobState) (its : Named OpenOrder). AllZip SameOpen job.opens its) jobs orders
      → AllZip (OpensRead files paths) jobs orders → AllOfNumber number (λ order. order ≡ kept) (slice_index_or orders place []) → (job : JobState) → slice_get jobs place ≡ Some job
      → KeepsOpens files number (has_read call it) job.opens
  keeps-read place [] orders same reads all job at = absurd cc
  keeps-read place (own ∷ jobs) [] same reads all job at = absurd same
  keeps-read zero (own ∷ jobs) (order ∷ orders) same reads all job at =
      subst (λ (j : JobState). KeepsOpens files number (has_read call it) j.opens) (some-equal at) (keeps-opens own.opens order same.0 reads.0 all)
  keeps-read (suc place) (own ∷ jobs) (order ∷ orders) same reads all job at = keeps-read place jobs orders same.1 reads.1 all job at
