-- A journal from the beginning leaves a catalogue that entries leave, and so does the restarted one.
use Rattle.std.proofs.Common.{ℕ, ◌+◌, None, List, sym, subst}
use Rattle.entry_codec.specs.declared.entries.Entry.{Entry}
use Rattle.journal_model.specs.Catalogue.{Catalogue, empty_catalogue}
use Rattle.journal_model.specs.Journal.{AreNumbered, CanReplayJournal, catalogue_of, restarted}
use Rattle.restart_model.specs.Sources.{descriptions}
use Rattle.restart_model.specs.Libraries.{journal_with, library_restarted, restart_job}
use Rattle.restart_laws.proofs.CatalogueLemmas.{IsCatalogue, empty-is, entries-are}
use Rattle.restart_laws.proofs.RestartedLemmas.{catalogue-restarted, numbered-restarted}

module _ (entries : List Entry) (attached moment : ℕ) (can : CanReplayJournal descriptions (journal_with entries)) where
  pub catalogue-is : IsCatalogue (catalogue_of (restarted restart_job moment (journal_with entries)))
  catalogue-is =
      subst (λ (c : Catalogue). IsCatalogue c) (sym (catalogue-restarted restart_job moment (journal_with entries))) (entries-are descriptions entries empty_catalogue empty-is can.enters)

  pub numbered-is : AreNumbered ((library_restarted (λ _. 0) attached moment (journal_with entries)).gone + 1) (library_restarted (λ _. 0) attached moment (journal_with entries)).entries
  numbered-is = numbered-restarted restart_job moment (journal_with entries) can.later
