-- What a checkpoint saved is what the journal up to it leaves.
use Rattle.std.proofs.Common.{◌≡◌, ℕ, ◌+◌, ◌∙◌, arith, List, Option, None, refl, sym, ap}
use Rattle.std.proofs.lemmas.List.{append-nil}
use Rattle.entry_codec.specs.declared.entries.Entry.{Entry}
use Rattle.journal_model.specs.Acts.{entry_before}
use Rattle.journal_model.specs.Catalogue.{CatalogFile, Descriptions}
use Rattle.journal_model.specs.Journal.{Journal}
use Rattle.journal_replay.specs.Standing.{begun_by}
use Rattle.replay_members.specs.Bodies.{MemberList}
use Rattle.journal_replay.specs.Left.{IsLeft}
use Rattle.replay_step.specs.Saved.{IsSaved, at_checkpoint, saved_standing}

pub saved-left : (d : Descriptions) (breaks : ℕ → ℕ) (j : Journal) (last : ℕ) (begun : Option Entry) (files : List CatalogFile) (m : MemberList)
    → IsSaved d breaks j (saved_standing last begun files m) → IsLeft d breaks (at_checkpoint j) (saved_standing last begun files m)
saved-left d breaks j last begun files m h = record {
  so_far = h.so_far;
  next = let same : j.checkpoint + 1 ≡ j.checkpoint + 0 + 1 = omega arith in h.next ∙ same;
  begun = h.begun ∙ ap (λ (kept : List Entry). begun_by (entry_before None kept)) (sym (append-nil j.kept));
  catalogue = h.catalogue;
  cycles = refl;
  undos = refl;
  slots = h.slots;
  last_breaks = h.last_breaks;
  numbered = h.numbered;
  fresh = h.fresh;
  owned = λ number absent. refl;
}
