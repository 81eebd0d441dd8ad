-- Areas that spell the journal without entries.
use Rattle.std.proofs.Common.{inl, [], ◌∷◌, Some, refl, arith}
use Rattle.store_model.specs.Disk.{Areas}
use Rattle.gated_log.specs.Blocks.{Spells}
use Rattle.checkpoint.specs.declared.layout.TheConstants.{ROOT_AREA}
use Rattle.checkpoint.specs.Roots.{AreRoots, first_root}
use Rattle.journal_model.specs.Catalogue.{Descriptions}
use Rattle.journal_model.specs.Journal.{StaysMembers}
use Rattle.receiver_chain.proofs.LinkLemmas.{no_bytes}
use Rattle.journal_replay.proofs.EmptyLemmas.{empty-left}
use Rattle.journal_replay.proofs.SoFarLemmas.{journal-whole}
use Rattle.journal_opening.specs.declared.layout.TheConstants.{FIRST_AREA, FIRST_SEQUENCE, VERSION}
use Rattle.journal_opening.specs.Journals.{IsEmptyLibrary, journal_with}

-- there are no members
pub empty_stays : (d : Descriptions) → StaysMembers d (journal_with [])
empty_stays d [] rest member h there = absurd cc
empty_stays d (e ∷ front) rest member h there = absurd cc

-- the first root, and receiver 1 without a block
pub empty_library : (areas : Areas) → AreRoots [] first_root (areas ROOT_AREA) → Spells FIRST_AREA FIRST_SEQUENCE VERSION [] (areas FIRST_AREA) → IsEmptyLibrary areas
empty_library areas roots spells = λ d. record {
  earlier = [];
  roots = roots;
  spelled = record {
    kept = record { earlier = []; attached = record { first = 1; version = 1; blocks = [] } };
    chained = record { earlier = tt; before = Some 0; lead = (refl, refl); follows = refl; attached = spells; last = no_bytes _ };
    holds = record {
      earlier = [];
      last = [];
      receivers = (tt, inl ([], inl (refl, refl), tt));
      all = refl;
      numbered = tt;
      counted = omega arith;
    };
  };
  replays = journal-whole d (journal_with []) (empty-left d).so_far tt (empty_stays d);
  journaled = tt;
}
