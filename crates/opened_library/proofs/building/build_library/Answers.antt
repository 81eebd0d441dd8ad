use Rattle.std.proofs.Common.{List, sym, subst}
use Rattle.entry_codec.specs.declared.entries.Entry.{Entry}
use Rattle.receiver_chain.specs.Chain.{attached_of}
use Rattle.restart_model.specs.Libraries.{journal_with, library_left}
use Rattle.opened_library.specs.Opened.{IsAtRest, IsSoundWithin}
use Rattle.opened_library.proofs.BuiltLemmas.{built-of}
use Rattle.opened_library.proofs.building.build_library.Goals as goal

pub build_over-requires-clause-rest : goal.build_over-requires-clause-rest
build_over-requires-clause-rest g c =
    subst (λ (all : List Entry). IsAtRest g.S.Store.tells (g.S.Store.disk c.args.store) c.args.restarted.journal all c.args.restarted.replay) (sym c.as_slice.ensures.value) c.requires.rest

pub build_over-requires-clause-sound : goal.build_over-requires-clause-sound
build_over-requires-clause-sound g c =
    subst (λ (all : List Entry). IsSoundWithin (library_left (λ _. 0) (attached_of c.args.restarted.journal.chain) (journal_with all))) (sym c.as_slice.ensures.value) c.requires.sound

pub returns-clause-built : goal.returns-clause-built
returns-clause-built g c =
    built-of g.S.Store.tells g.S.Store.disk c.as_slice.result.now c.args.restarted.entries.items c.build_over.result c.as_slice.ensures.value c.build_over.ensures.built
