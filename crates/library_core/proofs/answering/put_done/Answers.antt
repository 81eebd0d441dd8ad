use Rattle.library_core.proofs.PutLemmas.{is-done, is-failed, not-both}
use Rattle.library_core.proofs.answering.put_done.Goals as goal

pub put_new-requires-clause-may : goal.put_new-requires-clause-may
put_new-requires-clause-may g c = c.requires.may (is-done c.args.done.now _ c.in-Ok.is)

pub put_new-requires-clause-place : goal.put_new-requires-clause-place
put_new-requires-clause-place g c = c.requires.place (is-done c.args.done.now _ c.in-Ok.is)

pub returns-in-Ok-clause-taken : goal.returns-in-Ok-clause-taken
returns-in-Ok-clause-taken g c = λ fine. c.put_new.ensures

pub returns-in-Ok-clause-nothing : goal.returns-in-Ok-clause-nothing
returns-in-Ok-clause-nothing g c = λ bad. not-both c.args.done.now (is-done c.args.done.now _ c.in-Ok.is) bad

pub returns-in-Ok-clause-same_journal : goal.returns-in-Ok-clause-same_journal
returns-in-Ok-clause-same_journal g c = λ bad. not-both c.args.done.now (is-done c.args.done.now _ c.in-Ok.is) bad

pub returns-in-Ok-clause-same_store : goal.returns-in-Ok-clause-same_store
returns-in-Ok-clause-same_store g c = λ bad. not-both c.args.done.now (is-done c.args.done.now _ c.in-Ok.is) bad

pub returns-in-Err-clause-taken : goal.returns-in-Err-clause-taken
returns-in-Err-clause-taken g c = λ fine. not-both c.args.done.now fine (is-failed c.args.done.now _ c.in-Err.is)
