use Rattle.std.proofs.Common.{[], ◌∙◌, ap, sym, subst}
use Rattle.std.specs.Prelude.{unwrap_or}
use Rattle.library_model.specs.declared.calls.Call.{Call}
use Rattle.kept_library.specs.Parts.{LibraryOver}
use Rattle.kept_library.specs.Stands.{IsReady}
use Rattle.library_core.proofs.CachedLemmas.{come-cached}
use Rattle.library_core.proofs.LibraryLemmas.{call-acknowledged, call-alive, call-all, call-cause, call-fault, call-faults, call-goes, call-kept, call-least, call-left, call-moments, call-receiver}
use Rattle.library_core.proofs.LibraryLemmas.{call-roots, call-running, call-still, call-whole, called-of}
use Rattle.library_core.proofs.library.call.Goals as goal

pub answer-reply-requires-clause-running : goal.answer-reply-requires-clause-running
answer-reply-requires-clause-running g c = (subst (IsReady c.args.job) (sym c.library.view_is) c.requires.ready).running

pub answer-reply-requires-clause-kept : goal.answer-reply-requires-clause-kept
answer-reply-requires-clause-kept g c = c.library.invariant.0 (ap (λ (l : LibraryOver g.row.S.Denot). l.failed) c.library.view_is ∙ c.requires.ready.alive)

pub answer-reply-requires-clause-cached : goal.answer-reply-requires-clause-cached
answer-reply-requires-clause-cached g c = c.library.invariant.1 (ap (λ (l : LibraryOver g.row.S.Denot). l.failed) c.library.view_is ∙ c.requires.ready.alive)

pub invariant_of-library : goal.invariant_of-library
invariant_of-library g c =
    let new : LibraryOver g.row.S.Denot = record {
      store = c.answer-reply.new.store;
      book = c.answer-reply.new.journal;
      state = c.answer-reply.new.contents.state;
      paths = c.answer-reply.new.contents.room.paths.paths;
      failed = c.answer-reply.result.1;
    } in
    let call : Call = record { job = c.args.job; timestamp = c.args.timestamp; request = c.args.request.now; reply = c.answer-reply.result.0 } in
    let kept = c.library.invariant.0 (ap (λ (l : LibraryOver g.row.S.Denot). l.failed) c.library.view_is ∙ c.requires.ready.alive) in
    let called = called-of g.S.Store.tells g.S.Store.disk c.args.sources.now _ c.args.library.now new call c.library.view_is kept c.answer-reply.ensures.come in (
      call-kept g.S.Store.tells g.S.Store.disk c.args.sources.now c.args.library.now new call called,
      λ alive.
          come-cached g.S.Store.tells c.args.sources.now (g.S.Store.disk c.library.inside.store) (g.S.Store.disk c.answer-reply.new.store) c.library.inside.journal c.answer-reply.new.journal
          c.library.inside.contents.state c.answer-reply.new.contents.state kept.0 call c.answer-reply.result.1 (unwrap_or c.answer-reply.new.cache []) kept.1
          (c.answer-reply.ensures.come kept.0 kept.1) alive c.answer-reply.ensures.cached,
    )

pub returns-clause-goes : goal.returns-clause-goes
returns-clause-goes g c =
    let new : LibraryOver g.row.S.Denot = record {
      store = c.answer-reply.new.store;
      book = c.answer-reply.new.journal;
      state = c.answer-reply.new.contents.state;
      paths = c.answer-reply.new.contents.room.paths.paths;
      failed = c.answer-reply.result.1;
    } in
    let call : Call = record { job = c.args.job; timestamp = c.args.timestamp; request = c.args.request.now; reply = c.answer-reply.result.0 } in
    let kept = c.library.invariant.0 (ap (λ (l : LibraryOver g.row.S.Denot). l.failed) c.library.view_is ∙ c.requires.ready.alive) in
    let called = called-of g.S.Store.tells g.S.Store.disk c.args.sources.now _ c.args.library.now new call c.library.view_is kept c.answer-reply.ensures.come in
    call-goes g.S.Store.tells g.S.Store.disk c.args.sources.now c.args.library.now new call called

pub returns-clause-running : goal.returns-clause-running
returns-clause-running g c =
    let new : LibraryOver g.row.S.Denot = record {
      store = c.answer-reply.new.store;
      book = c.answer-reply.new.journal;
      state = c.answer-reply.new.contents.state;
      paths = c.answer-reply.new.contents.room.paths.paths;
      failed = c.answer-reply.result.1;
    } in
    let call : Call = record { job = c.args.job; timestamp = c.args.timestamp; request = c.args.request.now; reply = c.answer-reply.result.0 } in
    let kept = c.library.invariant.0 (ap (λ (l : LibraryOver g.row.S.Denot). l.failed) c.library.view_is ∙ c.requires.ready.alive) in
    let called = called-of g.S.Store.tells g.S.Store.disk c.args.sources.now _ c.args.library.now new call c.library.view_is kept c.answer-reply.ensures.come in
    call-running g.S.Store.tells g.S.Store.disk c.args.sources.now c.args.library.now new call called

pub returns-clause-alive : goal.returns-clause-alive
returns-clause-alive g c =
    let new : LibraryOver g.row.S.Denot = record {
      store = c.answer-reply.new.store;
      book = c.answer-reply.new.journal;
      state = c.answer-reply.new.contents.state;
      paths = c.answer-reply.new.contents.room.paths.paths;
      failed = c.answer-reply.result.1;
    } in
    let call : Call = record { job = c.args.job; timestamp = c.args.timestamp; request = c.args.request.now; reply = c.answer-reply.result.0 } in
    let kept = c.library.invariant.0 (ap (λ (l : LibraryOver g.row.S.Denot). l.failed) c.library.view_is ∙ c.requires.ready.alive) in
    let called = called-of g.S.Store.tells g.S.Store.disk c.args.sources.now _ c.args.library.now new call c.library.view_is kept c.answer-reply.ensures.come in
    call-alive g.S.Store.tells g.S.Store.disk c.args.sources.now c.args.library.now new call called

pub returns-clause-fault : goal.returns-clause-fault
returns-clause-fault g c =
    let new : LibraryOver g.row.S.Denot = record {
      store = c.answer-reply.new.store;
      book = c.answer-reply.new.journal;
      state = c.answer-reply.new.contents.state;
      paths = c.answer-reply.new.contents.room.paths.paths;
      failed = c.answer-reply.result.1;
    } in
    let call : Call = record { job = c.args.job; timestamp = c.args.timestamp; request = c.args.request.now; reply = c.answer-reply.result.0 } in
    let kept = c.library.invariant.0 (ap (λ (l : LibraryOver g.row.S.Denot). l.failed) c.library.view_is ∙ c.requires.ready.alive) in
    let called = called-of g.S.Store.tells g.S.Store.disk c.args.sources.now _ c.args.library.now new call c.library.view_is kept c.answer-reply.ensures.come in
    call-fault g.S.Store.tells g.S.Store.disk c.args.sources.now c.args.library.now new call called

pub returns-clause-cause : goal.returns-clause-cause
returns-clause-cause g c =
    let new : LibraryOver g.row.S.Denot = record {
      store = c.answer-reply.new.store;
      book = c.answer-reply.new.journal;
      state = c.answer-reply.new.contents.state;
      paths = c.answer-reply.new.contents.room.paths.paths;
      failed = c.answer-reply.result.1;
    } in
    let call : Call = record { job = c.args.job; timestamp = c.args.timestamp; request = c.args.request.now; reply = c.answer-reply.result.0 } in
    let kept = c.library.invariant.0 (ap (λ (l : LibraryOver g.row.S.Denot). l.failed) c.library.view_is ∙ c.requires.ready.alive) in
    let called = called-of g.S.Store.tells g.S.Store.disk c.args.sources.now _ c.args.library.now new call c.library.view_is kept c.answer-reply.ensures.come in
    call-cause g.S.Store.tells g.S.Store.disk c.args.sources.now c.args.library.now new call called

pub returns-clause-faults : goal.returns-clause-faults
returns-clause-faults g c =
    let new : LibraryOver g.row.S.Denot = record {
      store = c.answer-reply.new.store;
      book = c.answer-reply.new.journal;
      state = c.answer-reply.new.contents.state;
      paths = c.answer-reply.new.contents.room.paths.paths;
      failed = c.answer-reply.result.1;
    } in
    let call : Call = record { job = c.args.job; timestamp = c.args.timestamp; request = c.args.request.now; reply = c.answer-reply.result.0 } in
    let kept = c.library.invariant.0 (ap (λ (l : LibraryOver g.row.S.Denot). l.failed) c.library.view_is ∙ c.requires.ready.alive) in
    let called = called-of g.S.Store.tells g.S.Store.disk c.args.sources.now _ c.args.library.now new call c.library.view_is kept c.answer-reply.ensures.come in
    call-faults g.S.Store.tells g.S.Store.disk c.args.sources.now c.args.library.now new call called

pub returns-clause-moments : goal.returns-clause-moments
returns-clause-moments g c =
    let new : LibraryOver g.row.S.Denot = record {
      store = c.answer-reply.new.store;
      book = c.answer-reply.new.journal;
      state = c.answer-reply.new.contents.state;
      paths = c.answer-reply.new.contents.room.paths.paths;
      failed = c.answer-reply.result.1;
    } in
    let call : Call = record { job = c.args.job; timestamp = c.args.timestamp; request = c.args.request.now; reply = c.answer-reply.result.0 } in
    let kept = c.library.invariant.0 (ap (λ (l : LibraryOver g.row.S.Denot). l.failed) c.library.view_is ∙ c.requires.ready.alive) in
    let called = called-of g.S.Store.tells g.S.Store.disk c.args.sources.now _ c.args.library.now new call c.library.view_is kept c.answer-reply.ensures.come in
    call-moments g.S.Store.tells g.S.Store.disk c.args.sources.now c.args.library.now new call called

pub returns-clause-still : goal.returns-clause-still
returns-clause-still g c =
    let new : LibraryOver g.row.S.Denot = record {
      store = c.answer-reply.new.store;
      book = c.answer-reply.new.journal;
      state = c.answer-reply.new.contents.state;
      paths = c.answer-reply.new.contents.room.paths.paths;
      failed = c.answer-reply.result.1;
    } in
    let call : Call = record { job = c.args.job; timestamp = c.args.timestamp; request = c.args.request.now; reply = c.answer-reply.result.0 } in
    let kept = c.library.invariant.0 (ap (λ (l : LibraryOver g.row.S.Denot). l.failed) c.library.view_is ∙ c.requires.ready.alive) in
    let called = called-of g.S.Store.tells g.S.Store.disk c.args.sources.now _ c.args.library.now new call c.library.view_is kept c.answer-reply.ensures.come in
    call-still g.S.Store.tells g.S.Store.disk c.args.sources.now c.args.library.now new call called

pub returns-clause-left : goal.returns-clause-left
returns-clause-left g c =
    let new : LibraryOver g.row.S.Denot = record {
      store = c.answer-reply.new.store;
      book = c.answer-reply.new.journal;
      state = c.answer-reply.new.contents.state;
      paths = c.answer-reply.new.contents.room.paths.paths;
      failed = c.answer-reply.result.1;
    } in
    let call : Call = record { job = c.args.job; timestamp = c.args.timestamp; request = c.args.request.now; reply = c.answer-reply.result.0 } in
    let kept = c.library.invariant.0 (ap (λ (l : LibraryOver g.row.S.Denot). l.failed) c.library.view_is ∙ c.requires.ready.alive) in
    let called = called-of g.S.Store.tells g.S.Store.disk c.args.sources.now _ c.args.library.now new call c.library.view_is kept c.answer-reply.ensures.come in
    call-left g.S.Store.tells g.S.Store.disk c.args.sources.now c.args.library.now new call called

pub returns-clause-acknowledged : goal.returns-clause-acknowledged
returns-clause-acknowledged g c =
    let new : LibraryOver g.row.S.Denot = record {
      store = c.answer-reply.new.store;
      book = c.answer-reply.new.journal;
      state = c.answer-reply.new.contents.state;
      paths = c.answer-reply.new.contents.room.paths.paths;
      failed = c.answer-reply.result.1;
    } in
    let call : Call = record { job = c.args.job; timestamp = c.args.timestamp; request = c.args.request.now; reply = c.answer-reply.result.0 } in
    let kept = c.library.invariant.0 (ap (λ (l : LibraryOver g.row.S.Denot). l.failed) c.library.view_is ∙ c.requires.ready.alive) in
    let called = called-of g.S.Store.tells g.S.Store.disk c.args.sources.now _ c.args.library.now new call c.library.view_is kept c.answer-reply.ensures.come in
    call-acknowledged g.S.Store.tells g.S.Store.disk c.args.sources.now c.args.library.now new call called

pub returns-clause-least : goal.returns-clause-least
returns-clause-least g c =
    let new : LibraryOver g.row.S.Denot = record {
      store = c.answer-reply.new.store;
      book = c.answer-reply.new.journal;
      state = c.answer-reply.new.contents.state;
      paths = c.answer-reply.new.contents.room.paths.paths;
      failed = c.answer-reply.result.1;
    } in
    let call : Call = record { job = c.args.job; timestamp = c.args.timestamp; request = c.args.request.now; reply = c.answer-reply.result.0 } in
    let kept = c.library.invariant.0 (ap (λ (l : LibraryOver g.row.S.Denot). l.failed) c.library.view_is ∙ c.requires.ready.alive) in
    let called = called-of g.S.Store.tells g.S.Store.disk c.args.sources.now _ c.args.library.now new call c.library.view_is kept c.answer-reply.ensures.come in
    call-least g.S.Store.tells g.S.Store.disk c.args.sources.now c.args.library.now new call called

pub returns-clause-whole : goal.returns-clause-whole
returns-clause-whole g c =
    let new : LibraryOver g.row.S.Denot = record {
      store = c.answer-reply.new.store;
      book = c.answer-reply.new.journal;
      state = c.answer-reply.new.contents.state;
      paths = c.answer-reply.new.contents.room.paths.paths;
      failed = c.answer-reply.result.1;
    } in
    let call : Call = record { job = c.args.job; timestamp = c.args.timestamp; request = c.args.request.now; reply = c.answer-reply.result.0 } in
    let kept = c.library.invariant.0 (ap (λ (l : LibraryOver g.row.S.Denot). l.failed) c.library.view_is ∙ c.requires.ready.alive) in
    let called = called-of g.S.Store.tells g.S.Store.disk c.args.sources.now _ c.args.library.now new call c.library.view_is kept c.answer-reply.ensures.come in
    call-whole g.S.Store.tells g.S.Store.disk c.args.sources.now c.args.library.now new call called

pub returns-clause-all : goal.returns-clause-all
returns-clause-all g c =
    let new : LibraryOver g.row.S.Denot = record {
      store = c.answer-reply.new.store;
      book = c.answer-reply.new.journal;
      state = c.answer-reply.new.contents.state;
      paths = c.answer-reply.new.contents.room.paths.paths;
      failed = c.answer-reply.result.1;
    } in
    let call : Call = record { job = c.args.job; timestamp = c.args.timestamp; request = c.args.request.now; reply = c.answer-reply.result.0 } in
    let kept = c.library.invariant.0 (ap (λ (l : LibraryOver g.row.S.Denot). l.failed) c.library.view_is ∙ c.requires.ready.alive) in
    let called = called-of g.S.Store.tells g.S.Store.disk c.args.sources.now _ c.args.library.now new call c.library.view_is kept c.answer-reply.ensures.come in
    call-all g.S.Store.tells g.S.Store.disk c.args.sources.now c.args.library.now new call called

pub returns-clause-receiver : goal.returns-clause-receiver
returns-clause-receiver g c =
    let new : LibraryOver g.row.S.Denot = record {
      store = c.answer-reply.new.store;
      book = c.answer-reply.new.journal;
      state = c.answer-reply.new.contents.state;
      paths = c.answer-reply.new.contents.room.paths.paths;
      failed = c.answer-reply.result.1;
    } in
    let call : Call = record { job = c.args.job; timestamp = c.args.timestamp; request = c.args.request.now; reply = c.answer-reply.result.0 } in
    let kept = c.library.invariant.0 (ap (λ (l : LibraryOver g.row.S.Denot). l.failed) c.library.view_is ∙ c.requires.ready.alive) in
    let called = called-of g.S.Store.tells g.S.Store.disk c.args.sources.now _ c.args.library.now new call c.library.view_is kept c.answer-reply.ensures.come in
    call-receiver g.S.Store.tells g.S.Store.disk c.args.sources.now c.args.library.now new call called

pub returns-clause-roots : goal.returns-clause-roots
returns-clause-roots g c =
    let new : LibraryOver g.row.S.Denot = record {
      store = c.answer-reply.new.store;
      book = c.answer-reply.new.journal;
      state = c.answer-reply.new.contents.state;
      paths = c.answer-reply.new.contents.room.paths.paths;
      failed = c.answer-reply.result.1;
    } in
    let call : Call = record { job = c.args.job; timestamp = c.args.timestamp; request = c.args.request.now; reply = c.answer-reply.result.0 } in
    let kept = c.library.invariant.0 (ap (λ (l : LibraryOver g.row.S.Denot). l.failed) c.library.view_is ∙ c.requires.ready.alive) in
    let called = called-of g.S.Store.tells g.S.Store.disk c.args.sources.now _ c.args.library.now new call c.library.view_is kept c.answer-reply.ensures.come in
    call-roots g.S.Store.tells g.S.Store.disk c.args.sources.now c.args.library.now new call called
