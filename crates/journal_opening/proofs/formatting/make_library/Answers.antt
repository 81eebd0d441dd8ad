use Rattle.std.proofs.Common.{◌∙◌}
use Rattle.store_model.proofs.Runs.{durable_apart}
use Rattle.gated_log.specs.Log.{Anything}
use Rattle.checkpoint.specs.declared.layout.TheConstants.{ROOT_AREA}
use Rattle.journal_opening.specs.declared.layout.TheConstants.{FIRST_AREA}
use Rattle.journal_opening.proofs.Moments.{formatted_left, formatted_seen, formatting_receiver, formatting_roots, root_apart}
use Rattle.journal_opening.proofs.formatting.make_library.Goals as goal

pub returns-in_err-format-clause-moments : goal.returns-in_err-format-clause-moments
returns-in_err-format-clause-moments g c = λ tells. formatting_receiver (g.S.Store.disk c.args.store.now) (g.S.Store.disk c.format.new.store) c.format.ensures.any_moment

pub format_roots-requires-clause-empty : goal.format_roots-requires-clause-empty
format_roots-requires-clause-empty g c = λ tells. c.format.ensures.any_moment.others ROOT_AREA root_apart ∙ c.requires.empty tells

pub format_roots-requires-clause-settled : goal.format_roots-requires-clause-settled
format_roots-requires-clause-settled g c = λ tells.
    durable_apart FIRST_AREA Anything (g.S.Store.disk c.args.store.now) (g.S.Store.disk c.format.new.store) c.format.ensures.any_moment ROOT_AREA root_apart (c.requires.settled tells)

pub returns-in-Ok-clause-formatted : goal.returns-in-Ok-clause-formatted
returns-in-Ok-clause-formatted g c = λ tells.
    formatted_seen (g.S.Store.disk c.format.new.store) (g.S.Store.disk c.format_roots.new.store) (c.in_ok-format.ensures.formatted tells) (c.format_roots.ensures.any_moment tells)
    (c.in-Ok.ensures.formatted tells)

pub returns-in-Ok-clause-durable : goal.returns-in-Ok-clause-durable
returns-in-Ok-clause-durable g c = λ tells.
    formatted_left (g.S.Store.disk c.format.new.store) (g.S.Store.disk c.format_roots.new.store) (c.in_ok-format.ensures.formatted tells) (c.format_roots.ensures.any_moment tells)
    (c.in-Ok.ensures.formatted tells)
    (c.in_ok-format.ensures.durable tells) (c.in-Ok.ensures.durable tells)

pub returns-in-Ok-clause-moments : goal.returns-in-Ok-clause-moments
returns-in-Ok-clause-moments g c = λ tells.
    formatting_roots (g.S.Store.disk c.args.store.now) (g.S.Store.disk c.format.new.store) (g.S.Store.disk c.format_roots.new.store) c.format.ensures.any_moment
    (c.in_ok-format.ensures.formatted tells)
    (c.in_ok-format.ensures.durable tells) (c.format_roots.ensures.any_moment tells)

pub returns-in-Err-StoreFault-clause-moments : goal.returns-in-Err-StoreFault-clause-moments
returns-in-Err-StoreFault-clause-moments g c = λ tells.
    formatting_roots (g.S.Store.disk c.args.store.now) (g.S.Store.disk c.format.new.store) (g.S.Store.disk c.format_roots.new.store) c.format.ensures.any_moment
    (c.in_ok-format.ensures.formatted tells)
    (c.in_ok-format.ensures.durable tells) (c.format_roots.ensures.any_moment tells)

pub returns-in-Err-NoMemory-clause-moments : goal.returns-in-Err-NoMemory-clause-moments
returns-in-Err-NoMemory-clause-moments g c = λ tells.
    formatting_roots (g.S.Store.disk c.args.store.now) (g.S.Store.disk c.format.new.store) (g.S.Store.disk c.format_roots.new.store) c.format.ensures.any_moment
    (c.in_ok-format.ensures.formatted tells)
    (c.in_ok-format.ensures.durable tells) (c.format_roots.ensures.any_moment tells)
