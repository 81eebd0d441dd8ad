use Rattle.std.proofs.Common.{sym, ◌∙◌, ap}
use Rattle.std.proofs.lemmas.Bool.{false≢true}
use Rattle.entry_codec.specs.declared.kinds.EntryKind.TheVariants.{PreviousReceiver}
use Rattle.journal_book.proofs.Bodies.{one_previous, start_by, start_is}
use Rattle.journal_book.proofs.grammar.begins_by.Goals as goal

pub returns-then-count-block-clause-start : goal.returns-then-count-block-clause-start
returns-then-count-block-clause-start c = (
  λ is. absurd (false≢true is),
  λ start. absurd (c.if-count-block.true (start_is c.args.previous _ c.args.block.now c.args.entry.now c.args.count c.requires.front start).0),
)

pub returns-in_default : goal.returns-in_default
returns-in_default c = record {
  start = (
    λ is. absurd (false≢true is),
    λ start. absurd (c.in_default.not-PreviousReceiver _ (start_is c.args.previous _ c.args.block.now c.args.entry.now c.args.count c.requires.front start).1),
  );
  fits = λ is. absurd (false≢true is);
}

pub returns-then-number-previous-clause-start : goal.returns-then-number-previous-clause-start
returns-then-number-previous-clause-start c = (
  λ is. absurd (false≢true is),
  λ start. absurd (c.if-number-previous.true (one_previous _ _ (sym c.in-PreviousReceiver.is ∙ (start_is c.args.previous _ c.args.block.now c.args.entry.now c.args.count c.requires.front start).1))),
)

pub returns-clause-start : goal.returns-clause-start
returns-clause-start c = (
  λ is.
      start_by c.args.previous c.args.last c.args.block.now c.args.entry.now c.args.count c.requires.front c.if-count-block.false (c.in-PreviousReceiver.is ∙ ap PreviousReceiver c.if-number-previous.false)
      (c.follows.ensures.0 is),
  λ start. c.follows.ensures.1 (start_is c.args.previous _ c.args.block.now c.args.entry.now c.args.count c.requires.front start).2,
)
