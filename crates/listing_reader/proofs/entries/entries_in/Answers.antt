use Rattle.std.proofs.Common.{sym, ap, subst, ◌∙◌, Option, Some, IfSome, List}
use Rattle.std.specs.List.{All}
use Rattle.std.proofs.lemmas.List.Elements.{All-push}
use Rattle.entry_codec.specs.Spelling.{HasSpelling}
use Rattle.entry_codec.specs.declared.entries.Entry.{Entry}
use Rattle.statement_reader.specs.Lists.{onto_others}
use Rattle.statement_reader.specs.Words.{words}
use Rattle.statement_reader.proofs.ListLemmas.{taken}
use Rattle.listing_reader.specs.Entries.{entries_in}
use Rattle.listing_reader.proofs.ReadLemmas.{stopped-by, ended-by}
use Rattle.listing_reader.proofs.entries.entries_in.Goals as goal

pub returns-in_default-2 : goal.returns-in_default-2
returns-in_default-2 c =
    let there = entries_in (words c.in-Some.others.now) in
    stopped-by c.loop-others.entries.items (entries_in (words c.loop-others.rest.now)) there (entries_in (words c.args.text.now))
    (c.in-Some.ensures.0 ∙ ap (λ (e : Option Entry). onto_others e there) (sym c.in_ok-entry.ensures.entry ∙ c.in_default-2.is)) c.loop-others.invariant.0

pub loop-others-preserved : goal.loop-others-preserved
loop-others-preserved c =
    let there = entries_in (words c.in-Some.others.now) in
    let before = c.loop-others.entries.items in
    let entry = c.in-Some-2.entry in (
      taken before c.push.new.self.items entry (entries_in (words c.loop-others.rest.now)) there (entries_in (words c.args.text.now))
          c.in_ok-push.ensures.items (c.in-Some.ensures.0 ∙ ap (λ (e : Option Entry). onto_others e there) (sym c.in_ok-entry.ensures.entry ∙ c.in-Some-2.is)) c.loop-others.invariant.0,
      subst (All HasSpelling) (sym c.in_ok-push.ensures.items)
          (All-push HasSpelling before entry c.loop-others.invariant.1 (subst (λ (e : Option Entry). IfSome e HasSpelling) c.in-Some-2.is c.in_ok-entry.ensures.spelled)),
    )

pub returns : goal.returns
returns c =
    ap (λ (entries : List Entry). Some entries) c.from_vec-entries.ensures
    ∙ ended-by c.loop-others.entries.items (entries_in (words c.loop-others.rest.now)) (entries_in (words c.args.text.now)) c.in_default.ensures c.loop-others.invariant.0
