use Rattle.std.proofs.Common.{◌∙◌, length, sym, ap, position}
use Rattle.library_model.specs.Named.{named, same_name}
use Rattle.input_cards.specs.Names.{with_first}
use Rattle.input_cards.proofs.NameLemmas.{first_places-more}
use Rattle.input_cards.proofs.names.NameList.with.Goals as goal

pub invariant_of-result : goal.invariant_of-result
invariant_of-result c = λ q.
    ap (named q) c.in_ok-add_first.ensures
    ∙ ap (λ names. named q (with_first c.args.name (length names) c.self.inside.first_places)) c.as_slice.ensures
    ∙ first_places-more c.self.inside.names c.self.inside.first_places c.args.name c.self.invariant q
    ∙ ap (position (same_name q)) (sym c.in_ok-push.ensures.pushed)
