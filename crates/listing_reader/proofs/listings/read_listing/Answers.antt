use Rattle.std.proofs.Common.{◌≡◌, ◌≢◌, ◌+◌, ◌<◌, ◌^◌, suc, length, drop, subst, sym, ap, ◌∙◌, arith, rules}
use Rattle.std.specs.List.{All}
use Rattle.library_model.specs.declared.calls.Call.{Call}
use Rattle.listing.specs.HistoryListing.{listing}
use Rattle.text_lines.specs.Lines.{lines_of}
use Rattle.listing_reader.specs.FirstBad.{shared_lines}
use Rattle.listing_reader.specs.Listed.{HasName}
use Rattle.listing_reader.proofs.FirstLemmas.{first-bad}
use Rattle.listing_reader.proofs.NamedLemmas.{calls-named}
use Rattle.listing_reader.proofs.SharedLemmas.{other-texts, shared-within}
use Rattle.listing_reader.proofs.listings.read_listing.Goals as goal

pub overflow_add-result : goal.overflow_add-result
overflow_add-result c =
    let within = shared-within c.deref-else-eq.result.now c.args.bytes.now in
    omega (arith, within, c.shared_lines.ensures, c.deref-else-eq.type_inv.0, c.deref-else-eq.type_inv.1)

pub returns-then-eq-clause-calls_have_names : goal.returns-then-eq-clause-calls_have_names
returns-then-eq-clause-calls_have_names c =
    subst (All (λ (call : Call). HasName c.args.names.now call.job)) (sym c.in_ok-calls.ensures) (calls-named c.args.names.now (drop 1 (lines_of c.args.bytes.now)))

pub returns-else-eq-clause-bad : goal.returns-else-eq-clause-bad
returns-else-eq-clause-bad c = λ line is.
    let names = c.args.names.now in
    let bytes = c.args.bytes.now in
    let made = c.in_ok-calls.calls.items in
    let listed : c.in_ok-text.text.items ≡ listing c.args.names.now c.in_ok-calls.calls.items = c.in_ok-text.ensures ∙ ap (listing names) c.deref.ensures.value in
    let differ : listing c.args.names.now c.in_ok-calls.calls.items ≢ c.args.bytes.now = λ same.
    other-texts c.as_slice.result.now bytes (sym c.if-eq.ensures) (c.as_slice.ensures.value ∙ (listed ∙ same)) in
    let small : length c.args.bytes.now < 2 ^ 64 = search rules in
    let here : c.shared_lines.result + 1 ≡ line = cc is in
    let count : c.shared_lines.result ≡ shared_lines (listing c.args.names.now c.in_ok-calls.calls.items) c.args.bytes.now =
    c.shared_lines.ensures ∙ ap (λ text. shared_lines text bytes) (c.deref-else-eq.ensures.value ∙ listed) in
    let at : line ≡ suc (shared_lines (listing c.args.names.now c.in_ok-calls.calls.items) c.args.bytes.now) = omega (arith, here, count) in
    first-bad names made bytes line c.requires.different small c.in_ok-calls.ensures differ at
