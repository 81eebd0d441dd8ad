use Rattle.std.proofs.Common.{◌≡◌, ◌∙◌, ◌<◌, ◌+◌, ◌-◌, ℕ, suc, Some, cond, List, length, drop, map, option_map, refl, sym, ap, arith}
use Rattle.std.specs.List.{position}
use Rattle.std.specs.Str.{bytes_eq}
use Rattle.std.proofs.lemmas.List.{drop_all}
use Rattle.std.proofs.lemmas.Option.{slice_get_read}
use Rattle.dds_logical.specs.declared.views.View.{View}
use Rattle.library_parts.proofs.UnderLemmas.{drop-next}
use Rattle.record_changes.proofs.FormatLemmas.{place-all, place-more}
use Rattle.record_changes.proofs.refusals.place_among.Goals as goal

pub loop-left-init : goal.loop-left-init
loop-left-init c =
    let views = c.args.views.now in
    record {
      within = omega arith;
      found = sym (ap (λ (vs : List View). option_map (λ (n : ℕ). length views + n) (position (bytes_eq c.args.name) (map (λ (v : View). v.format.name) vs))) (drop_all (length views) views (omega arith)));
    }

pub loop-left-preserved : goal.loop-left-preserved
loop-left-preserved c =
    let views = c.args.views.now in
    let before = c.loop-left.left - 1 in
    let next : c.loop-left.left ≡ suc before = omega arith in
    let follows : c.loop-left.left ≡ before + 1 = omega arith in
    let below : before < length views = omega (arith, c.loop-left.invariant.within) in
    let at = slice_get_read views (length views) before c.index-views-left.result refl below c.index-views-left.is in
    record {
      within = omega (arith, c.loop-left.invariant.within);
      found = place-more (bytes_eq c.args.name) views (drop c.loop-left.left views) c.index-views-left.result before c.loop-left.left _ c.loop-left.found follows
          (drop-next views before c.loop-left.left c.index-views-left.result next at) refl c.loop-left.invariant.found
          (c.place_or-found.ensures ∙ ap (λ (v : View). cond (bytes_eq c.args.name v.format.name) (Some before) c.loop-left.found) (sym c.index-views-left.is));
    }

pub returns : goal.returns
returns c =
    let none : c.loop-left.left ≡ 0 = omega arith in
    place-all (bytes_eq c.args.name) c.args.views.now c.loop-left.left c.loop-left.found none c.loop-left.invariant.found
