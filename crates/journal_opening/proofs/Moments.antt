-- What a stop leaves while a store is formatted.
use Rattle.std.proofs.Common.{◌≢◌, inl, inr, ℕ, List, [], refl, sym, ◌∙◌, subst, arith}
use Rattle.store_model.specs.Disk.{Areas, Disk, Does, IsDurable, Leaves, May, Stays}
use Rattle.store_model.proofs.Runs.{durable_apart, leaves_does, leaves_less, leaves_stays, leaves_then, now, stays_does}
use Rattle.gated_log.specs.Blocks.{Spells}
use Rattle.gated_log.specs.Log.{Anything}
use Rattle.gated_log.proofs.Staging.{any_more}
use Rattle.checkpoint.specs.declared.layout.TheConstants.{ROOT_AREA}
use Rattle.checkpoint.specs.Roots.{AreRoots, IsFormatting, first_root}
use Rattle.journal_opening.specs.declared.layout.TheConstants.{FIRST_AREA, FIRST_SEQUENCE, VERSION}
use Rattle.journal_opening.specs.Journals.{IsEmptyLibrary, IsFormattingOf}
use Rattle.journal_opening.proofs.Empties.{empty_library}

pub first_apart : FIRST_AREA ≢ ROOT_AREA
first_apart same = omega (arith, same)

pub root_apart : ROOT_AREA ≢ FIRST_AREA
root_apart same = omega (arith, same)

-- nothing is written
pub formatting_stays : (old new : Disk) → Stays old new → Leaves old new (IsFormattingOf old)
formatting_stays old new stays = leaves_stays old new (IsFormattingOf old) stays (λ areas may. record { before = areas; could = may; roots = inl refl; others = λ area root first. refl })

-- it begins behind a call that changes nothing
pub formatting_since : (old begun new : Disk) → Stays old begun → Leaves begun new (IsFormattingOf begun) → Leaves old new (IsFormattingOf old)
formatting_since old begun new stays leaves =
    leaves_then old begun new (IsFormattingOf old) (formatting_stays old begun stays)
    (leaves_less begun new (IsFormattingOf begun) (IsFormattingOf old) leaves (λ areas is. record {
      before = is.before;
      could = stays.images is.before (begun.wider old.moment begun.moment is.before stays.later.moment is.could);
      roots = is.roots;
      others = is.others;
    }))

-- receiver 1 is made
pub formatting_receiver : (old new : Disk) → Does FIRST_AREA Anything old new → Leaves old new (IsFormattingOf old)
formatting_receiver old new does =
    leaves_does FIRST_AREA Anything old new (IsFormattingOf old) does
    (λ before areas may only. record { before = before; could = may; roots = inl (only.others ROOT_AREA root_apart); others = λ area root first. only.others area first })

-- and then the roots
pub formatting_roots : (old made new : Disk) → Does FIRST_AREA Anything old made → Spells FIRST_AREA FIRST_SEQUENCE VERSION [] (made.seen FIRST_AREA) → IsDurable FIRST_AREA made
    → Does ROOT_AREA (λ _ bytes. IsFormatting bytes) made new → Leaves old new (IsFormattingOf old)
formatting_roots old made new does spells durable roots =
    leaves_then old made new (IsFormattingOf old) (formatting_receiver old made does)
    (leaves_does ROOT_AREA (λ _ bytes. IsFormatting bytes) made new (IsFormattingOf old) roots (λ middle areas may only.
    let from = now FIRST_AREA Anything old made does middle may in
    let first = only.others FIRST_AREA first_apart ∙ durable middle may in
    record {
      before = from.0;
      could = from.1;
      roots = inr (elim only.here [
        | inl none ↦ inl none
        | inr one ↦ inr (empty_library areas one (subst (λ (bytes : List ℕ). Spells FIRST_AREA FIRST_SEQUENCE VERSION [] bytes) (sym first) spells))
      ]);
      others = λ area root receiver. only.others area root ∙ from.2.others area receiver;
    }))

-- ---- when it is done

module _ (made new : Disk) (spells : Spells FIRST_AREA FIRST_SEQUENCE VERSION [] (made.seen FIRST_AREA)) (does : Does ROOT_AREA (λ _ bytes. IsFormatting bytes) made new)
    (roots : AreRoots [] first_root (new.seen ROOT_AREA)) where
  pub formatted_seen : IsEmptyLibrary new.seen
  formatted_seen = empty_library new.seen roots (subst (λ (bytes : List ℕ). Spells FIRST_AREA FIRST_SEQUENCE VERSION [] bytes) (sym (does.others FIRST_AREA first_apart)) spells)

  -- a stop leaves the same
  pub formatted_left : IsDurable FIRST_AREA made → IsDurable ROOT_AREA new → (areas : Areas) → May new areas → IsEmptyLibrary areas
  formatted_left durable settled areas may =
      let first = durable_apart ROOT_AREA (λ _ bytes. IsFormatting bytes) made new does FIRST_AREA first_apart durable areas may ∙ does.others FIRST_AREA first_apart in
      empty_library areas (subst (λ (bytes : List ℕ). AreRoots [] first_root bytes) (sym (settled areas may)) roots)
      (subst (λ (bytes : List ℕ). Spells FIRST_AREA FIRST_SEQUENCE VERSION [] bytes) (sym first) spells)

-- ---- where memory ran out

pub receiver_since : (old begun new : Disk) → Stays old begun → Does FIRST_AREA Anything begun new → Does FIRST_AREA Anything old new
receiver_since old begun new stays does = any_more FIRST_AREA Anything old begun new (stays_does FIRST_AREA Anything old begun (λ bytes. tt) stays) does
