-- The first sequence in a receiver's header.
use Rattle.std.proofs.Common.{◌≡◌, inl, inr, ℕ, List, ◌++◌, length, take, drop, Option, ◌∙◌, ap}
use Rattle.byteorder.specs.Endian.{big_number}
use Rattle.gated_log.specs.Blocks.{header, MayBegin, IsDamagedAt}
use Rattle.gated_log.proofs.Numbers.{first_back}
use Rattle.receiver_chain.specs.Receivers.{Follows, IsReceiverDamagedAt}

pub first_is : (area first version : ℕ) (body bytes field : List ℕ) → MayBegin area first version → bytes ≡ header area first version ++ body → length field ≡ 8 → field ≡ take (length field) (drop 16 bytes) → big_number 8 field ≡ first
first_is area first version body bytes field may is eight read =
    ap (λ (l : List ℕ). big_number 8 l) (read ∙ ap (λ (n : ℕ). take n (drop 16 bytes)) eight ∙ ap (λ (l : List ℕ). take 8 (drop 16 l)) is) ∙ first_back area first version body may.fits

-- where each header that stands there follows, the damage of the log is that of the receiver
pub receiver_damaged : (area : ℕ) (before : Option ℕ) (bytes : List ℕ) (at : ℕ) → ((first version : ℕ) (body : List ℕ) → MayBegin area first version → bytes ≡ header area first version ++ body → Follows before first) → IsDamagedAt area bytes at → IsReceiverDamagedAt area before bytes at
receiver_damaged area before bytes at starts (inl (none, zero)) = inl (λ first version body may follows is. none first version body may is, zero)
receiver_damaged area before bytes at starts (inr breaks) =
    inr (λ none. none breaks.first breaks.version breaks.body breaks.may_begin (starts breaks.first breaks.version breaks.body breaks.may_begin breaks.header) breaks.header, breaks)
