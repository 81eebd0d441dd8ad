-- Reading a receiver that another follows, and all receivers one after another.
use Rattle.std.proofs.Common.{◌≡◌, ◌≢◌, ◌⊎◌, inl, inr, ℕ, ◌+◌, ◌-◌, ◌≤◌, ◌<◌, List, [], ◌∷◌, ◌++◌, length, take, drop, get_or, Option, Some, None, zero, refl, sym, ◌∙◌, ap, subst, arith, suc, length-append, length-take}
use Rattle.std.proofs.Math.Seq.{drop-cons}
use Rattle.std.proofs.lemmas.List.{append-nil, drop_all, take-append-drop}
use Rattle.entry_codec.specs.declared.entries.Entry.{Entry}
use Rattle.entry_codec.specs.declared.kinds.EntryKind.TheVariants.{NextReceiver, PreviousReceiver}
use Rattle.entry_codec.specs.Spelling.{spelling}
use Rattle.entry_codec.proofs.EntryLaws.{one_spelling}
use Rattle.receiver_chain.specs.Links.{EndsInLink, IsLink, IsStart, last_block}
use Rattle.receiver_chain.specs.Receivers.{Follows, LeadTo, Receiver}
use Rattle.receiver_chain.proofs.LinkLemmas.{start_no_link}
use Rattle.journal_model.specs.Journal.{AreNumbered}
use Rattle.journal_book.specs.Entries.{AreBlocks, BeginsWith, HasBegun, IsBlock, IsEnded, flat}
use Rattle.journal_book.specs.Openings.{HasBodies, HasNoBodies, HasNoFront, HasNoRead, HasRead, IsFront, IsRead}
use Rattle.journal_book.proofs.Numbering.{number_at, numbered_front}
use Rattle.journal_book.proofs.Deposits.{numbered-push}
use Rattle.journal_book.proofs.Forcing.{begins-push, blocks-push, flat-append}
use Rattle.journal_book.proofs.Openings.{begun_first, begun_later, block_start, first_bodies, later_bodies}
use Rattle.journal_book.proofs.Reading.{one_blocks}

-- the blocks of a receiver but its last one, and that one
pub last_split : (blocks : List (List ℕ)) (to : ℕ) → to + 1 ≡ length blocks → blocks ≡ take to blocks ++ last_block blocks ∷ []
last_split blocks to count =
    sym (take-append-drop to blocks)
    ∙ ap (λ (l : List (List ℕ)). take to blocks ++ l)
    (drop-cons blocks to [] (omega (arith, count)) ∙ ap (λ (l : List (List ℕ)). get_or blocks to [] ∷ l) (drop_all (suc to) blocks (omega (arith, count))) ∙ ap (λ (n : ℕ). get_or blocks n [] ∷ []) (omega (arith, count)))

unpush : (groups : List (List Entry)) (group : List Entry) (blocks : List (List ℕ)) (block : List ℕ) → AreBlocks (groups ++ group ∷ []) (blocks ++ block ∷ []) → AreBlocks groups blocks × IsBlock group block
unpush [] group [] block are = (tt, are.0)
unpush [] group (b ∷ []) block are = absurd are.1
unpush [] group (b ∷ c ∷ blocks) block are = absurd are.1
unpush (g ∷ []) group [] block are = absurd are.1
unpush (g ∷ h ∷ groups) group [] block are = absurd are.1
unpush (g ∷ groups) group (b ∷ blocks) block are = let more = unpush groups group blocks block are.1 in ((are.0, more.0), more.1)

-- it has begun on all its blocks but the last one, which is the entry that names the next receiver
record IsSplit (number last : ℕ) (front : List (List ℕ)) (final : List ℕ) : Type 0 where
  pub groups : List (List Entry)
  pub entry : Entry
  pub read : IsRead (HasBegun number) last front groups
  pub block : IsBlock (entry ∷ []) final
  pub sequence : entry.sequence ≡ last + 1 + length (flat groups)

split_by : (number last : ℕ) (front : List (List ℕ)) (final : List ℕ) (groups : List (List Entry)) (e : Entry) → AreBlocks (groups ++ (e ∷ []) ∷ []) (front ++ final ∷ []) → AreNumbered (last + 1) (flat (groups ++ (e ∷ []) ∷ [])) → HasBegun number groups → IsSplit number last front final
split_by number last front final groups e spelled numbered begun =
    let parts = unpush groups (e ∷ []) front final spelled in
    let there : AreNumbered (last + 1) (flat groups ++ e ∷ []) = subst (λ (l : List Entry). AreNumbered (last + 1) l) (flat-append groups ((e ∷ []) ∷ [])) numbered in
    record {
      groups = groups;
      entry = e;
      read = record { spelled = parts.0; stands = begun; numbered = numbered_front (last + 1) (flat groups) (e ∷ []) there };
      block = parts.1;
      sequence = number_at (last + 1) (flat groups) e [] there;
    }

ended_split : (number last : ℕ) (front : List (List ℕ)) (final : List ℕ) (groups : List (List Entry)) → IsRead (IsEnded number) last (front ++ final ∷ []) groups → IsSplit number last front final
ended_split number last front final groups read =
    let body = read.stands.0 in
    let e = read.stands.1 in
    elim read.stands.2 [
      | inl begins ↦
          split_by number last front final body e (subst (λ (g : List (List Entry)). AreBlocks g (front ++ final ∷ [])) begins.1 read.spelled)
          (subst (λ (g : List (List Entry)). AreNumbered (last + 1) (flat g)) begins.1 read.numbered) (body, inl (begins.0, refl), read.stands.3)
      | inr begins ↦
          let p = begins.1.0 in
          split_by number last front final ((p ∷ []) ∷ body) e (subst (λ (g : List (List Entry)). AreBlocks g (front ++ final ∷ [])) begins.1.2 read.spelled)
          (subst (λ (g : List (List Entry)). AreNumbered (last + 1) (flat g)) begins.1.2 read.numbered) (body, inr (begins.0, (p, begins.1.1, refl)), read.stands.3)
    ]

ended_join : (number last reached : ℕ) (front : List (List ℕ)) (final : List ℕ) → HasRead (HasBegun number) last front reached → IsLink (number + 1) (reached + 1) final → HasRead (IsEnded number) last (front ++ final ∷ []) (reached + 1)
ended_join number last reached front final (groups, read, count) link =
    let e = link.entry in
    let spells : IsBlock (e ∷ []) final = record { each = (link.spelled, tt); whole = link.whole ∙ sym (append-nil (spelling e)) } in
    let flats : flat (groups ++ (e ∷ []) ∷ []) ≡ flat groups ++ e ∷ [] = flat-append groups ((e ∷ []) ∷ []) in (
      groups ++ (e ∷ []) ∷ [],
      record {
        spelled = blocks-push groups front (e ∷ []) final read.spelled spells;
        stands = (read.stands.0, e, begins-push number groups read.stands.0 (e ∷ []) read.stands.1, read.stands.2, link.names);
        numbered = subst (λ (l : List Entry). AreNumbered (last + 1) l) (sym flats) (numbered-push (last + 1) (flat groups) e read.numbered (omega (arith, link.sequence, count)));
      },
      omega (arith, count, ap length flats, length-append (flat groups) (e ∷ [])),
    )

-- ---- with what was read

-- the block by which it begins isn't the one that ends it
begun_front : (number last : ℕ) (front : List (List ℕ)) (final : List ℕ) (taken begun reached s : ℕ) → IsLink (number + 1) s final → IsFront number last (front ++ final ∷ []) taken begun → HasBodies begun (drop taken front) reached → HasRead (HasBegun number) last front reached
begun_front number last front final taken begun reached s link (inl (inl one, nought, same)) bodies =
    begun_first number last front reached one (subst (λ (n : ℕ). HasBodies n front reached) same (subst (λ (t : ℕ). HasBodies begun (drop t front) reached) nought bodies))
begun_front number last front final taken begun reached s link (inl (inr (more, none), nought, same)) bodies =
    absurd (omega (arith, ap length none, length-append front (final ∷ [])))
begun_front number last [] final taken begun reached s link (inr (more, (block, rest, is, start), one, next)) bodies =
    absurd (start_no_link (number - 1) (last + 1) (number + 1) final (subst (λ (b : List ℕ). IsStart (number - 1) (last + 1) b) (sym (ap (λ (l : List (List ℕ)). get_or l 0 []) is)) start) s link)
begun_front number last (b ∷ front) final taken begun reached s link (inr (more, (block, rest, is, start), one, next)) bodies =
    begun_later number last b front reached more (subst (λ (b : List ℕ). IsStart (number - 1) (last + 1) b) (sym (ap (λ (l : List (List ℕ)). get_or l 0 []) is)) start)
    (subst (λ (n : ℕ). HasBodies n front reached) next (subst (λ (t : ℕ). HasBodies begun (drop t (b ∷ front)) reached) one bodies))

begun_no_bodies : (number last : ℕ) (front : List (List ℕ)) (final : List ℕ) (taken begun : ℕ) → IsFront number last (front ++ final ∷ []) taken begun → HasNoBodies begun (drop taken front) → IsSplit number last front final → ⊥
begun_no_bodies number last front final taken begun (inl (inl one, nought, same)) none split =
    subst (λ (n : ℕ). HasNoBodies n front) same (subst (λ (t : ℕ). HasNoBodies begun (drop t front)) nought none) split.groups (first_bodies number last front split.groups one split.read)
begun_no_bodies number last front final taken begun (inl (inr (more, empty), nought, same)) none split = omega (arith, ap length empty, length-append front (final ∷ []))
begun_no_bodies number last [] final taken begun (inr (more, found, one, next)) none split = never_empty number last split.groups more split.read
  where
    begins_not : (number : ℕ) (body : List (List Entry)) → number ≢ 1 → BeginsWith number [] body → ⊥
    begins_not number body more begins = elim begins [
      | inl first ↦ more first.0
      | inr later ↦ omega (arith, ap length later.1.2)
    ]

    never_empty : (number last : ℕ) (groups : List (List Entry)) → number ≢ 1 → IsRead (HasBegun number) last [] groups → ⊥
    never_empty number last [] more read = begins_not number read.stands.0 more read.stands.1
    never_empty number last (g ∷ groups) more read = read.spelled
begun_no_bodies number last (b ∷ front) final taken begun (inr (more, found, one, next)) none split =
    let bodies = (later_bodies number last b front split.groups more split.read).1 in
    subst (λ (n : ℕ). HasNoBodies n front) next (subst (λ (t : ℕ). HasNoBodies begun (drop t (b ∷ front))) one none) bodies.0 bodies.1

module _ (number last : ℕ) (blocks : List (List ℕ)) (to : ℕ) (count : to + 1 ≡ length blocks) where
  whole : blocks ≡ take to blocks ++ last_block blocks ∷ []
  whole = last_split blocks to count

  pub ended_no_front : HasNoFront number last blocks → HasNoRead (IsEnded number) last blocks
  ended_no_front (more, (block, rest, is, none)) = λ groups read. elim read.stands.2 [
    | inl begins ↦ more begins.0
    | inr begins ↦
        let p = begins.1.0 in
        let tail = read.stands.0 ++ (read.stands.1 ∷ []) ∷ [] in
        let spelled : AreBlocks ((p ∷ []) ∷ tail) (block ∷ rest) = subst (λ (b : List (List ℕ)). AreBlocks ((p ∷ []) ∷ tail) b) is (subst (λ (g : List (List Entry)). AreBlocks g blocks) begins.1.2 read.spelled) in
        let numbered : AreNumbered (last + 1) (p ∷ flat tail) = subst (λ (g : List (List Entry)). AreNumbered (last + 1) (flat g)) begins.1.2 read.numbered in
        none (block_start (number - 1) (last + 1) block p spelled.0 begins.1.1 numbered.0)
  ]

  module _ (taken begun : ℕ) (front : IsFront number last blocks taken begun) where
    split_front : IsFront number last (take to blocks ++ last_block blocks ∷ []) taken begun
    split_front = subst (λ (b : List (List ℕ)). IsFront number last b taken begun) whole front

    pub ended_no_bodies : HasNoBodies begun (drop taken (take to blocks)) → HasNoRead (IsEnded number) last blocks
    ended_no_bodies none = λ groups read.
        begun_no_bodies number last (take to blocks) (last_block blocks) taken begun split_front none (ended_split number last (take to blocks) (last_block blocks) groups (subst (λ (b : List (List ℕ)). IsRead (IsEnded number) last b groups) whole read))

    module _ (reached s : ℕ) (bodies : HasBodies begun (drop taken (take to blocks)) reached) (link : EndsInLink (number + 1) s blocks) where
      all_begun : HasRead (HasBegun number) last (take to blocks) reached
      all_begun = begun_front number last (take to blocks) (last_block blocks) taken begun reached s link split_front bodies

      pub ended_read : s ≡ reached + 1 → HasRead (IsEnded number) last blocks (reached + 1)
      ended_read follows =
          subst (λ (b : List (List ℕ)). HasRead (IsEnded number) last b (reached + 1)) (sym whole)
          (ended_join number last reached (take to blocks) (last_block blocks) all_begun (subst (λ (n : ℕ). IsLink (number + 1) n (last_block blocks)) follows link))

      pub ended_no_end : s ≢ reached + 1 → HasNoRead (IsEnded number) last blocks
      ended_no_end other = λ groups read.
          let split = ended_split number last (take to blocks) (last_block blocks) groups (subst (λ (b : List (List ℕ)). IsRead (IsEnded number) last b groups) whole read) in
          let same = one_blocks split.groups all_begun.0 (take to blocks) split.read.spelled all_begun.1.spelled in
          let entries = one_spelling split.entry link.entry [] [] split.block.each.0 link.spelled (sym split.block.whole ∙ link.whole ∙ sym (append-nil (spelling link.entry))) in
          other (omega (arith, sym link.sequence, ap (λ (e : Entry). e.sequence) entries.0, split.sequence, all_begun.2, ap (λ (g : List (List Entry)). length (flat g)) same))

-- ---- the link of each receiver

pub link_at : (number : ℕ) (before : Option ℕ) (rs : List Receiver) (attached : Receiver) (next : ℕ) (last : Option ℕ) (k : ℕ) → LeadTo number before rs next last → Follows last attached.first → k < length rs
    → (s : ℕ) × EndsInLink (number + k + 1) s (get_or rs k attached).blocks × ((get_or rs (k + 1) attached).first ≡ s + 1)
link_at number before [] attached next last k lead follows below = absurd (omega (arith, below))
link_at number before (r ∷ []) attached next last zero lead follows below = (lead.1, subst (λ (n : ℕ). EndsInLink n lead.1 r.blocks) (omega arith) lead.2, subst (λ (o : Option ℕ). Follows o attached.first) lead.3.1 follows)
link_at number before (r ∷ q ∷ rs) attached next last zero lead follows below = (lead.1, subst (λ (n : ℕ). EndsInLink n lead.1 r.blocks) (omega arith) lead.2, lead.3.0)
link_at number before (r ∷ rs) attached next last (suc k) lead follows below =
    let more = link_at (number + 1) (Some lead.1) rs attached next last k lead.3 follows (omega (arith, below)) in
    (more.0, subst (λ (n : ℕ). EndsInLink n more.0 (get_or rs k attached).blocks) (omega arith) more.1, step r rs attached k (suc k + 1) (omega arith) ∙ more.2)
  where
    step : (r : Receiver) (rs : List Receiver) (attached : Receiver) (k n : ℕ) → n ≡ suc (k + 1) → (get_or (r ∷ rs) n attached).first ≡ (get_or rs (k + 1) attached).first
    step r rs attached k n is = ap (λ (m : ℕ). (get_or (r ∷ rs) m attached).first) is
