-- What ties a receiver to the next one, and what doesn't.
use Rattle.std.proofs.Common.{◌≡◌, ◌≢◌, ℕ, ◌-◌, List, [], ◌∷◌, ◌++◌, length, get_or, sym, ◌∙◌, ap, arith, length-append}
use Rattle.std.proofs.lemmas.List.{append-nil, drop_all}
use Rattle.std.proofs.Math.Seq.{get_or-append_seam}
use Rattle.entry_codec.specs.declared.entries.Entry.{Entry}
use Rattle.entry_codec.specs.declared.kinds.EntryKind.TheVariants.{NextReceiver, PreviousReceiver}
use Rattle.entry_codec.specs.Spelling.{IsSpelled, Begins, spelling}
use Rattle.entry_codec.proofs.Lengths.{length-spelling}
use Rattle.entry_codec.proofs.EntryLaws.{one_spelling}
use Rattle.receiver_chain.specs.Links.{IsNoLink, IsStart, last_block}

-- two entries that are one block are one entry
pub one_entry : (a b : Entry) (block : List ℕ) → IsSpelled a → IsSpelled b → block ≡ spelling a → block ≡ spelling b → a ≡ b
one_entry a b block is_a is_b left right = (one_spelling a b [] [] is_a is_b (append-nil (spelling a) ∙ sym left ∙ right ∙ sym (append-nil (spelling b)))).0

-- no bytes are no entry
pub no_bytes : (next : ℕ) → IsNoLink next []
no_bytes next = λ before link. absurd (omega (arith, ap length link.whole, length-spelling link.entry))

-- what stands at the front of a block and doesn't fill it is no link, nor is what has another kind
pub longer : (next count : ℕ) (block : List ℕ) (e : Entry) → Begins block e count → count ≢ length block → IsNoLink next block
longer next count block e begins more = λ before link.
    let same = one_spelling e link.entry _ [] begins.spelled link.spelled (sym begins.front ∙ link.whole ∙ sym (append-nil (spelling link.entry))) in
    more (begins.long ∙ ap (λ (x : Entry). length (spelling x)) same.0 ∙ sym (ap length link.whole))

pub filled : (count : ℕ) (block : List ℕ) (e : Entry) → Begins block e count → count ≡ length block → block ≡ spelling e
filled count block e begins all = begins.front ∙ ap (λ (l : List ℕ). spelling e ++ l) (drop_all count block (omega (arith, all))) ∙ append-nil (spelling e)

pub other_kind : (next count : ℕ) (block : List ℕ) (e : Entry) → Begins block e count → (e.kind ≡ NextReceiver next → ⊥) → IsNoLink next block
other_kind next count block e begins other = λ before link.
    let same = one_spelling e link.entry _ [] begins.spelled link.spelled (sym begins.front ∙ link.whole ∙ sym (append-nil (spelling link.entry))) in
    other (ap (λ (x : Entry). x.kind) same.0 ∙ link.names)

pub one_number : (a b : ℕ) → NextReceiver a ≡ NextReceiver b → a ≡ b
one_number a b same = cc

-- the last block after one more
pub last_block-push : (blocks : List (List ℕ)) (block : List ℕ) → last_block (blocks ++ block ∷ []) ≡ block
last_block-push blocks block =
    let last : length (blocks ++ block ∷ []) - 1 ≡ length blocks = omega (arith, length-append blocks (block ∷ [])) in
    ap (λ (n : ℕ). get_or (blocks ++ block ∷ []) n []) last ∙ get_or-append_seam blocks block [] []

-- the entry that begins a receiver ties to none
pub start_no_link : (previous first next : ℕ) (block : List ℕ) → IsStart previous first block → IsNoLink next block
start_no_link previous first next block start = λ before link.
    let same = one_entry start.entry link.entry block start.spelled link.spelled start.whole link.whole in
    let kinds : PreviousReceiver previous ≡ NextReceiver next = sym start.names ∙ ap (λ (x : Entry). x.kind) same ∙ link.names in
    absurd cc
