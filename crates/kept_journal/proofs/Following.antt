-- Entries that are judged one after another, whether they may wait.
use Rattle.std.proofs.Common.{◌≡◌, ℕ, ◌+◌, ◌≤◌, ◌<◌, ◌^◌, List, ◌∷◌, length, get_or, drop, sym, ◌∙◌, ap, subst, arith}
use Rattle.std.proofs.lemmas.List.{drop_all, drop_more}
use Rattle.entry_codec.specs.declared.entries.Entry.{Entry}
use Rattle.entry_codec.specs.Spelling.{HasSpelling, spelling}
use Rattle.gated_log.specs.declared.layout.TheConstants.{MAX_BLOCK}
use Rattle.journal_model.specs.Journal.{AreNumbered}
use Rattle.journal_book.specs.Entries.{IsInside}
use Rattle.journal_book.specs.Book.{BookState, last_of}
use Rattle.kept_journal.specs.Journals.{MayFollow, MayWait}
use Rattle.kept_journal.proofs.Putting.{spelled-length}

pub follow-wait : (book : BookState) (entries : List Entry) (last waiting : ℕ) → last ≡ last_of book → 1 ≤ book.first → waiting ≡ length book.buffered → MayFollow last waiting entries → MayWait book entries
follow-wait book entries last waiting is least waits may = record {
  numbered = subst (λ (n : ℕ). AreNumbered n entries) (omega (arith, is, least)) may.numbered;
  each = may.each;
  inside = may.inside;
  few = omega (arith, is, least, may.few);
  small = omega (arith, waits, may.small);
}

-- those before may follow where the rest may
abbrev pub IsJudged : (last waiting : ℕ) (entries : List Entry) (reached bytes : ℕ) (rest : List Entry) → Type 0
IsJudged last waiting entries reached bytes rest = (reached ≤ 2 ^ 63) × (bytes ≤ MAX_BLOCK) × (MayFollow reached bytes rest → MayFollow last waiting entries)

pub one-judged : (last waiting : ℕ) (entries : List Entry) (reached bytes more : ℕ) (e : Entry) (rest : List Entry) → IsJudged last waiting entries reached bytes (e ∷ rest) → reached < 2 ^ 63 → e.sequence ≡ reached + 1 → IsInside e
    → HasSpelling e → more ≡ bytes + length (spelling e) → more ≤ MAX_BLOCK → IsJudged last waiting entries (reached + 1) more rest
one-judged last waiting entries reached bytes more e rest judged before sequence inside has is fits = (
  omega (arith, before),
  fits,
  λ may. judged.2 (record {
    numbered = (sequence, may.numbered);
    each = (has, may.each);
    inside = (inside, may.inside);
    few = omega (arith, may.few);
    small = omega (arith, may.small, is, spelled-length e rest);
  }),
)

pub none-left : (last waiting : ℕ) (entries : List Entry) (reached bytes i : ℕ) → length entries ≤ i → IsJudged last waiting entries reached bytes (drop i entries) → MayFollow last waiting entries
none-left last waiting entries reached bytes i past judged =
    let rest = drop_all i entries past in
    judged.2 (subst (λ (l : List Entry). MayFollow reached bytes l) (sym rest) (record { numbered = tt; each = tt; inside = tt; few = omega (arith, judged.0); small = omega (arith, judged.1) }))

pub judged-at : (last waiting : ℕ) (entries : List Entry) (reached bytes i : ℕ) (e : Entry) → i < length entries → e ≡ get_or entries i e → IsJudged last waiting entries reached bytes (drop i entries)
    → IsJudged last waiting entries reached bytes (e ∷ drop (i + 1) entries)
judged-at last waiting entries reached bytes i e below is judged =
    subst (λ (l : List Entry). IsJudged last waiting entries reached bytes l) (drop_more entries i e below ∙ ap (λ (x : Entry). x ∷ drop (i + 1) entries) (sym is)) judged
