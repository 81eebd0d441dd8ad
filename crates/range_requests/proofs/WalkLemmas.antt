-- What going through a range gives, from its closed part and the slots that this gives.
use Rattle.std.proofs.Common.{◌≡◌, ℕ, zero, suc, ◌+◌, ◌-◌, ◌≤◌, ◌<◌, Bool, true, false, cond, List, [], ◌∷◌, length, map, take, drop, reverse, Option, Some, None, unwrap_or, Result, Ok, Err, refl, sym, ap, ◌∙◌, arith}
use Rattle.std.proofs.lemmas.List.{length-reverse, length-map}
use Rattle.entry_codec.specs.declared.entries.Entry.{Entry}
use Rattle.member_slots.specs.declared.slot.Slot.{Slot}
use Rattle.member_slots.specs.declared.slot.Slot.TheVariants.{Deleted}
use Rattle.journal_model.specs.Acts.{acts, entry_before}
use Rattle.journal_model.specs.Closed.{closed_prefix, closed_suffix, greatest, is_closed, last}
use Rattle.journal_model.specs.Journal.{AreNumbered}
use Rattle.journal_model.specs.Parts.{applied_part, removed_part, removed_from}
use Rattle.journal_model.specs.Walks.{Numbered, numbered, RangeFault, apply}
use Rattle.journal_model.specs.Ranges.{RangeDone, done, first_fault, first_gap, first_renumbering, placed, straddled, apply_range, remove_range}
use Rattle.library_steps.specs.Ranges as steps
use Rattle.library_steps.specs.Ranges.{Given, done_or_refused, before_or_deleted}
use Rattle.group_bounds.specs.declared.BoundFault.{BoundFault}
use Rattle.group_bounds.specs.declared.BoundFault.TheVariants as bounds
use Rattle.group_bounds.specs.declared.Part.{Part}
use Rattle.group_bounds.specs.Bounds as group
use Rattle.group_bounds.specs.Bounds.{TellsCut, prefix_cut, prefix_part, suffix_cut, suffix_part}
use Rattle.range_images.specs.declared.fault.ImagesFault.{ImagesFault}
use Rattle.range_images.specs.declared.fault.ImagesFault.TheVariants as images
use Rattle.range_images.specs.Faults.{TellsFault}
use Rattle.range_images.specs.Given.{given_after, given_before, given_forward, given_back, given_slots, AreInPlace}
use Rattle.range_images.specs.Images.{applied_answer, removed_answer, range_done}
use Rattle.range_images.specs.Sides.{first_sequence}
use Rattle.range_requests.specs.declared.walks.Walk.{Walk}
use Rattle.range_requests.specs.Stops.{bound_stop, images_stop}
use Rattle.library_parts.specs.Given.{AddRecords}
use Rattle.range_requests.specs.Walks.{IsWalked, Walks, as_given}
use Rattle.range_requests.proofs.EndLemmas.{first-take, first-numbered, numbered-drop, length-take, length-drop, same-first}
use Rattle.range_requests.proofs.AddLemmas.{applied-adds}

-- ---- the slots that are given, in the words of the requests

same_given : (a b : ℕ) (s t : Slot) → a ≡ b → s ≡ t → (let g : Given = record { place = a; slot = s } in g) ≡ record { place = b; slot = t }
same_given a b s t p q = cc

place-back : (n : ℕ) → n + 1 - 1 ≡ n
place-back n = omega arith

forward-as : (changes : List Numbered) → map as_given (given_forward changes) ≡ steps.given_forward changes
forward-as [] = refl
forward-as (n ∷ changes) = (λ i. same_given (n.change.place + 1 - 1) n.change.place n.change.after n.change.after (place-back n.change.place) refl i ∷ forward-as changes i)

before-is : (o : Option Slot) → unwrap_or o Deleted ≡ before_or_deleted o
before-is None = refl
before-is (Some slot) = refl

abbrev before_of : Numbered → Given
before_of n = record { place = n.change.place; slot = before_or_deleted n.change.before }

before-as : (changes : List Numbered) → map as_given (map given_before changes) ≡ map before_of changes
before-as [] = refl
before-as (n ∷ changes) = (λ i. same_given (n.change.place + 1 - 1) n.change.place (unwrap_or n.change.before Deleted) (before_or_deleted n.change.before) (place-back n.change.place) (before-is n.change.before) i ∷ before-as changes i)

back-as : (changes : List Numbered) → map as_given (given_back changes) ≡ steps.given_back changes
back-as changes = before-as (reverse changes)

length-acts : (member : ℕ) (entries : List Entry) (prior : Option Entry) → length (acts member prior entries) ≡ length entries
length-acts member [] prior = refl
length-acts member (e ∷ entries) prior = ap suc (length-acts member entries (Some e))

greatest-within : (passes : ℕ → Bool) (n : ℕ) → greatest passes n ≤ n
greatest-within passes zero = omega arith
greatest-within passes (suc n) =
    let rest = greatest-within passes n in
    elim (passes (suc n)) as (λ b. cond b (suc n) (greatest passes n) ≤ suc n) [
      | true ↦ omega arith
      | false ↦ omega (arith, rest)
    ]

-- ---- refusals

pub bound-refused : (fault : BoundFault) (answer rest : Result RangeDone RangeFault) (cut : Option RangeFault) (slots : List Slot) (gives : List Numbered → List Given) (A : Type 0) → answer ≡ first_fault (cut ∷ []) rest
    → TellsCut {A = A} (Err fault) cut → Walks (Err (bound_stop fault)) answer slots gives
bound-refused bounds.NoMemory answer rest cut slots gives A is told = tt
bound-refused (bounds.Straddled group) answer rest cut slots gives A is told = ap done_or_refused (is ∙ ap (λ (o : Option RangeFault). first_fault (o ∷ []) rest) told)

pub images-refused : (fault : ImagesFault) (answer rest : Result RangeDone RangeFault) (slots : List Slot) (gives : List Numbered → List Given) (A : Type 0) → answer ≡ rest → TellsFault {A = A} (Err fault) rest
    → Walks (Err (images_stop fault)) answer slots gives
images-refused images.NoMemory answer rest slots gives A is told = tt
images-refused (images.Refused fault) answer rest slots gives A is told = ap done_or_refused (is ∙ told)

-- ---- forwards

abbrev pub ForwardLaw : ℕ → Option Entry → List Entry → List Slot → Type 0
ForwardLaw number prior entries slots =
    let first = first_sequence entries in
    let range = acts number prior entries in
    apply_range first range slots ≡ first_fault (straddled (numbered first range) (numbered first (applied_part range)) ∷ []) (applied_answer first (acts number prior (take (closed_prefix range) entries)) slots)

pub record IsPrefix (number : ℕ) (prior : Option Entry) (entries : List Entry) (count : ℕ) : Type 0 where
  pub cut : straddled (numbered (first_sequence entries) (acts number prior entries)) (numbered (first_sequence entries) (applied_part (acts number prior entries))) ≡ None
  pub closed : count ≡ closed_prefix (acts number prior entries)
  pub some : 0 < count

module _ (number : ℕ) (prior : Option Entry) (entries : List Entry) (slots : List Slot) (count : ℕ) (law : ForwardLaw number prior entries slots) (is : IsPrefix number prior entries count) where
  pub prefix-within : count ≤ length entries
  prefix-within =
      let within = greatest-within (λ n. is_closed (take n (acts number prior entries))) (length (acts number prior entries)) in
      omega (arith, is.closed, within, length-acts number entries prior)

  pub forward-answer : apply_range (first_sequence entries) (acts number prior entries) slots ≡ applied_answer (first_sequence (take count entries)) (acts number prior (take count entries)) slots
  forward-answer =
      law
      ∙ ap (λ (o : Option RangeFault). first_fault (o ∷ []) (applied_answer (first_sequence entries) (acts number prior (take (closed_prefix (acts number prior entries)) entries)) slots)) is.cut
      ∙ ap (λ (k : ℕ). applied_answer (first_sequence entries) (acts number prior (take k entries)) slots) (sym is.closed)
      ∙ ap (λ (n : ℕ). applied_answer n (acts number prior (take count entries)) slots) (sym (first-take count entries is.some))

  pub forward-walked : (walk : Walk) → walk.first ≡ first_sequence entries → walk.last ≡ first_sequence entries + count - 1
      → walk.given.items ≡ given_forward (numbered (first_sequence (take count entries)) (acts number prior (take count entries)))
      → applied_answer (first_sequence (take count entries)) (acts number prior (take count entries)) slots ≡ Ok (range_done (first_sequence (take count entries)) (acts number prior (take count entries)) (given_slots walk.given.items slots))
      → AreInPlace 1 walk.given.items slots → IsWalked (apply_range (first_sequence entries) (acts number prior entries) slots) slots steps.given_forward walk
  forward-walked walk begins ends given went places =
      let part = acts number prior (take count entries) in
      let f = first_sequence (take count entries) in
      let same = first-take count entries is.some in
      let long = length-acts number (take count entries) prior in
      let wide = length-take count entries prefix-within in
      record {
        done = range_done f part (given_slots walk.given.items slots);
        answered = forward-answer ∙ went;
        first = same ∙ sym begins;
        last = omega (arith, ends, same, long, wide);
        slots_left = refl;
        given = sym (ap (map as_given) given ∙ forward-as (numbered f part));
        count = sym (ap length given ∙ length-map (numbered f part) given_after);
        places = places;
      }

fault-ok : {A : Type 0} (o p : Option RangeFault) (answer : Result A RangeFault) (a : A) → first_fault (o ∷ p ∷ []) answer ≡ Ok a → answer ≡ Ok a
fault-ok None None answer a h = h
fault-ok None (Some fault) answer a h = absurd cc
fault-ok (Some fault) p answer a h = absurd cc

adds-by : (number f last : ℕ) (prior : Option Entry) (entries : List Entry) (slots : List Slot) (d : RangeDone) (r : Result (List Slot) RangeFault) → apply (numbered f (acts number prior entries)) slots ≡ r
    → done f last (numbered f (acts number prior entries)) r ≡ Ok d → AddRecords (given_forward (numbered f (acts number prior entries))) slots
adds-by number f last prior entries slots d (Ok after) is went = applied-adds number f prior entries slots after is
adds-by number f last prior entries slots d (Err fault) is went = absurd cc

pub forward-adds : (number f : ℕ) (prior : Option Entry) (entries : List Entry) (slots : List Slot) (d : RangeDone) → applied_answer f (acts number prior entries) slots ≡ Ok d
    → AddRecords (given_forward (numbered f (acts number prior entries))) slots
forward-adds number f prior entries slots d went =
    let part = acts number prior entries in
    adds-by number f (f + length part - 1) prior entries slots d (apply (numbered f part) slots) refl
    (fault-ok (first_gap (placed f part)) (first_renumbering (placed f part)) (done f (f + length part - 1) (numbered f part) (apply (numbered f part) slots)) d went)

-- ---- backwards

abbrev pub BackwardLaw : ℕ → Option Entry → List Entry → List Slot → Type 0
BackwardLaw number prior entries slots =
    let first = first_sequence entries in
    let range = acts number prior entries in
    let kept = length entries - closed_suffix range in
    remove_range first range slots ≡ first_fault (straddled (reverse (numbered first range)) (numbered (removed_from first range) (removed_part range)) ∷ [])
    (removed_answer (removed_from first range) (acts number (entry_before prior (take kept entries)) (drop kept entries)) slots)

pub record IsSuffix (number : ℕ) (prior : Option Entry) (entries : List Entry) (left : ℕ) : Type 0 where
  pub cut : straddled (reverse (numbered (first_sequence entries) (acts number prior entries))) (numbered (removed_from (first_sequence entries) (acts number prior entries)) (removed_part (acts number prior entries))) ≡ None
  pub opened : left ≡ length entries - closed_suffix (acts number prior entries)
  pub some : 0 < closed_suffix (acts number prior entries)
  pub numbered : AreNumbered (first_sequence entries) entries

module _ (number : ℕ) (prior : Option Entry) (entries : List Entry) (slots : List Slot) (left : ℕ) (law : BackwardLaw number prior entries slots) (is : IsSuffix number prior entries left) where
  pub suffix-within : closed_suffix (acts number prior entries) ≤ length entries
  suffix-within =
      let within = greatest-within (λ n. is_closed (last n (acts number prior entries))) (length (acts number prior entries)) in
      omega (arith, within, length-acts number entries prior)

  first-left : first_sequence (drop left entries) ≡ removed_from (first_sequence entries) (acts number prior entries)
  first-left =
      let long = length-drop left entries in
      first-numbered (first_sequence entries + left) (drop left entries) (numbered-drop (first_sequence entries) left entries is.numbered) (omega (arith, long, is.opened, is.some, suffix-within))
      ∙ omega (arith, is.opened, suffix-within, length-acts number entries prior)

  pub backward-answer : remove_range (first_sequence entries) (acts number prior entries) slots
      ≡ removed_answer (first_sequence (drop left entries)) (acts number (entry_before prior (take left entries)) (drop left entries)) slots
  backward-answer =
      law
      ∙ ap (λ (o : Option RangeFault). first_fault (o ∷ [])
      (removed_answer (removed_from (first_sequence entries) (acts number prior entries)) (acts number (entry_before prior (take (length entries - closed_suffix (acts number prior entries)) entries)) (drop (length entries
      - closed_suffix (acts number prior entries)) entries)) slots)) is.cut
      ∙ ap (λ (k : ℕ). removed_answer (removed_from (first_sequence entries) (acts number prior entries)) (acts number (entry_before prior (take k entries)) (drop k entries)) slots) (sym is.opened)
      ∙ ap (λ (n : ℕ). removed_answer n (acts number (entry_before prior (take left entries)) (drop left entries)) slots) (sym first-left)

  pub backward-walked : (walk : Walk) → walk.first ≡ removed_from (first_sequence entries) (acts number prior entries) → walk.last ≡ first_sequence entries + length (acts number prior entries) - 1
      → walk.given.items ≡ given_back (numbered (first_sequence (drop left entries)) (acts number (entry_before prior (take left entries)) (drop left entries)))
      → removed_answer (first_sequence (drop left entries)) (acts number (entry_before prior (take left entries)) (drop left entries)) slots
      ≡ Ok (range_done (first_sequence (drop left entries)) (acts number (entry_before prior (take left entries)) (drop left entries)) (given_slots walk.given.items slots))
      → AreInPlace 1 walk.given.items slots → IsWalked (remove_range (first_sequence entries) (acts number prior entries) slots) slots steps.given_back walk
  backward-walked walk begins ends given went places =
      let part = acts number (entry_before prior (take left entries)) (drop left entries) in
      let f = first_sequence (drop left entries) in
      let same = first-left in
      let long = length-acts number (drop left entries) (entry_before prior (take left entries)) in
      let wide = length-drop left entries in
      record {
        done = range_done f part (given_slots walk.given.items slots);
        answered = backward-answer ∙ went;
        first = same ∙ sym begins;
        last = omega (arith, ends, same, long, wide, is.opened, is.some, suffix-within, length-acts number entries prior);
        slots_left = refl;
        given = sym (ap (map as_given) given ∙ back-as (numbered f part));
        count = sym (ap length given ∙ length-map (reverse (numbered f part)) given_before ∙ length-reverse (numbered f part));
        places = places;
      }

-- ---- the closed part, as it is told

-- it is the first so many entries
pub record IsFirstPart (number : ℕ) (prior : Option Entry) (entries : List Entry) (part : Part) (count : ℕ) : Type 0 where
  pub prefix : IsPrefix number prior entries count
  pub lo : part.lo ≡ first_sequence entries
  pub hi : part.hi ≡ first_sequence entries + count - 1
  pub order : part.lo ≤ part.hi
  pub within : count ≤ length entries

pub first-part : (number : ℕ) (prior : Option Entry) (entries : List Entry) (part : Part) (count : ℕ) → count ≡ part.hi - part.lo + 1
    → part ≡ prefix_part (group.first_sequence entries) (acts number prior entries) → 0 < closed_prefix (acts number prior entries)
    → prefix_cut (group.first_sequence entries) (acts number prior entries) ≡ None → IsFirstPart number prior entries part count
first-part number prior entries part count is told some cut =
    let same = same-first entries in
    let lo : part.lo ≡ first_sequence entries = ap (λ (p : Part). p.lo) told ∙ same in
    let hi : part.hi ≡ first_sequence entries + closed_prefix (acts number prior entries) - 1 = ap (λ (p : Part). p.hi) told ∙ ap (λ (n : ℕ). n + closed_prefix (acts number prior entries) - 1) same in
    let closed : count ≡ closed_prefix (acts number prior entries) = omega (arith, is, lo, hi, some) in
    let within = greatest-within (λ n. is_closed (take n (acts number prior entries))) (length (acts number prior entries)) in
    record {
      prefix = record {
        cut = ap (λ (n : ℕ). straddled (numbered n (acts number prior entries)) (numbered n (applied_part (acts number prior entries)))) (sym same) ∙ cut;
        closed = closed;
        some = omega (arith, closed, some);
      };
      lo = lo;
      hi = omega (arith, hi, closed);
      order = omega (arith, lo, hi, some);
      within = omega (arith, closed, within, length-acts number entries prior);
    }

-- it is the entries behind the first so many
pub record IsLastPart (number : ℕ) (prior : Option Entry) (entries : List Entry) (part : Part) (left : ℕ) : Type 0 where
  pub suffix : IsSuffix number prior entries left
  pub lo : part.lo ≡ removed_from (first_sequence entries) (acts number prior entries)
  pub hi : part.hi ≡ first_sequence entries + length (acts number prior entries) - 1
  pub order : part.lo ≤ part.hi
  pub within : part.hi - part.lo + 1 ≤ length entries

pub last-part : (number : ℕ) (prior : Option Entry) (entries : List Entry) (part : Part) (left : ℕ) → left ≡ length entries - (part.hi - part.lo + 1)
    → AreNumbered (first_sequence entries) entries
    → part ≡ suffix_part (group.first_sequence entries) (acts number prior entries) → 0 < closed_suffix (acts number prior entries)
    → suffix_cut (group.first_sequence entries) (acts number prior entries) ≡ None → IsLastPart number prior entries part left
last-part number prior entries part left is numbered_so told some cut =
    let same = same-first entries in
    let range = acts number prior entries in
    let lo : part.lo ≡ removed_from (first_sequence entries) range = ap (λ (p : Part). p.lo) told ∙ ap (λ (n : ℕ). removed_from n range) same in
    let hi : part.hi ≡ first_sequence entries + length range - 1 = ap (λ (p : Part). p.hi) told ∙ ap (λ (n : ℕ). n + length range - 1) same in
    let within = greatest-within (λ n. is_closed (last n range)) (length range) in
    let long = length-acts number entries prior in
    record {
      suffix = record {
        cut = ap (λ (n : ℕ). straddled (reverse (numbered n range)) (numbered (removed_from n range) (removed_part range))) (sym same) ∙ cut;
        opened = omega (arith, is, lo, hi, some, within, long);
        some = some;
        numbered = numbered_so;
      };
      lo = lo;
      hi = hi;
      order = omega (arith, lo, hi, some, within);
      within = omega (arith, lo, hi, some, within, long);
    }
