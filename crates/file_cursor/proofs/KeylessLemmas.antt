-- The entries of a path of one format without keys stand by their numbers.
use Rattle.std.proofs.Common.{◌≡◌, ℕ, ◌+◌, ◌≤◌, List, [], ◌∷◌, length, map, ap, sym, subst, ◌∙◌, arith}
use Rattle.std.specs.Prelude.{All}
use Rattle.std.specs.List.{AllByRecursion}
use Rattle.std.proofs.lemmas.List.Elements.{All-from_recursion}
use Rattle.key_spec.specs.declared.Ties.TheVariants.{Rising}
use Rattle.key_spec.specs.declared.KeyPart.{KeyPart}
use Rattle.key_pages.specs.declared.entries.Entry.{Entry}
use Rattle.key_pages.specs.EntryList.{EntryList}
use Rattle.member_slots.specs.declared.slot.Slot.{Slot}
use Rattle.member_slots.specs.declared.slot.Slot.TheVariants.{Live, Deleted}
use Rattle.member_slots.specs.declared.member.TheConstants.{MOST_SLOTS}
use Rattle.member_slots.specs.Member.{IsMember, records_from}
use Rattle.member_slots.specs.Members.{NumberedMembers, member_of}
use Rattle.file_model.specs.declared.paths.PathFormat.{PathFormat}
use Rattle.file_model.specs.declared.paths.PathSpec.{PathSpec}
use Rattle.file_model.specs.Selection.{selects}
use Rattle.file_model.specs.Paths.{PathEntry, compare_entries, entry_of, selected_of, entries_of, entries_from, path, path_key}
use Rattle.file_model.proofs.PathLemmas.{weaker, all-filter, all-map, all-append}
use Rattle.access_path.specs.KeyBytes.{key_bytes}
use Rattle.access_path.specs.PathBytes.{is_falling, in_bytes}
use Rattle.access_path.proofs.OrderedLemmas.{all-in_order}
use Rattle.file_cursor.specs.Reading.{numbered, AreNumbered}

few-records : (r : ℕ) (slots : List Slot) → r + length slots ≤ MOST_SLOTS + 1 → AllByRecursion (λ pair. pair.0 ≤ MOST_SLOTS) (records_from r slots)
few-records r [] low = tt
few-records r (Deleted ∷ slots) low = few-records (r + 1) slots (omega arith)
few-records r (Live image ∷ slots) low = (omega arith, few-records (r + 1) slots (omega arith))

-- its bytes are those of its number, which is one of a member
record StandsByNumber (formats : List PathFormat) (e : PathEntry) : Type 0 where
  bytes : in_bytes formats e ≡ numbered e.rrn
  few : e.rrn ≤ MOST_SLOTS

of-format : (format : PathFormat) (members : NumberedMembers) → format.key ≡ [] → IsMember (member_of format.member members)
    → AllByRecursion (StandsByNumber (format ∷ [])) (entries_of 0 format members)
of-format format members keyless is =
    let slots = (member_of format.member members).slots in
    let few = is.slots in
    all-map (StandsByNumber (format ∷ [])) (entry_of 0 format) (selected_of format slots)
    (weaker (λ pair. pair.0 ≤ MOST_SLOTS) (λ pair. StandsByNumber (format ∷ []) (entry_of 0 format pair))
    (λ pair low. record {
      bytes = ap (λ (parts : List KeyPart). numbered-with (key_bytes parts (path_key format pair.1)) pair.0) keyless;
      few = low;
    })
    (selected_of format slots)
    (all-filter (λ pair. pair.0 ≤ MOST_SLOTS) (λ pair. selects format.rules pair.1) (records_from 1 slots) (few-records 1 slots (omega (arith, few)))))
  where
    numbered-with : List ℕ → ℕ → Entry
    numbered-with key rrn = record { key = key; format = 0; rrn = rrn }

pub keyless : (spec : PathSpec) (format : PathFormat) (members : NumberedMembers) (list : EntryList) → spec.formats ≡ format ∷ [] → format.key ≡ [] → spec.ties ≡ Rising
    → IsMember (member_of format.member members) → list.entries ≡ map (in_bytes spec.formats) (path spec members) → list.falling ≡ is_falling spec.ties → AreNumbered list
keyless spec format members list one none rising is entries falls =
    let each : AllByRecursion (StandsByNumber spec.formats) (path spec members) =
    all-in_order (compare_entries spec.ties) (StandsByNumber spec.formats) (entries_from 0 spec.formats members)
    (subst (λ (fs : List PathFormat). AllByRecursion (StandsByNumber fs) (entries_from 0 fs members)) (sym one)
    (all-append (StandsByNumber (format ∷ [])) (entries_of 0 format members) [] (of-format format members none is) tt)) in
    record {
      rising = falls ∙ ap is_falling rising;
      entries = subst (All (λ entry. entry ≡ numbered entry.rrn)) (sym entries)
          (All-from_recursion (λ entry. entry ≡ numbered entry.rrn) (map (in_bytes spec.formats) (path spec members))
          (all-map (λ entry. entry ≡ numbered entry.rrn) (in_bytes spec.formats) (path spec members)
          (weaker (StandsByNumber spec.formats) (λ e. in_bytes spec.formats e ≡ numbered e.rrn) (λ e by. by.bytes) (path spec members) each)));
      few = subst (All (λ entry. entry.rrn ≤ MOST_SLOTS)) (sym entries)
          (All-from_recursion (λ entry. entry.rrn ≤ MOST_SLOTS) (map (in_bytes spec.formats) (path spec members))
          (all-map (λ entry. entry.rrn ≤ MOST_SLOTS) (in_bytes spec.formats) (path spec members)
          (weaker (StandsByNumber spec.formats) (λ e. e.rrn ≤ MOST_SLOTS) (λ e by. by.few) (path spec members) each)));
    }
