-- The range that is named, where none of its refusals holds.
use Rattle.std.proofs.Common.{◌≡◌, ℕ, Bool, true, false, not, List, Option, Some, None, is_some, Ok, refl, sym, ◌∙◌}
use Rattle.std.specs.Option.{is_none}
use Rattle.entry_codec.specs.declared.entries.Entry.{Entry}
use Rattle.library_model.specs.declared.requests.JournaledChanges.{JournaledChanges}
use Rattle.library_model.specs.declared.requests.RangeEnd.{RangeEnd}
use Rattle.library_model.specs.declared.replies.Reply.TheVariants as replies
use Rattle.library_steps.specs.JournalReads.{are_kept, are_there}
use Rattle.library_steps.specs.Refusals.{◌>>=◌, FoundMember, member_of_file, refuse_if, sequences_left}
use Rattle.library_steps.specs.Ranges.{end_named, range_between, range_named}
use Rattle.library_steps.specs.State.{State, memory_of}
use Rattle.library_steps.specs.Uses.{unused, user_of}

pub named-goes : (s : State) (read : List Entry) (args : JournaledChanges) (first last : RangeEnd) (it : FoundMember) (a b : ℕ) → sequences_left (memory_of s) ≡ Ok true
    → member_of_file args.file args.member (memory_of s) ≡ Ok it
    → unused (user_of it.status.number (memory_of s)) ≡ Ok true → is_none it.status.images ≡ false → a ≡ end_named first it.status.number read (memory_of s)
    → b ≡ end_named last it.status.number read (memory_of s)
    → are_there a b (memory_of s) ≡ Ok true → are_kept a (memory_of s) ≡ Ok true → range_named args first last read (memory_of s) ≡ Ok (range_between it.status a b read (memory_of s))
named-goes s read args first last it a b left found free journaled is_a is_b there kept =
    let m = memory_of s in
    let from = end_named first it.status.number read m in
    let to = end_named last it.status.number read m in
    (λ i. left i >>= λ t. member_of_file args.file args.member m >>= λ it. unused (user_of it.status.number m) >>= λ t. refuse_if (is_none it.status.images) (replies.NotJournaled it.status.number) >>= λ t.
    are_there (end_named first it.status.number read m) (end_named last it.status.number read m) m >>= λ t. are_kept (end_named first it.status.number read m) m >>= λ t.
    Ok (range_between it.status (end_named first it.status.number read m) (end_named last it.status.number read m) read m))
    ∙ (λ i. found i >>= λ it. unused (user_of it.status.number m) >>= λ t. refuse_if (is_none it.status.images) (replies.NotJournaled it.status.number) >>= λ t.
    are_there (end_named first it.status.number read m) (end_named last it.status.number read m) m >>= λ t. are_kept (end_named first it.status.number read m) m >>= λ t.
    Ok (range_between it.status (end_named first it.status.number read m) (end_named last it.status.number read m) read m))
    ∙ (λ i. free i >>= λ t. refuse_if (is_none it.status.images) (replies.NotJournaled it.status.number) >>= λ t. are_there from to m >>= λ t. are_kept from m >>= λ t. Ok (range_between it.status from to read m))
    ∙ (λ i. refuse_if (journaled i) (replies.NotJournaled it.status.number) >>= λ t. are_there from to m >>= λ t. are_kept from m >>= λ t. Ok (range_between it.status from to read m))
    ∙ (λ i. are_there (sym is_a i) (sym is_b i) m >>= λ t. are_kept (sym is_a i) m >>= λ t. Ok (range_between it.status (sym is_a i) (sym is_b i) read m))
    ∙ (λ i. there i >>= λ t. are_kept a m >>= λ t. Ok (range_between it.status a b read m))
    ∙ (λ i. kept i >>= λ t. Ok (range_between it.status a b read m))

pub is-journaled : {A : Type 0} (o : Option A) (b : Bool) → is_some o ≡ not b → b ≡ false → is_none o ≡ false
is-journaled (Some x) b some is = refl
is-journaled None true some is = absurd cc
is-journaled None false some is = absurd cc
