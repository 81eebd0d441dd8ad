-- What the definition makes of a WRITE through an open, once it may be written.
use Rattle.std.proofs.Common.{◌≡◌, ℕ, Bool, true, None, Result, Ok, ◌∙◌, ap}
use Rattle.logical_model.specs.Formats.{given_in}
use Rattle.library_model.specs.declared.requests.WriteRecord.{WriteRecord}
use Rattle.library_model.specs.declared.replies.Reply.{Reply}
use Rattle.library_model.specs.declared.replies.Reply.TheVariants.{WrongOpen}
use Rattle.library_steps.specs.State.{Memory, FileState, OpenState}
use Rattle.library_steps.specs.LogicalFiles.{bases_of}
use Rattle.library_steps.specs.Refusals.{◌>>=◌, refuse_if, sequences_left, OpenedFile, opened_file}
use Rattle.library_steps.specs.WriteRecord.{format_asked, is_input, packed, place_plan, write_plan}
use Rattle.library_steps.specs.SlotChange.{NewSlot}
use Rattle.library_steps.specs.Reads.{at_format}
use Rattle.record_changes.specs.Plans.{opened_with, given_plan}

pub write-given : (m : Memory) (job : ℕ) (opened : OpenState) (file : FileState) (args : WriteRecord) (number : ℕ) → sequences_left m ≡ Ok true
    → opened_file args.open_id job m ≡ Ok (opened_with opened file) → format_asked args.format file.spec ≡ Ok number → refuse_if (is_input opened.option) WrongOpen ≡ Ok true
    → write_plan m job args ≡ given_plan m job (opened_with (at_format number opened) file) args
unfolding write_plan
write-given m job opened file args number left there asked may =
    ap (λ (r : Result Bool Reply). r >>= λ _. (opened_file args.open_id job m >>= λ its. after its)) left
    ∙ ap (λ (r : Result OpenedFile Reply). r >>= λ its. after its) there
    ∙ ap (λ (r : Result ℕ Reply). r >>= λ n. writes n) asked
    ∙ ap (λ (r : Result Bool Reply). r >>= λ _. placed number (at_format number opened)) may
  where
    placed : ℕ → OpenState → Result NewSlot Reply
    placed n o = packed (given_in (bases_of m) file.spec n args.values None) >>= λ image. place_plan m job o args.record_number image

    writes : ℕ → Result NewSlot Reply
    writes n = refuse_if (is_input opened.option) WrongOpen >>= λ _. (packed (given_in (bases_of m) file.spec n args.values None)
        >>= λ image. place_plan m job (at_format n opened) args.record_number image)

    after : OpenedFile → Result NewSlot Reply
    after its = format_asked args.format its.file.spec >>= λ n. (refuse_if (is_input its.opened.option) WrongOpen >>= λ _. (packed (given_in (bases_of m) its.file.spec n args.values None)
        >>= λ image. place_plan m job (at_format n its.opened) args.record_number image))
