-- The request that a statement makes with the variables' values. `None`: a variable is of the wrong kind, and the job ends.
use Rattle.std.specs.Prelude.{ℕ, ◌-◌, ◌^◌, nat_le, if◌then◌else◌, Option, Some, None, List, [], ◌∷◌, slice_get, option_map}
use Rattle.std.specs.Option.{option_and_then}
use Rattle.field_types.specs.declared.values.Value.{Value}
use Rattle.library_model.specs.declared.requests.Request.{Request}
use Rattle.library_model.specs.declared.requests.Request.TheVariants as request
use Rattle.library_model.specs.declared.requests.RangeEnd.{RangeEnd}
use Rattle.library_model.specs.declared.requests.RangeEnd.TheVariants as range_end
use Rattle.library_model.specs.declared.requests.DisplayJournal.{DisplayJournal}
use Rattle.library_model.specs.declared.requests.JournaledChanges.{JournaledChanges}
use Rattle.library_model.specs.declared.requests.Limit.{Limit}
use Rattle.library_model.specs.declared.requests.Limit.TheVariants as limit
use Rattle.library_model.specs.declared.requests.SetPosition.{SetPosition}
use Rattle.library_model.specs.declared.requests.ReadEqual.{ReadEqual}
use Rattle.library_model.specs.declared.requests.ChainTo.{ChainTo}
use Rattle.library_model.specs.declared.requests.ChainTo.TheVariants as chain_to
use Rattle.library_model.specs.declared.requests.ChainRecord.{ChainRecord}
use Rattle.library_model.specs.declared.requests.WriteRecord.{WriteRecord}
use Rattle.library_model.specs.declared.requests.UpdateRecord.{UpdateRecord}
use Rattle.script_numbers.specs.Arithmetic.{whole_of}
use Rattle.job_language.specs.Values.{both, value_of, as_number}
use Rattle.job_language.specs.declared.operands.Operand.{Operand}
use Rattle.job_language.specs.declared.operands.NumberOperand.{NumberOperand}
use Rattle.job_language.specs.declared.operands.NumberOperand.TheVariants as number
use Rattle.job_language.specs.declared.operands.SequenceOperand.{SequenceOperand}
use Rattle.job_language.specs.declared.operands.SequenceOperand.TheVariants as sequence
use Rattle.job_language.specs.declared.forms.EndForm.{EndForm}
use Rattle.job_language.specs.declared.forms.EndForm.TheVariants.{First, Last, Sequence}
use Rattle.job_language.specs.declared.forms.ChangesForm.{ChangesForm}
use Rattle.job_language.specs.declared.forms.LimitForm.{LimitForm}
use Rattle.job_language.specs.declared.forms.LimitForm.TheVariants.{Key, LowValue, HighValue, RecordNumber}
use Rattle.job_language.specs.declared.forms.PositionForm.{PositionForm}
use Rattle.job_language.specs.declared.forms.ReadEqualForm.{ReadEqualForm}
use Rattle.job_language.specs.declared.forms.ChainToForm.{ChainToForm}
use Rattle.job_language.specs.declared.forms.ChainToForm.TheVariants as chain
use Rattle.job_language.specs.declared.forms.ChainForm.{ChainForm}
use Rattle.job_language.specs.declared.forms.WriteForm.{WriteForm}
use Rattle.job_language.specs.declared.forms.UpdateForm.{UpdateForm}
use Rattle.job_language.specs.declared.forms.RequestForm.{RequestForm}
use Rattle.job_language.specs.declared.forms.RequestForm.TheVariants.{Fixed, DeleteReceiver, DisplayJournal as DisplayForm, ApplyChanges, RemoveChanges, SetLowerLimit, SetGreaterThan, ReadEqual as ReadKey, ReadPriorEqual, Chain, Write, Update}

-- the whole number from 0 up to the most that a variable has; a text and any other number are of the wrong kind
abbrev pub whole_value : ℕ → Option Value → Option ℕ
whole_value most value = option_and_then (λ whole. if nat_le whole most then Some whole else None) (option_and_then whole_of (option_and_then as_number value))

-- RRN and RCV
abbrev pub record_number : List Value → NumberOperand → Option ℕ
record_number values (number.Literal literal) = Some literal
record_number values (number.Variable variable) = whole_value (2 ^ 32 - 1) (slice_get values variable)

-- FROMENT and TOENT
abbrev pub sequence_of : List Value → SequenceOperand → Option ℕ
sequence_of values (sequence.Literal literal) = Some literal
sequence_of values (sequence.Variable variable) = whole_value (2 ^ 64 - 1) (slice_get values variable)

-- KEY
abbrev pub key_of : List Value → List Operand → Option (List Value)
key_of values [] = Some []
key_of values (operand ∷ operands) = both (λ value more. Some (value ∷ more)) (value_of values operand) (key_of values operands)

-- VAL
abbrev pub given_of_operand : List Value → Option Operand → Option (Option Value)
given_of_operand values None = Some None
given_of_operand values (Some operand) = option_map Some (value_of values operand)

abbrev pub given_of : List Value → List (Option Operand) → Option (List (Option Value))
given_of values [] = Some []
given_of values (operand ∷ operands) = both (λ value more. Some (value ∷ more)) (given_of_operand values operand) (given_of values operands)

abbrev pub end_of : List Value → EndForm → Option RangeEnd
end_of values First = Some range_end.First
end_of values Last = Some range_end.Last
end_of values (Sequence operand) = option_map range_end.Sequence (sequence_of values operand)

abbrev pub changes_of : List Value → ChangesForm → Option JournaledChanges
changes_of values form =
    both (λ from to. Some (record { file = form.file; member = form.member; from = from; to = to })) (end_of values form.from) (end_of values form.to)

abbrev pub limit_of : List Value → LimitForm → Option Limit
limit_of values (Key operands) = option_map limit.Key (key_of values operands)
limit_of values LowValue = Some limit.LowValue
limit_of values HighValue = Some limit.HighValue
limit_of values (RecordNumber operand) = option_map limit.RecordNumber (record_number values operand)

abbrev pub position_of : List Value → PositionForm → Option SetPosition
position_of values form = option_map (λ to. record { open_id = form.open_id; to = to }) (limit_of values form.to)

abbrev pub read_equal_of : List Value → ReadEqualForm → Option ReadEqual
read_equal_of values form = option_map (λ key. record { open_id = form.open_id; key = key; lock = form.lock }) (key_of values form.key)

abbrev pub chain_to_of : List Value → ChainToForm → Option ChainTo
chain_to_of values (chain.Key operands) = option_map chain_to.Key (key_of values operands)
chain_to_of values (chain.RecordNumber operand) = option_map chain_to.RecordNumber (record_number values operand)

abbrev pub chain_of : List Value → ChainForm → Option ChainRecord
chain_of values form = option_map (λ to. record { open_id = form.open_id; to = to; lock = form.lock }) (chain_to_of values form.to)

-- RRN of WRITE; *END where it isn't given
abbrev pub place_of : List Value → Option NumberOperand → Option (Option ℕ)
place_of values None = Some None
place_of values (Some operand) = option_map Some (record_number values operand)

abbrev pub write_of : List Value → WriteForm → Option WriteRecord
write_of values form =
    both (λ rrn given. Some (record { open_id = form.open_id; format = form.format; record_number = rrn; values = given })) (place_of values form.record_number) (given_of values form.values)

abbrev pub update_of : List Value → UpdateForm → Option UpdateRecord
update_of values form = option_map (λ given. record { open_id = form.open_id; values = given }) (given_of values form.values)

abbrev pub display_of : Option ℕ → Option ℕ → Option DisplayJournal
display_of from to = both (λ first last. Some (record { from = first; to = last })) from to

abbrev pub request_of : List Value → RequestForm → Option Request
request_of values (Fixed asked) = Some asked
request_of values (DeleteReceiver operand) = option_map (λ number. request.DeleteReceiver (record { number = number })) (record_number values operand)
request_of values (DisplayForm from to) = option_map request.DisplayJournal (display_of (sequence_of values from) (sequence_of values to))
request_of values (ApplyChanges form) = option_map request.ApplyChanges (changes_of values form)
request_of values (RemoveChanges form) = option_map request.RemoveChanges (changes_of values form)
request_of values (SetLowerLimit form) = option_map request.SetLowerLimit (position_of values form)
request_of values (SetGreaterThan form) = option_map request.SetGreaterThan (position_of values form)
request_of values (ReadKey form) = option_map request.ReadEqual (read_equal_of values form)
request_of values (ReadPriorEqual form) = option_map request.ReadPriorEqual (read_equal_of values form)
request_of values (Chain form) = option_map request.Chain (chain_of values form)
request_of values (Write form) = option_map request.Write (write_of values form)
request_of values (Update form) = option_map request.Update (update_of values form)
