use Rattle.std.proofs.Common.{arith}
use Rattle.entry_codec.proofs.EntryLaws.{found_by, only_by, none_by, damaged_by, memory_by}
use Rattle.entry_codec.proofs.reading.read_entry.Goals as goal

pub returns-in-Ok-clause-found : goal.returns-in-Ok-clause-found
returns-in-Ok-clause-found c = found_by c.args.bytes.now c.in-Ok.read (λ i. omega (arith, c.type_inv.bytes i)) c.in-Ok.ensures

pub returns-in-Ok-clause-only : goal.returns-in-Ok-clause-only
returns-in-Ok-clause-only c = only_by c.args.bytes.now _ c.in-Ok.ensures

pub returns-in-Err-NotSpelled-clause-only : goal.returns-in-Err-NotSpelled-clause-only
returns-in-Err-NotSpelled-clause-only c = only_by c.args.bytes.now _ (rw c.in-Err-NotSpelled.field-0-is at c.in-Err-NotSpelled.ensures)

pub returns-in-Err-NotSpelled-clause-none : goal.returns-in-Err-NotSpelled-clause-none
returns-in-Err-NotSpelled-clause-none c = none_by c.args.bytes.now (rw c.in-Err-NotSpelled.field-0-is at c.in-Err-NotSpelled.ensures)

pub returns-in-Ok-clause-damaged : goal.returns-in-Ok-clause-damaged
returns-in-Ok-clause-damaged c = λ gap. absurd (damaged_by c.args.bytes.now c.in-Ok.read (λ i. omega (arith, c.type_inv.bytes i)) c.in-Ok.ensures gap)

pub returns-in-Err-NoMemory-clause-damaged : goal.returns-in-Err-NoMemory-clause-damaged
returns-in-Err-NoMemory-clause-damaged c = λ gap. absurd (memory_by c.args.bytes.now (λ i. omega (arith, c.type_inv.bytes i)) (rw c.in-Err-NoMemory.field-0-is at c.in-Err-NoMemory.ensures) gap)
