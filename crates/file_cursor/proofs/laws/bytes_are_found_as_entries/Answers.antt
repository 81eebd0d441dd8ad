use Rattle.std.proofs.Common.{◌==◌}
use Rattle.access_path.specs.PathBytes.{in_bytes}
use Rattle.file_cursor.proofs.ListLemmas.{find-map}
use Rattle.std.proofs.lemmas.List.Elements.{All-from_recursion}
use Rattle.file_model.specs.Paths.{path}
use Rattle.file_cursor.specs.PositionBytes.{IsEntryOf}
use Rattle.file_cursor.proofs.EntryLemmas.{path-entries}
use Rattle.file_cursor.proofs.LawLemmas.{next-in-bytes, prior-in-bytes, next-equal-in-bytes, prior-equal-in-bytes, chain-in-bytes}
use Rattle.file_cursor.proofs.laws.bytes_are_found_as_entries.Goals as goal

pub returns-clause-next : goal.returns-clause-next
returns-clause-next c = λ spec members parts position fits given stands. next-in-bytes spec members parts fits given position stands

pub returns-clause-prior : goal.returns-clause-prior
returns-clause-prior c = λ spec members parts position fits given stands. prior-in-bytes spec members parts fits given position stands

pub returns-clause-next_equal : goal.returns-clause-next_equal
returns-clause-next_equal c = λ spec members parts values position fits given are stands. next-equal-in-bytes spec members parts fits given values are position stands

pub returns-clause-prior_equal : goal.returns-clause-prior_equal
returns-clause-prior_equal c = λ spec members parts values position fits given are stands. prior-equal-in-bytes spec members parts fits given values are position stands

pub returns-clause-chain : goal.returns-clause-chain
returns-clause-chain c = λ spec members parts values fits given are. chain-in-bytes spec members parts fits given values are

pub returns-clause-entries : goal.returns-clause-entries
returns-clause-entries c = λ spec members fits. All-from_recursion (IsEntryOf spec.formats) (path spec members) (path-entries spec members fits)

pub returns-clause-chain_number : goal.returns-clause-chain_number
returns-clause-chain_number c = λ spec members n. find-map (in_bytes spec.formats) (λ entry. entry.rrn == n) (path spec members)
