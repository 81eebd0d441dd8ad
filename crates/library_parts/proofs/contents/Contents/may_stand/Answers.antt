use Rattle.std.proofs.Common.{Bool, List, true, false, sym, subst}
use Rattle.key_spec.specs.declared.KeyPart.{KeyPart}
use Rattle.library_steps.specs.Readings.{has_numbers}
use Rattle.file_model.specs.KeyOrder.{merged_parts}
use Rattle.library_steps.specs.LogicalFiles.{bases_in}
use Rattle.library_steps.specs.Records.{is_keyed}
use Rattle.library_steps.specs.Refusals.{OpenedFile}
use Rattle.parts_model.specs.Indexed.{path_read}
use Rattle.parts_model.specs.Reads.{MayHaveKey, ReadsSo, TakesNumbers}
use Rattle.parts_model.proofs.PlaceLemmas.{stands-high, stands-key, stands-low, stands-number}
use Rattle.parts_model.proofs.ReadLemmas.{formats-by, order-keyed}
use Rattle.library_parts.proofs.contents.Contents.may_stand.Goals as goal

pub returns-in-Key : goal.returns-in-Key
returns-in-Key c =
    let opened = c.args.opened.now in
    let file = c.args.file.now in
    let paths = c.args.self.now.room.paths.paths in
    let its : OpenedFile = record { opened = opened.state; file = file } in
    let bases = bases_in c.args.self.now.state.files in
    let keyed = order-keyed bases paths file opened.state opened.order c.requires.so c.requires.by in
    let formats = formats-by paths (path_read bases file opened.state) opened.order c.requires.by in
    let may = rw c.as_slice.ensures at c.may_have_key.ensures in
    rw c.in-Key.is
    (stands-key bases its c.in-Key.values c.may_have_key.result c.requires.so
    (subst (λ (fs : List (List KeyPart)). MayHaveKey (is_keyed file opened.state) (merged_parts fs) c.in-Key.values c.may_have_key.result) (sym formats)
    (subst (λ (b : Bool). MayHaveKey b (merged_parts opened.order.formats) c.in-Key.values c.may_have_key.result) keyed may)))

pub returns-in-LowValue : goal.returns-in-LowValue
returns-in-LowValue c =
    let opened = c.args.opened.now in
    let file = c.args.file.now in
    let paths = c.args.self.now.room.paths.paths in
    let its : OpenedFile = record { opened = opened.state; file = file } in
    let bases = bases_in c.args.self.now.state.files in
    let keyed = order-keyed bases paths file opened.state opened.order c.requires.so c.requires.by in
    rw c.in-LowValue.is (stands-low its c.reads_so.result (subst (λ (b : Bool). ReadsSo b true c.reads_so.result) keyed c.reads_so.ensures))

pub returns-in-HighValue : goal.returns-in-HighValue
returns-in-HighValue c =
    let opened = c.args.opened.now in
    let file = c.args.file.now in
    let paths = c.args.self.now.room.paths.paths in
    let its : OpenedFile = record { opened = opened.state; file = file } in
    let bases = bases_in c.args.self.now.state.files in
    let keyed = order-keyed bases paths file opened.state opened.order c.requires.so c.requires.by in
    rw c.in-HighValue.is (stands-high its c.reads_so-in-HighValue.result (subst (λ (b : Bool). ReadsSo b true c.reads_so-in-HighValue.result) keyed c.reads_so-in-HighValue.ensures))

pub returns-in-RecordNumber : goal.returns-in-RecordNumber
returns-in-RecordNumber c =
    let opened = c.args.opened.now in
    let file = c.args.file.now in
    let paths = c.args.self.now.room.paths.paths in
    let its : OpenedFile = record { opened = opened.state; file = file } in
    let bases = bases_in c.args.self.now.state.files in
    let keyed = order-keyed bases paths file opened.state opened.order c.requires.so c.requires.by in
    rw c.in-RecordNumber.is
    (stands-number its _ c.takes_numbers.result (subst (λ (b : Bool). TakesNumbers b (has_numbers file.spec) c.takes_numbers.result) keyed c.takes_numbers.ensures))
