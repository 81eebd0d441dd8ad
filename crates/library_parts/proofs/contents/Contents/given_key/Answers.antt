use Rattle.std.proofs.Common.{Bool, List, sym, subst}
use Rattle.key_spec.specs.declared.KeyPart.{KeyPart}
use Rattle.file_model.specs.KeyOrder.{merged_parts}
use Rattle.library_steps.specs.LogicalFiles.{bases_in}
use Rattle.library_steps.specs.Records.{is_keyed}
use Rattle.parts_model.specs.Indexed.{path_read}
use Rattle.parts_model.specs.Reads.{HasKeyOf}
use Rattle.parts_model.proofs.PlaceLemmas.{gives-key}
use Rattle.parts_model.proofs.ReadLemmas.{formats-by, order-keyed}
use Rattle.library_parts.proofs.contents.Contents.given_key.Goals as goal

pub returns : goal.returns
returns c =
    let opened = c.args.opened.now in
    let file = c.args.file.now in
    let paths = c.args.self.now.room.paths.paths in
    let bases = bases_in c.args.self.now.state.files in
    let keyed = order-keyed bases paths file opened.state opened.order c.requires.so c.requires.by in
    let formats = formats-by paths (path_read bases file opened.state) opened.order c.requires.by in
    gives-key bases file opened.state c.args.values.now c.key_of_values.result c.requires.so
    (subst (λ (fs : List (List KeyPart)). HasKeyOf (is_keyed file opened.state) (merged_parts fs) c.args.values.now c.key_of_values.result) (sym formats)
    (subst (λ (b : Bool). HasKeyOf b (merged_parts opened.order.formats) c.args.values.now c.key_of_values.result) keyed c.key_of_values.ensures))
