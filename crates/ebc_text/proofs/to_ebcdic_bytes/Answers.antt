use Rattle.std.proofs.Common.{◌≡◌, map, slice_index, None, rules}
use Rattle.ebc_text.specs.declared.tables.TheConstants.{CODE}
use Rattle.ebc_text.specs.CodePage.{first_outside}
use Rattle.ebc_text.proofs.TableLemmas.{IsEncoded-places}
use Rattle.ebc_text.proofs.to_ebcdic_bytes.Goals as goal

pub returns-in_ok-codes-in-None-clause-encoded : goal.returns-in_ok-codes-in-None-clause-encoded
returns-in_ok-codes-in-None-clause-encoded c =
    let none : first_outside c.args.text.now ≡ None = search rules in
    let items : c.in_ok-codes-in-None.field-0.items ≡ map (λ n. slice_index CODE n) c.args.text.now = search rules in
    IsEncoded-places c.args.text.now c.in_ok-codes-in-None.field-0.items c.type_inv.text none items
