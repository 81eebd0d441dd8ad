use Rattle.std.proofs.Common.{◌≡◌, Err, is_some}
use Rattle.field_values.specs.declared.fields.ImageFault.TheVariants.{NoMemory}
use Rattle.std.proofs.lemmas.Result.{err_from_is_err_and}
use Rattle.record_fmt.specs.Records.{record_held}
use Rattle.record_fmt.proofs.HeldLemmas.{names-bad, names-none}
use Rattle.record_fmt.proofs.formats.Format.unpack.Goals as goal

pub returns-in_err-values-in-None-clause-bad : goal.returns-in_err-values-in-None-clause-bad
returns-in_err-values-in-None-clause-bad c =
    let p = err_from_is_err_and c.from_residual.result c.from_residual.ensures.1 in
    names-none (λ bytes. is_some (record_held c.args.self.now.fields bytes)) c.args.image.now c.from_residual.result c.in-None.ensures
    (λ other e. (let result : c.from_residual.result ≡ Err p.0 = p.1 in let memory : p.0 ≡ NoMemory = p.2 in cc))

pub returns-in-Some-clause-bad : goal.returns-in-Some-clause-bad
returns-in-Some-clause-bad c = names-bad (λ bytes. is_some (record_held c.args.self.now.fields bytes)) c.args.image.now c.in-Some.at c.in-Some.ensures

pub returns-in_ok-values-in-None-clause-bad : goal.returns-in_ok-values-in-None-clause-bad
returns-in_ok-values-in-None-clause-bad c = names-none (λ bytes. is_some (record_held c.args.self.now.fields bytes)) c.args.image.now _ c.in-None.ensures (λ other e. cc)
