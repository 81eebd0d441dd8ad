use Rattle.std.proofs.Common.{rules, ◌≡◌}
use Rattle.std.specs.Prelude.{is_none}
use Rattle.std.specs.Option.{is_some}
use Rattle.record_fmt.specs.Records.{record_held}
use Rattle.restarted_library.proofs.FitLemmas.{none-bad}
use Rattle.restarted_library.proofs.filling.is_image.Goals as goal

pub returns-then-image-length : goal.returns-then-image-length
returns-then-image-length c =
    let told : c.is_none.result ≡ is_none c.first_bad.result = search rules in
    none-bad (λ bytes. is_some (record_held c.args.format.now.fields bytes)) c.args.image.now c.first_bad.result c.is_none.result told c.first_bad.ensures
