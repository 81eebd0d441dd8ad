use Rattle.std.proofs.Common.{◌≡◌, Bool, true, IfOk, subst}
use Rattle.std.proofs.lemmas.Result.{IfOk-weaker}
use Rattle.entry_codec.specs.declared.kinds.FileKind.TheVariants.{Physical}
use Rattle.replay_files.specs.Files.{FileBody}
use Rattle.described_journals.specs.Kept.{IsAlone}
use Rattle.described_journals.proofs.settled.stays.Goals as goal

pub returns-in-Physical : goal.returns-in-Physical
returns-in-Physical c =
    subst (λ (f : FileBody). IfOk c.is_alone.result (λ (b : Bool). b ≡ true → (f.kind ≡ Physical) × IsAlone f.source)) c.file.view_is
    (IfOk-weaker c.is_alone.result (λ (b : Bool). b ≡ true → IsAlone c.file.inside.source)
    (λ (b : Bool). b ≡ true → (c.file.inside.kind ≡ Physical) × IsAlone c.file.inside.source) (λ b alone yes. (c.in-Physical.is, alone yes)) c.is_alone.ensures)
