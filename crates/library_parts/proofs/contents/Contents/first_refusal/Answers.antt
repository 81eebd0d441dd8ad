use Rattle.std.proofs.Common.{Bool, Result}
use Rattle.library_model.specs.declared.replies.Reply.{Reply}
use Rattle.library_steps.specs.State.{memory_of}
use Rattle.parts_model.specs.NewKeys.{keys_tested}
use Rattle.parts_model.specs.declared.keys.Test.TheVariants.{Reserved, Repeated}
use Rattle.parts_model.proofs.AllowLemmas.{may-go, may-stop}
use Rattle.library_parts.proofs.contents.Contents.first_refusal.Goals as goal

pub returns-in-Ok : goal.returns-in-Ok
returns-in-Ok c =
    let new = c.args.new in
    let m = memory_of c.args.self.now.state in
    let rest : Bool → Result Bool Reply = λ b. keys_tested Repeated new.job new.commit new.member new.rrn new.image.now m in
    may-go c.all_free-in-Ok.result (keys_tested Reserved new.job new.commit new.member new.rrn new.image.now m) rest (rw c.in-Ok.is at c.all_free.ensures) c.all_free-in-Ok.ensures

pub returns-in-Err : goal.returns-in-Err
returns-in-Err c =
    let new = c.args.new in
    let m = memory_of c.args.self.now.state in
    let rest : Bool → Result Bool Reply = λ b. keys_tested Repeated new.job new.commit new.member new.rrn new.image.now m in
    may-stop c.in-Err.stop (keys_tested Reserved new.job new.commit new.member new.rrn new.image.now m) rest (rw c.in-Err.is at c.all_free.ensures)
