-- What a test allows or refuses, where another comes behind it.
use Rattle.std.proofs.Common.{◌≡◌, Bool, true, Result, Ok, Err, sym, ap, subst}
use Rattle.library_model.specs.declared.replies.Reply.{Reply}
use Rattle.library_steps.specs.Refusals.{◌>>=◌}
use Rattle.parts_model.specs.declared.stop.Stop.{Stop}
use Rattle.parts_model.specs.declared.stop.Stop.TheVariants.{NoMemory, Refused}
use Rattle.parts_model.specs.Answers.{MayAllow}

-- it stops
pub may-stop : (stop : Stop) (first : Result Bool Reply) (rest : Bool → Result Bool Reply) → MayAllow (Err stop) first → MayAllow (Err stop) (first >>= rest)
may-stop NoMemory first rest told = tt
may-stop (Refused reply) first rest told = ap (λ (r : Result Bool Reply). r >>= rest) told

-- it goes on
pub may-go : (result : Result (Unit {0}) Stop) (first : Result Bool Reply) (rest : Bool → Result Bool Reply) → first ≡ Ok true → MayAllow result (rest true) → MayAllow result (first >>= rest)
may-go result first rest is told = subst (λ (r : Result Bool Reply). MayAllow result (r >>= rest)) (sym is) told

-- it is all there is
pub may-end : (result : Result (Unit {0}) Stop) (first : Result Bool Reply) → MayAllow result first → MayAllow result (first >>= (λ _. Ok true))
may-end (Ok nothing) first told = ap (λ (r : Result Bool Reply). r >>= (λ _. Ok true)) told
may-end (Err NoMemory) first told = tt
may-end (Err (Refused reply)) first told = ap (λ (r : Result Bool Reply). r >>= (λ _. Ok true)) told
