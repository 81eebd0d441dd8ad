use Rattle.key_state.proofs.keys_of_begun_jobs_stand.Goals as goal

pub returns : goal.returns
returns c = λ names. record { back = λ job count member. tt; once = λ member. tt }
