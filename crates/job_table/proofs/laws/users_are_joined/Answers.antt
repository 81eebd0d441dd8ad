use Rattle.lawful_states.specs.Uses.{uses}
use Rattle.job_table.proofs.UserLemmas.{first_job-members, first_user-joined}
use Rattle.job_table.proofs.laws.users_are_joined.Goals as goal

pub returns-clause-user : goal.returns-clause-user
returns-clause-user c = λ member m all. first_user-joined member m.locks m.jobs all

pub returns-clause-any : goal.returns-clause-any
returns-clause-any c = λ members m. first_job-members (λ member. uses member m.locks) members m.jobs
