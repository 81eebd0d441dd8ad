use Rattle.job_table.proofs.UserLemmas.{changer-more, changer-none, user-view}
use Rattle.job_table.proofs.laws.view_users_are_joined.Goals as goal

pub returns-clause-none : goal.returns-clause-none
returns-clause-none c = λ m. changer-none 1 m.jobs

pub returns-clause-changer : goal.returns-clause-changer
returns-clause-changer c = λ member members m. changer-more member members m.jobs

pub returns-clause-user : goal.returns-clause-user
returns-clause-user c = λ file members m. user-view file members m.jobs
