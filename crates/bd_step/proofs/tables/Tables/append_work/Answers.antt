use Rattle.bd_step.proofs.Words.{on_ok_weaker, returns_of}
use Rattle.bd_step.proofs.tables.Tables.append_work.Goals as goal

pub returns-in-Cleared : goal.returns-in-Cleared
unfolding returns_of
returns-in-Cleared c = on_ok_weaker c.append_one-in-Cleared.result (λ h. λ s b. rw c.in-Cleared.is h) c.append_one-in-Cleared.ensures
