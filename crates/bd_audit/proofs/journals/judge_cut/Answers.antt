use Rattle.bd_audit.proofs.Shown.{no_cut_heading, no_cut_memory}
use Rattle.bd_audit.proofs.journals.judge_cut.Goals as goal

pub returns-in-Err-clause-fault : goal.returns-in-Err-clause-fault
returns-in-Err-clause-fault g c = no_cut_heading c.args.bytes.now c.in-Err.error c.in-Err.ensures.error c.in-Err.ensures.only_cut

pub returns-in-Err-judge_for-clause-fault : goal.returns-in-Err-judge_for-clause-fault
returns-in-Err-judge_for-clause-fault g c = no_cut_memory c.args.bytes.now c.in-Ok.reader c.in-Err-judge_for.error c.in-Ok.ensures.cut c.in-Err-judge_for.ensures.error
