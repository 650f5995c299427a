use Rattle.bd_audit.proofs.Shown.{judges, no_entries, no_heading, no_memory}
use Rattle.bd_audit.proofs.journals.judge_journal.Goals as goal

pub returns-in-Err-clause-fault : goal.returns-in-Err-clause-fault
returns-in-Err-clause-fault g c = no_heading c.args.bytes.now c.in-Err.error c.in-Err.ensures.error c.in-Err.ensures.only

pub returns-in-Err-judge_for-clause-fault : goal.returns-in-Err-judge_for-clause-fault
returns-in-Err-judge_for-clause-fault g c = no_memory c.args.bytes.now c.in-Ok.reader c.in-Err-judge_for.error c.in-Ok.ensures.cut c.in-Err-judge_for.ensures.error

pub returns-in-Ok-show_all-clause-judgment : goal.returns-in-Ok-show_all-clause-judgment
returns-in-Ok-show_all-clause-judgment g c =
    judges c.args.bytes.now c.in-Ok.reader c.in-Ok-judge_for.judge c.show_all.new.judge _ c.in-Ok-judge_for.ensures.judge c.in-Ok-show_all.ensures.seen c.in-Ok.ensures.found
    c.left-entries.ensures.counted c.stopped.ensures

pub returns-clause-fault : goal.returns-clause-fault
returns-clause-fault g c = no_entries c.args.bytes.now c.in-Ok.reader c.in-Err-show_all.error c.in-Ok.ensures.cut c.in-Ok.ensures.only c.in-Err-show_all.ensures.error
