use Rattle.bd_step.proofs.Words.{length, ◌%◌, ◌≡◌}
use Rattle.bd_step.proofs.tables.Tables.resolve_walked.Goals as goal

pub returns-in-Ok-clause-computed : goal.returns-in-Ok-clause-computed
returns-in-Ok-clause-computed c =
    let whole : length c.as_slice-2.result.now % 8 ≡ 0 = rw c.as_slice-2.ensures c.requires in
    let none = simp (c.as_slice.ensures, c.as_slice-2.ensures) at (c.in-Ok.ensures.fault whole) in
    rw none c.resolve_all.ensures.computed
