use Rattle.bd_step.proofs.{Words.{HasEndings, List, change, space_after, subst, sym, ℕ}, Ending.{others_end_none}}
use Rattle.bd_step.proofs.tables.Tables.list_endings.Goals as goal

pub returns-in_default-clause-listed : goal.returns-in_default-clause-listed
returns-in_default-clause-listed c = λ h before.
    let s = space_after h in
    subst (λ (ps : List ℕ). HasEndings ps s (change s c.args.seat c.args.step.now).space) (sym c.requires.none)
    (others_end_none s c.args.seat c.args.step.now c.in_default.not-Command c.in_default.not-ExitThread c.in_default.not-ExitProcess)
