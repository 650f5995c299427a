use Rattle.bd_step.proofs.{Words.{HasEndings, List, change, space_after, subst, sym, ℕ}, Ending.{others_free_none}}
use Rattle.bd_space.specs.declared.step.Step.TheVariants as step_of
use Rattle.bd_step.proofs.tables.Tables.list_endings_of.Goals as goal

pub returns-in_default-clause-listed : goal.returns-in_default-clause-listed
returns-in_default-clause-listed c = λ h parcel before.
    let s = space_after h in
    subst (λ (ps : List ℕ). HasEndings ps s (change s c.args.seat (step_of.Command c.args.command.now parcel)).space) (sym c.requires.none)
    (others_free_none s c.args.seat c.args.command.now parcel c.in_default.not-FreeBuffer)
