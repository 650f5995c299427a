use Rattle.std.proofs.Common.{ap, List, ℕ, ◌∷◌, ◌++◌}
use Rattle.bd_spelling.specs.Spelling.{block, parcel_bytes}
use Rattle.bd_spelling.proofs.Laying.{laid_then, laid_as}
use Rattle.bd_spelling.proofs.laid.lay_step.Goals as goal

pub returns-in-Open : goal.returns-in-Open
returns-in-Open c = rw c.in-Open.is (laid_then _ _ _ _ _ _ _ _ c.lay-at.ensures (laid_then _ _ _ _ _ _ _ _ c.lay_word-at.ensures (laid_then _ _ _ _ _ _ _ _ c.lay_word-at-in-Open.ensures c.lay_word.ensures)))

pub returns-in-Attach : goal.returns-in-Attach
returns-in-Attach c = rw c.in-Attach.is (laid_then _ _ _ _ _ _ _ _ c.lay-at-in-Attach.ensures c.lay_word-in-Attach.ensures)

pub returns-in-Command : goal.returns-in-Command
returns-in-Command c =
    let spelled = (rw c.in-Command.is at c.requires.command).0 in
    rw c.in-Command.is (laid_as _ _ _ _ _ _ (ap (λ (t : List ℕ). 3 ∷ block t ++ parcel_bytes c.in-Command.parcel) spelled)
    (laid_then _ _ _ _ _ _ _ _ c.lay-at-in-Command.ensures (laid_then _ _ _ _ _ _ _ _ c.lay_block-at.ensures c.lay_parcel.ensures)))

pub returns-in-Read : goal.returns-in-Read
returns-in-Read c = rw c.in-Read.is (laid_then _ _ _ _ _ _ _ _ c.lay-at-in-Read.ensures c.lay_word-in-Read.ensures)
