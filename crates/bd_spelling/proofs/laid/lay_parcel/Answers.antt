use Rattle.bd_spelling.proofs.Laying.{laid_then}
use Rattle.bd_spelling.proofs.laid.lay_parcel.Goals as goal

pub returns-in-Some : goal.returns-in-Some
returns-in-Some c = rw c.in-Some.is (rw (← c.as_slice.ensures, ← c.as_slice-in-Some.ensures)
    (laid_then _ _ _ _ _ _ _ _ c.lay-at.ensures (laid_then _ _ _ _ _ _ _ _ c.lay_block-at.ensures c.lay_block.ensures)))
