use Rattle.bd_spelling.proofs.Laying.{laid_then}
use Rattle.bd_spelling.proofs.laid.lay_block.Goals as goal

pub returns : goal.returns
returns c = laid_then _ _ _ _ _ _ _ _ c.lay_word-at.ensures c.lay.ensures
