use Rattle.bd_c.proofs.opening.take.Goals as goal

pub open-requires : goal.open-requires
open-requires c = rw c.replace.ensures.value c.requires
