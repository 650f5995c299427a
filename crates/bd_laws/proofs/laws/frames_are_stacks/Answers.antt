use Rattle.bd_space.specs.Histories.{space_after}
use Rattle.bd_laws.proofs.Always.{always_tidy}
use Rattle.bd_laws.proofs.Stacks.{always_stacks, innermost_last}
use Rattle.bd_laws.proofs.laws.frames_are_stacks.Goals as goal

pub returns : goal.returns
returns c = λ h. (always_stacks h, innermost_last (space_after h) (always_tidy h))
