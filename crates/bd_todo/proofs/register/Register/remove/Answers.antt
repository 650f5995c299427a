use Rattle.std.proofs.Common.{arith}
use Rattle.bd_todo.specs.Registered.{Registered}
use Rattle.bd_todo.proofs.Registering.{register_went}
use Rattle.bd_todo.proofs.register.Register.remove.Goals as goal

pub returns-then-work-self-clause-stands : goal.returns-then-work-self-clause-stands
unfolding Registered
returns-then-work-self-clause-stands c = λ todo left less h.
    register_went c.args.self.now c.args.work todo h c.remove.new.self left _ less (rw c.sought_of.ensures at c.remove.ensures.counts) (grind arith)

pub returns-else-work-self-clause-stands : goal.returns-else-work-self-clause-stands
unfolding Registered
returns-else-work-self-clause-stands c = λ todo left less h.
    register_went c.args.self.now c.args.work todo h c.remove.new.self left _ less (rw c.sought_of.ensures at c.remove.ensures.counts) (grind arith)
