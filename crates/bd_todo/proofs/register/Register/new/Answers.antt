use Rattle.std.proofs.Common.{refl, arith}
use Rattle.bd_todo.specs.Registered.{Registered}
use Rattle.bd_todo.proofs.register.Register.new.Goals as goal

pub returns : goal.returns
unfolding Registered
returns c = record { counted = c.new.ensures; at_last = refl; none_later = λ p l. refl; none_past = λ r d l. refl; one_each = λ r d. omega arith }
