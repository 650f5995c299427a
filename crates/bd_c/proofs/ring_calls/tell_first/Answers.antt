use Rattle.std.proofs.Common.{subst}
use Rattle.bd_c.specs.Turns.{TellsFirst}
use Rattle.bd_c.proofs.ring_calls.tell_first.Goals as goal

pub returns : goal.returns
returns c = λ f h. subst (λ o. TellsFirst o c.args.one.now c.tell.new.out c.tell.result) (c.first.ensures f h) c.tell.ensures
