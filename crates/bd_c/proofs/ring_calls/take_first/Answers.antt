use Rattle.std.proofs.Common.{subst}
use Rattle.bd_c.specs.Turns.{TellsFirst}
use Rattle.bd_c.proofs.ring_calls.take_first.Goals as goal

pub returns : goal.returns
returns c = record {
  tells = λ f h. subst (λ o. TellsFirst o c.args.one.now c.tell.new.out c.tell.result) (c.take.ensures.turn f h) c.tell.ensures;
  numbers = c.take.ensures.used;
  turned = c.take.ensures.stands;
}
