use Rattle.std.proofs.Common.{ap, ◌∙◌, arith}
use Rattle.bd_codec.specs.Reading.{return_at}
use Rattle.bd_codec.proofs.ReturnRows.{return_found, return_again, return_says}
use Rattle.bd_codec.proofs.returns.read_return.Goals as goal

pub returns-clause-found : goal.returns-clause-found
returns-clause-found c = return_found c.args.bytes.now c.first_return.result (λ i. omega (arith, c.type_inv.bytes i)) c.first_return.ensures

pub returns-clause-only : goal.returns-clause-only
returns-clause-only c = λ x rest fits e. c.first_return.ensures ∙ ap return_at e ∙ return_again x rest fits

pub returns-clause-fault : goal.returns-clause-fault
returns-clause-fault c = rw c.first_return.ensures (return_says c.args.bytes.now)
