use Rattle.std.proofs.Common.{ap, ◌∙◌, arith}
use Rattle.bd_codec.specs.Reading.{command_at}
use Rattle.bd_codec.proofs.CommandRows.{command_found, command_again, command_says}
use Rattle.bd_codec.proofs.commands.read_command.Goals as goal

pub returns-clause-found : goal.returns-clause-found
returns-clause-found c = command_found c.args.bytes.now c.first_command.result (λ i. omega (arith, c.type_inv.bytes i)) c.first_command.ensures

pub returns-clause-only : goal.returns-clause-only
returns-clause-only c = λ x rest fits e. c.first_command.ensures ∙ ap command_at e ∙ command_again x rest fits

pub returns-clause-fault : goal.returns-clause-fault
returns-clause-fault c = rw c.first_command.ensures (command_says c.args.bytes.now)
