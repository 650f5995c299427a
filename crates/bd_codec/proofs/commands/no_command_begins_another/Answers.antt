use Rattle.bd_codec.proofs.CommandRows.{no_command_begins_another}
use Rattle.bd_codec.proofs.commands.no_command_begins_another.Goals as goal

pub returns : goal.returns
returns c = no_command_begins_another
