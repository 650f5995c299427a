use Rattle.bd_script.proofs.Pieces.{hex_read}
use Rattle.bd_script.proofs.hex.hex_is_read.Goals as goal

pub returns : goal.returns
returns c = hex_read
