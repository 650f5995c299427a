use Rattle.std.proofs.Common.{refl}
use Rattle.bd_player.proofs.Printed.{printed}
use Rattle.bd_player.proofs.playing.play.Goals as goal

pub returns-clause-plays : goal.returns-clause-plays
returns-clause-plays g c = printed _ _ _ c.play_into-ran.result c.of.result.status c.of.result.history c.new-printer.result c.play_into-ran.new.sink c.into_status-status.result
    (c.play_into-ran.ensures.plays refl) c.new-printer.ensures c.into_status-status.ensures c.of.ensures
