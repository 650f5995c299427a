use Rattle.std.proofs.Common.{arith}
use Rattle.bd_driver.proofs.Seats.{left_in}
use Rattle.bd_script.specs.Scripts.{read}
use Rattle.bd_player.proofs.Ends.{played, played_lawful}
use Rattle.bd_player.proofs.playing.play_into.Goals as goal

pub play_lines-requires : goal.play_lines-requires
play_lines-requires g c = rw c.deref_mut.ensures.value c.in-Ok.ensures.table

pub finish-requires : goal.finish-requires
finish-requires g c = left_in c.in-Ok.parts.0.table c.in-Ok.parts.1.len c.play_lines.new.seats c.in-Ok.parts.1.items c.play_lines.ensures.table c.in-Ok.ensures.table

pub returns-clause-plays : goal.returns-clause-plays
returns-clause-plays g c = λ room. played _ (read c.in-Ok.parts.2) _ _ _ c.deref_mut.result.now c.in-Ok.parts.1.items c.play_lines.new.seats _ _ c.in-Ok.parts.0.table c.in-Ok.parts.1.len _ c.finish.result
    c.in-Ok.ensures.says c.in-Ok.ensures.dealt.0 (c.play_lines.ensures.plays room) c.deref_mut.ensures.value c.in-Ok.ensures.dealt.1 (omega arith) (omega arith) c.finish.ensures.history

pub returns-clause-history : goal.returns-clause-history
returns-clause-history g c = λ room. played_lawful _ _ _ _ _ _ c.finish.result (returns-clause-plays g c room)
