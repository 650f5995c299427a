use Rattle.bd_player.proofs.Unjudged.{no_memory}
use Rattle.bd_player.proofs.verdicts.judgment_on.Goals as goal

pub returns-in-Ok-clause-journal : goal.returns-in-Ok-clause-journal
returns-in-Ok-clause-journal g c = no_memory c.args.bytes.now c.in-Ok.found c.judge.result c.in-Ok.ensures.found c.judge.ensures.fault
