use Rattle.std.proofs.Common.{◌<◌, ◌≤◌, length, arith, subst}
use Rattle.bd_space.specs.Histories.{history_of}
use Rattle.bd_audit.specs.{Judging.{IsStop}, Replays.{beginning}}
use Rattle.bd_audit.proofs.Judged.{stops_at_end}
use Rattle.bd_audit.proofs.judging.replay_watched.Goals as goal

pub returns-in-Ok-None-clause-first : goal.returns-in-Ok-None-clause-first
returns-in-Ok-None-clause-first g c =
    let seats = c.args.record.now.seats in
    let es = c.args.record.now.entries in
    let n = c.min-placed.result in
    let within : n ≤ length es = omega (arith, c.min-placed.ensures, c.len-len.ensures) in
    let fewer : n < length es = omega (arith, c.if-placed-len.true, c.len-len.ensures) in
    let lawful = subst (IsStop (beginning n (history_of seats es))) c.in-Ok-None.field-0-is c.in-Ok-None.ensures.stop in
    stops_at_end (history_of seats es) n within (omega (arith, c.min-placed.ensures)) (omega (arith, c.min-placed.ensures, c.len-len.ensures, fewer)) fewer lawful
