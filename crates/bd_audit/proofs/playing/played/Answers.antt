use Rattle.std.proofs.Common.{◌<◌, length, refl, arith}
use Rattle.bd_space.specs.Histories.{history_of}
use Rattle.bd_audit.proofs.Beginnings.{read_some, read_none, taken_next, not_at_end, front_lawful, next_beginning}
use Rattle.bd_audit.proofs.playing.played.Goals as goal

pub unreachable-requires : goal.unreachable-requires
unreachable-requires c =
    let es = c.args.entries.now in
    not_at_end es c.loop.entries c.loop.counter (omega (arith, c.loop-test.true, c.requires.inside)) c.loop.invariant.rest
    (read_none c.in-Ok-None.field-0 c.loop.entries c.next.new.self c.in-Ok-None.field-0-is c.in-Ok-None.ensures.next)

pub advance-requires : goal.advance-requires
advance-requires c =
    let es = c.args.entries.now in
    let i = c.loop.counter in
    let e = c.in-Ok-Some.entry in
    let next = read_some c.in-Ok-Some.field-0 c.loop.entries c.next.new.self e c.in-Ok-Some.field-0-is c.in-Ok-Some.ensures.next in
    let taken = taken_next es c.loop.entries c.next.new.self i e (omega (arith, c.loop-test.true, c.requires.inside)) c.loop.invariant.rest next in
    record { lawful = front_lawful (history_of c.args.seats es) c.loop.engine c.args.count i e c.requires.lawful c.requires.inside c.loop-test.true c.loop.invariant.engine taken.0 }

pub loop-preserved : goal.loop-preserved
loop-preserved c =
    let es = c.args.entries.now in
    let i = c.loop.counter in
    let e = c.in-Ok-Some.entry in
    let below : i < length es = omega (arith, c.loop-test.true, c.requires.inside) in
    let next = read_some c.in-Ok-Some.field-0 c.loop.entries c.next.new.self e c.in-Ok-Some.field-0-is c.in-Ok-Some.ensures.next in
    let taken = taken_next es c.loop.entries c.next.new.self i e below c.loop.invariant.rest next in
    record {
      engine = next_beginning (history_of c.args.seats es) c.loop.engine c.advance.new.engine i e es c.loop.invariant.engine refl below taken.0 c.in_ok-advance-in-Ok-Some.ensures.ok;
      rest = taken.1;
    }
