use Rattle.std.proofs.Common.{◌<◌, length, refl, arith}
use Rattle.bd_spelling.specs.Records.{history_in}
use Rattle.bd_audit.specs.Replays.{beginning}
use Rattle.bd_audit.proofs.Beginnings.{read_some, read_none, taken_next, not_at_end, judged_next}
use Rattle.bd_audit.proofs.judging.first_unlawful.Goals as goal

pub unreachable-requires : goal.unreachable-requires
unreachable-requires g c =
    not_at_end c.args.record.now.entries c.loop-done.entries c.loop-done.done (omega (arith, c.loop-done-test.true, c.requires.inside)) c.loop-done.invariant.rest
    (read_none c.in-Ok-None.field-0 c.loop-done.entries c.next.new.self c.in-Ok-None.field-0-is c.in-Ok-None.ensures.next)

pub loop-done-preserved : goal.loop-done-preserved
loop-done-preserved g c =
    let h = history_in c.args.record.now in
    let i = c.loop-done.done in
    let e = c.in-Ok-Some.entry in
    let below : i < length h.entries = omega (arith, c.loop-done-test.true, c.requires.inside) in
    let next = read_some c.in-Ok-Some.field-0 c.loop-done.entries c.next.new.self e c.in-Ok-Some.field-0-is c.in-Ok-Some.ensures.next in
    let taken = taken_next h.entries c.loop-done.entries c.next.new.self i e below c.loop-done.invariant.rest next in
    record {
      judged = judged_next h i e h.entries refl below taken.0 c.see.new.self (c.in_ok-see-in-Ok-Some.ensures.seen (beginning i h) c.loop-done.invariant.judged);
      rest = taken.1;
      heard = λ _. c.follow.ensures;
    }
