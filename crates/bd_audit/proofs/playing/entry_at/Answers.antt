use Rattle.std.proofs.Common.{◌≡◌, ◌<◌, ◌∙◌, List, length, drop, refl, ap, subst, arith}
use Rattle.std.proofs.lemmas.Option.{slice_get_read}
use Rattle.bd_space.specs.Histories.{history_of}
use Rattle.bd_space.specs.declared.step.Entry.{Entry}
use Rattle.bd_audit.specs.Replays.{beginning}
use Rattle.bd_audit.proofs.Beginnings.{read_some, read_none, taken_next, not_at_end}
use Rattle.bd_audit.proofs.playing.entry_at.Goals as goal

pub unreachable-requires : goal.unreachable-requires
unreachable-requires c =
    let es = c.args.record.now.entries in
    not_at_end es c.played.new.entries c.args.place (omega (arith, c.if-place-len.false, c.len.ensures)) (c.in_ok-engine.ensures.rest ∙ ap (drop c.args.place) c.reader-entries.ensures)
    (read_none c.in-Ok-None.field-0 c.played.new.entries c.next.new.self c.in-Ok-None.field-0-is c.in-Ok-None.ensures.next)

pub returns-in-Ok-Some-clause-found : goal.returns-in-Ok-Some-clause-found
returns-in-Ok-Some-clause-found c =
    let es = c.args.record.now.entries in
    let e = c.in-Ok-Some.entry in
    let place = c.args.place in
    let below : place < length es = omega (arith, c.if-place-len.false, c.len.ensures) in
    let next = read_some c.in-Ok-Some.field-0 c.played.new.entries c.next.new.self e c.in-Ok-Some.field-0-is c.in-Ok-Some.ensures.next in
    let taken = taken_next es c.played.new.entries c.next.new.self place e below (c.in_ok-engine.ensures.rest ∙ ap (drop place) c.reader-entries.ensures) next in
    record {
      begins = subst (λ (l : List Entry). c.in_ok-engine.engine ≡ beginning place (history_of c.args.record.now.seats l)) c.reader-entries.ensures c.in_ok-engine.ensures.engine;
      stands = slice_get_read es _ place e refl below taken.0;
    }
