use Rattle.std.proofs.Common.{sym, ◌∙◌}
use Rattle.std.specs.Vec.Iter.{into_iter_items, into_iter_len}
use Rattle.std.proofs.lemmas.List.{nil_from_length}
use Rattle.bd_player.proofs.Lines.{goes_further, stops, ends_all, shorter}
use Rattle.bd_player.proofs.playing.play_lines.Goals as goal
use Rattle.bd_player.proofs.playing.play_lines.Goals.{in-None, in-Some+then-not-goes_on}

pub loop-line-preserved : goal.loop-line-preserved
loop-line-preserved g c =
    let before = into_iter_items c.loop-line.line-iterator in
    let rest = into_iter_items c.next.new.self in (
      c.run_line-goes_on.ensures.table,
      shorter (into_iter_len c.loop-line.line-iterator) (into_iter_len c.next.new.self) before rest c.in-Some.line c.loop-line.invariant.1 c.in-Some.ensures.steps.0 c.in-Some.ensures.steps.1,
      λ room. goes_further (g.D.Desk.seats c.args.desk.now) c.args.turns g.S.Sink.takes g.S.Sink.is_full c.args.lines.items before rest c.in-Some.line
          c.args.seats.now c.loop-line.seats c.run_line-goes_on.new.seats c.args.sink.now c.loop-line.sink c.run_line-goes_on.new.sink c.run_line-goes_on.result
          (c.loop-line.invariant.2 room) c.in-Some.ensures.steps.0 c.run_line-goes_on.ensures.runs c.if-not-goes_on.false,
    )

pub returns-clause-plays : goal.returns-clause-plays
returns-clause-plays g c = λ room.
    let before = into_iter_items c.loop-line.line-iterator in
    elim c.match-next.branch [
      | in-None w ↦ rw w.seats-is (rw w.sink-is (ends_all (g.D.Desk.seats c.args.desk.now) c.args.turns g.S.Sink.takes g.S.Sink.is_full c.args.lines.items before
          c.args.seats.now c.loop-line.seats c.args.sink.now c.loop-line.sink (c.loop-line.invariant.2 room)
          (nil_from_length before (sym c.loop-line.invariant.1 ∙ w.in-None.ensures.steps.0))))
      | in-Some+then-not-goes_on w ↦ rw w.seats-is (rw w.sink-is (stops (g.D.Desk.seats c.args.desk.now) c.args.turns g.S.Sink.takes g.S.Sink.is_full c.args.lines.items before
          (into_iter_items c.next.new.self) w.in-Some.line c.args.seats.now c.loop-line.seats w.run_line-goes_on.new.seats c.args.sink.now c.loop-line.sink w.run_line-goes_on.new.sink w.run_line-goes_on.result
          (c.loop-line.invariant.2 room) w.in-Some.ensures.steps.0 w.run_line-goes_on.ensures.runs w.if-not-goes_on.true))
    ]
