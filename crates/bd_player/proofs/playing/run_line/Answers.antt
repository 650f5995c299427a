use Rattle.std.proofs.Common.{rules, arith, ◌≡◌, get_or, false, sym, ap, true≢false}
use Rattle.bd_player.proofs.Lines.{ran, room_left, has_room}
use Rattle.bd_player.proofs.playing.run_line.Goals as goal

pub returns-clause-runs : goal.returns-clause-runs
returns-clause-runs g c =
    let at = get_or c.args.seats.now c.args.line.seat c.index-seats-place.result in
    let there : get_or c.args.seats.now c.args.line.seat c.index-seats-place.result ≡ c.index-seats-place.result = search rules in
    let is = ap (λ d. get_or c.args.seats.now c.args.line.seat d) there in
    let full = g.S.Sink.is_full c.accept-has_room.new.self in
    let room = c.accept-has_room.result in
    ran (g.D.Desk.seats c.args.desk.now) c.args.turns g.S.Sink.takes g.S.Sink.is_full c.args.line c.args.seats.now c.args.sink.now c.accept-has_room.new.self
    at c.act-said.new.seat c.act-said.result room
    (omega (arith, c.if-place-seats.false)) is c.act-said.ensures.table (c.act-said.ensures.idle, c.act-said.ensures.acts) c.accept-has_room.ensures.takes
    (λ f d. has_room full room c.accept-has_room.ensures.room f)
    (λ e. (room_left full room c.accept-has_room.ensures.room e, omega (arith, c.status-status.ensures, c.if-status-ne-DONE.false)))

pub returns-then-status-ne-DONE-clause-runs : goal.returns-then-status-ne-DONE-clause-runs
returns-then-status-ne-DONE-clause-runs g c =
    let at = get_or c.args.seats.now c.args.line.seat c.index-seats-place.result in
    let there : get_or c.args.seats.now c.args.line.seat c.index-seats-place.result ≡ c.index-seats-place.result = search rules in
    let is = ap (λ d. get_or c.args.seats.now c.args.line.seat d) there in
    ran (g.D.Desk.seats c.args.desk.now) c.args.turns g.S.Sink.takes g.S.Sink.is_full c.args.line c.args.seats.now c.args.sink.now c.accept-has_room.new.self
    at c.act-said.new.seat c.act-said.result false
    (omega (arith, c.if-place-seats.false)) is c.act-said.ensures.table (c.act-said.ensures.idle, c.act-said.ensures.acts) c.accept-has_room.ensures.takes
    (λ f d. absurd (omega (arith, d, c.status-status.ensures, c.if-status-ne-DONE.true)))
    (λ e. absurd (true≢false (sym e)))
