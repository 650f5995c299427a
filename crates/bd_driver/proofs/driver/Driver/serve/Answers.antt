use Rattle.bd_driver.proofs.{Serves.{all_serves}, Words.{DriverState, Ran, SeatState, ServedAll, Serves, View, ap, arith, rest, subst, view_of, ℕ, ◌-◌, ◌≡◌}}
use Rattle.bd_driver.proofs.driver.Driver.serve.Goals as goal

pub returns-clause-serves : goal.returns-clause-serves
returns-clause-serves c =
    let old : view_of c.seat.inside.table_seat.me.0 ≡ c.args.seat.now.view = ap (λ (s : SeatState). s.view) c.seat.view_is in
    let key = ap (λ (d : DriverState). d.seats) c.self.view_is in
    let words = c.self.invariant.0 in
    let seats : c.word_count-seats.result - 1 ≡ c.args.self.now.seats = omega arith in
    let served = subst (λ (n : ℕ). ServedAll (view_of c.take.new.table_seat.me.0) (rest c.take.new.table_seat.me.1) n c.serve_all-engine.new.table_seat.me c.serve_all-engine.result.1) seats c.serve_all-engine.ensures.served in
    subst (λ (v : View). Serves c.args.self.now.seats v (view_of c.put_home.new.table_seat.me.0) (Ran c.serve_all-engine.result.1)) old
    (all_serves c.args.self.now.seats (view_of c.seat.inside.table_seat.me.0) _ c.take.new.table_seat.me c.serve_all-engine.new.table_seat.me c.put_home.new.table_seat.me c.in-Some.engine _ _ c.in-Some.ensures.takes served c.put_home.ensures.view.1)
