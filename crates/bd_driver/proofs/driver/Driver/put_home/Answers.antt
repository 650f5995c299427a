use Rattle.bd_driver.proofs.{Moves.{after_put, placed, puts_at}, Words.{Empty, Home, rest, rules, view_of}}
use Rattle.bd_driver.proofs.driver.Driver.put_home.Goals as goal

pub fetch_and-requires : goal.fetch_and-requires
fetch_and-requires c =
    let s = c.requires.serving in
    let held = placed c.args.table_seat.now.me c.exchange.new.seat.me (view_of c.args.table_seat.now.me.0) 0 Empty (Home c.args.engine) (rest c.args.table_seat.now.me.1) s.one s.held c.exchange.ensures.3 in
    (search rules, search rules, puts_at _ _ _ _ (view_of c.args.table_seat.now.me.0) (rest c.args.table_seat.now.me.1) c.args.engine held s.on s.none_picked s.stands)

pub returns-clause-view : goal.returns-clause-view
returns-clause-view c =
    let s = c.requires.serving in
    let held = placed c.args.table_seat.now.me c.exchange.new.seat.me (view_of c.args.table_seat.now.me.0) 0 Empty (Home c.args.engine) (rest c.args.table_seat.now.me.1) s.one s.held c.exchange.ensures.3 in
    (c.fetch_and.result, after_put _ _ (view_of c.args.table_seat.now.me.0) (rest c.args.table_seat.now.me.1) c.args.engine _ held c.fetch_and.ensures.2.1)
