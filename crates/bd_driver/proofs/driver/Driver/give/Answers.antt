use Rattle.bd_driver.proofs.{Moves.{after_publish, after_put, placed, publishes_at, puts_at}, Words.{Empty, Hands, Home, ap, history_of, length, page_word, published_at, ready_of, rest, rules, subst, view_of, ℕ, ◌<◌, ◌∙◌}}
use Rattle.bd_driver.proofs.driver.Driver.give.Goals as goal

pub swap-requires : goal.swap-requires
swap-requires c =
    let r = c.requires in
    let e = c.args.engine in
    let held = placed c.args.table_seat.now.me c.exchange.new.seat.me (view_of c.args.table_seat.now.me.0) 0 Empty (Home e) (rest c.args.table_seat.now.me.1) r.one r.held c.exchange.ensures.3 in
    let seats = c.requires.engine.seats in
    let p = c.page_while_taken-page.ensures in
    let page = p.page ∙ ap (λ (z : ℕ). page_word z 1 e.entries) seats in
    let fits : (length e.entries < 4294967296) × (ready_of (view_of c.args.table_seat.now.me.0).seats e.entries < 2147483648) = (p.length, subst (λ (z : ℕ). ready_of z e.entries < 2147483648) seats p.bits) in
    (search rules, search rules, publishes_at _ _ _ _ (view_of c.args.table_seat.now.me.0) (rest c.args.table_seat.now.me.1) 0 e c.requires.engine.run _ held r.on r.open c.requires.engine.grown c.requires.engine.by_seat page fits)

pub fetch_and-requires : goal.fetch_and-requires
fetch_and-requires c =
    let r = c.requires in
    let e = c.args.engine in
    let v = view_of c.args.table_seat.now.me.0 in
    let held = placed c.args.table_seat.now.me c.exchange.new.seat.me v 0 Empty (Home e) (rest c.args.table_seat.now.me.1) r.one r.held c.exchange.ensures.3 in
    let then = after_publish _ _ v (rest c.args.table_seat.now.me.1) 0 e _ held c.swap.ensures.2.1 in
    (search rules, search rules, puts_at _ _ _ _ (published_at v c.swap.result e.entries) (rest c.args.table_seat.now.me.1) e then r.on r.unpicked (ap (λ n. history_of n e.entries) c.requires.engine.seats))

pub returns-clause-gives : goal.returns-clause-gives
returns-clause-gives c =
    let r = c.requires in
    let e = c.args.engine in
    let v = view_of c.args.table_seat.now.me.0 in
    let held = placed c.args.table_seat.now.me c.exchange.new.seat.me v 0 Empty (Home e) (rest c.args.table_seat.now.me.1) r.one r.held c.exchange.ensures.3 in
    let then = after_publish _ _ v (rest c.args.table_seat.now.me.1) 0 e _ held c.swap.ensures.2.1 in
    let last = after_put _ _ (published_at v c.swap.result e.entries) (rest c.args.table_seat.now.me.1) e _ then c.fetch_and.ensures.2.1 in
    (c.swap.result, c.fetch_and.result, ap (λ (m : Hands). m.0) last, ap (λ (m : Hands). m.1) last)
