use Rattle.bd_driver.proofs.{OwnMailbox.{first_held, refill}, Serves.{after_serve, serves_at}, Words.{Empty, Hands, Home, ap, length, page_word, ready_of, rest, rules, served_at, subst, view_of, ℕ, ◌+◌, ◌<◌, ◌∙◌}}
use Rattle.bd_driver.proofs.driver.Driver.publish_for.Goals as goal

pub swap-requires : goal.swap-requires
swap-requires c =
    let r = c.requires in
    let e = c.args.engine in
    let v = view_of c.args.table_seat.now.me.0 in
    let held = refill c.args.table_seat.now.me c.exchange.new.seat.me v _ (c.args.number + 1) Empty (Home e) r.held c.exchange.ensures.3 in
    let seats = c.requires.engine.seats in
    let p = c.page_while_taken-page.ensures in
    let page = p.page ∙ ap (λ (z : ℕ). page_word z 1 e.entries) seats in
    let fits : (length e.entries < 4294967296) × (ready_of v.seats e.entries < 2147483648) = (p.length, subst (λ (z : ℕ). ready_of z e.entries < 2147483648) seats p.bits) in
    (search rules, search rules, serves_at _ _ _ _ v (rest c.args.table_seat.now.me.1) _ c.args.number e _ held r.on c.requires.engine page fits)

pub exchange-requires-2 : goal.exchange-requires-2
exchange-requires-2 c =
    let r = c.requires in
    let e = c.args.engine in
    let v = view_of c.args.table_seat.now.me.0 in
    let held = refill c.args.table_seat.now.me c.exchange.new.seat.me v _ (c.args.number + 1) Empty (Home e) r.held c.exchange.ensures.3 in
    let is = ap (λ (m : Hands). m.1) (after_serve _ _ v (rest c.args.table_seat.now.me.1) _ e _ held c.swap.ensures.2.1) in
    (search rules, (Home e, first_held _ _ (c.args.number + 1) (Home e) is))

pub returns-clause-view : goal.returns-clause-view
returns-clause-view c =
    let e = c.args.engine in
    let v = view_of c.args.table_seat.now.me.0 in
    let held = refill c.args.table_seat.now.me c.exchange.new.seat.me v _ (c.args.number + 1) Empty (Home e) c.requires.held c.exchange.ensures.3 in
    let then = after_serve _ _ v (rest c.args.table_seat.now.me.1) _ e _ held c.swap.ensures.2.1 in
    (c.swap.result, refill c.swap.new.seat.me c.exchange-2.new.seat.me (served_at v c.swap.result e.entries) _ (c.args.number + 1) (Home e) Empty then c.exchange-2.ensures.3)
