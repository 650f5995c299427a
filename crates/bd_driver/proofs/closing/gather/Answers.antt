use Rattle.bd_driver.proofs.{Ends.{gathers}, Seats.{own}, Words.{All-pop, Each, Hands, Idle, Some, ap, rules, subst, sym, ◌∙◌, ◌≡◌}}
use Rattle.bd_driver.proofs.closing.gather.Goals as goal

pub shut-table_seat-requires : goal.shut-table_seat-requires
shut-table_seat-requires c = (All-pop (own c.args.table.now.shared.table_id) _ _ (Some c.in-Some.seat) c.in-Some.ensures.items c.loop-seat.invariant.5).1

pub join_seat-requires : goal.join_seat-requires
join_seat-requires c =
    let i = c.loop-seat.invariant in
    let vs : Each Idle c.loop-seat.keeper.me.0 = subst (Each Idle) (sym (ap (λ (m : Hands). m.0) i.2)) i.4 in
    let s = c.shut-table_seat.ensures in
    let ws : Each Idle c.shut-table_seat.result.me.0 = subst (Each Idle) (sym (ap (λ (m : Hands). m.0) s.view)) (s.idle, tt) in
    (i.1, s.table, ap (λ (m : Hands). m.1) s.view, search rules, gathers _ _ _ _ _ vs ws)
