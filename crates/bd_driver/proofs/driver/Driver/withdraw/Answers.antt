use Rattle.bd_driver.proofs.{OwnMailbox.{first_held, withdraws_at}, Words.{Hands, Posted, SeatState, ap, is_waiting, rules, ◌+◌, ◌∙◌}}
use Rattle.bd_driver.proofs.driver.Driver.withdraw.Goals as goal

pub exchange-requires : goal.exchange-requires
exchange-requires c =
    let hit = c.compare_exchange-found.ensures.2.1 c.if-found-ne-POSTED.false in
    (search rules, (Posted hit.0, first_held _ _ (c.seat.inside.number + 1) (Posted hit.0) (ap (λ (m : Hands). m.1) hit.4)))

pub compare_exchange-found-requires : goal.compare_exchange-found-requires
compare_exchange-found-requires c = (search rules, search rules, withdraws_at _ _ _ _ c.seat.inside.table_seat.me _ _ c.seat.invariant (ap (λ (s : SeatState). is_waiting s.view.handover) c.seat.view_is ∙ c.requires.waiting))
