use Rattle.bd_driver.proofs.{OwnMailbox.{first_held}, Serves.{picks_at}, Words.{Hands, Posted, ap, arith, rules, suc, ◌+◌, ◌≡◌}}
use Rattle.bd_driver.proofs.driver.Driver.pick.Goals as goal

pub compare_exchange-requires : goal.compare_exchange-requires
compare_exchange-requires c =
    let r = c.requires in
    let word : c.args.number + 1 ≡ suc c.args.number = omega arith in
    (search rules, search rules, picks_at _ _ _ c.args.table_seat.now.me c.args.number _ word r.one r.on r.unpicked (search rules))

pub exchange-requires : goal.exchange-requires
exchange-requires c =
    let hit = c.compare_exchange.ensures.2.1 c.if-compare_exchange-ne-POSTED.false in
    let is = ap (λ (m : Hands). m.1) hit.3 in
    (search rules, (Posted hit.0, first_held _ _ (c.args.number + 1) (Posted hit.0) is))
