use Rattle.bd_driver.proofs.{OwnMailbox.{opens_at}, Words.{[], arith, fresh, refl, rules, suc, ◌+◌, ◌≡◌}}
use Rattle.bd_driver.proofs.opening.open.Goals as goal

pub load-requires : goal.load-requires
load-requires c =
    let word : c.args.number + 1 ≡ suc c.args.number = omega arith in
    (search rules, search rules, opens_at _ _ _ c.args.table_seat.me (fresh c.args.seats c.args.number) [] _ c.requires.fresh word refl)
