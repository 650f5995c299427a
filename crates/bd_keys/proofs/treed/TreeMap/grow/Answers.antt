use Rattle.std.proofs.Common.{ap, arith}
use Rattle.std.proofs.lemmas.Result.{on_ok_weaker}
use Rattle.bd_keys.specs.Keys.{place_in}
use Rattle.bd_keys.specs.Walk.{keys}
use Rattle.bd_keys.specs.Treed.{tree_look, value_at, map_room}
use Rattle.bd_keys.proofs.Looks.{alike_values}
use Rattle.bd_keys.proofs.treed.TreeMap.grow.Goals as goal

pub returns-in_err-reserve-clause-kept : goal.returns-in_err-reserve-clause-kept
unfolding tree_look
returns-in_err-reserve-clause-kept g c = λ k.
    ap (λ ns. value_at c.args.self.now.values.items (place_in (keys ns) k)) c.reserve.ensures.same

pub returns-in_err-reserve-clause-uses : goal.returns-in_err-reserve-clause-uses
unfolding map_room
returns-in_err-reserve-clause-uses g c = omega (arith, c.reserve.ensures.uses)

pub returns-clause-kept : goal.returns-clause-kept
unfolding tree_look
returns-clause-kept g c = λ k.
    alike_values c.reserve-2.new.self.items _ _ _ k c.reserve-2.ensures.items (ap keys c.reserve.ensures.same)

pub returns-clause-uses : goal.returns-clause-uses
unfolding map_room
returns-clause-uses g c = omega (arith, c.reserve.ensures.uses, c.reserve-2.ensures.capacity, c.reserve-2.ensures.len)

pub returns-clause-room : goal.returns-clause-room
unfolding map_room
returns-clause-room g c =
    on_ok_weaker c.reserve-2.result (λ h. omega (arith, h, c.in_ok-reserve.ensures.room)) c.reserve-2.ensures.ok
