use Rattle.std.proofs.Common.{◌+◌, ◌≤◌, ◌^◌, ℕ, rules, arith}
use Rattle.bd_todo.proofs.Fits.{room_fits}
use Rattle.bd_calls.specs.{declared.table.CallTable.{CallTable}, Room.{HasRoom, frame_count, rooms}}
use Rattle.bd_calls.proofs.Few.{few_both}
use Rattle.bd_calls.proofs.table.CallTable.reserve.Goals as goal

-- there is no room past the numbers of the machine
past_all : (t : CallTable) (works : ℕ) → 2 ^ 64 ≤ works + frame_count t + 9 → HasRoom t works → ⊥
unfolding rooms
past_all t works past room = omega (arith, room_fits t.todo, past, room.all_works)

pub returns-in_err-works-clause-grown : goal.returns-in_err-works-clause-grown
returns-in_err-works-clause-grown c = search (rules, past_all c.args.self.now c.args.works)

pub returns-clause-few : goal.returns-clause-few
returns-clause-few c = few_both _ _ _ _ _ _ (omega arith) c.reserve_ahead.ensures.few c.reserve_each.ensures.few
