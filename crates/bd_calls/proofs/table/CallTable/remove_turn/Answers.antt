use Rattle.std.proofs.Common.{◌==◌, ap, not, rules}
use Rattle.bd_space.specs.Freeing.{is_made_at, without_buffer}
use Rattle.bd_calls.proofs.OneWay.{left_stand, turn_is_of}
use Rattle.bd_calls.proofs.table.CallTable.remove_turn.Goals as goal

pub returns-clause-stands : goal.returns-clause-stands
unfolding without_buffer
returns-clause-stands c =
    let made = c.args.made in
    let left = left_stand c.remove.new.self (λ b. not (is_made_at made b)) (λ t. not (t.made == made)) (λ b t h. ap (λ m. not (m == made)) (turn_is_of b t h).0) in
    search (rules, left)
