use Rattle.bd_driver.proofs.Words.{[], new_seats, newcomers, vec_capacity, vec_len, ◌+◌, ◌-◌, ◌≡◌}
use Rattle.bd_driver.proofs.opening.deal.Given as goal

abbrev pub invariant-loop-number : goal.invariant-loop-number
invariant-loop-number l = record {
  table : l.keeper.table_id ≡ l.table.shared.table_id;
  keeper : l.keeper.me ≡ (newcomers l.seats l.number (l.seats - l.number), []);
  dealt : l.dealt.items ≡ new_seats l.table.shared.table_id l.seats 0 l.number;
  len : vec_len l.dealt ≡ vec_len l.initial.dealt + l.number;
  capacity : vec_capacity l.dealt ≡ vec_capacity l.initial.dealt;
}
