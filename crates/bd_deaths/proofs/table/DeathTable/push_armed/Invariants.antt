use Rattle.bd_deaths.proofs.Words.{is_any_at, is_at, list_any, true, ℕ, ◌||◌, ◌≡◌}
use Rattle.bd_deaths.specs.Numbers.{has}
use Rattle.bd_deaths.proofs.table.DeathTable.push_armed.Given as goal

abbrev pub invariant-loop-w : goal.invariant-loop-w
invariant-loop-w l = record {
  put : (n : ℕ) → (has l.found.items n || list_any (is_at l.self l.p n) l.w-iterator) ≡ (has l.fn.found.items n || list_any (is_at l.self l.p n) l.initial.w-iterator);
  some : list_any (is_any_at l.self l.p) l.w-iterator ≡ true → list_any (is_any_at l.self l.p) l.initial.w-iterator ≡ true;
}
