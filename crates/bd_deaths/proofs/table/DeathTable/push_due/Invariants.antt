use Rattle.bd_deaths.proofs.Words.{EntriesAre, Entry, Identity, List, is_among, list_any, true, ℕ, ◌||◌, ◌≡◌}
use Rattle.bd_deaths.proofs.Numbering.{is_found}
use Rattle.bd_deaths.specs.Numbers.{has}
use Rattle.bd_deaths.proofs.table.DeathTable.push_due.Given as goal

abbrev pub invariant-loop-o : goal.invariant-loop-o
invariant-loop-o l = record {
  put : (es : List Entry) → EntriesAre l.self es → (n : ℕ) → has l.found.items n ≡ (has l.fn.found.items n || list_any (is_found l.p l.yielded n) es);
  all : (i : Identity) → is_among l.o-iterator i ≡ true → is_among l.initial.o-iterator i ≡ true;
}
