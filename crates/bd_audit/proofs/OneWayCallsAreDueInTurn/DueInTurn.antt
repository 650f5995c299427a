-- For OneWayCallsAreDueInTurn: one-way calls that are due stand on their receivers' lists, and wait for older ones on their
-- objects.
use Rattle.bd_laws.proofs.Tests.{to_false}
use Rattle.bd_laws.proofs.words.Logic.{arith, ◌≡◌, ℕ, true, sym, subst, list_all, AllPairs, eq-eqb}
use Rattle.bd_laws.proofs.words.Types.{Turn, Work, TodoList, OfProcess}
use Rattle.bd_laws.proofs.words.Space.{Space, same_list, turns_of}
use Rattle.bd_laws.proofs.words.Laws.{In, IsInTurn, Before}
use Rattle.bd_laws.proofs.Lists.{all_in, in_filter_map, pairs_at}
use Rattle.bd_laws.proofs.IsInTurn.Ripening.{turn_parts}
use Rattle.bd_laws.proofs.IsInTurn.InTurn.{Alone, turns_alone, is_call_hands}
use Rattle.bd_audit.specs.Laws.{stands_with_receiver, WaitsFor}

on_process : (l : TodoList) (p q : ℕ) → l ≡ OfProcess p → q ≡ p → same_list l (OfProcess q) ≡ true
on_process l p q e f = subst (λ k. same_list k (OfProcess q) ≡ true) (sym e) (eq-eqb p q (sym f))

on_list : (s : Space) → Before s → (w : Work) (t : Turn) → In w s.todo → In t (turns_of s.buffers) → stands_with_receiver w t ≡ true
on_list s h w t i j = search (arith, in_filter_map, turn_parts, is_call_hands, on_process)

pub on_lists : (s : Space) → Before s → list_all (λ w. list_all (stands_with_receiver w) (turns_of s.buffers)) s.todo ≡ true
on_lists s h = search (arith, all_in, on_list)

pub in_turn : (s : Space) → IsInTurn s → AllPairs (WaitsFor s.todo) (turns_of s.buffers)
in_turn s h i j d lt le out = to_false _ (pairs_at (Alone s.todo) (turns_of s.buffers) (turns_alone s.todo s.buffers h.waits) i j d lt le out)
