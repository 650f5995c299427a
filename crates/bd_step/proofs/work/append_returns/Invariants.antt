use Rattle.bd_step.proofs.Words.{concat, flat_map, map, option_to_list, return_bytes, take, ◌++◌, ◌≡◌}
use Rattle.bd_step.proofs.work.append_returns.Given as goal

abbrev pub invariant-loop-r : goal.invariant-loop-r
invariant-loop-r l = l.out.items ≡ l.fn.out.items ++ concat (map return_bytes (flat_map option_to_list (take l.r-index l.rs)))
