use Rattle.bd_records.proofs.Words.{Possession, map, ◌++◌, ◌≡◌}
use Rattle.bd_records.proofs.owned.push_ids.Given as goal

abbrev pub invariant-loop-v : goal.invariant-loop-v
invariant-loop-v l =
    l.fn.touched.items ++ map (λ (v : Possession). v.id) l.fn.possessions
    ≡ l.touched.items ++ map (λ v. v.id) l.v-iterator
