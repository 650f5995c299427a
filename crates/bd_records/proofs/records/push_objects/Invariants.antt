use Rattle.bd_records.proofs.Words.{Lying, Reference, map, ◌++◌, ◌≡◌}
use Rattle.bd_records.proofs.records.push_objects.Given as goal

abbrev pub invariant-loop-v : goal.invariant-loop-v
invariant-loop-v l =
    l.fn.touched.items ++ map (λ (r : Reference). r.object) (map (λ (v : Lying). v.reference) l.fn.references)
    ≡ l.touched.items ++ map (λ r. r.object) (map (λ (v : Lying). v.reference) l.v-iterator)
