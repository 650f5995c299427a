use Rattle.bd_records.proofs.Words.{Lying, carried_in, length, map, ◌≡◌}
use Rattle.bd_records.proofs.carried.CarriedObjectsIterator.next.Given as goal

abbrev pub invariant-loop-v : goal.invariant-loop-v
invariant-loop-v l =
    carried_in (map (λ (v : Lying). v.reference) l.initial.self-inside.references) l.initial.self-inside.made
    ≡ carried_in (map (λ (v : Lying). v.reference) l.self-inside.references) l.self-inside.made

abbrev pub decreases-loop-v : goal.decreases-loop-v
decreases-loop-v l = length l.self-inside.references
