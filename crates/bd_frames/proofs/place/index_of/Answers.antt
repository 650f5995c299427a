use Rattle.std.proofs.{Common.{rules, tests, ltb, arith}, lemmas.List.Sorted.{IsPartitionPoint-from_clause, IsPartitionedBy-ltb}}
use Rattle.bd_keys.proofs.Rising.{non_decreasing}
use Rattle.bd_frames.specs.{declared.frame.Row.{Row}, Places.{place}}
use Rattle.bd_frames.proofs.{Places.{none_there}, place.index_of.Goals.{else-i-rows-via-then-i-rows+else-rows-i, else-i-rows-via-else-i-rows}}
use Rattle.bd_frames.proofs.place.index_of.Goals as goal

pub returns-else-i-rows-clause-found : goal.returns-else-i-rows-clause-found
returns-else-i-rows-clause-found c = λ r.
    let xs = c.args.rows.now in
    let made = c.args.made in
    none_there xs made c.partition_point-i.result r
    (IsPartitionPoint-from_clause (λ (x : Row). ltb (place x) made) xs _ c.partition_point-i.ensures.partitioned
    (IsPartitionedBy-ltb place xs made (non_decreasing place xs r))
    (λ a b f k. search (rules, tests)))
    (λ h e. elim c.else-i-rows.branch [
      | else-i-rows-via-then-i-rows+else-rows-i w ↦ w.if-rows-i.false (e _)
      | else-i-rows-via-else-i-rows w ↦ let over = w.if-i-rows.false in omega (arith, h, over)
    ])
