use Rattle.std.proofs.{Common.{◌≡◌, ◌-◌, leb, rules, tests, inl, inr, ap, sym, ◌∙◌, arith}, lemmas.Bool.{cases_lt}, lemmas.List.{get_or_default}}
use Rattle.std.proofs.lemmas.List.Sorted.{IsPartitionPoint-from_clause, IsPartitionedBy-leb}
use Rattle.bd_keys.proofs.Rising.{non_decreasing}
use Rattle.bd_space.specs.Frames.{takes_part}
use Rattle.bd_frames.specs.{declared.frame.Row.{Row}, Places.{place}}
use Rattle.bd_frames.proofs.{Stacking.{none_above}, place.newest_part.Goals.{in-Some, in-None}}
use Rattle.bd_frames.proofs.place.newest_part.Goals as goal

pub loop-from-init : goal.loop-from-init
loop-from-init c =
    let xs = c.args.rows.now in
    elim c.match-bound.branch [
      | in-Some w ↦
          let b = w.in-Some.bound in
          record {
            within = omega (arith, w.from-is, w.partition_point-from.ensures.bound);
            after = λ r st.
                let point = IsPartitionPoint-from_clause (λ (x : Row). leb (place x) b) xs _ w.partition_point-from.ensures.partitioned
                (IsPartitionedBy-leb place xs b (non_decreasing place xs r)) (λ a d f k. search (rules, tests)) in
                rw w.from-is (none_above c.args.seat b xs w.partition_point-from.result point (rw w.in-Some.is at st));
          }
      | in-None w ↦ record { within = omega (arith, w.from-is); after = λ r st k d ge lt. absurd (omega (arith, w.from-is)) }
    ]

pub loop-from-preserved : goal.loop-from-preserved
loop-from-preserved c =
    let inv = c.loop-from.invariant in
    record {
      within = omega (arith, inv.within);
      after = λ r st k d ge lt. elim (cases_lt k c.loop-from.from) [
        | inl low ↦
            let is : k ≡ c.loop-from.from - 1 = omega arith in
            rw is (ap (λ (x : Row). takes_part c.args.seat x.frame)
            (get_or_default c.args.rows.now (c.loop-from.from - 1) d _ (omega (arith, inv.within))) ∙ sym c.takes_part.ensures
            ∙ c.if-takes_part.false)
        | inr high ↦ inv.after r st k d high lt
      ];
    }
