use Rattle.bd_driver.proofs.{Emptied.{emptied, left_after}, Words.{Bool, IsTrue, List, arith, false, slice_index_or, slots_filled, subst, sym, ◌+◌, ◌<◌, ◌∙◌, ◌≡◌, ◌≤◌}}
use Rattle.bd_driver.proofs.closing.drain.Goals as goal

-- src/closing.rt:88:5
pub loop-at-preserved : goal.loop-at-preserved
loop-at-preserved c =
    let i = c.loop-at.invariant in
    let o = c.take.ensures.others in
    let filled = slots_filled c.loop-at.closed.slots in
    record {
      len = o.2 ∙ i.len;
      done = λ k below. subst (λ (l : List Bool). slice_index_or l k false ≡ false) (sym o.1) (emptied filled c.loop-at.at k below i.done);
      left = λ k above within. subst (λ (l : List Bool). IsTrue (slice_index_or l k false)) (sym o.1)
          (left_after filled c.loop-at.at k above (i.left k (omega (arith, above)) (subst (λ n. k < n) o.2 within)));
    }
