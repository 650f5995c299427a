use Rattle.bd_buffers.proofs.Words.{All-filter, Record, Some, length, lives, lt-ltb, ltb-true, newest_all, slice_get, sym, ◌-◌, ◌<◌, ◌≡◌}
use Rattle.bd_buffers.proofs.Live.{last_below}
use Rattle.bd_buffers.proofs.rows.Rows.is_newest.Goals as goal

pub returns-in-Some : goal.returns-in-Some
returns-in-Some c =
    let rows = c.self.inside.rows.items in
    let last : slice_get rows (length rows - 1) ≡ Some c.in-Some.r.now = sym (rw c.deref.ensures.value at c.in-Some.ensures.value) in
    rw (← c.self.view_is) (
      λ t. All-filter lives (λ b. b.made < c.args.made) rows (newest_all (λ (r : Record). r.made) rows c.in-Some.r.now c.args.made c.self.invariant.in_order last (ltb-true _ _ t)),
      λ all. lt-ltb _ _ (last_below rows c.in-Some.r.now c.args.made c.self.invariant last all),
    )
