use Rattle.bd_buffers.proofs.Words.{Record, arith, lives, ne_eqb, true, ◌<◌, ◌≡◌}
use Rattle.bd_buffers.proofs.Live.{more_live, pushed_rows}
use Rattle.bd_buffers.proofs.rows.Rows.push.Goals as goal

filled : (r : Record) → 0 < r.size → lives r ≡ true
filled r lt = grind (arith, ne_eqb)

pub invariant_of-self : goal.invariant_of-self
invariant_of-self c =
    rw c.push_reserved.ensures.items (pushed_rows c.self.inside.rows.items c.args.buffer c.self.invariant (filled c.args.buffer c.requires.filled) (rw (← c.self.view_is) at c.requires.newest))

pub returns-clause-records : goal.returns-clause-records
returns-clause-records c = rw (← c.self.view_is, c.push_reserved.ensures.items) (more_live c.self.inside.rows.items c.args.buffer true (filled c.args.buffer c.requires.filled))
