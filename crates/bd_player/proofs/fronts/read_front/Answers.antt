use Rattle.std.proofs.Common.{rules, arith, ◌≡◌, ◌-◌, length}
use Rattle.bd_player.proofs.Begun.{reads_on, reads_nothing}
use borrow.Rule.Slice.PartMut.{put_mid}
use Rattle.bd_player.proofs.fronts.read_front.Goals as goal
use Rattle.bd_player.proofs.fronts.read_front.Goals.{in-Ok, in-Err+else-ne}

pub loop-preserved : goal.loop-preserved
loop-preserved g c =
    let xs = c.loop.front in
    let ys = c.read.new.buf in
    let same : length (put_mid c.loop.at (length xs - c.loop.at) xs ys) ≡ length xs = search rules in
    record {
      same = search rules;
      within = elim c.match-read.branch [
        | in-Ok w ↦ (let is = w.at-is in let fits = w.in-Ok.ensures.bound.0 in let long = c.read.auto.buf in let inside = c.loop.invariant.within in omega (arith, is, fits, long, inside, same))
        | in-Err+else-ne w ↦ (let is = w.at-is in let inside = c.loop.invariant.within in omega (arith, is, inside, same))
      ];
      taken = elim c.match-read.branch [
        | in-Ok w ↦ reads_on _ _ _ c.loop.at w.in-Ok.n _ _ xs ys c.loop.invariant.within w.in-Ok.ensures.bound.0 w.at-is c.loop.invariant.taken w.in-Ok.ensures.bytes.0
        | in-Err+else-ne w ↦ reads_nothing _ _ _ c.loop.at _ _ xs ys c.loop.invariant.within w.at-is c.loop.invariant.taken w.in-Err.ensures.bytes
      ];
    }
