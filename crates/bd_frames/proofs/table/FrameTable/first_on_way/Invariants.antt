use Rattle.std.proofs.Common.{◌≡◌, ◌≤◌, Bool, find, reverse, take, vec_len}
use Rattle.bd_space.specs.{declared.space.Frame.{Frame}, Frames.{ancestry}}
use Rattle.bd_keys.specs.Tables.{AnswersBy}
use Rattle.bd_frames.specs.Places.{frames_of, AreRising}
use Rattle.bd_frames.proofs.table.FrameTable.first_on_way.Given as goal

abbrev pub invariant-loop-next : goal.invariant-loop-next
invariant-loop-next g l = record {
  same : l.f ≡ l.fn.f;
  within : l.end ≤ vec_len l.self.rows;
  rest : (q : Frame → Bool) → AnswersBy (λ x b. g.F.Fn.post l.fn.f (x, tt) b) q → AreRising l.self.rows.items
      → find q (ancestry l.fn.from (reverse (frames_of l.self.rows.items)))
      ≡ find q (ancestry l.next (reverse (frames_of (take l.end l.self.rows.items))));
}

abbrev pub decreases-loop-next : goal.decreases-loop-next
decreases-loop-next g l = l.end
