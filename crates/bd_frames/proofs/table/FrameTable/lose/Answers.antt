use Rattle.std.proofs.Common.{Some, refl, rules}
use Rattle.bd_frames.specs.{declared.frame.Row.{Row}, Words.{lost_frame}, Linked.{top_in}}
use Rattle.bd_frames.proofs.{Alike.{lost_keeps}, Stacking.{turns}, Standing.{own_rising, one_changed}}
use Rattle.bd_frames.proofs.table.FrameTable.lose.Goals as goal

pub returns-clause-stands : goal.returns-clause-stands
returns-clause-stands c = λ l h.
    let t = c.args.self.now in
    let made = c.args.made in
    let lost = λ (r : Row). record r { frame = lost_frame r.frame } in
    one_changed t l h _ made lost_frame lost (λ x. (refl, refl)) (λ r. refl) (λ r. refl)
    (c.turn.ensures.rows lost (λ x y e. search rules) (own_rising t l h))
    (λ s. turns s t.rows.items (Some made) lost (lost_keeps s) (top_in t.stacks s) (h.stacks_are s))
