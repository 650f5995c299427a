use Rattle.std.proofs.Common.{rules, ◌≡◌, ◌==◌, ◌-◌, ◌<◌, ℕ, Bool, true, false, not, cond, List, Option, Some, length, get_or, map, refl, subst, ap, sym, ◌∙◌, arith}
use Rattle.std.proofs.{lemmas.Bool.{cond_both}, lemmas.List.{get_or-map, length-map}, lemmas.List.Elements.{All-filter}}
use Rattle.std.specs.List.{count_by, remove}
use Rattle.bd_keys.proofs.Rising.{without, distinct, filter_at, filter_none}
use Rattle.bd_space.specs.{Words.{is_some_and}, Frames.{is_frame, made_of, takes_part}}
use Rattle.bd_frames.specs.{declared.frame.Row.{Row}, Stands.{FramesAre}, Places.{frames_of, place, turned, IsRising, IsAt}}
use Rattle.bd_frames.specs.{Children.{is_child_at, AreChildren}, Linked.{IsStack, AreStacks, top_in}}
use Rattle.bd_frames.proofs.{Places.{rising_rows}, InOrder.{in_order_filter}, Counting.{children_turned}, Stacking.{turns}}
use Rattle.bd_frames.proofs.Standing.{own_rising, nowhere, frames_kept, frames_filtered, count_closed}
use Rattle.bd_frames.proofs.table.FrameTable.close.Goals as goal

pub returns-in-Some-clause-stands : goal.returns-in-Some-clause-stands
returns-in-Some-clause-stands c = λ l h.
    let t = c.args.self.now in
    let rs = t.rows.items in
    let made = c.args.made in
    let i = c.in-Some.i in
    let d = c.index.result.now in
    let r = c.remove-row.result in
    let parent = d.frame.parent in
    let fewer = λ (r : Row). record r { children = r.children - 1 } in
    let ss = map (turned parent fewer) rs in
    let k = without made_of made l in
    let lt = rw c.deref.ensures.value at c.in-Some.ensures.within in
    let at = (rw c.deref.ensures.value at c.in-Some.ensures.found) (own_rising t l h) in
    let rows = c.turn.ensures.rows fewer (λ x y e. search rules) (own_rising t l h) in
    let kept = frames_kept parent fewer (λ r. refl) rs in
    let rises = rising_rows ss (subst (IsRising 0) (sym (kept ∙ h.items_are)) h.in_order.rising) in
    let within : i < length ss = rw length-map lt in
    let there : IsAt made ss (Some i) = λ e.
    ap place (get_or-map (turned parent fewer) rs i d e lt)
    ∙ cond_both (is_some_and parent (λ m. place (get_or rs i d) == m)) (fewer (get_or rs i d)) (get_or rs i d)
    (λ x. place x ≡ place (get_or rs i d)) (λ e. refl) (λ e. refl) ∙ at d in
    let items = c.remove-row.ensures.items ∙ ap (λ zs. remove zs i) rows ∙ sym (filter_at place made ss i (distinct place ss rises) within there) in
    let value = rw rows at c.remove-row.ensures.value in
    let count = λ (m : ℕ). count_closed t l h made i d lt at c.index.ensures (is_child_at m) in
    record {
      items_are = ap frames_of items ∙ frames_filtered (λ f. not (is_frame made f)) ss ∙ ap (without made_of made) (kept ∙ h.items_are);
      in_order = in_order_filter (λ f. not (is_frame made f)) l h.in_order;
      children_are = subst (AreChildren k) (sym items) (All-filter (λ x. not (place x == made))
          (λ r. r.children ≡ count_by (is_child_at (place r)) k) ss
          (children_turned parent fewer l k rs (λ r. refl)
          (λ r e yes. let one = ap {B = ℕ} (λ b. cond b 1 0) yes in omega (arith, e, count (place r), one))
          (λ m no. let none = ap {B = ℕ} (λ b. cond b 1 0) no in omega (arith, count m, none)) h.children_are));
      stacks_are = subst (AreStacks c.pop.new.self) (sym items) (λ s.
          subst (λ m. IsStack s (top_in c.pop.new.self s) (without place m ss)) (ap place value ∙ there r)
          (c.pop.ensures s ss (i, within, sym value)
          (turns s rs parent fewer (λ r part. record { made = refl; part = part; below = refl }) (top_in t.stacks s) (h.stacks_are s))));
    }

pub returns-in_default-clause-stands : goal.returns-in_default-clause-stands
returns-in_default-clause-stands c = λ l h.
    let t = c.args.self.now in
    let none = (rw c.deref.ensures.value at c.in_default.ensures.found) (own_rising t l h) in
    subst (FramesAre t) (sym (filter_none made_of c.args.made l (nowhere t l h c.args.made none))) h
