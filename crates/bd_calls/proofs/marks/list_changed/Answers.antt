use Rattle.std.proofs.Common.{◌≡◌, ◌∷◌, [], ◌++◌, ◌<◌, ◌+◌, ℕ, suc, List, Bool, true, false, cond, length, get_or, drop, drop-cons, append_assoc, sym, ap, ◌∙◌, arith}
use Rattle.bd_ways.specs.Words.{Work, TodoList}
use Rattle.bd_calls.specs.{declared.marks.Mark.{Mark}, Marks.{is_changed, changed_lists}}
use Rattle.bd_calls.proofs.marks.list_changed.Goals as goal

-- what one mark adds to those that are put there
one_more : (b : Bool) (before : List TodoList) (list : TodoList) (left : List TodoList)
    → (before ++ cond b (list ∷ []) []) ++ left ≡ before ++ cond b (list ∷ left) left
one_more true before list left = append_assoc before (list ∷ []) left
one_more false before list left = append_assoc before [] left

goes_on : (ws : List Work) (ms : List Mark) (i n : ℕ) (d : Mark) (before now : List TodoList) → i < length ms → n ≡ suc i
    → now ≡ before ++ cond (is_changed ws (get_or ms i d)) ((get_or ms i d).list ∷ []) []
    → now ++ changed_lists ws (drop n ms) ≡ before ++ changed_lists ws (drop i ms)
goes_on ws ms i n d before now within next is =
    ap (λ k. now ++ changed_lists ws (drop k ms)) next ∙ ap (λ zs. zs ++ changed_lists ws (drop (suc i) ms)) is
    ∙ one_more (is_changed ws (get_or ms i d)) before (get_or ms i d).list (changed_lists ws (drop (suc i) ms))
    ∙ ap (λ zs. before ++ changed_lists ws zs) (sym (drop-cons ms i d within))

pub loop-mark-preserved : goal.loop-mark-preserved
loop-mark-preserved c =
    let i = c.loop-mark.mark-index in
    record {
      left = λ ws h.
          goes_on ws c.args.marks.now i (i + 1) _ c.loop-mark.reached.items c.push_if_changed.new.reached.items (omega (arith, c.loop-mark-test.true)) (omega arith)
          (c.in_ok-push_if_changed.ensures.listed ws h)
          ∙ c.loop-mark.invariant.left ws h;
      few = omega (arith, c.loop-mark.invariant.few, c.in_ok-push_if_changed.ensures.few);
      room = omega (arith, c.loop-mark.invariant.room, c.in_ok-push_if_changed.ensures.uses);
    }
