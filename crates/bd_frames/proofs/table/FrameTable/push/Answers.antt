use Rattle.std.proofs.Common.{rules, ◌≡◌, ◌==◌, ◌+◌, ◌++◌, ◌∷◌, [], ℕ, Bool, true, false, cond, List, length, Option, Some, None, inl, inr, ◌⊎◌, map, min, refl, subst, ap, sym, ◌∙◌, arith, eqb-true}
use Rattle.std.proofs.{lemmas.List.{map-append, length-map}, lemmas.List.Sums.{count_by-le-length}, lemmas.List.Elements.{All-push}}
use Rattle.std.specs.{List.{count_by}, Option.{option_and_then}}
use Rattle.bd_space.specs.{Words.{is_some_and}, Frames.{calls, takes_part}}
use Rattle.bd_frames.specs.{declared.frame.Row.{Row}, Places.{frames_of, place, turned}, Children.{is_child_at, AreChildren}}
use Rattle.bd_frames.specs.Linked.{IsStack, AreStacks, top_in, put_top}
use Rattle.bd_frames.proofs.{InOrder.{in_order_push}, Counting.{count_push, no_child, children_turned}, Alike.{pending_calls}}
use Rattle.bd_frames.proofs.{Stacking.{From, Comes, itself, stays, put_on, turns, covered}, Standing.{own_rising, frames_kept}}
use Rattle.bd_frames.proofs.table.FrameTable.push.Goals as goal

is_seat : (o : Option ℕ) (s : ℕ) → is_some_and o (λ t. t == s) ≡ true → o ≡ Some s
is_seat None s e = absurd (cc)
is_seat (Some t) s e = ap (λ (n : ℕ). Some n) (eqb-true t s e)

-- the rows' stack of a thread, once another row has come
pushed : (s : ℕ) (rs : List Row) (r : Row) (top : Option ℕ) → IsStack s top rs → (takes_part s r.frame ≡ true → calls s r.frame ≡ true) → (b : Bool)
    → calls s r.frame ≡ b
    → (b ≡ true → r.caller ≡ top) → IsStack s (cond b (put_top (place r) top) top) (rs ++ r ∷ [])
pushed s rs r top st own true e links =
    put_on s rs (rs ++ r ∷ []) (place r) top st
    (All-push (λ x. takes_part s x.frame ≡ true → From s rs (rs ++ r ∷ []) x ⊎ Comes s rs (rs ++ r ∷ []) (place r) top x) rs r
    (λ k d lt part. inl (itself s rs k d lt part)) (λ part. inr (refl, rw e (links refl))))
pushed s rs r top st own false e links =
    stays s rs (rs ++ r ∷ []) top st
    (All-push (λ x. takes_part s x.frame ≡ true → From s rs (rs ++ r ∷ []) x) rs r (itself s rs)
    (λ part. let no = sym (own part) ∙ e in absurd (cc no)))

pub returns-clause-stands : goal.returns-clause-stands
returns-clause-stands c = λ l h next.
    let t = c.args.self.now in
    let rs = t.rows.items in
    let x = c.args.frame in
    let more = λ (r : Row). record r { children = min (r.children + 1) 18446744073709551615 } in
    let ss = map (turned x.parent more) rs in
    let r : Row = record { frame = x; caller = c.put-caller.result; server = None; children = 0 } in
    let rows = c.turn.ensures.rows more (λ x y e. search rules) (own_rising t l h) in
    let items = c.push_reserved.ensures.items ∙ ap (λ zs. zs ++ r ∷ []) rows in
    let k = l ++ x ∷ [] in
    let long : length l ≡ length rs = sym (ap length h.items_are) ∙ length-map rs (λ (x : Row). x.frame) in
    record {
      items_are = ap frames_of items ∙ map-append (λ (x : Row). x.frame) ss (r ∷ [])
          ∙ ap (λ fs. fs ++ x ∷ []) (frames_kept x.parent more (λ r. refl) rs ∙ h.items_are);
      in_order = in_order_push l x h.in_order next;
      children_are = subst (AreChildren k) (sym items) (All-push (λ r. r.children ≡ count_by (is_child_at (place r)) k) ss r
          (children_turned x.parent more l k rs (λ r. refl)
          (λ r e yes.
          let one = ap {B = ℕ} (λ b. cond b 1 0) yes in
          let p = is_child_at (place r) in
          omega (arith, e, count_push p l x, one, count_by-le-length p l, long, t.rows.ok.0))
          (λ m no. let none = ap {B = ℕ} (λ b. cond b 1 0) no in omega (arith, count_push (is_child_at m) l x, none)) h.children_are)
          (no_child l x h.in_order next));
      stacks_are = subst (AreStacks c.put-caller.new.self) (sym items) (λ s.
          let top = top_in t.stacks s in
          covered s _ _ (ss ++ r ∷ []) (c.put-caller.ensures.tops s)
          (pushed s ss r top (turns s rs x.parent more (λ r part. record { made = refl; part = part; below = refl }) top (h.stacks_are s))
          (pending_calls s x next.unread) (calls s x) refl
          (λ own. c.put-caller.ensures.below ∙ ap (option_and_then (top_in t.stacks)) (is_seat x.caller s own))));
    }
