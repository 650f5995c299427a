use Rattle.std.proofs.Common.{◌≡◌, ◌==◌, ◌&&◌, ℕ, Bool, true, false, cond, Option, Some, None, map, get_or, length, refl, sym, ◌∙◌, subst, eqb-true}
use Rattle.std.proofs.lemmas.List.Elements.{All-map}
use Rattle.std.specs.Prelude.{List, nat_lt}
use Rattle.bd_frames.specs.{declared.frame.Row.{Row}, Words.{left_frame, left_row}, Linked.{IsStack, IsLinked, top_in}}
use Rattle.bd_frames.proofs.{Alike.{left_gone, left_keeps}, Stacking.{mapped}, Standing.{own_rising, own_stack, all_changed}}
use Rattle.bd_frames.proofs.table.FrameTable.leave.Goals as goal

-- whatever bounds its stack
gone : (seat : ℕ) (o : Option ℕ) (rs : List Row) → IsStack seat o (map (left_row seat) rs)
gone seat None rs = tt
gone seat (Some b) rs =
    All-map (IsLinked seat b (map (left_row seat) rs)) (left_row seat) rs
    (λ k d lt part. let no = sym part ∙ left_gone seat (get_or rs k d).frame in absurd (cc no))

forgotten : (seat s : ℕ) (top now : Option ℕ) (rs : List Row) → IsStack s top rs → ((seat == s) ≡ false → now ≡ top) → (b : Bool) → (seat == s) ≡ b
    → IsStack s now (map (left_row seat) rs)
forgotten seat s top now rs st others true e = rw (eqb-true seat s e) (gone s now rs)
forgotten seat s top now rs st others false e =
    subst (λ (o : Option ℕ). IsStack s o (map (left_row seat) rs)) (sym (others e)) (mapped s rs (left_row seat) (left_keeps seat s e) top st)

pub returns-clause-stands : goal.returns-clause-stands
returns-clause-stands c = λ l h.
    let t = c.args.self.now in
    let rs = t.rows.items in
    let seat = c.args.seat in
    all_changed t l h _ (left_frame seat) (left_row seat) (λ x. (refl, refl)) (λ r. refl) (λ r. refl)
    (c.leave_down.ensures.rows (own_rising t l h) (own_stack t l h seat _ c.top_of-top.ensures))
    (λ s. forgotten seat s (top_in t.stacks s) (top_in c.forget.new.self s) rs (h.stacks_are s) (c.forget.ensures.others s) (seat == s) refl)
