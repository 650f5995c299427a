-- Which buffers end by a step, told after the step.
use Rattle.bd_engine.proofs.{Keeping.{after_more}, Words.{Buffer, Entry, HasEndings, History, List, Space, Step, StepAnswer, ap, change, counted, ended_between, extended, filter, is_gone, made_of_buffer, map, opening, refl, space_after, subst, sym, ℕ, ◌∙◌, ◌≡◌}}

after_buffers : (z : Space) → (counted z).buffers ≡ z.buffers
unfolding counted
after_buffers z = refl

-- The buffers that ended, told of the space after the history with this step more.
pub then_ended : (h : History) (seat : ℕ) (x : Step) (answer : StepAnswer) (places kept : List ℕ) → HasEndings places (space_after h) (change (space_after h) seat x).space
    → kept ≡ filter (is_gone (space_after (extended h seat x answer)).buffers) places → kept ≡ ended_between (space_after h) (space_after (extended h seat x answer))
unfolding space_after
then_ended h seat x answer places kept endings is =
    let s = space_after h in
    let z = (change s seat x).space in
    let e : Entry = record { seat = seat; step = x; answer = answer } in
    let same : (space_after (extended h seat x answer)).buffers ≡ z.buffers = ap (λ (y : Space). y.buffers) (after_more opening h.entries e) ∙ after_buffers z in
    is ∙ subst (λ (bs : List Buffer). filter (is_gone bs) places ≡ filter (is_gone bs) (map made_of_buffer s.buffers)) (sym same) endings
