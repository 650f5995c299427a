-- Whom a step reached, told by the lists that it filled or emptied.
use Rattle.bd_engine.proofs.{Keeping.{after_more}, Words.{AreReached, Bool, Entry, IsNamed, IsReached, List, OfProcess, OfThread, Space, TheseNameAll, TodoList, differs, false, has_work, inl, inr, is_among, is_filled_or_emptied, is_ready, not, opening, refl, space_after, step, subst, sym, true, whom_reached, ℕ, ◌∙◌, ◌≡◌, ◌⊎◌}}
use Rattle.std.specs.Bool.{beq}

differs_unless : (a b : Bool) → differs a b ≡ not (beq a b)
differs_unless true true = refl
differs_unless true false = refl
differs_unless false true = refl
differs_unless false false = refl

module _ (reached : List TodoList) (s z : Space) (seat : ℕ) (are : AreReached reached (has_work s) z) where
  listed : (list : TodoList) → is_filled_or_emptied s z list ≡ true → is_among reached list ≡ true
  listed list e = are list ∙ differs_unless (has_work s list) (has_work z list) ∙ e

  named : IsReached s z seat → IsNamed reached s z seat
  named (inl own) = inl (listed (OfThread seat) own)
  named (inr (inl (a, found, of_process))) = inr (inl (a, found, listed (OfProcess a.process) of_process))
  named (inr (inr ended)) = inr (inr ended)

  as_named : (is_ready z seat ≡ is_ready s seat) ⊎ IsReached s z seat → (is_ready z seat ≡ is_ready s seat) ⊎ IsNamed reached s z seat
  as_named (inl same) = inl same
  as_named (inr r) = inr (named r)

pub these_name_all : TheseNameAll
unfolding space_after
these_name_all h seat x answer reached other apart are =
    let s = space_after h in
    let e : Entry = record { seat = seat; step = x; answer = answer } in
    let more = after_more opening h.entries e in
    let at = subst (AreReached reached (has_work s)) more are in
    subst (λ (z : Space). (is_ready z other ≡ is_ready s other) ⊎ IsNamed reached s z other) (sym more)
    (as_named reached s (step s seat x).space other at (whom_reached h seat x other apart))
