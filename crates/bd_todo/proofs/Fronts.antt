-- What was taken goes, one after the other.
use Rattle.std.proofs.Common.{◌≡◌, ℕ, zero, suc, ◌≤◌, length, drop, Bool, true, not, ◌&&◌, List, [], ◌∷◌, filter, Option, None, Some, refl, sym, ap, ◌∙◌, arith}
use Rattle.bd_space.specs.{declared.space.Work.{Work}, Words.{is_some_and}, Todo.{is_item, without_taken}}

pub without_taken_cons : (d : Work) (ds ws : List Work) → without_taken (d ∷ ds) ws ≡ without_taken ds (filter (λ w. not (is_item w d)) ws)
without_taken_cons d ds [] = refl
without_taken_cons d ds (w ∷ ws) = grind (arith, without_taken_cons d ds ws)

pub without_taken_none : (ws : List Work) → without_taken [] ws ≡ ws
without_taken_none [] = refl
without_taken_none (w ∷ ws) = ap (λ vs. w ∷ vs) (without_taken_none ws)

pub both_so : (p q : Work → Bool) (o : Option Work) → is_some_and o p ≡ true → is_some_and o q ≡ true → is_some_and o (λ w. p w && q w) ≡ true
both_so p q None h k = h
both_so p q (Some w) h k = grind arith

-- all that was taken is gone
pub taken_all : (ds : List Work) (i : ℕ) (l mid : List Work) → length ds ≤ i → without_taken ds l ≡ without_taken (drop i ds) mid → mid ≡ without_taken ds l
taken_all ds i l mid n h = sym (h ∙ ap (λ xs. without_taken xs mid) (past_end ds i n) ∙ without_taken_none mid)
  where
    past_end : (xs : List Work) (i : ℕ) → length xs ≤ i → drop i xs ≡ []
    past_end [] zero n = refl
    past_end [] (suc i) n = refl
    past_end (x ∷ xs) zero n = absurd (omega arith)
    past_end (x ∷ xs) (suc i) n = past_end xs i (omega arith)
