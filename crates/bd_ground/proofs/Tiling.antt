-- Holes and tail as what is free: which units they have, and where the first n free ones in a row begin.
use Rattle.std.proofs.{Common.{Bool, arith, inl, inr, ℕ, ◌+◌, ◌<◌, ◌≡◌, ◌≤◌}, lemmas.Bool.{cases_lt}}
use Rattle.bd_ground.specs.{Tiles.{Begins, IsLeastRun, IsRun, Tiles, hole_at}, declared.spans.Spans.{Spans}}

module _ (free : ℕ → Bool) (t : Spans) (is : Tiles free t) where
  -- no two holes touch
  pub apart : (i j : ℕ) → 0 < hole_at t i → 0 < hole_at t j → i < j → i + hole_at t i < j
  apart i j a b lt = search arith

  -- a run that begins before the tail lies in a hole
  pub in_a_hole : (n q : ℕ) → 0 < n → IsRun free t.size n q → q < t.tail → (i : ℕ) × (i ≤ q) × (n ≤ hole_at t i) × (i < t.tail)
  in_a_hole n q some run lt = search arith

  pub run_of_hole : (n at : ℕ) → 0 < n → n ≤ hole_at t at → IsRun free t.size n at
  run_of_hole n at some has = search arith

  -- where the least run begins a hole does that has it, or the tail
  pub begins_of_least : (n p : ℕ) → 0 < n → IsLeastRun free t.size n p → Begins t n p
  begins_of_least n p some least =
      let inside = least.run.inside in
      elim (cases_lt p t.tail) [
        | inl lt ↦ (
            let w = in_a_hole n p some least.run lt in
            let back = least.least w.0 (run_of_hole n w.0 some w.2) in
            grind arith)
        | inr le ↦ (let back = least.least t.tail (record { inside = omega arith; all_free = λ u from to. is.behind u from }) in grind arith)
      ]

-- what is so of the same units, told otherwise
pub tiles_same : (f g : ℕ → Bool) (t : Spans) → ((u : ℕ) → f u ≡ g u) → Tiles f t → Tiles g t
tiles_same f g t e is = search arith
