-- The holes, read off in the order of units.
use Rattle.std.proofs.{Common.{Bool, List, ap, arith, get_or, length, suc, true, zero, ℕ, [], ◌+◌, ◌<◌, ◌∙◌, ◌∷◌, ◌≡◌, ◌≤◌}, lemmas.Bool.{cases_eq, cases_lt, eq-eqb, ne_eqb}, lemmas.List.{get_or_past}}
use Rattle.bd_ground.specs.{Holes.{AreHoles, Covered, Spaced, holes_in}, Tiles.{Tiles, hole_at}, declared.spans.Spans.{Spans}}
use Rattle.bd_ground.proofs.Tiling.{apart}

module _ (free : ℕ → Bool) (t : Spans) (is : Tiles free t) where
  -- these are the numbers from unit i on
  abbrev Are : List ℕ → ℕ → Type 0
  Are ns i = (j : ℕ) → get_or ns j 0 ≡ hole_at t (i + j)

  rest : (n : ℕ) (ns : List ℕ) (i : ℕ) → Are (n ∷ ns) i → Are ns (i + 1)
  rest n ns i are j = are (suc j) ∙ ap (hole_at t) (omega arith)

  head : (n : ℕ) (ns : List ℕ) (i : ℕ) → Are (n ∷ ns) i → n ≡ hole_at t i
  head n ns i are = are zero ∙ ap (hole_at t) (omega arith)

  spaced_in : (ns : List ℕ) (i low : ℕ) → Are ns i → low ≤ t.tail → ((k : ℕ) → i ≤ k → 0 < hole_at t k → low ≤ k) → Spaced t.tail low (holes_in ns i)
  spaced_in [] i low are le from = le
  spaced_in (n ∷ ns) i low are le from =
      let own = head n ns i are in
      let h = is.holes i in
      let here = from i in
      let skip = spaced_in ns (i + 1) low (rest n ns i are) le (λ k ge pos. from k (omega arith) pos) in
      let next = spaced_in ns (i + 1) (i + n + 1) (rest n ns i are) in
      let far = apart free t is i in
      grind (arith, eq-eqb, ne_eqb)

  only_in : (ns : List ℕ) (i u : ℕ) → Are ns i → Covered t.size t.tail (holes_in ns i) u → free u ≡ true
  only_in [] i u are c = is.behind u c.0
  only_in (n ∷ ns) i u are c = let own = head n ns i are in let next = only_in ns (i + 1) u (rest n ns i are) in let h = is.holes i in grind (arith, cases_eq, eq-eqb, ne_eqb)

  tail_in : (ns : List ℕ) (i u : ℕ) → t.tail ≤ u → u < t.size → Covered t.size t.tail (holes_in ns i) u
  tail_in [] i u from to = (from, to)
  tail_in (n ∷ ns) i u from to = grind (arith, cases_eq, eq-eqb, ne_eqb, tail_in ns (i + 1) u from to)

  hole_in : (ns : List ℕ) (i k u : ℕ) → Are ns i → i ≤ k → k < i + length ns → k ≤ u → u < k + hole_at t k → Covered t.size t.tail (holes_in ns i) u
  hole_in [] i k u are low high from to = absurd (omega arith)
  hole_in (n ∷ ns) i k u are low high from to = let own = head n ns i are in let next = hole_in ns (i + 1) k u (rest n ns i are) in grind (arith, cases_eq, eq-eqb, ne_eqb)

  pub are_holes : AreHoles free t.size t.tail (holes_in t.holes 0)
  are_holes = grind (arith, spaced_in, only_in, cases_lt, tail_in, get_or_past, hole_in)
