-- What is given back is one with what is free before and behind it.
use Rattle.std.proofs.{Common.{Bool, arith, false, get_or, inl, inr, length, true, ℕ, ◌+◌, ◌-◌, ◌<◌, ◌∙◌, ◌≡◌, ◌≤◌, ◌⊎◌}, lemmas.Bool.{cases_eq, cases_lt, cases_order}}
use Rattle.bd_ground.specs.{Tiles.{IsCovered, IsHole, Tiles, hole_at, with_span}, declared.spans.Spans.{Spans}}
use Rattle.bd_ground.proofs.{Bits.{with_free, with_in, with_out, with_true}, Tiling.{apart}}

-- where the hole begins that ends at p; where none does, there
pub record IsBegin (t : Spans) (p b : ℕ) : Type 0 where
  pub within : b ≤ p
  pub hole : b < p → hole_at t b ≡ p - b
  pub none : b ≡ p → 0 < p → (i : ℕ) → get_or t.begins.items (p - 1) 0 ≡ i → i < p → hole_at t i ≡ p - i → ⊥

module _ (free : ℕ → Bool) (t : Spans) (p n b : ℕ) (is : Tiles free t) (some : 0 < n) (inside : p + n ≤ t.tail)
    (taken : (u : ℕ) → p ≤ u → u < p + n → free u ≡ false) (begin : IsBegin t p b) where
  -- a hole that begins before the span ends no later than it begins
  ends_by : (i : ℕ) → i < p → 0 < hole_at t i → i + hole_at t i ≤ p
  ends_by i lt pos = let free_there = (is.holes i pos).all_free p in let none = taken p in grind arith

  -- and none begins in it
  none_in : (i : ℕ) → 0 < hole_at t i → p ≤ i → i < p + n → ⊥
  none_in i pos low high = let free_there = (is.holes i pos).all_free i in let none = taken i low high in grind arith

  -- one that ends where it begins is the one that was found
  ends_at : (i : ℕ) → 0 < hole_at t i → i + hole_at t i ≡ p → i ≡ b
  ends_at i pos e = search arith

  -- what is free from where it begins to the span
  free_from : (u : ℕ) → b ≤ u → u < p → free u ≡ true
  free_from u low high = search arith

  -- and what is before it isn't
  not_before : 0 < b → free (b - 1) ≡ false
  not_before first = search arith

  -- a hole that isn't the one that was found ends before the span or begins behind it
  beside : (i : ℕ) → (i ≡ b → ⊥) → 0 < hole_at t i → (i + hole_at t i < b) ⊎ (p + n ≤ i)
  beside i ne pos = grind (arith, cases_lt, none_in, ends_by, ends_at, cases_eq, cases_order, apart)

  -- what comes of it at the tail
  module _ (s : Spans) (at_tail : p + n ≡ t.tail) (size : s.size ≡ t.size) (tail : s.tail ≡ b) (long : length s.holes ≡ length t.holes)
      (same_names : s.begins ≡ t.begins) (gone : hole_at s b ≡ 0) (others : (j : ℕ) → (j ≡ b → ⊥) → hole_at s j ≡ hole_at t j) where
    pub tiles_back : Tiles (with_span p n free) s
    tiles_back =
        let e = is.long in
        record {
          within = omega arith;
          small = omega arith;
          long = omega arith;
          named = rw same_names (omega arith);
          behind = λ u far. (let before = free_from u in let behind = is.behind u in let with = with_free free p n u in let inside = with_in free p n u in grind arith);
          last = λ first. rw tail (with_out free p n (b - 1) (inl (omega arith)) ∙ not_before (omega arith));
          holes = λ i pos. (let was = others i in let h = is.holes i in let side = beside i in grind (arith, with_free, with_out));
          covered = λ u lt f. (let was = with_true free p n u f in let c = is.covered u in grind arith);
        }

  -- and before it
  module _ (s : Spans) (before : p + n < t.tail) (size : s.size ≡ t.size) (tail : s.tail ≡ t.tail) (long : length s.holes ≡ length t.holes)
      (long_names : length s.begins.items ≡ length t.begins.items)
      (made : hole_at s b ≡ p + n - b + hole_at t (p + n)) (gone : hole_at s (p + n) ≡ 0)
      (others : (j : ℕ) → (j ≡ b → ⊥) → (j ≡ p + n → ⊥) → hole_at s j ≡ hole_at t j)
      (name : get_or s.begins.items (p + n + hole_at t (p + n) - 1) 0 ≡ b)
      (names : (j : ℕ) → (j ≡ p + n + hole_at t (p + n) - 1 → ⊥) → get_or s.begins.items j 0 ≡ get_or t.begins.items j 0) where
    -- the new hole ends where something is
    not_behind : free (p + n + hole_at t (p + n)) ≡ false
    not_behind = search arith

    new_end : p + n + hole_at t (p + n) < t.tail
    new_end = let h = is.holes (p + n) in grind arith

    new_free : (u : ℕ) → b ≤ u → u < p + n + hole_at t (p + n) → with_span p n free u ≡ true
    new_free u low high = search arith

    one : IsHole (with_span p n free) s b
    one = grind (arith, new_end, new_free, with_out, not_behind, not_before)

    kept : (i : ℕ) → (i ≡ b → ⊥) → (i ≡ p + n → ⊥) → 0 < hole_at s i → IsHole (with_span p n free) s i
    kept i ne away pos =
        let same = others i ne away in
        let h = is.holes i in
        let side = beside i ne in
        let far = apart free t is (p + n) i in
        let name_there = names (i + hole_at t i - 1) in
        grind (arith, with_free, with_out)

    covered_back : (u : ℕ) → u < s.tail → with_span p n free u ≡ true → IsCovered s u
    covered_back u lt f =
        elim (with_true free p n u f) [
          | inr span ↦ record { first = b; from = omega (arith, span.0); to = omega (arith, span.1) }
          | inl was ↦ (
              let c = is.covered u (omega arith) was in
              elim (cases_eq c.first b) [
                | inl same ↦ (let had = begin.hole in let none = none_in b in record { first = b; from = rw same at c.from; to = grind arith })
                | inr ne ↦ elim (cases_eq c.first (p + n)) [
                  | inl same ↦ (let from = c.from in let to = c.to in record { first = b; from = grind arith; to = grind arith })
                  | inr away ↦ (let same = others c.first ne away in let from = c.from in let to = c.to in record { first = c.first; from = from; to = omega arith })
                ]
              ])
        ]

    pub tiles_given : Tiles (with_span p n free) s
    tiles_given =
        record {
          within = omega arith;
          small = omega arith;
          long = omega arith;
          named = omega arith;
          behind = λ u far. with_free free p n u (is.behind u (omega arith));
          last = λ first. rw tail (with_out free p n (t.tail - 1) (inr (omega arith)) ∙ is.last (omega arith));
          holes = λ i pos. elim (cases_eq i b) [
            | inl same ↦ rw same one
            | inr ne ↦ elim (cases_eq i (p + n)) [ inl here ↦ absurd (let q = rw here at pos in omega arith) | inr away ↦ kept i ne away pos ]
          ];
          covered = covered_back;
        }
