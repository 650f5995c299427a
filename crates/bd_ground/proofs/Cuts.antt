-- What is taken off a hole or the tail.
use Rattle.std.proofs.Common.{Bool, arith, get_or, length, ℕ, ◌+◌, ◌-◌, ◌<◌, ◌≡◌, ◌≤◌, ◌⊎◌}
use Rattle.bd_ground.specs.{Tiles.{Tiles, hole_at, without}, declared.spans.Spans.{Spans}}

-- a hole loses its first n units
pub record IsCut (t s : Spans) (p n : ℕ) : Type 0 where
  pub tail : s.tail ≡ t.tail
  pub size : s.size ≡ t.size
  pub long : length s.holes ≡ length t.holes
  pub named : length s.begins.items ≡ length t.begins.items
  pub gone : hole_at s p ≡ 0
  pub rest : ((hole_at t p ≡ n) × (hole_at s (p + n) ≡ hole_at t (p + n)))
      ⊎ ((n < hole_at t p) × (hole_at s (p + n) ≡ hole_at t p - n) × (get_or s.begins.items (p + hole_at t p - 1) 0 ≡ p + n))
  pub others : (j : ℕ) → (j ≡ p → ⊥) → (j ≡ p + n → ⊥) → hole_at s j ≡ hole_at t j
  pub names : (j : ℕ) → (j ≡ p + hole_at t p - 1 → ⊥) → get_or s.begins.items j 0 ≡ get_or t.begins.items j 0

module _ (free : ℕ → Bool) (t s : Spans) (p n : ℕ) (is : Tiles free t) (some : 0 < n) (has : n ≤ hole_at t p) (cut : IsCut t s p n) where
  pub tiles_cut : Tiles (without p n free) s
  tiles_cut = search arith

-- what is taken at the tail
pub tiles_grown : (free : ℕ → Bool) (t s : Spans) (n : ℕ) → Tiles free t → 0 < n → t.tail + n ≤ t.size → t.tail + n ≤ length t.holes → t.tail + n ≤ length t.begins.items
    → s ≡ record t { tail = t.tail + n } → Tiles (without t.tail n free) s
tiles_grown free t s n is some fits long named e = search arith
