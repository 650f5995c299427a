-- Threads in rows, in the order in which they came in. A row whose thread has gone is empty.
use Rattle.std.specs.{Prelude.{ℕ, ◌≡◌, ◌==◌, List, Option, Some, None, option_map, slice_index_or}, HashMap.{HashMap, get_by}}
use Rattle.bd_space.specs.{declared.space.Thread.{Thread}, Words.{filter_map}}

-- the threads that are there
abbrev pub live : List (Option Thread) → List Thread
live rows = filter_map (λ row. row) rows

-- whose seat a row is, if it isn't empty
abbrev pub seat_at : List (Option Thread) → ℕ → Option ℕ
seat_at rows i = option_map (λ t. t.seat) (slice_index_or rows i None)

-- what a map has at a seat
abbrev pub place_at : {S : Type 0} → HashMap ℕ ℕ S → ℕ → Option ℕ
place_at places seat = get_by (λ k. seat == k) places

-- each of the two leads back to where the other came from: so no two lead to one, and none to nothing
pub record AreInverse (f g : ℕ → Option ℕ) : Type 0 where
  pub there : (a b : ℕ) → f a ≡ Some b → g b ≡ Some a
  pub back : (b a : ℕ) → g b ≡ Some a → f a ≡ Some b
