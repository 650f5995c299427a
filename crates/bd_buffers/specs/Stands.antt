-- What a window stands for.
use Rattle.std.specs.Prelude.{ℕ, ◌≡◌, ◌+◌, ◌≤◌, Bool, List, Ok}
use Rattle.bd_ways.specs.Words.{Buffer}
use Rattle.bd_space.specs.Windows.{start_for}
use Rattle.bd_buffers.specs.declared.window.Window.{Window}

-- a window of this size with these live buffers
pub record Stands (w : Window) (size : ℕ) (buffers : List Buffer) : Type 0 where
  pub size_is : w.size ≡ size
  pub buffers_are : w.buffers ≡ buffers

-- of every size and live buffers that a window stands for x is what f says
abbrev pub WindowTells : {A : Type 0} → (ℕ → List Buffer → Type 0) → A → (ℕ → List Buffer → A) → Type 0
WindowTells P x f = (size : ℕ) (buffers : List Buffer) → P size buffers → x ≡ f size buffers

-- and f makes of the live buffers those that it stands for then
abbrev pub WindowMakes : (ℕ → List Buffer → Type 0) → (ℕ → List Buffer → Type 0) → (List Buffer → List Buffer) → Type 0
WindowMakes P Q f = (size : ℕ) (buffers : List Buffer) → P size buffers → Q size (f buffers)

-- the window can take a buffer of this size at this place now
unfoldable pub CanHold : Window → Bool → ℕ → ℕ → Type 0
CanHold w one_way size start = start_for w.size w.buffers one_way size ≡ Ok start

-- there is room to note one more buffer, and memory for a buffer of this size at this place
pub record HasBufferRoom (w : Window) (start size : ℕ) : Type 0 where
  pub notes : 1 ≤ w.room
  pub bytes : start + size ≤ w.reach

-- a change takes room to note at most so many buffers
abbrev pub Uses : Window → Window → ℕ → Type 0
Uses old new buffers = old.room ≤ new.room + buffers

abbrev pub UsesNothing : Window → Window → Type 0
UsesNothing old new = old.room ≤ new.room
