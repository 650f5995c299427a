-- Buffers that end by a step.
use Rattle.std.specs.Prelude.{ℕ, ◌≡◌, Bool, List, map, filter, is_none}
use Rattle.bd_ways.specs.Words.{Buffer, Space}
use Rattle.bd_space.specs.Returns.{buffer_in}
use Rattle.bd_buffers.specs.WindowsStand.{made_of_buffer}

-- no live buffer was made there
abbrev pub is_gone : List Buffer → ℕ → Bool
is_gone buffers made = is_none (buffer_in buffers made)

-- where the buffers were made that lived before and no longer do, oldest first
abbrev pub ended_between : Space → Space → List ℕ
ended_between s z = filter (is_gone z.buffers) (map made_of_buffer s.buffers)

-- those of these places where none lives any more are all at which a buffer ended
abbrev pub HasEndings : List ℕ → Space → Space → Type 0
HasEndings places s z = filter (is_gone z.buffers) places ≡ ended_between s z
