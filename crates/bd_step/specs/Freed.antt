-- What follows when a buffer is freed.
use Rattle.std.specs.Prelude.{ℕ, ◌≡◌, List, Option, Some, None, map, filter, option_map, option_and_then}
use Rattle.bd_ways.specs.Words.{Identity, Buffer, Space}
use Rattle.bd_space.specs.References.{is_of_buffer}
use Rattle.bd_space.specs.Returns.{buffer_in}
use Rattle.bd_space.specs.Turns.{turn_of}
use Rattle.bd_ways.specs.Local.{ripen_of, is_among}
use Rattle.bd_laws.specs.Lists.{In}
use Rattle.bd_laws.specs.Tidy.{IsTidy}
use Rattle.bd_step.specs.Following.{AreTouched}

-- the object on which this buffer is a one-way call
abbrev pub turn_target : Option Buffer → Option Identity
turn_target b = option_map (λ t. t.target) (option_and_then turn_of b)

-- the same of the buffer made here
abbrev pub turn_target_at : Space → ℕ → Option Identity
turn_target_at s made = turn_target (buffer_in s.buffers made)

-- the oldest one-way call on the object becomes due, if there is an object
abbrev pub ripen_next : Option Identity → Space → Space
ripen_next None s = s
ripen_next (Some o) s = ripen_of o s

-- what the buffer made here refers to
abbrev pub referred : Space → ℕ → List Identity
referred s made = map (λ r. r.object) (filter (λ r. is_of_buffer made r.holder) s.references)

-- between two steps: this buffer is p's, and these objects are all that it refers to
pub record IsFreeing (p made : ℕ) (os : List Identity) (s : Space) : Type 0 where
  pub tidy : IsTidy s
  pub buffer : Buffer
  pub here : In buffer s.buffers
  pub made_there : buffer.made ≡ made
  pub is_its : buffer.receiver ≡ p
  pub touches : AreTouched (is_among (referred s made)) os
