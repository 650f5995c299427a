-- Room for the entry of a step.
use Rattle.std.specs.Prelude.{ℕ, ◌+◌, ◌≤◌, length}
use Rattle.bd_ways.specs.Words.{StepAnswer}
use Rattle.bd_spelling.specs.Spelling.{IsBlock, IsAnswer, answer_bytes}

-- a journal spells the answer, and so many bytes have room for it behind those of a step: a seat, two lengths, and both spellings
abbrev pub HasRoom : ℕ → ℕ → StepAnswer → Type 0
HasRoom room step answer = IsAnswer answer × IsBlock (answer_bytes answer) × (12 + step + length (answer_bytes answer) ≤ room)
