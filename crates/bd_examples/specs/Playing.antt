-- Lists of steps, and of requests, played one after the other from a space.
use Rattle.std.specs.Prelude.{ℕ, List, [], ◌∷◌}
use Rattle.bd_space.specs.declared.step.Step.{Step}
use Rattle.bd_space.specs.declared.step.StepAnswer.{StepAnswer}
use Rattle.bd_space.specs.declared.step.Request.{Request}
use Rattle.bd_space.specs.declared.step.Answer.{Answer}
use Rattle.bd_space.specs.Space.{Space}
use Rattle.bd_space.specs.Steps.{step}
use Rattle.bd_space.specs.Histories.{after}
use Rattle.bd_space.specs.Runs.{run}

-- The answers of these steps, each made by its seat. Below: the space after them.
abbrev pub answers : Space → List (ℕ × Step) → List StepAnswer
answers s [] = []
answers s (x ∷ xs) = let o = step s x.0 x.1 in o.answer ∷ answers o.space xs

abbrev pub ends : Space → List (ℕ × Step) → Space
ends s [] = s
ends s (x ∷ xs) = ends (step s x.0 x.1).space xs

-- The answers of these requests, each with the number of steps that the history has behind it.
abbrev pub runs : Space → List (ℕ × Request) → List (Answer × ℕ)
runs s [] = []
runs s (x ∷ xs) = let r = run s x.0 x.1 in let z = after s r.entries in (r.answer, z.steps) ∷ runs z xs
