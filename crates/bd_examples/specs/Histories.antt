-- Histories: steps written beside the answers that the rules give.
use Rattle.std.specs.Prelude.{ℕ, ◌≡◌, List, [], ◌∷◌, ◌++◌, map}
use Rattle.bd_space.specs.declared.step.StepAnswer.{StepAnswer}
use Rattle.bd_space.specs.declared.step.StepAnswer.TheVariants.{Opened, Set, Accepted}
use Rattle.bd_space.specs.declared.step.Step.{Step}
use Rattle.bd_space.specs.declared.step.Step.TheVariants.{Open, SetManager}
use Rattle.bd_space.specs.Space.{opening}
use Rattle.bd_examples.specs.Playing.{answers}
use Rattle.bd_examples.specs.Script.{enter}

abbrev pub History : Type 0
History = List (ℕ × Step × StepAnswer)

-- A seat's step without its answer; below, the answer alone.
abbrev pub asked : ℕ × Step × StepAnswer → ℕ × Step
asked x = (x.0, x.1)

abbrev pub given : ℕ × Step × StepAnswer → StepAnswer
given x = x.2

-- From the empty space on, the steps of the history get the answers that are written beside them.
abbrev pub Stands : History → Type 0
Stands history = answers opening (map asked history) ≡ map given history

-- A process opens with the least window, 4096 bytes, and its thread enters the loop.
abbrev pub server_opens : ℕ → ℕ → ℕ → History
server_opens seat pid euid = (seat, Open pid euid 4096, Opened) ∷ (seat, enter, Accepted) ∷ []

-- A process opens so at seat 0, with user id 0, and becomes the manager.
abbrev pub manager_opens : ℕ → History
manager_opens pid = server_opens 0 pid 0 ++ (0, SetManager, Set) ∷ []
