-- What is told of a process's end, as the work items alone.
use Rattle.std.specs.Prelude.{ℕ, List, fold}
use Rattle.bd_ways.specs.Words.{Work, DeathNotification, OfProcess, Space}
use Rattle.bd_space.specs.declared.space.WorkKind.TheVariants.{Death}
use Rattle.bd_space.specs.Todo.{with_work}

-- a notification makes a work item of the step at this place
abbrev pub owed_death : ℕ → List Work → DeathNotification → List Work
owed_death place todo x = with_work place todo (OfProcess x.process) (Death x.made)

-- the space once these have, in their order
abbrev pub owed : Space → List DeathNotification → Space
owed s due = record s { todo = fold (owed_death s.steps) s.todo due }
