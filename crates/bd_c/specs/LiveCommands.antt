-- A command that C gives to a live engine, as a step.
use Rattle.std.specs.Prelude.{◌≡◌, ◌⊎◌, ℕ, List, Option, Some, None, if◌then◌else◌}
use Rattle.bd_uapi.specs.declared.command.Command.{Command}
use Rattle.bd_codec.specs.Spelling.{command_bytes, IsCommand}
use Rattle.bd_spelling.specs.Spelling.{carries}
use Rattle.bd_space.specs.declared.step.Parcel.{Parcel}
use Rattle.bd_space.specs.declared.step.Step.{Step}
use Rattle.bd_space.specs.declared.step.Step.TheVariants as step_of
use Rattle.bd_c.specs.declared.answers.Told.{Told}
use Rattle.bd_c.specs.declared.held.Held.{Held}
use Rattle.bd_c.specs.declared.status.Status.{Status}
use Rattle.bd_c.specs.declared.status.Status.TheVariants.{NoCommand}
use Rattle.bd_c.specs.Lives.{StepsAt}

-- a transaction or reply gets what is given as its parcel, and no other command does, so that each entry has a spelling
abbrev pub parcel_given : Command → List ℕ → List ℕ → Option Parcel
parcel_given c bytes offsets = if carries c then Some (record { bytes = bytes; offsets = offsets }) else None

-- the bytes are all of this command's
abbrev pub IsCommandOf : List ℕ → Command → Type 0
IsCommandOf command c = IsCommand c × (command ≡ command_bytes c)

abbrev pub IsNoCommand : List ℕ → Type 0
IsNoCommand command = (c : Command) → IsCommandOf command c → ⊥

-- the step of a command with what is given
abbrev pub step_given : Command → List ℕ → List ℕ → Step
step_given c bytes offsets = step_of.Command c (parcel_given c bytes offsets)

-- the command's step was asked for, or there is no command, and nothing was done
abbrev pub Commands : Option Held → Option Held → ℕ → List ℕ → List ℕ → List ℕ → Status → Told → Told → Type 0
Commands h k seat command bytes offsets s a b =
    ((s ≡ NoCommand) × IsNoCommand command × (k ≡ h) × (b ≡ a))
    ⊎ ((c : Command) × IsCommandOf command c × StepsAt h k seat (step_given c bytes offsets) a b s)
