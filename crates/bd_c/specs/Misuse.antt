-- What a call comes to that was given what it isn't for.
use Rattle.std.specs.Prelude.{◌≡◌, ℕ, Option}
use Rattle.bd_c.specs.declared.held.Held.{Held}
use Rattle.bd_c.specs.declared.status.Status.TheVariants.{Misuse}
use Rattle.bd_c.specs.Status.{number_of}

-- The call answers that it was misused, and what is behind the handle stays.
abbrev pub IsMisuse : ℕ → Option Held → Option Held → Type 0
IsMisuse n h k = (n ≡ number_of Misuse) × (k ≡ h)
