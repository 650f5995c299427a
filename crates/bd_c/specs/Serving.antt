-- What C is told of a serve.
use Rattle.std.specs.Prelude.{◌≡◌, ℕ}
use Rattle.bd_driver.specs.declared.outcome.Served.{Served}
use Rattle.bd_driver.specs.declared.outcome.Served.TheVariants as served
use Rattle.bd_c.specs.declared.status.Status.{Status}
use Rattle.bd_c.specs.declared.status.Status.TheVariants.{Done, Taken}

-- each mailbox was tried, and it is told how many had a request; or another seat has the engine, and nothing is told
abbrev pub TellsServed : Served → ℕ → ℕ → Status → Type 0
TellsServed (served.Ran picked) old new s = (s ≡ Done) × (new ≡ picked)
TellsServed served.Taken old new s = (s ≡ Taken) × (new ≡ old)
