-- The test of a map's keys where they are objects' identities. It is `same` of Words, as the impl has it.
use Rattle.std.specs.Prelude.{Bool}
use Rattle.bd_ways.specs.Words.{Identity}
use Rattle.bd_space.specs.contracts.step.IdentityPartialEq.TheImpl as ids

abbrev pub same_id : Identity → Identity → Bool
same_id = (ids.ghosts).eq
