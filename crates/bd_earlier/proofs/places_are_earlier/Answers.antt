use Rattle.bd_earlier.proofs.Places.{places_earlier}
use Rattle.bd_earlier.proofs.places_are_earlier.Goals as goal

pub returns : goal.returns
returns c = places_earlier
