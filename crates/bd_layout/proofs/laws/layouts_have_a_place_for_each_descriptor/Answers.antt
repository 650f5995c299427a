use Rattle.bd_layout.proofs.Counts.{has_a_place_for_each}
use Rattle.bd_layout.proofs.laws.layouts_have_a_place_for_each_descriptor.Goals as goal

pub returns : goal.returns
returns c = has_a_place_for_each
