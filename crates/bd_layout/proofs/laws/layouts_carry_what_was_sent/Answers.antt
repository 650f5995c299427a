use Rattle.bd_layout.proofs.Carries.{carries_what_was_sent}
use Rattle.bd_layout.proofs.laws.layouts_carry_what_was_sent.Goals as goal

pub returns : goal.returns
returns c = carries_what_was_sent
