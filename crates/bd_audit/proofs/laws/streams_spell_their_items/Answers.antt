use Rattle.bd_audit.proofs.RepliesAreHandedOut.HandedReplies.{spelt}
use Rattle.bd_audit.proofs.laws.streams_spell_their_items.Goals as goal

pub returns : goal.returns
returns c = λ h lawful i stream bytes offsets at. spelt h lawful i stream bytes offsets at
