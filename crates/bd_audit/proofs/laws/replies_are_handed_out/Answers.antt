use Rattle.bd_audit.proofs.RepliesAreHandedOut.HandedReplies.{handed_out}
use Rattle.bd_audit.proofs.laws.replies_are_handed_out.Goals as goal

pub returns : goal.returns
returns c = λ h lawful i stream bytes offsets at. handed_out h lawful i stream bytes offsets at
