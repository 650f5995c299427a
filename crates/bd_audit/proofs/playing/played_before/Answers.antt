use Rattle.std.proofs.Common.{refl}
use Rattle.bd_audit.proofs.playing.played_before.Goals as goal
