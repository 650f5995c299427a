use Rattle.bd_laws.proofs.Objects.{references_here, names_here}
use Rattle.bd_laws.proofs.Always.{always_tidy}
use Rattle.bd_audit.specs.Laws.{space_at}
use Rattle.bd_audit.specs.Replays.{beginning}
use Rattle.bd_audit.proofs.laws.objects_are_kept.Goals as goal

pub returns : goal.returns
returns c = λ h lawful n. let kept = (always_tidy (beginning n h)).before.objects in (references_here (space_at h n) kept, names_here (space_at h n) kept)
