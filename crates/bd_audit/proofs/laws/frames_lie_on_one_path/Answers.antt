use Rattle.bd_audit.proofs.FramesLieOnOnePath.PathLaw.{lie_on_paths}
use Rattle.bd_audit.proofs.laws.frames_lie_on_one_path.Goals as goal

pub returns : goal.returns
returns c = λ h lawful n. lie_on_paths h n
