use Rattle.bd_audit.proofs.Judged.{told}
use Rattle.bd_audit.proofs.judge.Judge.stopped.Goals as goal

pub returns : goal.returns
returns c = λ h seen. told c.args.self.now.live c.args.self.now.stopped h seen
