use Rattle.bd_ground.proofs.Listing.{are_holes}
use Rattle.bd_ground.proofs.spans.Spans.check.Goals as goal

pub returns : goal.returns
returns c = λ free is. are_holes free c.args.self.now is
