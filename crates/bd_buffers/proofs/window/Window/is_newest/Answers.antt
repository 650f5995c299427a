use Rattle.bd_buffers.proofs.Words.{All-map, standing, ◌<◌}
use Rattle.bd_buffers.proofs.Standing.{all_of}
use Rattle.bd_buffers.proofs.window.Window.is_newest.Goals as goal

pub returns : goal.returns
returns c =
    let m = c.self.inside.ground.memory in let rs = c.self.inside.buffers.records in
    rw (← c.self.view_is) (λ t. All-map (λ b. b.made < c.args.made) (standing m) rs (c.is_newest.ensures.0 t), λ all. c.is_newest.ensures.1 (all_of (standing m) (λ b. b.made < c.args.made) rs all))
