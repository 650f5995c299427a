use Rattle.std.proofs.Common.{◌≡◌, All}
use Rattle.std.proofs.lemmas.List.Elements.{All-nil}
use Rattle.bd_driver.specs.States.{SeatState}
use Rattle.bd_player.proofs.threads.play_at.Goals as goal

pub returns : goal.returns
returns g c =
    let t = g.D.Desk.table c.args.desk.now in
    let home : All (λ (s : SeatState). s.table ≡ t) c.in_ok-home.home.items = rw c.in_ok-home.ensures.items (All-nil (λ (s : SeatState). s.table ≡ t)) in
    c.gather-status.ensures t c.in_ok-workers.ensures home
