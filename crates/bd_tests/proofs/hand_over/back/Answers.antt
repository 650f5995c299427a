use Rattle.std.proofs.Common.{◌≡◌}
use Rattle.std.proofs.lemmas.List.Elements.{All-push, All-same}
use Rattle.bd_tests.proofs.hand_over.back.Goals as goal

pub returns : goal.returns
returns c = All-same (λ s. s.table ≡ c.args.driver.now.table) _ _ c.in_ok-push.ensures.items (All-push (λ s. s.table ≡ c.args.driver.now.table) _ _ c.requires.seats c.requires.seat)
