use Rattle.std.proofs.Common.{◌≡◌, Some}
use Rattle.std.proofs.lemmas.List.Elements.{All-pop}
use Rattle.bd_tests.proofs.hand_over.next.Goals as goal

pub returns-in-Some-clause-seat : goal.returns-in-Some-clause-seat
returns-in-Some-clause-seat c = (All-pop (λ s. s.table ≡ c.args.driver.now.table) _ _ (Some c.in-Some.seat) c.in-Some.ensures.items c.requires).1

pub returns-in-Some-clause-others : goal.returns-in-Some-clause-others
returns-in-Some-clause-others c = (All-pop (λ s. s.table ≡ c.args.driver.now.table) _ _ (Some c.in-Some.seat) c.in-Some.ensures.items c.requires).0
