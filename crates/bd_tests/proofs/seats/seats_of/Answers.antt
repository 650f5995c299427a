use Rattle.std.proofs.Common.{◌≡◌, ◌∷◌, All, subst}
use Rattle.std.specs.Vec.Iter.{into_iter_items}
use Rattle.std.proofs.lemmas.List.Elements.{All-head, All-rest, All-push}
use Rattle.bd_tests.proofs.seats.seats_of.Goals as goal

pub loop-part-preserved : goal.loop-part-preserved
loop-part-preserved c =
    let t = c.args.driver.now.table in
    let step = c.in-Some.ensures.steps.0 in
    let rest = into_iter_items c.next.new.self in
    let first = All-head (λ p. p.seat.table ≡ t) c.in-Some.part rest (subst (All (λ p. p.seat.table ≡ t)) step c.loop-part.invariant.0) in (
      All-rest (λ p. p.seat.table ≡ t) c.in-Some.part rest (into_iter_items c.loop-part.part-iterator) step c.loop-part.invariant.0,
      rw c.in_ok-push.ensures.items (All-push (λ s. s.table ≡ t) c.loop-part.seats.items c.in-Some.part.seat c.loop-part.invariant.1 first),
    )
