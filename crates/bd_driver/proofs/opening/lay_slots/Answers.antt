use Rattle.bd_driver.proofs.Words.{Empty, Home, ap, arith, replicate, ℕ, ◌∙◌, ◌∷◌, ◌≡◌}
use Rattle.bd_driver.proofs.opening.lay_slots.Goals as goal

-- src/opening.rt:67:1
pub returns : goal.returns
returns c =
    let all : c.loop-done.done ≡ c.args.seats = omega (arith, c.loop-done-test.false) in
    c.loop-done.invariant ∙ ap (λ (n : ℕ). Home c.args.engine ∷ replicate n Empty) all
