use Rattle.bd_engine.proofs.{Begun.{begins_at}, Words.{Before, Tables, arith, opening, refl, space_after, subst, sym, ◌<◌}}
use Rattle.bd_engine.proofs.live.Live.begun_at.Goals as goal

pub returns-in-Ok-clause-follows : goal.returns-in-Ok-clause-follows
unfolding space_after
returns-in-Ok-clause-follows c =
    let new = c.in-Ok.ensures.follows in
    let stands = subst (λ (t : Tables). Before t opening) (sym c.deref_mut.ensures.value) new.stands in
    let fits : c.args.steps < 18446744073709551616 = omega (arith, c.ranges.steps.fits) in
    begins_at _ c.deref_mut.result.now c.args.seats c.args.steps c.in-Ok.ensures.seats new.some new.few fits stands refl
