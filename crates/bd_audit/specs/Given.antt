-- What the rules give for an entry.
use Rattle.std.specs.Prelude.{ℕ, ◌<◌, ◌≡◌, true, Some, IfSome}
use Rattle.bd_ways.specs.Words.{Entry}
use Rattle.std.specs.List.{slice_get}
use Rattle.bd_space.specs.Histories.{History, space_after, is_at_limit}
use Rattle.bd_space.specs.Steps.{step}
use Rattle.bd_audit.specs.Replays.{beginning}
use Rattle.bd_audit.specs.declared.given.Given.{Given}
use Rattle.bd_audit.specs.declared.given.Given.TheVariants.{Answer, NoStep}

-- after a history: the space's answer, or no step, where a history has no place for one of its seats
abbrev pub IsGivenTo : History → Entry → Given → Type 0
IsGivenTo h e (Answer a) = a ≡ (step (space_after h) e.seat e.step).answer
IsGivenTo h e NoStep = e.seat < h.seats → is_at_limit h e.seat (Some e.step) ≡ true

-- The same is given for the entry at a place, after the entries before it, if one stands there.
abbrev pub IsGivenAt : History → ℕ → Given → Type 0
IsGivenAt h place given = IfSome (slice_get h.entries place) (λ e. IsGivenTo (beginning place h) e given)
