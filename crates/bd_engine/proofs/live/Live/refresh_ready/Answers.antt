use Rattle.bd_engine.proofs.{Keeping.{follows_kept}, Words.{Before, Recalls, Tables, refl, space_after, subst, sym, with_calls}}
use Rattle.bd_engine.proofs.live.Live.refresh_ready.Goals as goal

pub returns-clause-follows : goal.returns-clause-follows
returns-clause-follows c = λ h follows.
    let s = space_after h in
    let before = subst (λ (t : Tables). Before t s) (sym c.deref_mut-tables.ensures.value) follows.stands in
    follows_kept h c.args.self.now _ follows refl (with_calls s.steps _ s c.refresh_ready.new.self s.threads s.frames s.todo before (c.refresh_ready.ensures.stands s before.calls_stand))

pub returns-clause-told : goal.returns-clause-told
returns-clause-told c = λ told k. c.refresh_ready.ensures.told told (subst (λ (t : Tables). Recalls t.calls told) (sym c.deref_mut-tables.ensures.value) k)
