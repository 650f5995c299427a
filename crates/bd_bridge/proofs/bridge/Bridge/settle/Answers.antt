use Rattle.std.proofs.Common.{List, [], ap, arith, length, length-append, sym, ◌++◌, ◌∙◌, ◌∷◌, ◌≡◌, refl}
use Rattle.bd_bridge.specs.{Signals.{world_then, answered}, Suspects.{suspects_in}}
use Rattle.bd_bridge.proofs.{Forgetting.{taken, told_rightly}, Signalling.{on_more, on_none}}
use Rattle.bd_bridge.proofs.bridge.Bridge.settle.Goals.{in-Some-look, in_default}
use Rattle.bd_bridge.proofs.bridge.Bridge.settle.Goals as goal

-- what was told isn't nothing
pushed_some : {X : Type 0} (xs new : List X) (x : X) → new ≡ xs ++ x ∷ [] → new ≡ [] → ⊥
pushed_some xs new x is none = let n = ap length (sym is ∙ none) in omega (arith, n, length-append xs (x ∷ []))

pub returns-in-None-clause-settled : goal.returns-in-None-clause-settled
returns-in-None-clause-settled g c = λ so h follows was t w waits. told_rightly _ (c.in-None.ensures.taken t) ((c.loop-look.invariant.on h follows was).watched.informed t w waits)

pub returns-clause-settled : goal.returns-clause-settled
returns-clause-settled g c = λ so h follows was t w waits. told_rightly _ (c.is_empty.ensures.none so t) ((c.loop-look.invariant.on h follows was).watched.informed t w waits)

pub loop-look-preserved : goal.loop-look-preserved
loop-look-preserved g c =
    let inv = c.loop-look.invariant in
    let e = g.E.Engine in
    let now = c.look.new.self in
    let seat = c.in-Some.seat in
    let table = c.loop-look.self.waiters in
    elim c.match-look.branch [
      | in-Some-look w ↦ rw w.signals-is (record {
        room = omega (arith, inv.room, w.push_reserved.ensures.len, w.push_reserved.ensures.capacity);
        capacity = w.push_reserved.ensures.capacity ∙ inv.capacity;
        seats = c.look.ensures.seats ∙ inv.seats;
        progress = λ none. absurd (pushed_some _ _ _ w.push_reserved.ensures.items none);
        on = λ h follows was.
            let on = inv.on h follows was in
            let here = world_then e.has_read h c.loop-look.signals.items in
            let but = taken (e.Sees here) (e.IsOf here) (e.CanRest here) table c.loop-look.self.suspects c.take.new.self c.loop-look.self.resting seat c.in-Some.ensures.taken on.watched in
            let leaves = w.in-Some-look.ensures.told here on.follows but in
            let y = answered e.answer c.look.new.kept w.in-Some-look.signal in
            rw w.push_reserved.ensures.items (rw w.taken.ensures (on_more e.Follows e.Sees e.IsOf e.has_read e.CanWait e.CanRest h _ _ now.engine table now.waiters now.suspects now.resting
            on.had y _ refl (w.in-Some-look.ensures.due here on.follows) w.in-Some-look.ensures.waits leaves));
      })
      | in_default w ↦ rw w.signals-is (record {
        room = omega (arith, inv.room);
        capacity = inv.capacity;
        seats = c.look.ensures.seats ∙ inv.seats;
        progress = λ none. let same = ap suspects_in (w.in_default.ensures.none refl).1 in omega (arith, inv.progress none, c.in-Some.ensures.fewer, same);
        on = λ h follows was.
            let on = inv.on h follows was in
            let here = world_then e.has_read h c.loop-look.signals.items in
            let but = taken (e.Sees here) (e.IsOf here) (e.CanRest here) table c.loop-look.self.suspects c.take.new.self c.loop-look.self.resting seat c.in-Some.ensures.taken on.watched in
            let same = w.in_default.ensures.none refl in
            let leaves = w.in_default.ensures.untold refl here on.follows but in
            on_none e.Follows e.Sees e.IsOf e.has_read e.CanWait e.CanRest h _ _ now.engine table now.waiters now.suspects now.resting
            on.had same.0 (rw same.2 on.follows, leaves);
      })
    ]
