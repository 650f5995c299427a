use Rattle.bd_deaths.proofs.Words.{YieldsList-at, YieldsList-end, YieldsList-from_first, [], ap, cond, get, list_any, list_any-append, map-id, option_map, queued, refl, subst, sym, ◌==◌, ◌∙◌, ◌∷◌, ◌≡◌}
use Rattle.bd_deaths.proofs.Queueing.{again}
use Rattle.bd_deaths.proofs.phase.queue_each.Goals as goal

pub loop-w-preserved : goal.loop-w-preserved
loop-w-preserved c =
    let inv = c.loop-w.invariant in
    record {
      so_far = λ k. c.queue_at.ensures.set k ∙ ap (λ o. cond (c.in-Some.w.at == k) (option_map queued o) o) (inv.so_far k)
          ∙ again (get c.args.slots.now k) (list_any (λ w. w.at == k) c.loop-w.yielded) (c.in-Some.w.at == k)
          ∙ ap (λ b. cond b (option_map queued (get c.args.slots.now k)) (get c.args.slots.now k)) (sym (list_any-append (λ w. w.at == k) c.loop-w.yielded (c.in-Some.w ∷ [])));
      len = c.queue_at.ensures.len ∙ inv.len;
      capacity = c.queue_at.ensures.capacity ∙ inv.capacity;
    }

pub returns-clause-set : goal.returns-clause-set
returns-clause-set c =
    let road = YieldsList-end (YieldsList-at c.into_iter-w-iterator.ensures.into_iter_gives (YieldsList-from_first (λ x. x) (λ s. s) _ refl))
    c.loop-w.yielded _ c.loop-w.yielded_by _ _ c.in-None.is c.next.ensures.steps in
    let all = sym (map-id c.loop-w.yielded) ∙ road.0 in
    λ k. subst (λ ws. get c.loop-w.slots k ≡ cond (list_any (λ w. w.at == k) ws) (option_map queued (get c.args.slots.now k)) (get c.args.slots.now k)) all (c.loop-w.invariant.so_far k)
