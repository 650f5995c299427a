use Rattle.bd_deaths.proofs.Words.{Queued, [], and_parts, is_among, is_armed, is_armed_on, map, object_row, refl, sym, ◌∙◌, ◌∷◌}
use Rattle.bd_deaths.proofs.{Queueing.{queued_there, queued_untold}, Sharing.{shared_same}, Turning.{phases_turned}}
use Rattle.bd_deaths.proofs.table.DeathTable.queue_on.Goals as goal

pub returns-clause-stands : goal.returns-clause-stands
returns-clause-stands c = λ l h.
    phases_turned (is_armed_on (c.args.o ∷ [])) Queued c.args.self.now c.queue_each.new.slots c.args.self.now.cookies l h
    (λ k. c.queue_each.ensures.set k ∙ queued_there c.args.self.now c.args.o l h c.list_on-number.result (sym c.list_on-number.ensures) _ (c.items_on.ensures (map object_row h.entries) h.are.on_objects.holds) k)
    (shared_same c.args.self.now.cookies l (is_armed_on (c.args.o ∷ [])) (λ x. record x { phase = Queued }) (λ k x. refl) (λ k x on. queued_untold k x (and_parts (is_armed x.phase) (is_among (c.args.o ∷ []) x.object) on).0) h.shared)
