use Rattle.bd_step.proofs.{Words.{Before, CanSend, Space, has_number_past_limit, names_go, on_err_weaker, on_ok_weaker, true, with_carried, ◌≡◌}, Deliveries.{known_delivers, known_stands, known_full}}
use Rattle.bd_step.proofs.tables.Tables.deliver_objects.Goals as goal

pub returns-clause-ok : goal.returns-clause-ok
returns-clause-ok c =
    on_ok_weaker {Q = (s : Space) → Before c.args.self.now s → CanSend c.args.delivery.now s → Before (record c.args.self.now { objects = c.deliver.new.self }) (with_carried s c.args.delivery.now)} c.deliver.result
    (λ f s h sends. known_stands c.args.self.now c.deliver.new.self s c.args.delivery.now _ _ _ _ c.receiver.ensures c.made.ensures c.items.ensures c.target.ensures h (f s h.objects_stand
    (known_delivers s c.args.delivery.now _ _ _ _ _ c.made.ensures c.items.ensures c.target.ensures h.own.steps_are h.own.manager_is sends))) c.deliver.ensures.ok

pub returns-clause-full : goal.returns-clause-full
returns-clause-full c =
    on_err_weaker {Q = (s : Space) → Before c.args.self.now s → has_number_past_limit (names_go (with_carried s c.args.delivery.now)).names ≡ true} c.deliver.result
    (λ f s h. known_full s c.args.delivery.now _ _ _ _ c.receiver.ensures c.made.ensures c.items.ensures c.target.ensures (f s h.objects_stand (h.own.steps_are, h.own.manager_is))) c.deliver.ensures.full
