use Rattle.bd_step.proofs.tables.Tables.keep_works.Goals as goal

pub returns-then-capacity-le-KEPT-clause-stands : goal.returns-then-capacity-le-KEPT-clause-stands
returns-then-capacity-le-KEPT-clause-stands c = λ s h. record { own = h.own; objects_stand = h.objects_stand; calls_stand = h.calls_stand; windows_stand = h.windows_stand }
