use Rattle.bd_step.proofs.tables.Tables.take_works.Goals as goal

pub returns-clause-stands : goal.returns-clause-stands
returns-clause-stands c = λ s h. record { own = h.own; objects_stand = h.objects_stand; calls_stand = h.calls_stand; windows_stand = h.windows_stand }
