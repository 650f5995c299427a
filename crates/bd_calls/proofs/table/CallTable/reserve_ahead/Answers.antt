use Rattle.bd_calls.proofs.table.CallTable.reserve_ahead.Goals as goal

pub returns-clause-stands : goal.returns-clause-stands
returns-clause-stands c = λ s stands.
    let now = c.reserve_each.ensures.stands s stands in
    record { threads_are = now.threads_are; frames_are = now.frames_are; todo_are = now.todo_are; turns_are = now.turns_are; ready_are = now.ready_are }
