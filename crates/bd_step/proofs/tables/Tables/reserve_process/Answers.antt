use Rattle.bd_step.proofs.{Words.{Before, ProcessesAre, Space, Tables, Windows, WindowsOf}, Opening.{window_size}}
use Rattle.bd_processes.specs.declared.table.ProcessTable.{ProcessTable}
use Rattle.bd_step.proofs.tables.Tables.reserve_process.Goals as goal

pub new-requires : goal.new-requires
new-requires c = window_size c.args.size c.requires

reserved : (t : Tables) (ps : ProcessTable) (ws : Windows) (s : Space) → Before t s → ProcessesAre ps s.processes → WindowsOf ws s.steps s.processes s.buffers → Before (record t { processes = ps; windows = ws }) s
reserved t ps ws s h p w = record { own = record { steps_are = h.own.steps_are; processes_are = p; manager_is = h.own.manager_is }; objects_stand = h.objects_stand; calls_stand = h.calls_stand; windows_stand = w }

pub returns-clause-stands : goal.returns-clause-stands
returns-clause-stands c = λ s h.
    let kept = c.reserve.ensures.stands s h in
    reserved c.reserve.new.self _ _ s kept (c.reserve-2.ensures.stands s.processes kept.own.processes_are) (c.reserve-3.ensures.stands s kept.windows_stand)

pub returns-in_err-reserve-3-clause-stands : goal.returns-in_err-reserve-3-clause-stands
returns-in_err-reserve-3-clause-stands c = λ s h.
    let kept = c.reserve.ensures.stands s h in
    reserved c.reserve.new.self _ _ s kept (c.reserve-2.ensures.stands s.processes kept.own.processes_are) (c.reserve-3.ensures.stands s kept.windows_stand)

pub returns-in_err-reserve-2-clause-stands : goal.returns-in_err-reserve-2-clause-stands
returns-in_err-reserve-2-clause-stands c = λ s h.
    let kept = c.reserve.ensures.stands s h in
    reserved c.reserve.new.self _ _ s kept (c.reserve-2.ensures.stands s.processes kept.own.processes_are) kept.windows_stand
