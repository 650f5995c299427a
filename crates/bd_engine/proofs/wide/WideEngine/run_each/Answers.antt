use Rattle.bd_engine.proofs.{Commands.{begun, finished_end, finished_fault}, Courses.{course_cut, course_on}, Words.{arith, refl}}
use Rattle.bd_engine.proofs.wide.WideEngine.run_each.Goals as goal

pub commands-init : goal.commands-init
commands-init c = begun _ _ _ _ _ _ _ c.requires.begun.consumed_is c.requires.begun.count_is c.requires.begun.notes_are c.requires.short

pub returns-in-Err : goal.returns-in-Err
returns-in-Err c = finished_fault _ _ _ _ _ _ _ _ c.commands.invariant _ c.commands-test.true c.in-Err.ensures.fault

pub returns-in-Err-prepare : goal.returns-in-Err-prepare
returns-in-Err-prepare c =
    course_cut _ _ _ _ _ _ _ _ _ _ _ c.cut_short.result c.commands.invariant c.in-Ok.ensures.read c.in-Err-prepare.ensures.same refl c.cut_short.ensures (c.without_memory.ensures.full _ _) c.without_memory.ensures.memory

pub returns-in-Err-step_in_place : goal.returns-in-Err-step_in_place
returns-in-Err-step_in_place c =
    let made = c.in-Err-step_in_place.ensures in
    let full = rw c.in-Ok-prepare.ensures.seat at (rw c.in-Ok-prepare.ensures.step at made.full) in
    course_cut _ _ c.step_in_place.new.self _ _ _ _ _ _ _ _ c.cut_short-in-Err-step_in_place.result c.commands.invariant c.in-Ok.ensures.read c.in-Ok-prepare.ensures.same made.err c.cut_short-in-Err-step_in_place.ensures full made.memory

pub returns-in-Stops : goal.returns-in-Stops
returns-in-Stops c = rw c.in-Stops.is at (course_on _ _ _ _ _ _ _ _ _ _ _ _ _ _ c.commands.invariant c.in-Ok.ensures.read c.in-Ok-prepare.ensures.same (c.after.ensures _ c.in-Ok-step_in_place.ensures.brief) c.in-Ok-step_in_place.ensures.answer c.in-Ok-step_in_place.ensures.history c.in-Ok-prepare.ensures.seat c.in-Ok-prepare.ensures.step)

pub returns-in-Refused : goal.returns-in-Refused
returns-in-Refused c = rw c.in-Refused.is at (course_on _ _ _ _ _ _ _ _ _ _ _ _ _ _ c.commands.invariant c.in-Ok.ensures.read c.in-Ok-prepare.ensures.same (c.after.ensures _ c.in-Ok-step_in_place.ensures.brief) c.in-Ok-step_in_place.ensures.answer c.in-Ok-step_in_place.ensures.history c.in-Ok-prepare.ensures.seat c.in-Ok-prepare.ensures.step)

pub commands-preserved : goal.commands-preserved
commands-preserved c = (rw c.in-On.is at (course_on _ _ _ _ _ _ _ _ _ _ _ _ _ _ c.commands.invariant c.in-Ok.ensures.read c.in-Ok-prepare.ensures.same (c.after.ensures _ c.in-Ok-step_in_place.ensures.brief) c.in-Ok-step_in_place.ensures.answer c.in-Ok-step_in_place.ensures.history c.in-Ok-prepare.ensures.seat c.in-Ok-prepare.ensures.step)).0

pub commands-smaller : goal.commands-smaller
commands-smaller c =
    let course = rw c.in-On.is at (course_on _ _ _ _ _ _ _ _ _ _ _ _ _ _ c.commands.invariant c.in-Ok.ensures.read c.in-Ok-prepare.ensures.same (c.after.ensures _ c.in-Ok-step_in_place.ensures.brief) c.in-Ok-step_in_place.ensures.answer c.in-Ok-step_in_place.ensures.history c.in-Ok-prepare.ensures.seat c.in-Ok-prepare.ensures.step) in
    omega (arith, course.1, c.in-Ok.ensures.read.some, c.in-Ok.ensures.read.fits)

pub returns : goal.returns
returns c = finished_end _ _ _ _ _ _ _ _ c.commands.invariant c.commands-test.false
