use Rattle.bd_engine.proofs.{Courses.{next_fault, next_read}, Words.{IsNext, length-take-le, subst, sym}}
use Rattle.bd_engine.proofs.write.Progress.next.Goals as goal

pub returns-in-Ok-clause-read : goal.returns-in-Ok-clause-read
returns-in-Ok-clause-read c =
    let next = next_read c.args.stream.now c.args.self.now.consumed _ _ c.requires.more c.in-Ok.ensures.found (sym c.in-Ok.ensures.computed) in
    subst (IsNext c.args.stream.now c.args.self.now.consumed c.in-Ok.command) (sym (length-take-le c.in-Ok.size _ c.in-Ok.ensures.found.within)) next

pub returns-in-Ok-clause-spelled : goal.returns-in-Ok-clause-spelled
returns-in-Ok-clause-spelled c = (c.in-Ok.ensures.found.spelled, c.in-Ok.ensures.found.fits)

pub returns-in-Err-clause-fault : goal.returns-in-Err-clause-fault
returns-in-Err-clause-fault c = next_fault c.args.stream.now c.args.self.now.consumed _ (sym c.in-Err.ensures.computed)
