use Rattle.bd_calls.proofs.ready.ReadySeats.note.Goals as goal

pub returns-in-OfThread : goal.returns-in-OfThread
returns-in-OfThread c = λ at. rw c.in-OfThread.is (c.note_own.ensures at)

pub returns-in-OfProcess : goal.returns-in-OfProcess
returns-in-OfProcess c = λ at. rw c.in-OfProcess.is (c.note_members.ensures at)
