-- What a call table stands for: the threads, frames, work items and one-way calls of the object space,
-- and what is kept of the seats is so.
use Rattle.std.specs.Prelude.{◌≡◌, List}
use Rattle.bd_ways.specs.Words.{Thread, Frame, Work, Turn, Space}
use Rattle.bd_space.specs.{Turns.{turns_of}, Todo.{has_work_in}}
use Rattle.bd_frames.specs.Stands.{FramesAre}
use Rattle.bd_todo.specs.Stands.{WorksAre}
use Rattle.bd_turns.specs.Stands.{TurnsAre}
use Rattle.bd_threads.specs.Listed.{listed}
use Rattle.bd_calls.specs.{Ready.{AreSeen}, declared.table.CallTable.{CallTable}}

pub record Stands (t : CallTable) (threads : List Thread) (frames : List Frame) (todo : List Work)
    (turns : List Turn) : Type 0 where
  pub threads_are : listed t.threads ≡ threads
  pub frames_are : FramesAre t.frames frames
  pub todo_are : WorksAre t.todo todo
  pub turns_are : TurnsAre t.turns turns
  pub ready_are : AreSeen t.ready threads (has_work_in todo)

abbrev pub StandsFor : CallTable → Space → Type 0
StandsFor t s = Stands t s.threads s.frames s.todo (turns_of s.buffers)
