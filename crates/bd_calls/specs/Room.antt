-- How many things a call table holds and has room for, for what reserves and commits.
use Rattle.std.specs.Prelude.{ℕ, ◌+◌, ◌≤◌}
use Rattle.bd_frames.specs.Room as frames
use Rattle.bd_todo.specs.Stands as todo_table
use Rattle.bd_turns.specs.Room as turns
use Rattle.bd_threads.specs.Room as threads
use Rattle.bd_calls.specs.declared.table.CallTable.{CallTable}

-- so many threads, frames, one-way calls and work items
pub record Room : Type 0 where
  pub threads : ℕ
  pub frames : ℕ
  pub turns : ℕ
  pub works : ℕ

-- room for more of each, and how many there are of those that others count
pub record Rooms : Type 0 where
  pub left : Room
  pub frame_count : ℕ
  pub turn_count : ℕ

unfoldable pub rooms : CallTable → Rooms
rooms t = record {
  left = record {
    threads = threads.thread_room t.threads;
    frames = frames.frame_room t.frames;
    turns = turns.turn_room t.turns;
    works = todo_table.work_room t.todo;
  };
  frame_count = frames.frame_count t.frames;
  turn_count = turns.turn_count t.turns;
}

abbrev pub thread_room : CallTable → ℕ
thread_room t = (rooms t).left.threads

abbrev pub frame_room : CallTable → ℕ
frame_room t = (rooms t).left.frames

abbrev pub turn_room : CallTable → ℕ
turn_room t = (rooms t).left.turns

abbrev pub work_room : CallTable → ℕ
work_room t = (rooms t).left.works

abbrev pub frame_count : CallTable → ℕ
frame_count t = (rooms t).frame_count

abbrev pub turn_count : CallTable → ℕ
turn_count t = (rooms t).turn_count

-- a change takes at most so much room, and adds at most so many frames and one-way calls
pub record Uses (old new : CallTable) (room : Room) : Type 0 where
  pub threads_fit : thread_room old ≤ thread_room new + room.threads
  pub frames_fit : frame_room old ≤ frame_room new + room.frames
  pub turns_fit : turn_room old ≤ turn_room new + room.turns
  pub works_fit : work_room old ≤ work_room new + room.works
  pub frames_count : frame_count new ≤ frame_count old + room.frames
  pub turns_count : turn_count new ≤ turn_count old + room.turns

abbrev pub nothing : Room
nothing = record { threads = 0; frames = 0; turns = 0; works = 0 }

abbrev pub UsesNothing : CallTable → CallTable → Type 0
UsesNothing old new = Uses old new nothing

-- room for a thread, a frame, a one-way call and so many work items, beside those that settling may make, that of a call that
-- ripens, and what a step itself does
pub record HasRoom (t : CallTable) (works : ℕ) : Type 0 where
  pub one_thread : 1 ≤ thread_room t
  pub one_frame : 1 ≤ frame_room t
  pub one_turn : 1 ≤ turn_room t
  pub all_works : works + frame_count t + 9 ≤ work_room t

-- room for so many threads, frames and one-way calls each, and so many work items
pub record HasEach (t : CallTable) (each works : ℕ) : Type 0 where
  pub threads_fit : each ≤ thread_room t
  pub frames_fit : each ≤ frame_room t
  pub turns_fit : each ≤ turn_room t
  pub works_fit : works ≤ work_room t
