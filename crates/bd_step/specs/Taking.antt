-- How a read takes work items off a list.
use Rattle.std.specs.Prelude.{ℕ, ◌≡◌, ◌-◌, List, Some}
use Rattle.bd_ways.specs.Words.{Thread, TodoList, Work, Space}
use Rattle.bd_space.specs.Todo.{list_to_read, work_on}
use Rattle.bd_space.specs.ReadItems.{taken}
use Rattle.bd_space.specs.Returns.{stream_of}
use Rattle.bd_laws.specs.Tidy.{IsTidy}

-- of these work items these are taken, and these are the bytes to be read
pub record AreTaken (s : Space) (limit : ℕ) (list works : List Work) (stream : List ℕ) : Type 0 where
  pub works_are : works ≡ taken s (limit - 4) list
  pub stream_is : stream ≡ stream_of s (taken s (limit - 4) list)

-- between two steps this list is the thread's to read
pub record IsReading (t : Thread) (list : TodoList) (s : Space) : Type 0 where
  pub tidy : IsTidy s
  pub reads : list_to_read s t ≡ work_on s.todo (Some list)
