-- The numbers of the lists, by list.
use Rattle.std.specs.{Prelude.{ℕ, nat_lt, List, length, Option, Some, None, cond, get_or}, HashMap.{HashMap, get_by}}
use Rattle.bd_ways.specs.Words.{TodoList, OfThread, OfProcess}
use Rattle.bd_todo.specs.{declared.heads.ListKey.{ListKey}, declared.heads.Heads.{Heads}, Keys.{same_key, list_key}}

-- the row of a thread's list, of so many rows
abbrev pub row_of : ℕ → TodoList → Option ℕ
row_of n (OfThread t) = cond (nat_lt t n) (Some t) None
row_of n (OfProcess p) = None

-- by its row, or by its key
abbrev pub head_by : {S : Type 0} → List (Option ℕ) → HashMap ListKey ℕ S → TodoList → Option ℕ → Option ℕ
head_by threads others l None = get_by (same_key (list_key l)) others
head_by threads others l (Some i) = get_or threads i None

unfoldable pub head_at : Heads → TodoList → Option ℕ
head_at h l = head_by h.threads h.others.all l (row_of (length h.threads) l)
