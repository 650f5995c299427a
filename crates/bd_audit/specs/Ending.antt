-- In which order the calls of a thread end.
use Rattle.std.specs.Prelude.{ℕ, ◌≡◌, true, false, ◌&&◌, Some}
use Rattle.bd_ways.specs.Words.{list_any, Entry, Space}
use Rattle.bd_space.specs.Frames.{calls, is_frame}
use Rattle.bd_space.specs.Histories.{History, IsHistory, next}
use Rattle.bd_audit.specs.Replies.{thread_made, At}
use Rattle.bd_audit.specs.Latest.{IsLatest}

-- the step closes the frame made at j, a call of the thread made at m, which lives on
pub record EndsCall (s : Space) (e : Entry) (j m : ℕ) : Type 0 where
  pub seat : ℕ
  pub stands : list_any (λ g. is_frame j g && calls seat g) s.frames ≡ true
  pub lives : thread_made s seat ≡ Some m
  pub lives_on : thread_made (next s e) seat ≡ Some m
  pub closes : list_any (is_frame j) (next s e).frames ≡ false

-- a step ends, of the open calls of a thread that lives on, the latest only
abbrev pub CallsEndLatestFirst : Type 0
CallsEndLatestFirst = (h : History) → IsHistory h → (i j m : ℕ) → At h.entries i (λ z e. EndsCall z e j m) → At h.entries i (λ z e. IsLatest z j m)
