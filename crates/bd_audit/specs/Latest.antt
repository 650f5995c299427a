-- Which call a reply answers: the latest of the calls of the thread that reads it whose answer isn't read yet.
use Rattle.std.specs.Prelude.{ℕ, ◌≡◌, ◌<◌, ◌==◌, ◌⊎◌, Bool, true, false, not, ◌&&◌, ◌||◌, nat_le, List, [], ◌∷◌, Some, is_none, if◌then◌else◌}
use Rattle.bd_ways.specs.Words.{list_any, list_all, Entry, Work, WorkKind, Space}
use Rattle.bd_space.specs.declared.space.WorkKind.TheVariants as work
use Rattle.bd_space.specs.Frames.{calls, is_frame}
use Rattle.bd_space.specs.Histories.{History, IsHistory, next}
use Rattle.bd_todo.specs.TodoList.{reply_of}
use Rattle.bd_audit.specs.Replies.{thread_made, items_taken, reply_taken_at, call_answered, Calls, At}

-- of the open calls of the thread made at m, the one made at c is the latest
pub record IsLatest (s : Space) (c m : ℕ) : Type 0 where
  pub seat : ℕ
  pub lives : thread_made s seat ≡ Some m
  pub stands : list_any (λ g. is_frame c g && calls seat g) s.frames ≡ true
  pub latest : list_all (λ g. not (calls seat g) || nat_le g.made c) s.frames ≡ true

-- ---- how a call ends

-- the step closes the frame made at j
pub record Closes (s : Space) (e : Entry) (j : ℕ) : Type 0 where
  pub stood : list_any (is_frame j) s.frames ≡ true
  pub goes : list_any (is_frame j) (next s e).frames ≡ false

-- a reply or a verdict: what a thread reads of a call of its own that has ended
abbrev pub is_answer : WorkKind → Bool
is_answer (work.Reply b) = true
is_answer (work.Verdict r) = true
is_answer _ = false

-- The work item is such an answer, and the step at d made it.
abbrev pub is_answer_of : ℕ → Work → Bool
is_answer_of d w = is_answer w.kind && (w.id.place == d)

-- the thread made at m reads what it was told by the step at d
pub record ReadsAnswer (s : Space) (e : Entry) (d m : ℕ) : Type 0 where
  pub by : thread_made s e.seat ≡ Some m
  pub taken : list_any (is_answer_of d) (items_taken s e.seat e.step) ≡ true

-- of the items that a reading takes, those before the reply
abbrev pub before_reply : List Work → List Work
before_reply [] = []
before_reply (w ∷ ws) = if is_none (reply_of w.kind) then (w ∷ before_reply ws) else []

-- the call made at j ended before the reply at w was made; what its thread, made at m, was told of that was read before
-- this reply: by an earlier reading, or earlier by the one at s
pub record Ended (es : List Entry) (s w j m : ℕ) : Type 0 where
  pub made : j < w
  pub closed : ℕ
  pub closed_first : closed < w
  pub closes : At es closed (λ z e. Closes z e j)
  pub told : ((r : ℕ) × (closed < r) × (r < s) × At es r (λ z e. ReadsAnswer z e closed m))
      ⊎ At es s (λ z e. list_any (is_answer_of closed) (before_reply (items_taken z e.seat e.step)) ≡ true)

-- ---- the law

-- the reading at s takes the reply made at w: the call that it answers was the latest open one of the thread that reads
-- when the reply was made; each later call of that thread, up to the reading, had ended, and what the thread was told of
-- that was read before; and of the call itself it had read nothing before
pub record AnswersLatest (h : History) (s w : ℕ) : Type 0 where
  pub call : ℕ
  pub caller : ℕ
  pub answers : call_answered h s ≡ Some call
  pub read : At h.entries s (λ z e. thread_made z e.seat ≡ Some caller)
  pub replied : At h.entries w (λ z e. IsLatest z call caller)
  pub ended : (j : ℕ) → call < j → j < s → At h.entries j (λ z e. Calls z e caller) → Ended h.entries s w j caller
  -- of the call itself, which the step at w ended, nothing was read before this reply: by no earlier reading, and no earlier by this one
  pub unanswered : (r : ℕ) → r < s → At h.entries r (λ z e. ReadsAnswer z e w caller) → ⊥
  pub first : At h.entries s (λ z e. list_any (is_answer_of w) (before_reply (items_taken z e.seat e.step)) ≡ false)

abbrev pub RepliesAnswerTheLatestOpenCall : Type 0
RepliesAnswerTheLatestOpenCall = (h : History) → IsHistory h → (s w : ℕ) → reply_taken_at h s ≡ Some w → AnswersLatest h s w
