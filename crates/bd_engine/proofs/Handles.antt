-- The next handle of the live process with a pid.
use Rattle.bd_engine.proofs.Words.{IsNextHandle, IsNextNumber, None, Option, Process, Some, Space, ap, is_some, named, named_by, named_in, option_and_then, process_with_pid, sym, ℕ, ◌∙◌, ◌≡◌}

by_process : (s : Space) (pid n : ℕ) (q : Process) → Some q ≡ process_with_pid s.processes pid → named_by s pid n ≡ named_in s.names q.made n
unfolding named
by_process s pid n q is = ap (option_and_then (λ (x : Process). named_in s.names x.made n)) (sym is)

pub next_of : (s : Space) (pid from : ℕ) (q : Process) (next : Option ℕ) → Some q ≡ process_with_pid s.processes pid → IsNextNumber s.names q.made from next → IsNextHandle s pid from next
next_of s pid from q None is h = λ n le. by_process s pid n q is ∙ h n le
next_of s pid from q (Some k) is h = (h.0, ap is_some (by_process s pid k q is) ∙ h.1, λ m le lt. by_process s pid m q is ∙ h.2 m le lt)

-- where no process has the pid
pub none_of_nobody : (s : Space) (pid from : ℕ) → None ≡ process_with_pid s.processes pid → IsNextHandle s pid from None
none_of_nobody s pid from is = λ n le. ap (option_and_then (λ (q : Process). named s q.made n)) (sym is)
