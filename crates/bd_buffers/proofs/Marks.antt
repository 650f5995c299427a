-- Windows stay where a process asks for reports of flooding, or no longer.
use Rattle.bd_buffers.proofs.Words.{All-weaker, AreMade, Bool, Buffer, List, Process, Space, StandsIn, Windows, WindowsOf, arith, changed, detecting, lives_in, map, refl, window_of, with_spam_detection, ℕ, [], ◌+◌, ◌==◌, ◌∷◌, ◌≡◌}
use Rattle.bd_buffers.proofs.Made.{All_changed, pairs_changed}

module _ (m : Process → Bool) (on : Bool) where
  windows_marked : (bs : List Buffer) (ps : List Process) → map (window_of bs) (changed m (detecting on) ps) ≡ map (window_of bs) ps
  windows_marked bs [] = refl
  windows_marked bs (q ∷ ps) = grind (arith, windows_marked bs ps)

  lives_marked : (ps : List Process) (r : ℕ) → lives_in (changed m (detecting on) ps) r ≡ lives_in ps r
  lives_marked [] r = refl
  lives_marked (q ∷ ps) r = grind (arith, lives_marked ps r)

  made_marked : (bound : ℕ) (ps : List Process) (bs : List Buffer) → AreMade bound ps bs → AreMade bound (changed m (detecting on) ps) bs
  made_marked bound ps bs is = search (arith, pairs_changed, All_changed, All-weaker, lives_marked)

  -- for any such change of the processes
  pub marked : (t : Windows) (bound : ℕ) (ps : List Process) (bs : List Buffer) → WindowsOf t bound ps bs → WindowsOf t bound (changed m (detecting on) ps) bs
  marked t bound ps bs is = search (arith, windows_marked, made_marked)

-- within a step
pub stands_marked : (t : Windows) (s : Space) (p : ℕ) (on : Bool) → StandsIn t s → StandsIn t (with_spam_detection s p on)
unfolding with_spam_detection
stands_marked t s p on is = marked (λ q. q.made == p) on t (s.steps + 1) s.processes s.buffers is
