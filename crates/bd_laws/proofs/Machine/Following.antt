-- For every law: a relation of a space to an earlier one that each part of what follows keeps, or each part of an exit, the
-- whole keeps.
use Rattle.bd_laws.proofs.words.Space.{Space, objects_go, names_go, deaths_go, work_goes, notify, follow, thread_goes, seat_of, threads_go, without_process, tell_deaths}
use Rattle.std.proofs.Common.{arith, ℕ, ◌==◌, map, filter}
use Rattle.bd_space.specs.declared.space.Thread.{Thread}
use Rattle.bd_laws.proofs.Lists.{fold_keeps}

-- what holds of the spaces after each of the five parts of what follows
pub record FollowedBy (R : Space → Space → Type 0) : Type 0 where
  pub names : (z : Space) → R (names_go z) z
  pub objects : (z : Space) → R (objects_go z) z
  pub deaths : (z : Space) → R (deaths_go z) z
  pub work : (z : Space) → R (work_goes z) z
  pub notices : (z : Space) → R (notify z) z

module _ (R : Space → Space → Type 0) (trans : (z y x : Space) → R z y → R y x → R z x) where
  pub follow_by : FollowedBy R → (z : Space) → R (follow z) z
  unfolding follow
  follow_by k z = search arith

  -- a process ends: its threads go, then what it has, and deaths are told
  pub ends_by : ((z : Space) (p : ℕ) → R (threads_go z p) z) → ((z : Space) (p : ℕ) → R (without_process z p) z) → ((z : Space) (p : ℕ) → R (tell_deaths z p) z)
      → (z : Space) (p : ℕ) → R (tell_deaths (without_process (threads_go z p) p) p) z
  ends_by threads rest deaths z p = search arith

-- what each thread's going keeps, that of a process's threads keeps
pub threads_keep : (P : Space → Type 0) → ((z : Space) (seat : ℕ) → P z → P (thread_goes z seat)) → (z : Space) (p : ℕ) → P z → P (threads_go z p)
unfolding threads_go
threads_keep P k z p = fold_keeps P thread_goes (map seat_of (filter (λ (t : Thread). t.process == p) z.threads)) (λ y seat l. k y seat) z

-- and what lies between the space before one and that after it, between those before and after all
pub threads_by : (R : Space → Space → Type 0) → ((z : Space) → R z z) → ((z y x : Space) → R z y → R y x → R z x) → ((z : Space) (seat : ℕ) → R (thread_goes z seat) z)
    → (z : Space) (p : ℕ) → R (threads_go z p) z
threads_by R same trans k z p = threads_keep (λ y. R y z) (λ y seat. trans (thread_goes y seat) y z (k y seat)) z p (same z)
