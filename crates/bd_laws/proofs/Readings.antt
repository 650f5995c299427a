-- ItemsAreToldApart itself (`always-distinct`); and for the engine, by FollowingIsLocal: after a reading only the objects of
-- its Notices need a look.
use Rattle.bd_laws.proofs.words.Space.{Space, list_to_read, follow, read_by, taken, is_told_by, History, space_after, no_name, follow_of}
use Rattle.std.proofs.Common.{◌≡◌, ℕ}
use Rattle.bd_space.specs.declared.space.Thread.{Thread}
use Rattle.bd_laws.proofs.words.Laws.{Distinct, IsTidy}
use Rattle.bd_laws.proofs.FollowingIsLocal.Taking.{read_local}
use Rattle.bd_laws.proofs.Always.{always_tidy}

-- no two work items of one list have one identity
pub always_distinct : (h : History) → Distinct (space_after h).todo
always_distinct h = (always_tidy h).told.distinct

pub tidy_read_local : (s : Space) (t : Thread) (seat left : ℕ) → IsTidy s
    → follow (read_by s seat (taken s left (list_to_read s t))) ≡ follow_of no_name (is_told_by (taken s left (list_to_read s t))) (read_by s seat (taken s left (list_to_read s t)))
tidy_read_local s t seat left h = read_local s t seat left h.quiet h.told.distinct
