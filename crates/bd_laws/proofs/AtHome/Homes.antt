-- For SpacesAreTidy: a buffer that an item on a thread's list hands over is its process's.
use Rattle.bd_laws.proofs.words.Logic.{ℕ, suc, sym, subst, arith}
use Rattle.bd_laws.proofs.words.Types.{Step, Entry}
use Rattle.bd_laws.proofs.words.Space.{Space, opening, change, counted, next}
use Rattle.bd_laws.proofs.words.Laws.{IsInTurn, AtHome}
use Rattle.bd_laws.proofs.Machine.EveryStep.{Keeps, every_step}
use Rattle.bd_laws.proofs.Machine.Steps.{next_steps}
use Rattle.bd_laws.proofs.AtHome.HomesSent.{H, more_h, ripen_h, transacted_h, replied_h}
use Rattle.bd_laws.proofs.AtHome.Later.{later_home, read_later, later_keeps}

step_h : (s : Space) (seat : ℕ) (x : Step) → IsInTurn s → AtHome s → Keeps s seat x (H (suc s.steps)) (H (suc s.steps))
step_h s seat x turns before =
    let n = suc s.steps in
    let h : H n s = more_h s.steps n s (omega arith) before in
    later_keeps s seat x (H n) (later_home n) h (record {
      transacts = λ a d parcel v e i t. transacted_h s a d v before turns;
      replies = λ a d parcel f v e i g t. replied_h s a d parcel f v before turns t;
      reads = λ a limit e i k. later_home n _ s (read_later s a.thread.seat _) h;
      ripens = ripen_h n;
    })

pub next_home : (s : Space) (e : Entry) → IsInTurn s → AtHome s → AtHome (next s e)
unfolding counted
next_home s e turns h =
    subst (λ n. H n (change s e.seat e.step).space) (sym (next_steps s e)) (every_step s e.seat e.step (H (suc s.steps)) (H (suc s.steps)) (step_h s e.seat e.step turns h))

pub opening_home : AtHome opening
opening_home = record { seats = tt; home = λ w t b l on e. absurd l; carried = λ r b q l c. absurd l }
