-- For Noticing, and for what SpacesAreTidy knows of death notifications: what is said of work items and notifications, where
-- any may go, plain items come and a missing Notice. Each part of a step keeps it that neither reads nor changes
-- notifications.
use Rattle.bd_laws.proofs.words.Logic.{arith, ◌≡◌, ℕ, Bool, false, List, None, refl, filter}
use Rattle.bd_laws.proofs.words.Types.{TransactionData, Step, Actor, Object, DeathNotification, Work, WorkKind, TodoList, OfThread, OfProcess}
use Rattle.bd_laws.proofs.words.Space.{Space, objects_go, names_go, assign_numbers, closed, with_work, owe, notice_of, death_of, list_to_read, ripen, has_notice_in, deaths_go, work_goes, notify, follow, Delivery, delivered, own_notices, add_buffer, with_carried, refer, make_objects, buffer_of, transacted, call_out, replied, without_buffer, ask, drop_asked, acknowledge, with_looping, read_by, taken, thread_goes, threads_go, without_process, tell_deaths}
use Rattle.bd_space.specs.declared.space.WorkKind.TheVariants as work
use Rattle.bd_laws.proofs.Machine.Adding.{told_keeps, notify_keeps, own_notices_keeps, ripen_keeps}
use Rattle.bd_laws.proofs.Machine.Deaths.{DeathCommands}
use Rattle.bd_laws.proofs.Machine.EveryEnding.{set_up_beside}
use Rattle.bd_laws.proofs.Machine.EveryStep.{Keeps}
use Rattle.bd_laws.proofs.Machine.Following.{threads_keep}

-- An item of this kind is neither a Notice nor of a death.
abbrev pub IsPlain : WorkKind → Type 0
IsPlain kind = (notice_of kind ≡ None) × (death_of kind ≡ None)

pub record Loose (P : List Work → List DeathNotification → Type 0) : Type 0 where
  pub fewer : (keep : Work → Bool) (todo : List Work) (deaths : List DeathNotification) → P todo deaths → P (filter keep todo) deaths
  pub without : (keep : DeathNotification → Bool) (todo : List Work) (deaths : List DeathNotification) → P todo deaths → P todo (filter keep deaths)
  pub push : (place : ℕ) (todo : List Work) (deaths : List DeathNotification) (list : TodoList) (kind : WorkKind) → IsPlain kind → P todo deaths → P (with_work place todo list kind) deaths
  pub notice : (place : ℕ) (todo : List Work) (deaths : List DeathNotification) (list : TodoList) (x : Object) → has_notice_in todo x.id ≡ false → P todo deaths
      → P (with_work place todo list (work.Notice x.id)) deaths

module _ (P : List Work → List DeathNotification → Type 0) (k : Loose P) where
  abbrev pub Says : Space → Type 0
  Says z = P z.todo z.deaths

  pub owe_says : (z : Space) (list : TodoList) (kind : WorkKind) → IsPlain kind → Says z → Says (owe z list kind)
  unfolding owe
  owe_says z list kind = k.push z.steps z.todo z.deaths list kind

  pub follow_says : (z : Space) → Says z → Says (follow z)
  unfolding follow work_goes deaths_go objects_go names_go notify
  follow_says z h =
      let y = deaths_go (objects_go (names_go z)) in
      notify_keeps (λ todo. P todo y.deaths) (work_goes y) (λ todo x l due. k.notice z.steps todo y.deaths (OfProcess x.owner) x due.1)
      (k.fewer _ z.todo y.deaths (k.without _ z.todo z.deaths h))

  ripen_says : (z : Space) → Says z → Says (ripen z)
  unfolding ripen
  ripen_says z = ripen_keeps (λ todo. P todo z.deaths) z (λ todo t. k.push z.steps todo z.deaths (OfProcess t.receiver) (work.Call t.made) (refl, refl))

  delivered_says : (s : Space) (a : Actor) (d : TransactionData) (v : Delivery) → Says s → Says (delivered s a d v)
  unfolding delivered own_notices add_buffer with_carried assign_numbers refer make_objects
  delivered_says s a d v =
      own_notices_keeps (λ todo. P todo s.deaths) (add_buffer (with_carried s v) (buffer_of (with_carried s v) a d v)) a.thread.seat v.sending.items
      (λ todo o. k.fewer _ todo s.deaths) (λ todo x due. k.notice s.steps todo s.deaths (OfThread a.thread.seat) x due.1)

  goes_says : (z : Space) (seat : ℕ) → Says z → Says (thread_goes z seat)
  unfolding thread_goes
  goes_says z seat = search arith

  exits_says : (z : Space) (p : ℕ) → Says z → Says (without_process (threads_go z p) p)
  unfolding without_process
  exits_says z p h = k.fewer _ _ _ (k.without _ _ _ (threads_keep Says goes_says z p h))

  -- where the parts that read and change notifications are told by themselves
  pub keeps_says : (s : Space) (seat : ℕ) (x : Step) → Says s → DeathCommands s Says → ((a : Actor) (left : ℕ) → Says (read_by s a.thread.seat (taken s left (list_to_read s a.thread))))
      → ((z : Space) (p : ℕ) → Says z → Says (tell_deaths z p)) → Keeps s seat x Says Says
  unfolding closed without_buffer ask assign_numbers drop_asked acknowledge with_looping call_out transacted replied
  keeps_says s seat x h deaths reads tells =
      let seated = set_up_beside s seat Says (λ qs ts os rs m. h) in
      search (arith, delivered_says, told_keeps, goes_says, exits_says, ripen_says, follow_says, owe_says)
