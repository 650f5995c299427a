-- Work items between two steps: what tells them apart, and where they stand.
use Rattle.std.specs.Prelude.{◌≡◌, true, List, ℕ, ◌<◌, Some}
use Rattle.bd_ways.specs.Words.{Identity, Work, Thread, Reference, Buffer, Carried, OfThread, OfProcess, DeathNotification, Queued, Space}
use Rattle.bd_space.specs.declared.space.WorkKind.TheVariants as work
use Rattle.bd_space.specs.Todo.{is_item, hands_out, notice_of}
use Rattle.bd_laws.specs.Lists.{In, Pairs}

-- no two items of one list have one identity
abbrev pub Distinct : List Work → Type 0
Distinct todo = (v w : Work) → In v todo → In w todo → is_item v w ≡ true → v ≡ w

-- each item was made by an earlier step
abbrev pub Fresh : ℕ → List Work → Type 0
Fresh n todo = (w : Work) → In w todo → w.id.place < n

-- The space's work items are told apart so: none is of a step to come, and no two of one list have one identity.
pub record Told (s : Space) : Type 0 where
  pub fresh : Fresh s.steps s.todo
  pub distinct : Distinct s.todo

-- the two threads have seats of their own
abbrev pub OtherSeat : Thread → Thread → Type 0
OtherSeat t u = t.seat ≡ u.seat → ⊥

-- seat t has a live thread, in whose process's window all references lie that the buffer made at b carries, and which receives it
abbrev pub Home : List Thread → List Reference → List Buffer → ℕ → ℕ → Type 0
Home ts rs bs t b = (u : Thread) × In u ts × (u.seat ≡ t) × ((r : Reference) (q : ℕ) → In r rs → r.holder ≡ Carried b q → u.process ≡ q)
    × ((c : Buffer) → In c bs → c.made ≡ b → u.process ≡ c.receiver)

-- what stands on a thread's list hands over only what its own process receives
pub record Homed (n : ℕ) (ts : List Thread) (rs : List Reference) (bs : List Buffer) (td : List Work) : Type 0 where
  pub seats : Pairs OtherSeat ts
  pub home : (w : Work) (t b : ℕ) → In w td → w.list ≡ OfThread t → hands_out w.kind ≡ Some b → Home ts rs bs t b
  pub carried : (r : Reference) (b q : ℕ) → In r rs → r.holder ≡ Carried b q → b < n

abbrev pub AtHome : Space → Type 0
AtHome s = Homed s.steps s.threads s.references s.buffers s.todo

-- what a buffer carries lies in its receiver's window
abbrev pub AllInWindows : List Reference → List Buffer → Type 0
AllInWindows rs bs = (r : Reference) (c : Buffer) (q : ℕ) → In r rs → In c bs → r.holder ≡ Carried c.made q → c.receiver ≡ q

abbrev pub IsInWindows : Space → Type 0
IsInWindows s = AllInWindows s.references s.buffers

-- Where both items are Notices they are of two objects.
abbrev pub Apart : Work → Work → Type 0
Apart v w = (o : Identity) → notice_of v.kind ≡ Some o → notice_of w.kind ≡ Some o → ⊥

-- of each object there is one Notice at most
abbrev pub Once : List Work → Type 0
Once todo = Pairs Apart todo

-- Where both items tell of a death they are of two notifications.
abbrev pub OtherDeath : Work → Work → Type 0
OtherDeath v w = (n : ℕ) → v.kind ≡ work.Death n → w.kind ≡ work.Death n → ⊥

-- The two notifications were made at two places.
abbrev pub OtherNotification : DeathNotification → DeathNotification → Type 0
OtherNotification x y = x.made ≡ y.made → ⊥

-- while a Death item stands, its notification is queued
abbrev pub AllQueued : List Work → List DeathNotification → Type 0
AllQueued todo deaths = (w : Work) (n : ℕ) (x : DeathNotification) → In w todo → w.kind ≡ work.Death n → In x deaths → x.made ≡ n → x.phase ≡ Queued

-- Each Death item stands on the list of the process that asked for its notification.
abbrev pub AllSit : List Work → List DeathNotification → Type 0
AllSit todo deaths = (w : Work) (n : ℕ) (x : DeathNotification) → In w todo → w.kind ≡ work.Death n → In x deaths → x.made ≡ n → w.list ≡ OfProcess x.process

-- Death items and notifications belong together: of each notification there is one item at most.
pub record Queues (n : ℕ) (todo : List Work) (deaths : List DeathNotification) : Type 0 where
  pub fresh : (x : DeathNotification) → In x deaths → x.made < n
  pub one : Pairs OtherNotification deaths
  pub queued : AllQueued todo deaths
  pub once : Pairs OtherDeath todo
  pub sits : AllSit todo deaths

unfoldable pub IsQueued : Space → Type 0
IsQueued s = Queues s.steps s.todo s.deaths
