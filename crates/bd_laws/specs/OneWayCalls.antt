-- One-way calls between two steps: whose turn it is, and on which list a call stands.
use Rattle.std.specs.Prelude.{◌≡◌, true, Some, ℕ, List, ◌⊎◌, ◌<◌}
use Rattle.bd_ways.specs.Words.{Identity, Buffer, Work, Turn, OfProcess, Process, Object, same, Space}
use Rattle.bd_space.specs.Todo.{hands_out}
use Rattle.bd_space.specs.Turns.{turn_of}
use Rattle.bd_laws.specs.Lists.{In, Pairs}

-- the buffer is a one-way call's on the object
abbrev pub On : Identity → Buffer → Type 0
On o b = (b.one_way ≡ true) × (b.target ≡ Some o)

-- a work item is there by which the buffer made at m is handed over
abbrev pub Due : List Work → ℕ → Type 0
Due todo m = (w : Work) × In w todo × (hands_out w.kind ≡ Some m)

-- The turn of a buffer's call has come: it was handed out, or an item is to hand it over.
abbrev pub Out : List Work → Buffer → Type 0
Out todo b = (b.handed ≡ true) ⊎ Due todo b.made

-- Both buffers are of one-way calls, on one object.
abbrev pub Rivals : Buffer → Buffer → Type 0
Rivals b c = (t : Turn) × (u : Turn) × (turn_of b ≡ Some t) × (turn_of c ≡ Some u) × (same t.target u.target ≡ true)

-- the later of two buffers waits for the earlier one, where they are rivals
pub record Waits (todo : List Work) (b c : Buffer) : Type 0 where
  pub earlier : b.made < c.made
  pub alone : Out todo c → Rivals b c → ⊥

-- buffers, and what hands them over, are of steps below n, and each waits for those before it
pub record InTurn (n : ℕ) (buffers : List Buffer) (todo : List Work) : Type 0 where
  pub below : (b : Buffer) → In b buffers → b.made < n
  pub fresh : (m : ℕ) → Due todo m → m < n
  pub waits : Pairs (Waits todo) buffers

abbrev pub IsInTurn : Space → Type 0
IsInTurn s = InTurn s.steps s.buffers s.todo

-- an item that hands a one-way call over stands on the list of the process that receives it
abbrev pub OnLists : Space → Type 0
OnLists z = (w : Work) (c : Buffer) (o : Identity) → In w z.todo → hands_out w.kind ≡ Some c.made → In c z.buffers → On o c → w.list ≡ OfProcess c.receiver

-- an object's one-way calls have its owner as their receiver, and one receiver in any case; objects, owners and processes are of
-- earlier steps
pub record Received (s : Space) : Type 0 where
  pub lists : OnLists s
  pub own : (o : Identity) (b : Buffer) (x : Object) → In b s.buffers → On o b → In x s.objects → x.id ≡ o → x.owner ≡ b.receiver
  pub one : (o : Identity) (b c : Buffer) → In b s.buffers → In c s.buffers → On o b → On o c → b.receiver ≡ c.receiver
  pub old : (o : Identity) (b : Buffer) → In b s.buffers → On o b → o.place < s.steps
  pub born : (q : Process) → In q s.processes → q.made < s.steps
  pub owners : (x : Object) → In x s.objects → x.owner < s.steps
