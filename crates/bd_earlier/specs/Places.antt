-- Of which steps the things are that a space names.
use Rattle.std.specs.Prelude.{◌≡◌, ◌<◌, ℕ, Some}
use Rattle.bd_ways.specs.Words.{Space, Process, Thread, Identity, Object, Name, Reference, Buffer, Frame, Work}
use Rattle.bd_space.specs.Todo.{hands_out}
use Rattle.bd_space.specs.Histories.{History, space_after}
use Rattle.bd_laws.specs.Lists.{In}

-- A place tells the step that made a thing. It is below s.steps, how many steps there were, where that step was one of them.
pub record IsOfEarlierSteps (s : Space) : Type 0 where
  -- a live process: its Open
  pub processes : (q : Process) → In q s.processes → q.made < s.steps
  -- a live thread: its Open or Attach, and the Open of its process
  pub threads : (t : Thread) → In t s.threads → t.made < s.steps
  pub threads_processes : (t : Thread) → In t s.threads → t.process < s.steps
  -- an object: the step that made it, and the Open of its owner, who may have ended
  pub objects : (x : Object) → In x s.objects → x.id.place < s.steps
  pub owners : (x : Object) → In x s.objects → x.owner < s.steps
  -- what the space refers to: the context manager's object, what a process knows by a number (handle), what a reference is to
  pub manager : (o : Identity) → s.manager ≡ Some o → o.place < s.steps
  pub names : (m : Name) → In m s.names → m.object.place < s.steps
  pub references : (r : Reference) → In r s.references → r.object.place < s.steps
  -- a buffer: its transaction or reply, the Opens of who receives and who sent it, and the object that it was sent to
  pub buffers : (b : Buffer) → In b s.buffers → b.made < s.steps
  pub receivers : (b : Buffer) → In b s.buffers → b.receiver < s.steps
  pub senders : (b : Buffer) → In b s.buffers → b.sender < s.steps
  pub targets : (b : Buffer) (o : Identity) → In b s.buffers → b.target ≡ Some o → o.place < s.steps
  -- an open two-way call: its transaction
  pub frames : (f : Frame) → In f s.frames → f.made < s.steps
  -- an unread call or reply: the transaction or reply whose buffer it hands over
  pub handed_over : (w : Work) (b : ℕ) → In w s.todo → hands_out w.kind ≡ Some b → b < s.steps

-- after every history, also one of entries that no engine would make
abbrev pub PlacesAreEarlier : Type 0
PlacesAreEarlier = (h : History) → IsOfEarlierSteps (space_after h)
