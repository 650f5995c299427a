-- Open calls between two steps: paths of frames.
use Rattle.std.specs.Prelude.{◌<◌, ◌≡◌, List, Some, ℕ, ◌⊎◌, None, ◌≤◌, true}
use Rattle.bd_ways.specs.Words.{Frame, Serving, Gone, Buffer, Work, OfThread, Space}
use Rattle.bd_space.specs.declared.space.WorkKind.TheVariants as work
use Rattle.bd_laws.specs.Lists.{In, Pairs}

-- The first frame was made before the second.
abbrev pub Older : Frame → Frame → Type 0
Older f g = f.made < g.made

-- No frame of these has this one as its parent.
abbrev pub NoChild : List Frame → Frame → Type 0
NoChild fs f = (g : Frame) → In g fs → g.parent ≡ Some f.made → ⊥

-- The thread of this seat takes part in the frame: it calls or serves.
abbrev pub Part : ℕ → Frame → Type 0
Part t f = (f.caller ≡ Some t) ⊎ (f.server ≡ Serving t)

-- who serves the parent f makes the call of its child g; or both have lost that thread
abbrev pub Nested : Frame → Frame → Type 0
Nested f g = ((f.server ≡ Gone) × (g.caller ≡ None)) ⊎ ((t : ℕ) × (f.server ≡ Serving t) × (g.caller ≡ Some t))

-- the parent of g stands at p, on the same path
pub record Parent (root : ℕ → ℕ) (fs : List Frame) (g : Frame) (p : ℕ) : Type 0 where
  pub frame : Frame
  pub here : In frame fs
  pub made : frame.made ≡ p
  pub older : p < g.made
  pub same : root g.made ≡ root p
  pub nested : Nested frame g

-- on the path of the frame made at b the thread has an older call open
abbrev pub Waiting : (ℕ → ℕ) → List Frame → ℕ → ℕ → Type 0
Waiting root fs t b = (g : Frame) × In g fs × (g.caller ≡ Some t) × (root g.made ≡ root b) × (g.made < b)

-- Frames lie on paths, each told by where its first frame was made (root). On a path each frame but the first is a child of an
-- older one, and one alone has no child. All frames of a thread lie on one path, and a call that nobody has read yet is a frame
-- without a child.
pub record Forest (n : ℕ) (root : ℕ → ℕ) (fs : List Frame) (bs : List Buffer) (td : List Work) : Type 0 where
  pub below : (f : Frame) → In f fs → f.made < n
  pub rooted : (f : Frame) → In f fs → root f.made ≤ f.made
  pub sorted : Pairs Older fs
  pub parents : (g : Frame) (p : ℕ) → In g fs → g.parent ≡ Some p → Parent root fs g p
  pub linked : (f g : Frame) → In f fs → In g fs → root f.made ≡ root g.made → f.made < g.made → (p : ℕ) × (g.parent ≡ Some p) × (f.made ≤ p)
  pub leaf : (f g : Frame) → In f fs → In g fs → root f.made ≡ root g.made → NoChild fs f → g.made ≤ f.made
  pub shared : (t : ℕ) (f g : Frame) → In f fs → In g fs → Part t f → Part t g → root f.made ≡ root g.made
  pub waiting : (w : Work) (t : ℕ) (f : Frame) → In w td → w.kind ≡ work.Call f.made → w.list ≡ OfThread t → In f fs → Waiting root fs t f.made
  pub childless : (w : Work) (f : Frame) → In w td → w.kind ≡ work.Call f.made → In f fs → NoChild fs f
  pub unserved : (w : Work) (f : Frame) (t : ℕ) → In w td → w.kind ≡ work.Call f.made → In f fs → f.server ≡ Serving t → ⊥
  pub one : (v w : Work) (b : ℕ) → In v td → In w td → v.kind ≡ work.Call b → w.kind ≡ work.Call b → v ≡ w
  pub due : (w : Work) (b : ℕ) → In w td → w.kind ≡ work.Call b → b < n
  pub buffers : (c : Buffer) → In c bs → c.made < n
  pub turns : (c : Buffer) (f : Frame) → In c bs → c.one_way ≡ true → In f fs → f.made ≡ c.made → ⊥

abbrev pub OnPaths : ℕ → Space → Type 0
OnPaths n z = (root : ℕ → ℕ) × Forest n root z.frames z.buffers z.todo

-- no thread has a call of its own to read
abbrev pub OfOthers : Space → Type 0
OfOthers z = (w : Work) (f : Frame) (t : ℕ) → In w z.todo → w.kind ≡ work.Call f.made → w.list ≡ OfThread t → In f z.frames → f.caller ≡ Some t → ⊥

-- The two frames were made at two places.
abbrev pub OtherFrame : Frame → Frame → Type 0
OtherFrame f g = f.made ≡ g.made → ⊥

-- frames are of steps below n, at most one of each
pub record Framed (n : ℕ) (fs : List Frame) : Type 0 where
  pub below : (f : Frame) → In f fs → f.made < n
  pub differ : Pairs OtherFrame fs

unfoldable pub IsFramed : Space → Type 0
IsFramed s = Framed s.steps s.frames
