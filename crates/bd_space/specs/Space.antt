-- The object space: what there is at one moment, as finite sets. A set is written as a list whose members rise by identity,
-- so that the oldest stands first; names, which have none, stand in the order in which they got their numbers.
use Rattle.std.specs.Prelude.{ℕ, List, [], Option, None}
use Rattle.bd_space.specs.{declared.step.Identity.{Identity}, declared.space.{Process.Process, Thread.Thread, Object.Object, Reference.Reference, Name.Name, Frame.Frame, Buffer.Buffer, Work.Work, DeathNotification.DeathNotification}}

pub record Space : Type 0 where
  pub steps : ℕ  -- how many there were: the place of the next
  pub processes : List Process
  pub threads : List Thread
  pub manager : Option Identity  -- the context manager's object
  pub objects : List Object
  pub references : List Reference
  pub names : List Name
  pub frames : List Frame
  pub buffers : List Buffer
  pub todo : List Work
  pub deaths : List DeathNotification

-- the space before the first step
abbrev pub opening : Space
opening = record { steps = 0; processes = []; threads = []; manager = None; objects = []; references = []; names = []; frames = []; buffers = []; todo = []; deaths = [] }
