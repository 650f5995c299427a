-- What is gathered before an exit, so that all that it touches is among it.
use Rattle.std.specs.{Prelude.{ℕ, ◌≡◌, ◌==◌, ◌||◌, Bool, true, false, List, Some}, List.{list_any}}
use Rattle.bd_ways.specs.Words.{Identity, Object, Reference, Frame, Work, WorkKind, TodoList, OfThread, OfProcess, Space}
use Rattle.bd_space.specs.declared.space.WorkKind.TheVariants.{Notice, Reply, Call}
use Rattle.bd_space.specs.References.{is_of_buffer}
use Rattle.bd_space.specs.Frames.{serves}
use Rattle.bd_space.specs.Todo.{work_on, hands_out, is_call, is_notice}
use Rattle.bd_space.specs.ProcessExits.{is_dropped_with}
use Rattle.bd_ways.specs.Local.{is_among}
use Rattle.bd_laws.specs.Lists.{In}
use Rattle.bd_records.specs.New.{HasAll}
use Rattle.bd_calls.specs.Closing.{is_place_among}
use Rattle.bd_step.specs.declared.exit.Exit.{Exit}

abbrev pub HasObject : Exit → Identity → Type 0
HasObject x o = is_among x.objects.items o ≡ true

abbrev pub HasFrame : Exit → ℕ → Type 0
HasFrame x m = is_place_among x.frames.items m ≡ true

-- what was gathered stays
pub record Grows (old new : Exit) : Type 0 where
  pub objects : HasAll new.objects.items old.objects.items
  pub frames : (m : ℕ) → HasFrame old m → HasFrame new m

-- of a work item: its notice's object, the objects to which the buffer refers that it hands over, and its call's frame
pub record HasWork (x : Exit) (s : Space) (kind : WorkKind) : Type 0 where
  pub notice : (o : Identity) → is_notice o kind ≡ true → HasObject x o
  pub handed : (b : ℕ) (r : Reference) → hands_out kind ≡ Some b → In r s.references → is_of_buffer b r.holder ≡ true → HasObject x r.object
  pub call : (m : ℕ) → is_call m kind ≡ true → HasFrame x m

abbrev pub HasWorks : Exit → Space → List Work → Type 0
HasWorks x s works = (w : Work) → In w works → HasWork x s w.kind

abbrev pub HasList : Exit → Space → TodoList → Type 0
HasList x s list = HasWorks x s (work_on s.todo (Some list))

pub record HasThread (x : Exit) (s : Space) (seat : ℕ) : Type 0 where
  pub list : HasList x s (OfThread seat)
  pub served : (f : Frame) → In f s.frames → serves seat f.server ≡ true → HasFrame x f.made

abbrev pub HasThreads : Exit → Space → List ℕ → Type 0
HasThreads x s seats = (seat : ℕ) → In seat seats → HasThread x s seat

pub record HasProcess (x : Exit) (s : Space) (seats : List ℕ) (p : ℕ) : Type 0 where
  pub threads : HasThreads x s seats
  pub list : HasList x s (OfProcess p)
  pub owned : (y : Object) → In y s.objects → (y.owner == p) ≡ true → HasObject x y.id
  pub dropped : (r : Reference) → In r s.references → is_dropped_with s.objects p r ≡ true → HasObject x r.object

-- ---- whether anything is gathered at all

abbrev pub gathers_work : Space → WorkKind → Bool
gathers_work s (Notice o) = true
gathers_work s (Reply b) = list_any (λ r. is_of_buffer b r.holder) s.references
gathers_work s (Call b) = true
gathers_work s _ = false

abbrev pub gathers_list : Space → TodoList → Bool
gathers_list s list = list_any (λ w. gathers_work s w.kind) (work_on s.todo (Some list))

abbrev pub gathers_thread : Space → ℕ → Bool
gathers_thread s seat = list_any (λ f. serves seat f.server) s.frames || gathers_list s (OfThread seat)
