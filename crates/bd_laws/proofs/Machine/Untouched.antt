-- For every law: parts of a step that leave processes, objects, references, names and buffers as they are.
use Rattle.bd_laws.proofs.words.Types.{Thread, Frame, Work, DeathNotification, TodoList, OfThread, WorkKind}
use Rattle.bd_laws.proofs.words.Space.{Space, owe, closed, ripen, notify, work_goes, deaths_go, called, call_out, with_looping, tell_deaths}
use Rattle.std.proofs.Common.{arith, ◌≡◌, ℕ, Bool, List, Option, Some, None, refl}
use Rattle.bd_laws.proofs.Machine.Deaths.{OnDeaths, KeptOnDeaths, on_kept, on_told}

pub record Untouched (z y : Space) : Type 0 where
  pub steps : z.steps ≡ y.steps
  pub processes : z.processes ≡ y.processes
  pub manager : z.manager ≡ y.manager
  pub objects : z.objects ≡ y.objects
  pub references : z.references ≡ y.references
  pub names : z.names ≡ y.names
  pub buffers : z.buffers ≡ y.buffers

other : (z : Space) (ts : List Thread) (fs : List Frame) (td : List Work) (ds : List DeathNotification) → Untouched (record z { threads = ts; frames = fs; todo = td; deaths = ds }) z
other z ts fs td ds = record { steps = refl; processes = refl; manager = refl; objects = refl; references = refl; names = refl; buffers = refl }

pub untouched : (z : Space) → Untouched z z
untouched z = search (arith, other)

pub untouched_trans : (z y x : Space) → Untouched z y → Untouched y x → Untouched z x
untouched_trans z y x h k = search arith

pub owe_untouched : (z : Space) (list : TodoList) (kind : WorkKind) → Untouched (owe z list kind) z
unfolding owe
owe_untouched z list kind = other _ _ _ _ _

pub told_untouched : (z : Space) (caller : Option ℕ) (kind : WorkKind) → Untouched (elim caller as (λ (o : Option ℕ). Space) [ None ↦ z | Some t ↦ owe z (OfThread t) kind ]) z
told_untouched z caller kind = search (arith, owe_untouched)

pub closed_untouched : (z : Space) (made : ℕ) → Untouched (closed z made) z
unfolding closed
closed_untouched z made = other _ _ _ _ _

pub ripen_untouched : (z : Space) → Untouched (ripen z) z
unfolding ripen
ripen_untouched z = other _ _ _ _ _

pub notify_untouched : (z : Space) → Untouched (notify z) z
unfolding notify
notify_untouched z = other _ _ _ _ _

pub work_goes_untouched : (z : Space) → Untouched (work_goes z) z
unfolding work_goes
work_goes_untouched z = other _ _ _ _ _

pub deaths_go_untouched : (z : Space) → Untouched (deaths_go z) z
unfolding deaths_go
deaths_go_untouched z = other _ _ _ _ _

pub called_untouched : (z : Space) (seat p : ℕ) (one_way : Bool) → Untouched (called z seat p one_way) z
unfolding call_out owe
called_untouched z seat p one_way = search (arith, other)

pub with_looping_untouched : (z : Space) (t : ℕ) (looping : Bool) → Untouched (with_looping z t looping) z
unfolding with_looping
with_looping_untouched z t looping = other _ _ _ _ _

kept_on_deaths : (z : Space) → KeptOnDeaths (λ y. Untouched y z)
kept_on_deaths z = search (arith, owe_untouched)

pub on_deaths_untouched : (z : Space) → OnDeaths z (λ y. Untouched y z)
on_deaths_untouched z = on_kept _ (kept_on_deaths z) z (untouched z)

pub tell_deaths_untouched : (z : Space) (p : ℕ) → Untouched (tell_deaths z p) z
tell_deaths_untouched z p = on_told _ (kept_on_deaths z) z p (untouched z)
