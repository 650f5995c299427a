-- How a thread waits, and what of that the bridge is told.
use Rattle.std.specs.Prelude.{ℕ, Bool, true, false, not, ◌==◌, ◌&&◌, ◌||◌, if◌then◌else◌}
use Rattle.bd_reader.specs.declared.facts.{Facts.{Facts}}
use Rattle.bd_waiting.specs.declared.waits.{Waits.{Waits}, Told.{Told}, Calls.{Calls}, Place.{Place}}
use Rattle.bd_waiting.specs.declared.waits.Place.TheVariants as place

-- its read is still to be answered
abbrev pub waits_on : Waits → Bool
waits_on w = w.is_reading && not w.is_woken

-- no other one is told of in its place
abbrev pub is_apart : Waits → Bool
is_apart w = w.has_seat && not (w.is_idle && not w.is_herald)

-- what others do may bring it something, or it has something
abbrev pub is_concerned : Facts → ℕ → Bool → Bool
is_concerned f calling own = not (calling == 0) || f.is_idle || own

-- ---- among the idle threads of its process

-- who polls comes behind all who read
abbrev pub place_of : Bool → Bool → Waits → Place
place_of is_idle own w =
    if not w.has_seat || not is_idle then place.Nowhere
    else if waits_on w then place.First
    else if w.polls && not own then place.Last
    else place.Nowhere

-- who stands first is the herald
abbrev pub placed : Place → Bool → Waits → Waits
placed place.Nowhere alone w = record w { is_idle = false; is_herald = false }
placed place.First alone w = record w { is_idle = true; is_herald = true }
placed place.Last alone w = record w { is_idle = true; is_herald = alone }

-- ---- what the bridge is to know

abbrev pub reads_for : Facts → Waits → Bool
reads_for f w = is_apart w && waits_on w && f.has_room

-- a read in which no return finds room is told of by a bell
abbrev pub has_bell_for : Facts → ℕ → Bool → Waits → Bool
has_bell_for f calling own w = (is_apart w && w.polls && is_concerned f calling own) || (is_apart w && waits_on w && not (reads_for f w))

-- 2: HULLPIPPIN_LEAVES
abbrev pub wanted_of : Facts → ℕ → Bool → Waits → Told
wanted_of f calling own w = record {
  has_bell = has_bell_for f calling own w;
  reads = reads_for f w;
  limit = f.limit;
  defers = if f.defers then 2 else 0;
}

abbrev pub nothing : Told
nothing = record { has_bell = false; reads = false; limit = 0; defers = 0 }

-- ---- by which calls it comes to know that

abbrev pub is_known : Told → Told → Bool
is_known t w = t.reads && not (t.has_bell && not w.has_bell)

abbrev pub calls_of : Told → Told → Calls
calls_of t w = record {
  stops_waiting = t.has_bell && not w.has_bell;
  stops_reading = is_known t w && not w.reads;
  gives_bell = w.has_bell && not t.has_bell;
  reads = w.reads && not (is_known t w && (t.limit == w.limit) && (t.defers == w.defers));
  limit = w.limit;
  defers = w.defers;
}

-- what it knows once the first of them is made
abbrev pub stopped_by : Calls → Told → Told
stopped_by c t = record t { has_bell = t.has_bell && not c.stops_waiting; reads = t.reads && not c.stops_waiting && not c.stops_reading }

-- and once all are
abbrev pub made_by : Calls → Told → Told
made_by c t = record {
  has_bell = (stopped_by c t).has_bell || c.gives_bell;
  reads = (stopped_by c t).reads || c.reads;
  limit = if c.reads then c.limit else t.limit;
  defers = if c.reads then c.defers else t.defers;
}

abbrev pub planned : Told → Waits → Waits
planned wanted w = record w {
  told = stopped_by (calls_of w.told wanted) w.told;
  calls = calls_of w.told wanted;
}

abbrev pub told_of : Facts → ℕ → Bool → Waits → Waits
told_of f calling own w = planned (wanted_of f calling own w) w

abbrev pub noted : Facts → ℕ → Bool → Bool → Bool → Waits → Waits
noted f calling own alone ending w = told_of f calling own (placed (place_of (f.is_idle && not ending) own w) alone w)

abbrev pub taken_over : Facts → ℕ → Bool → Waits → Waits
taken_over f calling own w = told_of f calling own (record w { is_herald = true })

-- who has something of its own stays told
abbrev pub retired : Bool → Waits → Waits
retired own w = planned (if own then w.told else nothing) (record w { is_idle = not own; is_herald = false })

abbrev pub told_anew : Facts → ℕ → Bool → Waits → Waits
told_anew f calling own w = record w {
  told = nothing;
  calls = record (calls_of nothing (wanted_of f calling own w)) {
    stops_waiting = (calls_of w.told nothing).stops_waiting;
    stops_reading = (calls_of w.told nothing).stops_reading;
  };
}

-- who stands first is the herald, until their process ends
abbrev pub herald_changes : Bool → Bool → Bool
herald_changes same ending = not same && not ending

-- ---- doorbells

abbrev pub rings_for : Bool → Bool → Waits → Bool
rings_for all_ring is_there w = w.has_seat && ((if w.is_idle then all_ring else w.rings) || is_there)
