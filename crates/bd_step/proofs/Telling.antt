-- How tables go on standing while frames close and callers and senders are told.
use Rattle.bd_step.proofs.{Words.{CallTable, Frame, None, OfThread, Option, Some, Space, StandsAt, Tables, WorkKind, owe, tell_caller, ℕ}, Changing.{with_calls}}
use Rattle.bd_calls.specs.Stands as calls

told : (n : ℕ) (t : Tables) (cs : CallTable) (s : Space) (caller : Option ℕ) (kind : WorkKind) → StandsAt n t s
    → calls.StandsFor cs (elim caller as (λ (o : Option ℕ). Space) [ None ↦ s | Some u ↦ owe s (OfThread u) kind ])
    → StandsAt n (record t { calls = cs }) (elim caller as (λ (o : Option ℕ). Space) [ None ↦ s | Some u ↦ owe s (OfThread u) kind ])
unfolding owe
told n t cs s None kind h k = with_calls n t s cs s.threads s.frames s.todo h k
told n t cs s (Some u) kind h k = with_calls n t s cs s.threads s.frames _ h k

pub told_stands : (n : ℕ) (t : Tables) (cs : CallTable) (s : Space) (f : Frame) (kind : WorkKind) → StandsAt n t s
    → calls.StandsFor cs (tell_caller s f kind) → StandsAt n (record t { calls = cs }) (tell_caller s f kind)
told_stands n t cs s f kind h k = told n t cs s f.caller kind h k
