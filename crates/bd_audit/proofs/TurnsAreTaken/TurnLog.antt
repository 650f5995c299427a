-- For TurnsAreTaken and TurnsTellOfCalls: one-way calls are taken in their turns.
use Rattle.bd_laws.proofs.words.Logic.{List, [], ◌∷◌}
use Rattle.bd_laws.proofs.words.Types.{Identity, Entry}
use Rattle.bd_laws.proofs.words.Space.{Space, opening, change, counted, History, after, next, space_after}
use Rattle.bd_laws.proofs.words.Laws.{Pairs, Before}
use Rattle.bd_laws.proofs.IsInTurn.Passing.{step_passes}
use Rattle.bd_laws.proofs.IsInTurn.Received.{step_before, opening_before}
use Rattle.bd_audit.specs.declared.turns.Turn.{Turn}
use Rattle.bd_audit.specs.TurnSearch.{next_turns, turns_from, turns_on}
use Rattle.bd_audit.proofs.TurnsAreTaken.TurnsKept.{log_after}
use Rattle.bd_audit.proofs.TurnsAreTaken.Logged.{InOrder, Logged}

-- ---- every history

log_step : (o : Identity) (s : Space) (e : Entry) (ts : List Turn) → Before s → Logged o ts s → Logged o (next_turns o s.steps (next s e).buffers ts) (next s e)
unfolding counted
log_step o s e ts h log = let k = step_passes s e h.turns h.received.lists in log_after s (change s e.seat e.step).space h k.turns k.passed o ts log

log_all : (o : Identity) (es : List Entry) (s : Space) (ts : List Turn) → Before s → Logged o ts s → Logged o (turns_from o s ts es) (after s es)
log_all o [] s ts h log = log
log_all o (e ∷ es) s ts h log = log_all o es (next s e) (next_turns o s.steps (next s e).buffers ts) (step_before s e h) (log_step o s e ts h log)

pub no_turns : (o : Identity) → Logged o [] opening
no_turns o = record { past = λ t i. absurd i; live = λ t i e. absurd i; gone = λ t i q e b j m. absurd i; over = λ t i q e f. absurd i; order = tt }

-- what holds before each step holds after every history
pub always_logged : (o : Identity) (h : History) → Logged o (turns_on o h) (space_after h)
unfolding turns_on space_after
always_logged o h = log_all o h.entries opening [] opening_before (no_turns o)

pub always_ordered : (o : Identity) (h : History) → Pairs InOrder (turns_on o h)
always_ordered o h = (always_logged o h).order
