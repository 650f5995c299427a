-- SpacesAreTidy: every part of it holds at the opening and is kept by each step. NothingIsPending is one of its parts.
use Rattle.bd_laws.proofs.words.Space.{Space, opening, History, after, next, space_after}
use Rattle.std.proofs.Common.{arith, List}
use Rattle.bd_space.specs.declared.step.Entry.{Entry}
use Rattle.bd_laws.proofs.words.Laws.{IsTidy, OnPaths}
use Rattle.bd_laws.proofs.Machine.EveryStep.{every_list}
use Rattle.bd_laws.proofs.IsInTurn.Received.{step_before, opening_before}
use Rattle.bd_laws.proofs.AtHome.Homes.{next_home, opening_home}
use Rattle.bd_laws.proofs.AtHome.InWindows.{next_in_windows, opening_in_windows}
use Rattle.bd_laws.proofs.AtHome.OtherCalls.{next_of_others, opening_of_others}
use Rattle.bd_laws.proofs.OnPaths.EveryPath.{next_on_paths, opening_on_paths}
use Rattle.bd_laws.proofs.ItemsAreToldApart.Numbering.{next_told, opening_told}
use Rattle.bd_laws.proofs.IsQueued.Queueing.{next_queued, opening_queued}
use Rattle.bd_laws.proofs.Framing.{next_framed, opening_framed}
use Rattle.bd_laws.proofs.NothingIsPending.Noticing.{next_once}
use Rattle.bd_laws.proofs.NothingIsPending.Quiet.{opening_quiet}
use Rattle.bd_laws.proofs.Next.{next_quiet}

pub step_tidy : (s : Space) (e : Entry) → IsTidy s → IsTidy (next s e)
step_tidy s e h = search (arith, step_before, next_told, next_home, next_in_windows, next_on_paths, next_of_others, next_once, next_quiet, next_queued, next_framed)

pub opening_tidy : IsTidy opening
opening_tidy = record { before = opening_before; told = opening_told; home = opening_home; in_windows = opening_in_windows; on_paths = opening_on_paths; of_others = opening_of_others; once = tt; quiet = opening_quiet; queued = opening_queued; framed = opening_framed }

pub tidy_after : (es : List Entry) → IsTidy (after opening es)
tidy_after es = every_list IsTidy step_tidy es opening opening_tidy

pub always_tidy : (h : History) → IsTidy (space_after h)
unfolding space_after
always_tidy h = tidy_after h.entries

pub always_on_paths : (es : List Entry) → OnPaths (after opening es).steps (after opening es)
always_on_paths es = (tidy_after es).on_paths
