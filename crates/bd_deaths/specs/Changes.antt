-- What is kept of a notification that changes.
use Rattle.std.specs.Prelude.{true, if◌then◌else◌}
use Rattle.bd_ways.specs.Words.{Phase, Queued}
use Rattle.bd_space.specs.ProcessExits.{is_armed}
use Rattle.bd_deaths.specs.declared.kept.Kept.{Kept}

abbrev pub in_phase : Phase → Kept → Kept
in_phase phase k = record k { death = record k.death { phase = phase } }

abbrev pub with_cleared : Kept → Kept
with_cleared k = record k { death = record k.death { cleared = true } }

abbrev pub queued : Kept → Kept
queued k = if is_armed k.death.phase then in_phase Queued k else k
