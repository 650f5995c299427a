-- What a thread sends, as C says it.
use Rattle.std.specs.Prelude.{ℕ, ◌==◌, if◌then◌else◌}
use Rattle.bd_reader.specs.declared.reader.{Kind.{Kind}, Outcome.{Outcome}}
use Rattle.bd_reader.specs.declared.reader.Kind.TheVariants as kind
use Rattle.bd_reader.specs.declared.reader.Outcome.TheVariants as outcome

abbrev pub kind_given : ℕ → Kind
kind_given n = if n == 0 then kind.Call else if n == 1 then kind.OneWay else kind.Reply

-- HULLPIPPIN_AT_CAUSE, and X15
abbrev pub outcome_given : ℕ → ℕ → Outcome
outcome_given stop number = if stop == 2 then (if number == 15 then outcome.NoCall else outcome.Refused) else outcome.Taken
