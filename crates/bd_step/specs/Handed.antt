-- Buffers that go before they are handed out.
use Rattle.std.specs.Prelude.{ℕ, List, Option, Some, None}
use Rattle.bd_ways.specs.Words.{Work, WorkKind, Space}
use Rattle.std.specs.List.{fold}
use Rattle.bd_space.specs.Todo.{hands_out}
use Rattle.bd_space.specs.Freeing.{without_buffer}

-- the buffer made there goes, if there is one
abbrev pub without_any : Space → Option ℕ → Space
without_any s None = s
without_any s (Some made) = without_buffer s made

-- the one that reading a work item of this kind would have handed out, with the references that it held
abbrev pub without_handed : Space → WorkKind → Space
without_handed s kind = without_any s (hands_out kind)

-- those of all these, one after the other
abbrev pub without_all_handed : Space → List Work → Space
without_all_handed s works = fold (λ z w. without_handed z w.kind) s works
