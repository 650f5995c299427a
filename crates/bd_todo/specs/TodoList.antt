-- The replies among the work items of a list.
use Rattle.std.specs.Prelude.{ℕ, List, map, Option, Some, None}
use Rattle.bd_ways.specs.Words.{Work, WorkKind, first_of}
use Rattle.bd_space.specs.declared.space.WorkKind.TheVariants.{Reply}

-- where a reply was made
abbrev pub reply_of : WorkKind → Option ℕ
reply_of (Reply b) = Some b
reply_of _ = None

-- where the first reply among them was made
abbrev pub first_reply_in : List Work → Option ℕ
first_reply_in works = first_of (map (λ w. reply_of w.kind) works)
