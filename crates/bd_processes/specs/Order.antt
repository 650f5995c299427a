-- The order in which processes were opened.
use Rattle.std.specs.Prelude.{◌<◌, List, AllPairs}
use Rattle.bd_space.specs.declared.space.Process.{Process}

-- Each process of the list was opened after those before it.
abbrev pub IsRising : List Process → Type 0
IsRising processes = AllPairs (λ a b. a.made < b.made) processes
