-- What is behind a handle once it was lent: what was left there.
use denote.RattleType.{RattleType}
use Rattle.std.specs.Prelude.{Option, Some}
use Rattle.std.specs.Borrow.{LendsIf, MutBor, Fml}
use Rattle.bd_c.specs.declared.handles.Handle.{Handle}
use Rattle.bd_c.specs.declared.held.Held.{Held}
use Rattle.bd_c.specs.contracts.handles.Handle.{the_row}

-- the handle, with this behind it
abbrev pub holding : Handle → Held → Handle
holding h x = record h { held = Some x }

-- the handle ends with what was last left in r, as this kind of thing, or as it was, where nothing was lent
abbrev pub LendsAs : (T : RattleType) → (T.Denot → Held) → MutBor Handle → Option (MutBor T.Denot) → Fml
LendsAs T kind h r = LendsIf the_row T h r (λ x. holding h.now (kind x)) h.now
