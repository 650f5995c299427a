-- What a handle owns: nothing, and then its pointer is null, or the box that its pointer leads to.
use base.Fml.{Fml, feq}
use mir.Syntax.{Ty}
use denote.RawPtr.{Ptr, null_ptr}
use Rattle.std.specs.Prelude.{Option, Some, None}
use Rattle.std.specs.Coded.{Coded, coded_option}
use Rattle.std.specs.contracts.impls.GlobalAllocator.TheImpl.{ghosts}
use Rattle.std_alloc.specs.Box.Ownership.{box_owns}
use Rattle.bd_c.specs.declared.held.Held.{Held}
use Rattle.bd_c.specs.contracts.held.Held.{the_row as held_row}

-- The right to free a block of the heap, as the allocator has it.
abbrev pub chunk : Ty → Ptr → Fml
chunk type p = ghosts.dealloc_token (record { memory = record { seal = tt } }) type p

-- how a proof stores what is behind a handle
abbrev pub coded_held : Coded (Option Held)
coded_held = coded_option held_row.coded

unfoldable pub owned : Option Held → Ptr → Fml
owned None p = feq Ptr p null_ptr
owned (Some x) p = box_owns chunk held_row p x
