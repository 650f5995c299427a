use Rattle.std.proofs.Common.{◌≡◌, drop, length}
use Rattle.bd_layout.specs.Plans.{AllWithin}
use Rattle.bd_layout.specs.Landed.{landed}
use Rattle.bd_layout.proofs.landing.put_all.Given as goal

abbrev pub invariant-loop-fixup : goal.invariant-loop-fixup
invariant-loop-fixup l =
    (landed l.base (drop l.fixup-index l.fixups) l.bytes ≡ landed l.base l.fixups l.fn.bytes)
    × AllWithin (length l.bytes) (drop l.fixup-index l.fixups)
