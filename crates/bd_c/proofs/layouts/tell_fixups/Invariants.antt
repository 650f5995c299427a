use Rattle.std.proofs.Common.{◌≡◌, map, take}
use Rattle.bd_c.specs.Layouts.{fixup_told}
use Rattle.bd_c.proofs.layouts.tell_fixups.Given as goal

abbrev pub invariant-loop-fixup : goal.invariant-loop-fixup
invariant-loop-fixup l = l.told.items ≡ map fixup_told (take l.fixup-index l.fixups)
