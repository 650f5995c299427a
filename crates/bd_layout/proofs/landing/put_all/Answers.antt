use Rattle.std.proofs.Common.{length, arith}
use Rattle.bd_layout.specs.declared.fixup.Fixup.TheVariants.{Pointer}
use Rattle.bd_layout.specs.Landed.{landed}
use Rattle.bd_layout.proofs.Landings.{more_landed, none_left, first_fits, more_fit}
use Rattle.bd_layout.proofs.landing.put_all.Goals as goal

pub put_fixup-requires-clause-within : goal.put_fixup-requires-clause-within
put_fixup-requires-clause-within c = first_fits (length c.loop-fixup.bytes) c.args.fixups.now c.loop-fixup.fixup-index (Pointer 0 0) (omega arith) c.loop-fixup.invariant.1

pub loop-fixup-preserved : goal.loop-fixup-preserved
loop-fixup-preserved c = (
  more_landed c.args.base c.loop-fixup.bytes c.put_fixup.new.bytes (landed c.args.base c.args.fixups.now c.args.bytes.now) c.args.fixups.now c.loop-fixup.fixup-index (Pointer 0 0) (omega arith) c.put_fixup.ensures c.loop-fixup.invariant.0,
  more_fit (length c.loop-fixup.bytes) (length c.put_fixup.new.bytes) c.args.fixups.now c.loop-fixup.fixup-index (Pointer 0 0) (omega arith) (omega (arith, c.put_fixup.auto.bytes)) c.loop-fixup.invariant.1,
)

pub returns : goal.returns
returns c = none_left c.args.base c.loop-fixup.bytes (landed c.args.base c.args.fixups.now c.args.bytes.now) c.args.fixups.now c.loop-fixup.fixup-index (omega (arith, c.loop-fixup-test.false)) c.loop-fixup.invariant.0
