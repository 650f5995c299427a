use Rattle.std.proofs.Common.{Option, subst, arith}
use Rattle.bd_space.specs.declared.step.Parcel.{Parcel}
use Rattle.bd_space.specs.declared.step.Step.TheVariants as step
use Rattle.bd_c.specs.Lives.{Steps}
use Rattle.bd_c.specs.LiveCommands.{step_given}
use Rattle.bd_c.proofs.Commanding.{full, rests}
use Rattle.bd_c.proofs.live.OwnedLive.command.Goals as goal

pub returns-then-len : goal.returns-then-len
returns-then-len c =
    let x = c.args.self.now in
    let z = step_given c.args.command c.args.bytes.now c.args.offsets.now in
    (full x c.len.result c.args.seat z c.len.ensures (grind (arith, c.if-len.true)), rests x c.args.seat c.args.told.now)

pub returns-in-Ok : goal.returns-in-Ok
returns-in-Ok c =
    subst (λ (p : Option Parcel). Steps c.args.self.now c.make.new.self c.args.seat (step.Command c.args.command p) c.make.result c.args.told.now c.make.new.told)
    c.in-Ok.ensures c.make.ensures
