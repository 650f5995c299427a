use Rattle.std.proofs.Common.{arith, refl}
use Rattle.std.specs.Prelude.{Ok, Err}
use Rattle.bd_c.proofs.Commanding.{no_begin, no_end}
use Rattle.bd_c.proofs.live_commands.command_of.Goals as goal

pub returns-in-Err-clause-none : goal.returns-in-Err-clause-none
returns-in-Err-clause-none c = no_begin c.args.bytes.now (Err c.in-Err.field-0) c.in-Err.field-0 c.in-Err.ensures.only refl

pub returns-then-size-bytes-clause-none : goal.returns-then-size-bytes-clause-none
returns-then-size-bytes-clause-none c =
    no_end c.args.bytes.now (Ok (c.in-Ok.command, c.in-Ok.size)) c.in-Ok.command c.in-Ok.size c.in-Ok.ensures.only refl (λ e. omega (arith, e, c.if-size-bytes.true))
