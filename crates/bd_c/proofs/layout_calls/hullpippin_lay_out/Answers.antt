use Rattle.std.proofs.Common.{refl, sym, ◌∙◌}
use Rattle.bd_c.specs.declared.status.Status.TheVariants.{Done, NoMemory, NoSuchRequest}
use Rattle.bd_layout.specs.Plans.{plan_of}
use Rattle.bd_c.proofs.Laying.{is_refused}
use Rattle.bd_c.proofs.layout_calls.hullpippin_lay_out.Goals as goal

pub returns-then-room : goal.returns-then-room
returns-then-room c = (NoSuchRequest, c.number.ensures, refl)

pub returns-in-Err : goal.returns-in-Err
returns-in-Err c = (NoMemory, c.number-in-Err.ensures, refl)

pub returns-in-Ok-None : goal.returns-in-Ok-None
returns-in-Ok-None c =
    (Done, c.number-in-Ok-None.ensures, is_refused (plan_of c.args.body.now c.args.offsets.now c.args.room.now c.args.descriptors) _ (sym c.in-Ok-None.field-0-is ∙ c.in-Ok-None.ensures))
