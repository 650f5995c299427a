use Rattle.std.proofs.Common.{subst, ◌∙◌}
use Rattle.bd_spelling.specs.Spelling.{parcel_bytes}
use Rattle.bd_spelling.specs.Writing.{Begins}
use Rattle.bd_spelling.proofs.Pieces.{command_parts, begins_first, sends_err, sends_same, sends_then}
use Rattle.bd_spelling.proofs.writing.send_command.Goals as goal

pub returns-in_err-send_all : goal.returns-in_err-send_all
returns-in_err-send_all g c =
    let old = g.W.Write.contents c.args.out.now in
    let new = g.W.Write.contents c.send_all.new.out in
    let parts = command_parts c.args.command.now c.args.parcel.now c.to_le_bytes-len.result c.as_slice-spelled.result.now c.to_le_bytes-len.ensures (c.as_slice-spelled.ensures ∙ c.spell_command-spelling.ensures.spelled) in
    sends_err c.from_residual.result old new _ c.from_residual.ensures.0
    (subst (Begins old new) parts (begins_first old new _ (parcel_bytes c.args.parcel.now) c.in_err-send_all.ensures))

pub returns : goal.returns
returns g c =
    let old = g.W.Write.contents c.args.out.now in
    let mid = g.W.Write.contents c.send_all.new.out in
    let new = g.W.Write.contents c.send_parcel.new.out in
    let parts = command_parts c.args.command.now c.args.parcel.now c.to_le_bytes-len.result c.as_slice-spelled.result.now c.to_le_bytes-len.ensures (c.as_slice-spelled.ensures ∙ c.spell_command-spelling.ensures.spelled) in
    sends_same c.send_parcel.result old new _ _ parts (sends_then c.send_parcel.result old mid new _ _ c.in_ok-send_all.ensures c.send_parcel.ensures)
