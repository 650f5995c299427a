use Rattle.std.proofs.Common.{refl, ap, ◌∙◌, ◌++◌, length}
use Rattle.bd_uapi.specs.Bytes.{word}
use Rattle.bd_spelling.specs.Spelling.{step_bytes, answer_bytes}
use Rattle.bd_spelling.proofs.Pieces.{entry_parts, begins_first, begins_then, sends_part}
use Rattle.bd_spelling.proofs.writing.write_entry.Goals as goal

pub returns-in_err-send_all-clause-sends : goal.returns-in_err-send_all-clause-sends
returns-in_err-send_all-clause-sends g c =
    sends_part c.from_residual.result _ _ _ _ (entry_parts c.args.entry.now c.to_le_bytes.result c.to_le_bytes-2.result _ c.to_le_bytes.ensures (c.to_le_bytes-2.ensures ∙ ap word c.in-Some-Some.ensures.1) refl) c.from_residual.ensures.0
    (begins_first _ _ _ (step_bytes c.args.entry.now.step ++ (word (length (answer_bytes c.args.entry.now.answer)) ++ answer_bytes c.args.entry.now.answer)) c.in_err-send_all.ensures)

pub returns-in_err-send_step-clause-sends : goal.returns-in_err-send_step-clause-sends
returns-in_err-send_step-clause-sends g c =
    let at = g.W.Write.contents in
    sends_part c.from_residual-in_err-send_step.result _ _ _ _ (entry_parts c.args.entry.now c.to_le_bytes.result c.to_le_bytes-2.result _ c.to_le_bytes.ensures (c.to_le_bytes-2.ensures ∙ ap word c.in-Some-Some.ensures.1) refl) c.from_residual-in_err-send_step.ensures.0
    (begins_then _ (at c.send_all.new.out) _ _ _ c.in_ok-send_all.ensures
    (begins_first _ _ _ (word (length (answer_bytes c.args.entry.now.answer)) ++ answer_bytes c.args.entry.now.answer) c.in_err-send_step.ensures))

pub returns-in_err-send-clause-sends : goal.returns-in_err-send-clause-sends
returns-in_err-send-clause-sends g c =
    let at = g.W.Write.contents in
    sends_part c.from_residual-in_err-send.result _ _ _ _ (entry_parts c.args.entry.now c.to_le_bytes.result c.to_le_bytes-2.result _ c.to_le_bytes.ensures (c.to_le_bytes-2.ensures ∙ ap word c.in-Some-Some.ensures.1) (c.to_le_bytes-3.ensures ∙ ap word c.in-Some-Some.ensures'.1)) c.from_residual-in_err-send.ensures.0
    (begins_then _ (at c.send_all.new.out) _ _ _ c.in_ok-send_all.ensures (begins_then _ (at c.send_step.new.out) _ _ _ c.in_ok-send_step.ensures (begins_first _ _ c.to_le_bytes-3.result (answer_bytes c.args.entry.now.answer) c.in_err-send.ensures)))

pub returns-in_err-send_answer-clause-sends : goal.returns-in_err-send_answer-clause-sends
returns-in_err-send_answer-clause-sends g c =
    let at = g.W.Write.contents in
    let parts = entry_parts c.args.entry.now c.to_le_bytes.result c.to_le_bytes-2.result _ c.to_le_bytes.ensures (c.to_le_bytes-2.ensures ∙ ap word c.in-Some-Some.ensures.1) (c.to_le_bytes-3.ensures ∙ ap word c.in-Some-Some.ensures'.1) in
    let last = begins_then (at c.send_step.new.out) (at c.send.new.out) (at c.send_answer.new.out) c.to_le_bytes-3.result _ c.in_ok-send.ensures c.in_err-send_answer.ensures in
    sends_part c.from_residual-in_err-send_answer.result _ _ _ _ parts c.from_residual-in_err-send_answer.ensures.0
    (begins_then _ (at c.send_all.new.out) _ _ _ c.in_ok-send_all.ensures (begins_then _ (at c.send_step.new.out) _ _ _ c.in_ok-send_step.ensures last))
