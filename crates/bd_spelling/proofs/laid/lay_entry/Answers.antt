use Rattle.std.proofs.Common.{◌≤◌, ◌++◌, length, arith}
use Rattle.std.proofs.lemmas.List.{length-append}
use Rattle.bd_uapi.specs.Bytes.{word}
use Rattle.bd_spelling.specs.Spelling.{entry_bytes, step_bytes, answer_bytes}
use Rattle.bd_spelling.proofs.Laying.{laid_whole}
use Rattle.bd_spelling.proofs.laid.lay_entry.Goals as goal

pub lay_whole-end-requires-clause-room : goal.lay_whole-end-requires-clause-room
lay_whole-end-requires-clause-room c =
    let e = c.args.entry.now in
    omega (arith, c.if-len-out.true, c.in_ok-step.ensures.1, c.in_ok-answer.ensures.1, length-append (step_bytes e.step) (word (length (answer_bytes e.answer)) ++ answer_bytes e.answer))

pub returns-then-len-out-clause-laid : goal.returns-then-len-out-clause-laid
returns-then-len-out-clause-laid c =
    let e = c.args.entry.now in
    let fits : length (entry_bytes e) ≤ length c.args.out.now = omega (arith, c.if-len-out.true, c.in_ok-step.ensures.1, c.in_ok-answer.ensures.1, length-append (step_bytes e.step) (word (length (answer_bytes e.answer)) ++ answer_bytes e.answer)) in
    laid_whole c.lay_whole-end.result (entry_bytes e) c.args.out.now c.lay_whole-end.new.out c.lay_whole-end.ensures fits
