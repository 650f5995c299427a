use Rattle.std.proofs.Common.{◌≡◌, ◌++◌, refl}
use Rattle.bd_uapi.specs.Bytes.{word}
use Rattle.bd_spelling.specs.Spelling.{block, entry_bytes, step_bytes, answer_bytes}
use Rattle.bd_spelling.proofs.Laying.{laid_then, laid_as}
use Rattle.bd_spelling.proofs.laid.lay_whole.Goals as goal

pub returns : goal.returns
returns c =
    let e = c.args.entry.now in
    let same : (word e.seat ++ word c.args.step) ++ (step_bytes e.step ++ block (answer_bytes e.answer)) ≡ entry_bytes e = rw c.requires.step refl in
    laid_as _ _ _ _ _ _ same (laid_then _ _ _ _ _ _ _ _ (laid_then _ _ _ _ _ _ _ _ c.lay_word-at.ensures c.lay_word-at-2.ensures)
    (laid_then _ _ _ _ _ _ _ _ c.lay_step-at.ensures c.lay_answer.ensures))
