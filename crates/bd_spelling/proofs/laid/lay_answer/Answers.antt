use Rattle.std.proofs.Common.{◌≡◌, ◌+◌, ◌++◌, length, ap, arith, length-append}
use Rattle.bd_uapi.specs.Bytes.{word}
use Rattle.bd_spelling.specs.{Laid.{IsLaid}, Spelling.{block, answer_bytes}}
use Rattle.bd_spelling.proofs.Laying.{laid_then, laid_as}
use Rattle.bd_spelling.proofs.laid.lay_answer.Goals as goal

pub returns-in-Accepted : goal.returns-in-Accepted
returns-in-Accepted c = rw c.in-Accepted.is (laid_then _ _ _ _ _ _ _ _ c.lay_word-at.ensures c.lay-in-Accepted.ensures)

pub returns-in-Got : goal.returns-in-Got
returns-in-Got c =
    let x = c.in-Got in
    let len : 13 + c.len.result + c.len-in-Got.result + c.len-in-Got-2.result ≡ length (answer_bytes c.args.answer.now) =
    rw x.is (omega (arith, c.len.ensures, c.len-in-Got.ensures, c.len-in-Got-2.ensures, length-append (x.stream ++ block x.bytes) (block x.offsets), length-append x.stream (block x.bytes))) in
    let rest : IsLaid c.lay_word-at-in-Got.result (answer_bytes c.args.answer.now) c.lay_word-at-in-Got.new.out c.lay_block.new.out c.lay_block.result =
    rw x.is (rw (← c.as_slice.ensures, ← c.as_slice-in-Got.ensures, ← c.as_slice-in-Got-2.ensures)
    (laid_then _ _ _ _ _ _ _ _ (laid_then _ _ _ _ _ _ _ _ (laid_then _ _ _ _ _ _ _ _ c.lay-at.ensures c.lay_block-at.ensures) c.lay_block-at-in-Got.ensures) c.lay_block.ensures)) in
    laid_then _ _ _ _ _ _ _ _ (laid_as _ _ _ _ _ _ (ap word len) c.lay_word-at-in-Got.ensures) rest
