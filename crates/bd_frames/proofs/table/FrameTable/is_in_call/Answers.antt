use Rattle.std.proofs.{Common.{reverse, is_some, ap, sym, ◌∙◌}, lemmas.List.Sorted.{list_any-IsPermutation, IsPermutation-reverse}}
use Rattle.bd_keys.proofs.Found.{any_some}
use Rattle.bd_space.specs.Frames.{takes_part}
use Rattle.bd_frames.proofs.table.FrameTable.is_in_call.Goals as goal

pub returns : goal.returns
returns c = λ l h.
    let q = takes_part c.args.seat in
    c.is_some.ensures ∙ ap is_some (c.newest_of.ensures l h) ∙ sym (any_some q (reverse l))
    ∙ sym (list_any-IsPermutation q l (reverse l) (IsPermutation-reverse l))
