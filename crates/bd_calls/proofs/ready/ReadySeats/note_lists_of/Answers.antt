use Rattle.std.proofs.{Common.{sym, subst, ◌∙◌, ap, arith, take, get_or}, lemmas.List.{take_all}, lemmas.List.Sums.{fold_more}}
use Rattle.bd_ways.specs.Words.{Work, OfThread}
use Rattle.bd_space.specs.{declared.space.WorkKind.TheVariants.{Notice}, Todo.{has_work_in}}
use Rattle.bd_calls.specs.Ready.{AreSeen, told_then, told_after}
use Rattle.bd_calls.proofs.Seats.{noted_seen}
use Rattle.bd_calls.proofs.ready.ReadySeats.note_lists_of.Goals as goal

-- where there is none
abbrev blank : Work
blank = record { id = record { place = 0; index = 0 }; list = OfThread 0; kind = Notice (record { place = 0; index = 0 }) }

pub loop-work-preserved : goal.loop-work-preserved
loop-work-preserved c = λ ts told ws are before.
    let i = c.loop-work.work-index in
    let ds = c.args.taken.now in
    let was = told_after ws (take i ds) told in
    subst (AreSeen c.note.new.self ts)
    (ap (λ b. told_then (get_or ds i blank).list b was) (c.has_any.ensures ws are) ∙ sym (fold_more (λ said (d : Work). told_then d.list (has_work_in ws d.list) said) told ds i blank (omega arith)))
    (noted_seen c.loop-work.self c.note.new.self ts was _ _ c.note.ensures (c.loop-work.invariant ts told ws are before))

pub returns : goal.returns
returns c = λ ts told ws are before.
    subst (λ ds. AreSeen c.loop-work.self ts (told_after ws ds told)) (take_all c.loop-work.work-index c.args.taken.now (omega arith)) (c.loop-work.invariant ts told ws are before)
