use Rattle.bd_step.proofs.{Words.{[], append-nil, refl, sym, ◌∷◌}, Gathered.{on_err}, Gathering.{notice_gathered, reply_gathered, call_gathered, grows_by}}
use Rattle.bd_step.proofs.tables.Tables.touch_work.Goals as goal

pub returns-in_ok-referred-in-Reply-clause-has : goal.returns-in_ok-referred-in-Reply-clause-has
returns-in_ok-referred-in-Reply-clause-has c = λ s h. rw c.in-Reply.is (reply_gathered s c.args.exit.now _ c.in-Reply.b (c.in_ok-referred-in-Reply.ensures.pushed s h.objects_stand))

pub returns-in_ok-referred-in-Call-clause-has : goal.returns-in_ok-referred-in-Call-clause-has
returns-in_ok-referred-in-Call-clause-has c = λ s h. rw c.in-Call.is (call_gathered s c.args.exit.now _ c.in-Call.b (c.in_ok-referred-in-Call.ensures.pushed s h.objects_stand) c.in_ok-push-in-Call.ensures.items)

pub returns-in_ok-push-in-Notice-clause-has : goal.returns-in_ok-push-in-Notice-clause-has
returns-in_ok-push-in-Notice-clause-has c = λ s h. rw c.in-Notice.is (notice_gathered s c.args.exit.now _ c.in-Notice.o c.in_ok-push-in-Notice.ensures.items)

pub returns-in_ok-push-in-Notice-clause-grows : goal.returns-in_ok-push-in-Notice-clause-grows
returns-in_ok-push-in-Notice-clause-grows c = λ s h.
    grows_by c.args.exit.now _ (c.in-Notice.o ∷ []) [] c.in_ok-push-in-Notice.ensures.items (sym (append-nil c.args.exit.now.frames.items))

pub returns-in_ok-referred-in-Reply-clause-grows : goal.returns-in_ok-referred-in-Reply-clause-grows
returns-in_ok-referred-in-Reply-clause-grows c = λ s h.
    grows_by c.args.exit.now _ _ [] (c.in_ok-referred-in-Reply.ensures.pushed s h.objects_stand) (sym (append-nil c.args.exit.now.frames.items))

pub returns-in_ok-referred-in-Call-clause-grows : goal.returns-in_ok-referred-in-Call-clause-grows
returns-in_ok-referred-in-Call-clause-grows c = λ s h.
    grows_by c.args.exit.now _ _ (c.in-Call.b ∷ []) (c.in_ok-referred-in-Call.ensures.pushed s h.objects_stand) c.in_ok-push-in-Call.ensures.items

pub returns-in_err-push-in-Notice-clause-grown : goal.returns-in_err-push-in-Notice-clause-grown
returns-in_err-push-in-Notice-clause-grown c = on_err c.from_residual.result (λ s h. rw c.in-Notice.is refl)

pub returns-in_err-push-in-Call-clause-grown : goal.returns-in_err-push-in-Call-clause-grown
returns-in_err-push-in-Call-clause-grown c = on_err c.from_residual-in_err-push-in-Call.result (λ s h. rw c.in-Call.is refl)

pub returns-in_err-referred-in-Reply-clause-grown : goal.returns-in_err-referred-in-Reply-clause-grown
returns-in_err-referred-in-Reply-clause-grown c = on_err c.from_residual-in_err-referred-in-Reply.result (λ s h. rw c.in-Reply.is (c.in_err-referred-in-Reply.ensures.grown s h.objects_stand))

pub returns-in_err-referred-in-Call-clause-grown : goal.returns-in_err-referred-in-Call-clause-grown
returns-in_err-referred-in-Call-clause-grown c = on_err c.from_residual-in_err-referred-in-Call.result (λ s h. rw c.in-Call.is refl)
