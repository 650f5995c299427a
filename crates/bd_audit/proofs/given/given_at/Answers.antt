use Rattle.std.proofs.Common.{◌≡◌, Option, Result, Ok, Err, IfOk, IfSome, MatchOption, None, subst, sym}
use Rattle.std.specs.List.{slice_get}
use Rattle.bd_space.specs.declared.step.Entry.{Entry}
use Rattle.bd_space.specs.Histories.{History}
use Rattle.bd_spelling.specs.Records.{history_in}
use Rattle.bd_audit.specs.{Given.{IsGivenTo, IsGivenAt}, Replays.{beginning, IsEntryAt}}
use Rattle.bd_audit.proofs.given.given_at.Goals as goal

if_ok : {T E : Type 0} (P Q : T → Type 0) → ((x : T) → P x → Q x) → (r : Result T E) → IfOk r P → IfOk r Q
if_ok P Q f (Ok x) h = f x h
if_ok P Q f (Err e) h = h

pub returns-in-Some-clause-given : goal.returns-in-Some-clause-given
returns-in-Some-clause-given c =
    let h = history_in c.args.record.now in
    let place = c.args.place in
    let e = c.in-Some.entry in
    let at : IsEntryAt h place c.in-Some.engine e = subst (λ (o : Option (History × Entry)).
    MatchOption o (slice_get h.entries place ≡ None) (λ x. IsEntryAt h place x.0 x.1)) c.in-Some.is c.in_ok-engine.ensures.found in
    if_ok (IsGivenTo c.in-Some.engine e) (IsGivenAt h place)
    (λ given k. subst (λ (o : Option Entry). IfSome o (λ x. IsGivenTo (beginning place h) x given)) (sym at.stands)
    (subst (λ (g : History). IsGivenTo g e given) at.begins k))
    c.given_to.result c.given_to.ensures.given
