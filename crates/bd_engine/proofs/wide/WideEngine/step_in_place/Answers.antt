use Rattle.bd_engine.proofs.{Keeping.{follows_entered, full_at_length, limit_at_end, short_of_full}, Words.{Entry, Err, Follows, FollowsShort, FullOnly, History, IsBlock, IsStep, List, Ok, OnOk, Result, Some, Step, [], ap, arith, false, full_as, history_of, is_at_limit, is_err, length, length-append, space_after, step_bytes, subst, sym, true, ◌++◌, ◌∙◌, ◌∷◌, ◌≡◌, ◌≤◌}}
use Rattle.bd_space.specs.Steps as steps
use Rattle.bd_engine.proofs.wide.WideEngine.step_in_place.Goals as goal

of_ok : {T E P : Type 0} (r : Result T E) → is_err r ≡ false → OnOk r P → P
of_ok (Ok x) is h = h
of_ok (Err e) is h = absurd (cc)

pub push-requires-clause-spelled : goal.push-requires-clause-spelled
push-requires-clause-spelled c =
    let made = c.in-Ok.ensures in
    let spelled = of_ok c.begin.result (sym c.is_err.ensures.value ∙ c.if-is_err.false) c.begin.ensures.spelled in
    let few = c.self.invariant.follows.few in
    let alike = c.self.invariant.follows.seats_are in
    let seat = c.requires.seat in
    let view = ap (λ (z : History). z.seats) c.self.view_is in
    record {
      seat = omega (arith, few, alike, seat, view, made.seat);
      step = subst IsStep (sym made.step) spelled.0;
      step_block = subst (λ (z : Step). IsBlock (step_bytes z)) (sym made.step) spelled.1;
      answer = made.kept.0;
      answer_block = made.kept.1;
    }

pub push-requires-clause-step : goal.push-requires-clause-step
push-requires-clause-step c =
    let made = c.in-Ok.ensures in
    let len = of_ok c.begin.result (sym c.is_err.ensures.value ∙ c.if-is_err.false) c.begin.ensures.len in
    ap (λ rest. rest.1) made.rest ∙ len ∙ ap (λ (z : Step). length (step_bytes z)) (sym made.step)

pub push-requires-clause-room : goal.push-requires-clause-room
push-requires-clause-room c =
    let made = c.in-Ok.ensures in
    let step = ap (λ rest. rest.1) made.rest in
    let len = of_ok c.begin.result (sym c.is_err.ensures.value ∙ c.if-is_err.false) c.begin.ensures.len in
    let same = ap (λ (z : Step). length (step_bytes z)) made.step in
    let room = made.kept.2 in
    grind (arith, step, len, same, room, length-append)

pub invariant_of-self-in-Err : goal.invariant_of-self-in-Err
invariant_of-self-in-Err c =
    let made = c.in-Err.ensures in
    let es = c.self.inside.entries.log.entries in
    let h = history_of c.self.inside.live.seats es in
    let kept : c.make.new.keep.log.entries ≡ es = ap (λ rest. rest.0) made.rest ∙ c.begin.ensures.entries in
    subst (λ (z : History). FollowsShort c.make.new.self z) (ap (λ l. history_of c.make.new.self.seats l) (sym kept)) (record {
      follows = subst (λ n. Follows c.make.new.self (history_of n es)) (sym made.seats) (made.err h c.self.invariant.follows);
      short = c.self.invariant.short;
    })

pub returns-in-Ok-clause-answer : goal.returns-in-Ok-clause-answer
returns-in-Ok-clause-answer c =
    let h = history_of c.self.inside.live.seats c.self.inside.entries.log.entries in
    subst (λ (z : History). c.make.new.entry.answer ≡ (steps.step (space_after z) c.args.entry.now.seat c.args.entry.now.step).answer) c.self.view_is
    (c.in-Ok.ensures.answer h c.self.invariant.follows)

pub returns-then-is_full-clause-full : goal.returns-then-is_full-clause-full
returns-then-is_full-clause-full c = full_at_length _ _ _ (sym c.is_full.ensures ∙ c.if-is_full.true)

pub invariant_of-self-in-Ok : goal.invariant_of-self-in-Ok
invariant_of-self-in-Ok c =
    let es = c.self.inside.entries.log.entries in
    let h = history_of c.self.inside.live.seats es in
    let e = c.make.new.entry in
    let made = c.in-Ok.ensures in
    let kept : c.make.new.keep.log.entries ≡ es = ap (λ rest. rest.0) made.rest ∙ c.begin.ensures.entries in
    let grown : c.push.new.self.entries ≡ es ++ e ∷ [] = c.push.ensures.entries ∙ ap (λ (l : List Entry). l ++ e ∷ []) kept in
    let room = short_of_full h _ _ c.is_full.ensures c.if-is_full.false c.self.view_is in
    record {
      follows = follows_entered h c.refresh_ready.new.self c.args.entry.now.seat c.args.entry.now.step e _ _
          made.seat made.step (c.refresh_ready.ensures.follows _ (made.follows h c.self.invariant.follows)) (c.refresh_ready.ensures.seats ∙ made.seats) grown;
      short = subst (λ (l : List Entry). length l ≤ 4294967295) (sym grown) (omega (arith, room, length-append es (e ∷ [])));
    }

pub returns-in-Err-clause-full : goal.returns-in-Err-clause-full
returns-in-Err-clause-full c =
    let h = history_of c.self.inside.live.seats c.self.inside.entries.log.entries in
    let why = c.in-Err.why in
    let seat = c.args.entry.now.seat in
    let step = c.args.entry.now.step in
    subst (λ (z : History). FullOnly why (is_at_limit z seat (Some step) ≡ true)) c.self.view_is
    (full_as why _ _ (limit_at_end h seat step) (c.in-Err.ensures.full h c.self.invariant.follows))
