use Rattle.bd_engine.proofs.{Keeping.{follows_kept}, Words.{Before, Bool, CallTable, Err, Follows, HasRoomToTell, History, IfOk-weaker, Live, Ok, OnErr, Recalls, Result, Tables, TodoList, ap, arith, knows_all, on_err_weaker, on_ok_weaker, refl, space_after, subst, sym, with_calls, ℕ, ◌∙◌, ◌≡◌, ◌≤◌}}
use Rattle.bd_engine.proofs.live.Live.tell_reached.Goals as goal

-- what is behind the pointer stands for the space, and recalls what was told
before : (l : Live) (t : Tables) → t ≡ l.tables.value → (h : History) → Follows l h → Before t (space_after h)
before l t is h follows = subst (λ (u : Tables). Before u (space_after h)) (sym is) follows.stands

recalls : (l : Live) (t : Tables) → t ≡ l.tables.value → (told : TodoList → Bool) → Recalls l.tables.value.calls told → Recalls t.calls told
recalls l t is told k = subst (λ (u : Tables). Recalls u.calls told) (sym is) k

whatever-is : {T E P : Type 0} (r : Result T E) → P → OnErr r P
whatever-is (Ok x) p = tt
whatever-is (Err e) p = p

pub returns-in_err-reserve_reached-clause-follows : goal.returns-in_err-reserve_reached-clause-follows
returns-in_err-reserve_reached-clause-follows c = λ h follows.
    let s = space_after h in
    let stood = before c.args.self.now _ c.deref_mut-tables.ensures.value h follows in
    follows_kept h c.args.self.now _ follows refl (with_calls s.steps _ s c.reserve_reached.new.self s.threads s.frames s.todo stood (c.reserve_reached.ensures.stands s stood.calls_stand))

pub returns-in_err-reserve_reached-clause-err : goal.returns-in_err-reserve_reached-clause-err
returns-in_err-reserve_reached-clause-err c = whatever-is c.from_residual.result
    (λ told k. c.reserve_reached.ensures.told told (recalls c.args.self.now _ c.deref_mut-tables.ensures.value told k))

pub returns-clause-follows : goal.returns-clause-follows
returns-clause-follows c = λ h follows.
    let s = space_after h in
    let stood = before c.args.self.now _ c.deref_mut-tables.ensures.value h follows in
    follows_kept h c.args.self.now _ follows refl (with_calls s.steps _ s c.tell_reached.new.self s.threads s.frames s.todo stood
    (c.tell_reached.ensures.stands s (c.reserve_reached.ensures.stands s stood.calls_stand)))

pub returns-clause-whole : goal.returns-clause-whole
returns-clause-whole c = IfOk-weaker c.tell_reached.result _ _
    (λ whole is. is ∙ c.reserve_reached.ensures.knows ∙ ap (λ (t : Tables). knows_all t.calls) c.deref_mut-tables.ensures.value) c.tell_reached.ensures.whole

pub returns-clause-exact : goal.returns-clause-exact
returns-clause-exact c = IfOk-weaker c.tell_reached.result _ _
    (λ whole exact is told h k follows.
    exact is told (space_after h) (c.reserve_reached.ensures.told told (recalls c.args.self.now _ c.deref_mut-tables.ensures.value told k))
    (c.reserve_reached.ensures.stands (space_after h) (before c.args.self.now _ c.deref_mut-tables.ensures.value h follows).calls_stand)) c.tell_reached.ensures.exact

pub returns-clause-afresh : goal.returns-clause-afresh
returns-clause-afresh c = on_ok_weaker c.tell_reached.result
    (λ now h follows.
    now (space_after h) (c.reserve_reached.ensures.stands (space_after h) (before c.args.self.now _ c.deref_mut-tables.ensures.value h follows).calls_stand)) c.tell_reached.ensures.afresh

pub returns-clause-err : goal.returns-clause-err
returns-clause-err c = on_err_weaker c.tell_reached.result
    (λ keeps told k. keeps told (c.reserve_reached.ensures.told told (recalls c.args.self.now _ c.deref_mut-tables.ensures.value told k))) c.tell_reached.ensures.err

room_less : (t : CallTable) (m n : ℕ) → m ≤ n → HasRoomToTell t n → HasRoomToTell t m
unfolding HasRoomToTell
room_less t m n l h = (h.0, omega (arith, l, h.1))

pub returns-clause-room : goal.returns-clause-room
returns-clause-room c = on_ok_weaker c.tell_reached.result (λ has. room_less _ 64 _ c.in_ok-reserve_reached.ensures.room has) c.tell_reached.ensures.room
