use Rattle.bd_engine.proofs.{Keeping.{end_at_length, end_by_number, follows_kept, follows_step, place}, Words.{Before, HasLivePlace, Recalls, Tables, always_tidy, ap, arith, change_steps, full_as, le-leb, length, memory_if, refl, space_after, subst, sym, ℕ, ◌+◌, ◌<◌, ◌≡◌, ◌≤◌}}
use Rattle.bd_engine.proofs.live.Live.make.Goals as goal

pub returns-in_default-clause-full : goal.returns-in_default-clause-full
returns-in_default-clause-full g c = λ h follows.
    let long : 18446744073709551615 ≤ length h.entries = omega (arith, (c.tables.ensures h follows).own.steps_are, place h, c.in_default.ensures) in
    end_at_length h c.args.entry.now.seat c.args.entry.now.step (le-leb 18446744073709551615 (length h.entries) long)

pub returns-in-Ok-clause-answer : goal.returns-in-Ok-clause-answer
returns-in-Ok-clause-answer g c = λ h follows.
    let before = subst (λ (t : Tables). Before t (space_after h)) (sym c.deref_mut-tables.ensures.value) follows.stands in
    c.in-Ok.ensures.step.ok.answered (space_after h) before (always_tidy h)

pub returns-in-Ok-clause-follows : goal.returns-in-Ok-clause-follows
returns-in-Ok-clause-follows g c = λ h follows.
    let s = space_after h in
    let before = subst (λ (t : Tables). Before t s) (sym c.deref_mut-tables.ensures.value) follows.stands in
    let met = c.in-Ok.ensures.step.ok in
    let stands = met.stands s before (always_tidy h) in
    let seated : c.args.entry.now.seat < h.seats = omega (arith, c.requires.seat, follows.seats_are) in
    let short : length h.entries < 18446744073709551615 = omega (arith, (c.tables.ensures h follows).own.steps_are, place h, c.in-Some.ensures) in
    let counted : c.in-Some.steps ≡ c.change.new.self.steps + 1 =
    omega (arith, c.in-Some.ensures, (c.tables.ensures h follows).own.steps_are, stands.own.steps_are, change_steps s c.args.entry.now.seat c.args.entry.now.step) in
    follows_step h c.args.self.now _ c.change.new.self c.args.entry.now.seat c.args.entry.now.step c.change.new.answer follows seated short
    (met.answered s before (always_tidy h)) stands refl (ap (λ (n : ℕ). let t : Tables = record c.change.new.self { steps = n } in t) counted)

pub returns-in-Err-clause-err : goal.returns-in-Err-clause-err
returns-in-Err-clause-err g c = λ h follows.
    let before = subst (λ (t : Tables). Before t (space_after h)) (sym c.deref_mut-tables.ensures.value) follows.stands in
    follows_kept h c.args.self.now _ follows refl (c.in-Err.ensures.step.err (space_after h) before)

pub returns-in-Err-clause-full : goal.returns-in-Err-clause-full
returns-in-Err-clause-full g c = λ h follows.
    let before = subst (λ (t : Tables). Before t (space_after h)) (sym c.deref_mut-tables.ensures.value) follows.stands in
    full_as c.in-Err.why _ _ (end_by_number h c.args.entry.now.seat c.args.entry.now.step) (c.in-Err.ensures.step.full (space_after h) before (always_tidy h))

pub returns-in-Err-clause-memory : goal.returns-in-Err-clause-memory
returns-in-Err-clause-memory g c = λ h follows.
    let short : length h.entries < 18446744073709551615 = omega (arith, (c.tables.ensures h follows).own.steps_are, place h, c.in-Some.ensures) in
    memory_if c.in-Err.why (HasLivePlace h) short

pub returns-in-Ok-clause-told : goal.returns-in-Ok-clause-told
returns-in-Ok-clause-told g c = λ told k. c.in-Ok.ensures.told told (subst (λ (t : Tables). Recalls t.calls told) (sym c.deref_mut-tables.ensures.value) k)

pub returns-in-Err-clause-told : goal.returns-in-Err-clause-told
returns-in-Err-clause-told g c = λ told k. c.in-Err.ensures.told told (subst (λ (t : Tables). Recalls t.calls told) (sym c.deref_mut-tables.ensures.value) k)
