-- For GoneUnheld: an object that has gone never comes back, and nothing refers to it again.
use Rattle.bd_laws.proofs.words.Logic.{◌≡◌, ℕ, ◌+◌, ◌<◌, ◌≤◌, true, false, List, [], ◌∷◌, length, take, drop, inl, inr, ap, sym, subst, ◌∙◌, arith, is_some, take_take, take-append-drop, length-take-le}
use Rattle.bd_laws.proofs.words.Types.{Identity, Entry, Object}
use Rattle.bd_laws.proofs.words.Space.{same, Space, opening, object_in, held_in, counted, History, after, next, space_after}
use Rattle.bd_laws.proofs.words.Laws.{Here, Before}
use Rattle.bd_laws.proofs.Tests.{same_eq}
use Rattle.bd_laws.proofs.Objects.{here_found, gone_unheld}
use Rattle.bd_laws.proofs.IsInTurn.Passing.{step_passes}
use Rattle.bd_laws.proofs.IsInTurn.Received.{step_before}
use Rattle.bd_laws.proofs.Always.{always_tidy, tidy_after}
use Rattle.bd_audit.specs.Replays.{beginning}
use Rattle.bd_audit.specs.Laws.{space_at, is_here}
use Rattle.bd_audit.proofs.Beginnings.{after_append}
use Rattle.bd_laws.proofs.Machine.Steps.{next_steps}
use Rattle.bd_laws.proofs.Machine.Steps.{always_steps}
use Rattle.bd_audit.proofs.NamesHaveGiftChains.NameBegins.{some_found}

-- ---- one step, and more

Away : Identity → Space → Type 0
Away o z = Here z.objects o → ⊥

-- what a step makes has its place
step_away : (s : Space) (e : Entry) (o : Identity) → Before s → o.place < s.steps → Away o s → Away o (next s e)
unfolding counted Away
step_away s e o before lt away here = elim ((step_passes s e before.turns before.received.lists).passed.objects here.0 here.1) [
  | inl y ↦ away (y.0, y.1, sym y.2 ∙ here.2)
  | inr new ↦ (let at = new.0 in let is = ap (λ (x : Identity). x.place) here.2 in absurd (omega arith))
]

later_away : (es : List Entry) (s : Space) (o : Identity) → Before s → o.place < s.steps → Away o s → Away o (after s es)
later_away [] s o before lt away = away
later_away (e ∷ es) s o before lt away =
    let n = next_steps s e in
    later_away es (next s e) o (step_before s e before) (omega arith) (step_away s e o before lt away)

-- ---- the law

found_here : (objects : List Object) (o : Identity) → is_some (object_in objects o) ≡ true → Here objects o
found_here objects o h = let x = some_found (λ (y : Object). same y.id o) objects h in (x.0, x.1, same_eq x.0.id o x.2)

away_here : (z : Space) (o : Identity) → Away o z → is_here z o ≡ false
unfolding Away
away_here z o away = search (arith, found_here)

here_away : (z : Space) (o : Identity) → is_here z o ≡ false → Away o z
unfolding Away
here_away z o gone here = let yes = here_found z.objects o here in absurd (cc)

-- the space of a later beginning comes from that of an earlier one
later_space : (es : List Entry) (i n : ℕ) → i ≤ n → after opening (take n es) ≡ after (after opening (take i es)) (drop i (take n es))
later_space es i n le =
    ap (λ xs. after opening xs) (sym (take-append-drop i (take n es)))
    ∙ after_append opening (take i (take n es)) (drop i (take n es))
    ∙ ap (λ xs. after (after opening xs) (drop i (take n es))) (take_take i n es le)

steps_at : (es : List Entry) (i : ℕ) → i ≤ length es → (after opening (take i es)).steps ≡ i
steps_at es i le = always_steps (take i es) ∙ length-take-le i es le

pub stays_gone : (h : History) (i : ℕ) → i < length h.entries → (o : Identity) → is_here (space_at h i) o ≡ true → is_here (space_at h (i + 1)) o ≡ false
    → (n : ℕ) → i < n → (is_here (space_at h n) o ≡ false) × (held_in (space_at h n).references o ≡ false)
unfolding space_after
stays_gone h i inside o here gone n lt =
    let es = h.entries in
    let was = found_here (space_at h i).objects o here in
    let made = (always_tidy (beginning i h)).before.objects.kept.below was.0 was.1 in
    let before = steps_at es i (omega arith) in
    let now = steps_at es (i + 1) (omega arith) in
    let id = ap (λ (x : Identity). x.place) was.2 in
    let old : o.place < (space_at h (i + 1)).steps = omega arith in
    let away = later_away (drop (i + 1) (take n es)) (space_at h (i + 1)) o (tidy_after (take (i + 1) es)).before old (here_away (space_at h (i + 1)) o gone) in
    let not_here = subst (λ (z : Space). is_here z o ≡ false) (sym (later_space es (i + 1) n (omega arith))) (away_here _ o away) in
    (not_here, gone_unheld (space_at h n) (always_tidy (beginning n h)).before.objects o not_here)
