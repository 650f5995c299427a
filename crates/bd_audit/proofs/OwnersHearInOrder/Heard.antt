-- For OwnersHearInOrder: in every history the owner of an object hears of it in order.
use Rattle.bd_laws.proofs.words.Logic.{◌≡◌, ℕ, ◌-◌, ◌==◌, Bool, true, false, cond, not, List, [], ◌∷◌, Option, Some, None, Result, Ok, Err, refl, ap, sym, subst, ◌∙◌, arith, list_any, is_some, eqb-true}
use Rattle.bd_laws.proofs.words.Types.{Fault, Note, Identity, Parcel, Entry, Step, Command, Read, StepAnswer, Actor, Object, Buffer}
use Rattle.bd_laws.proofs.words.Space.{same, is_some_and, Space, opening, actor, lives_in, is_shaking, list_to_read, follow, Outcome, refused, by_check, done_check, acknowledge, command_step, read_by, taken, buffer_taken, got, read_taking, read_fault, read_step, stream_of, change, counted, by_actor, History, IsHistory, Follows, EntryFollows, next}
use Rattle.bd_uapi.specs.declared.command.Command as command
use Rattle.bd_uapi.specs.declared.command.Command.TheVariants as bc
use Rattle.bd_laws.proofs.words.Laws.{In, IsTidy}
use Rattle.bd_laws.proofs.Lists.{find_in}
use Rattle.bd_laws.proofs.Tests.{both, same_eq, eq_same}
use Rattle.bd_laws.proofs.Machine.EveryEnding.{IsReading, IsAcknowledging}
use Rattle.bd_laws.proofs.Machine.EveryStep.{every_step}
use Rattle.bd_laws.proofs.IsInTurn.Ripening.{read_in}
use Rattle.bd_laws.proofs.Always.{step_tidy, opening_tidy}
use Rattle.bd_laws.proofs.Machine.Steps.{change_steps}
use Rattle.bd_laws.proofs.NothingIsPending.Noticing.{quiet_live}
use Rattle.bd_audit.specs.Hearing.{Event, heard_in, names_own, is_got, is_accepted, heard_by, heard_at, heard_from, heard_of, InOrder}
use Rattle.bd_audit.proofs.OwnersHearInOrder.Orders.{hears_append, in_order, Hearing, unheard, hears_all}
use Rattle.bd_audit.proofs.OwnersHearInOrder.Telling.{follow_told, quiet_step}
use Rattle.bd_audit.proofs.OwnersHearInOrder.Tracking.{Tracks, HeardBefore}
use Rattle.bd_audit.proofs.OwnersHearInOrder.Acknowledging.{done_event, is_own_with, done_checked, actor_alive, HeardAfter, silent_after, other_done, own_done, completed_after}
use Rattle.bd_audit.proofs.OwnersHearInOrder.Readings.{reads_all, read_list_once}

-- ---- every step

abbrev acknowledges : command.Command → Bool
acknowledges (bc.IncrefsDone ptr cookie) = true
acknowledges (bc.AcquireDone ptr cookie) = true
acknowledges _ = false

-- the step neither reads nor acknowledges
abbrev is_quiet : Step → Bool
is_quiet (Read limit) = false
is_quiet (Command c parcel) = not (acknowledges c)
is_quiet _ = true

unread : (x : Step) → is_quiet x ≡ true → IsReading x → ⊥
unread x q r = let e = ap is_quiet r.1 in absurd (cc)

unanswered : (x : Step) (b : Bool) → is_quiet x ≡ true → IsAcknowledging x b → ⊥
unanswered x b q d = search arith

nothing : (b : Bool) → cond b [] [] ≡ (let none : List Event = [] in none)
nothing b = search arith

quiet_heard : (s : Space) (o : Identity) (a : Actor) (x : Step) (answer : StepAnswer) → is_quiet x ≡ true → heard_by s o a x answer ≡ []
quiet_heard s o a x answer q = search (arith, nothing)

module _ (o : Identity) (st : Hearing) (s : Space) (tidy : IsTidy s) (h : HeardBefore o st s) (seat : ℕ) (answer : StepAnswer) where
  -- what this seat hears by the step x
  abbrev events : Step → Option Actor → List Event
  events x f = elim f as (λ (g : Option Actor). List Event) [ None ↦ [] | Some a ↦ heard_by s o a x answer ]

  abbrev Goes : Step → Type 0
  Goes x = HeardAfter o st s.steps (events x (actor s seat)) (change s seat x).space

  same_events : (es fs : List Event) (z : Space) → es ≡ fs → HeardAfter o st s.steps fs z → HeardAfter o st s.steps es z
  same_events es fs z e k = record { now = k.now; heard = ap (hears_all st) e ∙ k.heard; tracks = k.tracks; fresh = k.fresh }

  goes_quietly : (x : Step) → is_quiet x ≡ true → Goes x
  goes_quietly x q =
      same_events (events x (actor s seat)) [] (change s seat x).space (of (actor s seat))
      (silent_after o st s (change s seat x).space h
      (every_step s seat x (Tracks ⊥ o st) (Tracks ⊥ o st) (quiet_step o st s seat x tidy.before h (unread x q) (λ b. unanswered x b q))))
    where
      of : (f : Option Actor) → events x f ≡ []
      of f = search (arith, quiet_heard)

  same_space : HeardAfter o st s.steps [] s
  same_space = silent_after o st s s h h.tracks

  -- ---- an acknowledgement

  done_after : (a : Actor) (ptr cookie : ℕ) (strong : Bool) (r : Result Object Note) → actor s seat ≡ Some a → done_check s a.process.made ptr cookie strong ≡ r
      → (by_check s (λ x. acknowledge s x.id strong) r).answer ≡ answer → HeardAfter o st s.steps (cond (is_accepted answer) (cond (names_own s o a.process.made ptr cookie) (done_event strong ∷ []) []) []) (by_check s (λ x. acknowledge s x.id strong) r).space
  done_after a ptr cookie strong (Err n) e c is =
      same_events _ [] s (ap (λ y. cond (is_accepted y) (cond (names_own s o a.process.made ptr cookie) (done_event strong ∷ []) []) []) (sym is)) same_space
  done_after a ptr cookie strong (Ok y) e c is =
      let d = done_checked s a.process.made ptr cookie strong y c in
      let own = find_in (is_own_with a.process.made ptr cookie) y s.objects d.0 in
      let owner : y.owner ≡ a.process.made = eqb-true y.owner a.process.made (both (y.owner == a.process.made) (y.ptr == ptr) (both _ (y.cookie == cookie) own.1).0).0 in
      let live : lives_in s.processes y.owner ≡ true = subst (λ p. lives_in s.processes p ≡ true) (sym owner) (actor_alive s seat a e) in
      let names : names_own s o a.process.made ptr cookie ≡ same y.id o = ap (λ f. is_some_and f (λ (x : Object). same x.id o)) d.0 in
      same_events _ (cond (same y.id o) (done_event strong ∷ []) []) _
      (ap (λ z. cond (is_accepted z) (cond (names_own s o a.process.made ptr cookie) (done_event strong ∷ []) []) []) (sym is) ∙ ap (λ b. cond b (done_event strong ∷ []) []) names)
      (completed_after o st s tidy.before h _ _ (at (same y.id o) refl own.0 live d.1))
    where
      at : (b : Bool) → same y.id o ≡ b → In y s.objects → lives_in s.processes y.owner ≡ true → list_any (is_shaking y.id strong) s.references ≡ true
          → HeardAfter o st s.steps (cond b (done_event strong ∷ []) []) (acknowledge s y.id strong)
      at true f l live any =
          let id = same_eq y.id o f in
          subst (λ i. HeardAfter o st s.steps (done_event strong ∷ []) (acknowledge s i strong)) (sym id)
          (own_done o st s tidy.before h y strong l id live (subst (λ i. list_any (is_shaking i strong) s.references ≡ true) id any))
      at false f l live any = silent_after o st s _ h (other_done o st s tidy.before h y.id strong (λ e. let yes = eq_same y.id o e in absurd (cc)))

  goes_done : (strong : Bool) (ptr cookie : ℕ) (parcel : Option Parcel) (f : Option Actor) → actor s seat ≡ f
      → (by_actor s f (λ a. command_step s a (cond strong (bc.AcquireDone ptr cookie) (bc.IncrefsDone ptr cookie)) parcel)).answer ≡ answer
      → HeardAfter o st s.steps (events (Command (cond strong (bc.AcquireDone ptr cookie) (bc.IncrefsDone ptr cookie)) parcel) f)
      (by_actor s f (λ a. command_step s a (cond strong (bc.AcquireDone ptr cookie) (bc.IncrefsDone ptr cookie)) parcel)).space
  unfolding command_step
  goes_done true ptr cookie parcel None e k = same_space
  goes_done true ptr cookie parcel (Some a) e k = done_after a ptr cookie true (done_check s a.process.made ptr cookie true) e refl k
  goes_done false ptr cookie parcel None e k = same_space
  goes_done false ptr cookie parcel (Some a) e k = done_after a ptr cookie false (done_check s a.process.made ptr cookie false) e refl k

  -- ---- a reading

  gets : (stream : List ℕ) (f : Option Buffer) (es : List Event) → cond (is_got (got stream f)) es [] ≡ es
  gets stream f es = search arith

  read_after : (a : Actor) (limit : ℕ) (f : Option Fault)
      → (elim f as (λ (g : Option Fault). Outcome) [ Some y ↦ refused s y | None ↦ read_taking s a.thread.seat (taken s (limit - 4) (list_to_read s a.thread)) ]).answer ≡ answer
      → HeardAfter o st s.steps (cond (is_got answer) (heard_in s o (taken s (limit - 4) (list_to_read s a.thread))) [])
      (elim f as (λ (g : Option Fault). Outcome) [ Some y ↦ refused s y | None ↦ read_taking s a.thread.seat (taken s (limit - 4) (list_to_read s a.thread)) ]).space
  unfolding read_taking
  read_after a limit (Some y) is = same_events _ [] s (ap (λ z. cond (is_got z) (heard_in s o (taken s (limit - 4) (list_to_read s a.thread))) []) (sym is)) same_space
  read_after a limit None is =
      let ws = taken s (limit - 4) (list_to_read s a.thread) in
      let r = reads_all o st s tidy.before (quiet_live s tidy.quiet) h a.thread.seat ws (read_list_once s a.thread (limit - 4) tidy.once) (λ w l. read_in s a.thread (limit - 4) w l) in
      same_events _ (heard_in s o ws) (follow (read_by s a.thread.seat ws))
      (ap (λ z. cond (is_got z) (heard_in s o ws) []) (sym is) ∙ gets (stream_of s ws) (buffer_taken s ws) (heard_in s o ws))
      (record { now = r.0; heard = r.1; tracks = follow_told o r.0 (read_by s a.thread.seat ws) r.2; fresh = r.3 })

  goes_read : (limit : ℕ) (f : Option Actor) → (by_actor s f (λ a. read_step s a limit)).answer ≡ answer → HeardAfter o st s.steps (events (Read limit) f) (by_actor s f (λ a. read_step s a limit)).space
  unfolding read_step
  goes_read limit None k = same_space
  goes_read limit (Some a) k = read_after a limit (read_fault limit (list_to_read s a.thread)) k

  goes : (x : Step) → (change s seat x).answer ≡ answer → Goes x
  unfolding change
  goes (Read limit) k = goes_read limit (actor s seat) k
  goes (Command (bc.IncrefsDone ptr cookie) parcel) k = goes_done false ptr cookie parcel (actor s seat) refl k
  goes (Command (bc.AcquireDone ptr cookie) parcel) k = goes_done true ptr cookie parcel (actor s seat) refl k
  goes x k = goes_quietly x refl

-- ---- every history

heard_step : (o : Identity) (st : Hearing) (s : Space) (e : Entry) → IsTidy s → HeardBefore o st s → EntryFollows s e
    → (now : Hearing) × (hears_all st (heard_at s o e) ≡ Some now) × HeardBefore o now (next s e)
unfolding counted
heard_step o st s e tidy h follows =
    let k = goes o st s tidy h e.seat e.answer e.step follows.answer in
    let steps = change_steps s e.seat e.step in
    (k.now, k.heard, record { tracks = k.tracks; fresh = λ le. k.fresh (omega arith) })

all_heard : (o : Identity) (es : List Entry) (s : Space) (st : Hearing) → IsTidy s → HeardBefore o st s → Follows s es → is_some (hears_all st (heard_from s o es)) ≡ true
all_heard o [] s st tidy h follows = refl
all_heard o (e ∷ es) s st tidy h follows =
    let k = heard_step o st s e tidy h follows.0 in
    ap is_some (hears_append (heard_at s o e) (heard_from (next s e) o es) st k.0 k.1) ∙ all_heard o es (next s e) k.0 (step_tidy s e tidy) k.2 follows.1

pub hears_in_order : (h : History) → IsHistory h → (o : Identity) → InOrder (heard_of o h)
unfolding heard_of
hears_in_order h lawful o =
    in_order (heard_from opening o h.entries)
    (all_heard o h.entries opening unheard opening_tidy (record { tracks = λ x l. absurd l; fresh = λ le. refl }) lawful.follows)
