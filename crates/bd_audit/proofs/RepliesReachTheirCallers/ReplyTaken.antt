-- For RepliesReachTheirCallers, RepliesAnswerTheLatestOpenCall and the search `call_of_reply`: which reply a reading takes:
-- the first on its thread's list, if that isn't the first any more afterwards.
use Rattle.bd_laws.proofs.words.Logic.{arith, ◌≡◌, ℕ, ◌-◌, Bool, true, not, List, [], ◌∷◌, ◌++◌, length, Option, Some, None, ◌⊎◌, inl, inr, refl, sym, subst, ◌∙◌, filter, list_any}
use Rattle.bd_laws.proofs.words.Types.{Read, Entry, Object, Process, Reference, Thread, Work, Actor, DeathNotification, TodoList, OfThread, WorkKind, Identity, OfProcess}
use Rattle.bd_laws.proofs.words.Space.{Space, actor, is_on, list_to_read, is_item, follow, notify, work_goes, deaths_go, still_due, names_go, objects_go, taken, read_by, read_taking, bytes_read, change, counted, next, with_work}
use Rattle.bd_space.specs.declared.space.WorkKind.TheVariants as work
use Rattle.bd_todo.specs.TodoList.{reply_of, first_reply_in}
use Rattle.bd_engine.specs.Looks.{first_reply}
use Rattle.bd_laws.specs.Lists.{In}
use Rattle.bd_laws.proofs.Lists.{in_filter, any_found, any_in}
use Rattle.bd_laws.proofs.Machine.Adding.{notify_keeps}
use Rattle.bd_laws.proofs.Tests.{not_true}
use Rattle.bd_laws.proofs.Checks.{actor_acts}
use Rattle.bd_laws.proofs.IsInTurn.Ripening.{read_in}
use Rattle.bd_laws.proofs.OnPaths.PathWords.{same_item}
use Rattle.bd_audit.specs.Replies.{items_taken, reply_taken}
use Rattle.bd_audit.proofs.RepliesReachTheirCallers.Quiet.{follow_quiet}
use Rattle.bd_audit.proofs.RepliesReachTheirCallers.Readings.{reading}
use Rattle.bd_audit.proofs.RepliesReachTheirCallers.RepliesDue.{IsOwed}

-- ---- the first reply of a list

pub first_in : (ws : List Work) (r : ℕ) → first_reply_in ws ≡ Some r → (w : Work) × In w ws × (reply_of w.kind ≡ Some r)
first_in [] r h = absurd (cc)
first_in (w ∷ ws) r h = search (arith, first_in ws r)

none_in : (ws : List Work) → first_reply_in ws ≡ None → (w : Work) (b : ℕ) → In w ws → reply_of w.kind ≡ Some b → ⊥
none_in [] h w b l e = absurd l
none_in (v ∷ ws) h w b l e = search (arith, none_in ws)

-- a test that each reply passes, and an item that is none
kept_first : (p on : Work → Bool) (xs : List Work) → ((w : Work) (b : ℕ) → In w xs → reply_of w.kind ≡ Some b → p w ≡ true) → first_reply_in (filter on (filter p xs)) ≡ first_reply_in (filter on xs)
kept_first p on [] h = refl
kept_first p on (x ∷ xs) h = search (arith, kept_first p on xs (λ w b l. h w b (inr l)))

pushed_first : (on : Work → Bool) (xs : List Work) (y : Work) → reply_of y.kind ≡ None → first_reply_in (filter on (xs ++ y ∷ [])) ≡ first_reply_in (filter on xs)
pushed_first on [] y h = search arith
pushed_first on (x ∷ xs) y h = search (arith, pushed_first on xs y)

-- ---- what follows a reading leaves the replies

noticed_first : (n : ℕ) (on : Work → Bool) (todo : List Work) (list : TodoList) (o : Identity) → first_reply_in (filter on (with_work n todo list (work.Notice o))) ≡ first_reply_in (filter on todo)
noticed_first n on todo list o = search (arith, pushed_first)

reply_stays : (processes : List Process) (objects : List Object) (references : List Reference) (deaths : List DeathNotification) (kind : WorkKind) (b : ℕ)
    → reply_of kind ≡ Some b → still_due processes objects references deaths kind ≡ true
reply_stays processes objects references deaths (work.Notice o) b h = absurd (cc)
reply_stays processes objects references deaths (work.Death n) b h = absurd (cc)
reply_stays processes objects references deaths _ b h = refl

follow_first : (z : Space) (seat : ℕ) → first_reply (follow z) seat ≡ first_reply z seat
unfolding follow notify work_goes deaths_go objects_go names_go
follow_first z seat =
    let c = deaths_go (objects_go (names_go z)) in
    let on = is_on (OfThread seat) in
    notify_keeps (λ todo. first_reply_in (filter on todo) ≡ first_reply_in (filter on z.todo)) (work_goes c) (λ todo x l due h. noticed_first c.steps on todo (OfProcess x.owner) x.id ∙ h)
    (kept_first (λ w. still_due c.processes c.objects c.references c.deaths w.kind) on z.todo (λ w b l e. reply_stays c.processes c.objects c.references c.deaths w.kind b e))

-- ---- a reading of these items

abbrev pub NoReply : ℕ → Space → Type 0
NoReply b z = (w : Work) → In w z.todo → reply_of w.kind ≡ Some b → ⊥

-- the first reply of a thread stands on its list
pub first_stands : (z : Space) (seat r : ℕ) → first_reply z seat ≡ Some r → (w : Work) × In w z.todo × (reply_of w.kind ≡ Some r) × (is_on (OfThread seat) w ≡ true)
first_stands z seat r e = search (arith, first_in, in_filter)

module _ (s : Space) (h : IsOwed s) (seat reader : ℕ) (ws : List Work) (sub : (w : Work) → In w ws → In w s.todo) where
  untaken : first_reply_in ws ≡ None → (w : Work) (b : ℕ) → In w s.todo → reply_of w.kind ≡ Some b → not (list_any (λ (d : Work). is_item w d) ws) ≡ true
  untaken e w b l f = search (arith, h.apart, any_found, none_in, sub)

  none_taken : first_reply_in ws ≡ None → first_reply (follow (read_by s reader ws)) seat ≡ first_reply s seat
  unfolding read_by
  none_taken e = search (arith, follow_first, kept_first, untaken)

  taken_away : (r : ℕ) → first_reply_in ws ≡ Some r → NoReply r (read_by s reader ws)
  unfolding read_by
  taken_away r e v l f = search (arith, in_filter, first_in, any_in, same_item, not_true)

  some_taken : (r : ℕ) → first_reply_in ws ≡ Some r → NoReply r (follow (read_by s reader ws))
  some_taken r e v l f = search (arith, follow_quiet, taken_away)

-- ---- the items that are taken are a beginning of the list

taken_first : (s : Space) (ws : List Work) (left r : ℕ) → first_reply_in (taken s left ws) ≡ Some r → first_reply_in ws ≡ Some r
taken_first s [] left r h = h
taken_first s (w ∷ ws) left r h = search (arith, taken_first s ws (left - length (bytes_read s w)) r)

-- a reply that stands on the list to read stands on the thread's own
own_first : (s : Space) → IsOwed s → (t : Thread) (r : ℕ) → first_reply_in (list_to_read s t) ≡ Some r → first_reply s t.seat ≡ Some r
unfolding list_to_read
own_first s h t r e = search (arith, first_in, in_filter)

-- ---- the step of a reading

-- with these items, which leave z
abbrev Reads : Space → ℕ → List Work → Space → Type 0
Reads s seat ws z =
    ((first_reply_in ws ≡ None) × (first_reply z seat ≡ first_reply s seat))
    ⊎ ((r : ℕ) × (first_reply_in ws ≡ Some r) × (first_reply s seat ≡ Some r) × NoReply r z)

finds : (s : Space) → IsOwed s → (seat left : ℕ) (a : Actor) → actor s seat ≡ Some a → (o : Option ℕ) → first_reply_in (taken s left (list_to_read s a.thread)) ≡ o
    → Reads s seat (taken s left (list_to_read s a.thread)) (follow (read_by s a.thread.seat (taken s left (list_to_read s a.thread))))
finds s h seat left a e None f = inl (f, none_taken s h seat a.thread.seat (taken s left (list_to_read s a.thread)) (read_in s a.thread left) f)
finds s h seat left a e (Some r) f =
    let own = own_first s h a.thread r (taken_first s (list_to_read s a.thread) left r f) in
    let same_seat = (actor_acts s seat a e).seat in
    inr (r, f, subst (λ n. first_reply s n ≡ Some r) same_seat own, some_taken s h seat a.thread.seat (taken s left (list_to_read s a.thread)) (read_in s a.thread left) r f)

reads : (s : Space) → IsOwed s → (seat limit : ℕ) → Reads s seat (items_taken s seat (Read limit)) (change s seat (Read limit)).space
unfolding read_taking
reads s h seat limit =
    reading (λ ws o. Reads s seat ws o.space) s (λ f. inl (refl, refl)) seat limit
    (λ a e. finds s h seat (limit - 4) a e (first_reply_in (taken s (limit - 4) (list_to_read s a.thread))) refl)

pub taken_or_not : (s : Space) → IsOwed s → (e : Entry) (limit : ℕ) → e.step ≡ Read limit
    → ((reply_taken s e ≡ None) × (first_reply (next s e) e.seat ≡ first_reply s e.seat))
    ⊎ ((r : ℕ) × (reply_taken s e ≡ Some r) × (first_reply s e.seat ≡ Some r) × NoReply r (next s e))
unfolding reply_taken counted
taken_or_not s h e limit is = subst (λ x. Reads s e.seat (items_taken s e.seat x) (change s e.seat x).space) (sym is) (reads s h e.seat limit)
