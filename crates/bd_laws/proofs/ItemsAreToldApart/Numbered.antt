-- For ItemsAreToldApart, which SpacesAreTidy has as a part: work items that a step makes are numbered in their order, so
-- their identities differ: part by part.
use Rattle.bd_laws.proofs.words.Logic.{find, filter, ◌≡◌, ℕ, Bool, true, false, List, [], ◌∷◌, ◌++◌, Option, Some, inl, inr, refl, ap, sym, subst, ◌∙◌, arith, eq-eqb}
use Rattle.bd_laws.proofs.words.Types.{Step, TransactionData, Identity, Object, Reference, Frame, Actor, Work, DeathNotification, WorkKind, TodoList, OfThread, OfProcess, Queued}
use Rattle.bd_laws.proofs.words.Space.{lives_in, same, is_some_and, Space, object_in, stays_in, objects_go, names_go, assign_numbers, closed, goes_to, with_work, owe, ripen, wants_notice, still_due, deaths_go, work_goes, notify, follow, Delivery, delivered, own_notices, add_buffer, with_carried, refer, make_objects, buffer_references, transacted, called, call_out, replied, request_check, requested, with_death, without_death, with_phase, mark_cleared, death_ended, cleared, death_done, is_out, read_by, thread_goes, threads_go, without_process, tell_deaths, buffer_of, without_buffer, ask, drop_asked, acknowledge, with_looping}
use Rattle.bd_space.specs.declared.space.WorkKind.TheVariants as work
use Rattle.bd_laws.proofs.words.Laws.{In, Distinct, Fresh, Told, IsQuiet}
use Rattle.bd_laws.proofs.Lists.{in_last, in_push, in_filter, filter_in, any_in, find_in}
use Rattle.bd_laws.proofs.Tests.{and_both, same_eq, eq_same, and_then_ok, found_ok, unless_ok}
use Rattle.bd_laws.proofs.Sendings.{named_has}
use Rattle.bd_laws.proofs.Machine.Adding.{told_keeps, notify_keeps, ripen_keeps}
use Rattle.bd_laws.proofs.Machine.Deaths.{DeathCommands, either}
use Rattle.bd_laws.proofs.Machine.EveryEnding.{set_up_beside}
use Rattle.bd_laws.proofs.Machine.EveryStep.{Keeps}
use Rattle.bd_laws.proofs.FollowingIsLocal.Sent.{strong_held, sent_notices_keep}
use Rattle.bd_laws.proofs.ItemsAreToldApart.Identities.{Numbered, fresh_numbered, push_numbered, filter_numbered}

-- ---- this step's items are numbered, and none goes

-- still due after what follows from this space's references
abbrev pub Due : Space → WorkKind → Type 0
Due z kind = let y = deaths_go (objects_go (names_go z)) in still_due y.processes y.objects y.references y.deaths kind ≡ true

-- this step's items are numbered, and what they tell of is as D says
pub record Items (n : ℕ) (D : WorkKind → Type 0) (todo : List Work) : Type 0 where
  pub numbered : Numbered n todo
  pub due : (w : Work) → In w todo → w.id.place ≡ n → D w.kind

-- Where all items are of earlier steps, those of step n are numbered, since there are none.
fresh_items : (n : ℕ) (D : WorkKind → Type 0) (todo : List Work) → Fresh n todo → Distinct todo → Items n D todo
fresh_items n D todo f d = search (arith, fresh_numbered)

numbers : (n place : ℕ) (todo : List Work) (list : TodoList) (kind : WorkKind) → place ≡ n → Numbered n todo → Numbered n (with_work place todo list kind)
numbers n place todo list kind e h = subst (λ m. Numbered n (with_work m todo list kind)) (sym e) (push_numbered n todo list kind h)

items_push : (n : ℕ) (D : WorkKind → Type 0) (place : ℕ) (todo : List Work) (list : TodoList) (kind : WorkKind) → place ≡ n → D kind → Items n D todo → Items n D (with_work place todo list kind)
items_push n D place todo list kind e d h = record {
  numbered = numbers n place todo list kind e h.numbered;
  due = λ w l i. elim (in_push w _ todo l) [ inl j ↦ h.due w j i | inr is ↦ subst D (ap (λ (v : Work). v.kind) is) d ];
}

pub record Mid (n : ℕ) (z : Space) : Type 0 where
  pub steps : z.steps ≡ n
  pub items : Items n (Due z) z.todo

-- once what follows has taken items of old
pub record Owing (n : ℕ) (z : Space) : Type 0 where
  pub steps : z.steps ≡ n
  pub todo : Numbered n z.todo

-- A part of a step in which items go and none comes leaves its items numbered.
pub fewer_mid : (s z : Space) → Told s → z.steps ≡ s.steps → ((w : Work) → In w z.todo → In w s.todo) → Mid s.steps z
fewer_mid s z h e less = record { steps = e; items = fresh_items s.steps (Due z) z.todo (λ w l. h.fresh w (less w l)) (λ v w l m. h.distinct v w (less v l) (less w m)) }

read_mid : (s : Space) (seat : ℕ) (ws : List Work) → Told s → Mid s.steps (read_by s seat ws)
unfolding read_by
read_mid s seat ws h = fewer_mid s _ h refl (λ w l. search (arith, in_filter))

goes_mid : (s : Space) (seat : ℕ) → Told s → Mid s.steps (thread_goes s seat)
unfolding thread_goes
goes_mid s seat h = fewer_mid s _ h refl (λ w l. search (arith, in_filter))

pub owe_mid : (n : ℕ) (z : Space) (list : TodoList) (kind : WorkKind) → Due z kind → Mid n z → Mid n (owe z list kind)
unfolding owe deaths_go objects_go names_go
owe_mid n z list kind d h = record { steps = h.steps; items = items_push n (Due z) z.steps z.todo list kind h.steps d h.items }

-- Ripening, which makes Call items, leaves them numbered.
ripens_mid : (n : ℕ) (z : Space) → Mid n z → Mid n (ripen z)
unfolding ripen deaths_go objects_go names_go
ripens_mid n z h = record {
  steps = h.steps;
  items = ripen_keeps (Items n (Due z)) z (λ todo t. items_push n (Due z) z.steps todo (OfProcess t.receiver) (work.Call t.made) h.steps refl) h.items;
}

owe_owing : (n : ℕ) (z : Space) (list : TodoList) (kind : WorkKind) → Owing n z → Owing n (owe z list kind)
unfolding owe
owe_owing n z list kind h = search (arith, numbers)

closed_owing : (n : ℕ) (z : Space) (made : ℕ) → Owing n z → Owing n (closed z made)
unfolding closed
closed_owing n z made h = search arith

follow_owing : (n : ℕ) (z : Space) → Mid n z → Owing n (follow z)
unfolding follow notify work_goes deaths_go objects_go names_go
follow_owing n z h =
    let y = deaths_go (objects_go (names_go z)) in
    record {
      steps = h.steps;
      todo = notify_keeps (Numbered n) (work_goes y) (λ todo x l due. numbers n z.steps todo (OfProcess x.owner) (work.Notice x.id) h.steps)
          (filter_numbered n z.todo (λ (w : Work). still_due y.processes y.objects y.references y.deaths w.kind) h.items.due h.items.numbered);
    }

-- ---- what is sent

-- what is found and stays is found among what stays
find_stays : (p q : Object → Bool) (xs : List Object) (x : Object) → find p xs ≡ Some x → q x ≡ true → find p (filter q xs) ≡ Some x
find_stays p q [] x e k = e
find_stays p q (y ∷ ys) x e k = search (arith, find_stays p q ys x)

module _ (s : Space) (a : Actor) (d : TransactionData) (v : Delivery) (h : Told s) where
  abbrev pub objects : List Object
  objects = s.objects ++ v.sending.made

  abbrev pub references : List Reference
  references = s.references ++ buffer_references s.steps v.receiver.made 0 v.sending.items v.target

  abbrev pub IsDue : WorkKind → Type 0
  IsDue kind = Due (delivered s a d v) kind

  -- a Notice of a sent object that wants one is due
  notice_due : (j : Identity) (o : Object) → object_in objects j ≡ Some o → wants_notice s.processes references o ≡ true → IsDue (work.Notice o.id)
  unfolding delivered own_notices add_buffer with_carried assign_numbers refer make_objects deaths_go objects_go names_go
  notice_due j o found wants =
      let id : o.id ≡ j = same_eq o.id j (find_in (λ (y : Object). same y.id j) o objects found).1 in
      let here = find_stays (λ (x : Object). same x.id o.id) (stays_in s.processes references) objects o (ap (object_in objects) id ∙ found) (search (arith, strong_held)) in
      ap (λ (f : Option Object). is_some_and f (wants_notice s.processes references)) here ∙ wants

  delivers : Mid s.steps (delivered s a d v)
  unfolding delivered own_notices add_buffer with_carried assign_numbers refer make_objects
  delivers =
      let z = add_buffer (with_carried s v) (buffer_of (with_carried s v) a d v) in
      record {
        steps = refl;
        items = sent_notices_keep (λ todo. Fresh s.steps todo × Distinct todo) (Items s.steps IsDue) z a.thread.seat v.sending.items (λ i todo l p. search (arith, in_filter))
            (λ todo p. fresh_items s.steps IsDue todo p.0 p.1)
            (λ i todo x l e missing. items_push s.steps IsDue s.steps todo (OfThread a.thread.seat) (work.Notice x.id) refl (notice_due i.object x e missing.0)) (h.fresh, h.distinct);
      }

-- ---- the changes of commands

called_mid : (n : ℕ) (z : Space) (seat p : ℕ) (one_way : Bool) → Mid n z → Mid n (called z seat p one_way)
unfolding call_out owe deaths_go objects_go names_go
called_mid n z seat p true h = h
called_mid n z seat p false h = record { steps = h.steps; items = items_push n (Due z) z.steps z.todo (goes_to z seat p) (work.Call z.steps) h.steps refl h.items }

-- the writer is told that it is complete
sent_mid : (s : Space) (a : Actor) (d : TransactionData) (v : Delivery) (spam : Bool) → Told s → Mid s.steps (owe (delivered s a d v) (OfThread a.thread.seat) (work.Complete spam))
sent_mid s a d v spam h = owe_mid s.steps _ (OfThread a.thread.seat) (work.Complete spam) refl (delivers s a d v h)

transacts_mid : (s : Space) (a : Actor) (d : TransactionData) (v : Delivery) → Told s → Mid s.steps (transacted s a d v)
unfolding transacted
transacts_mid s a d v h = search (arith, called_mid, sent_mid)

replies_mid : (s : Space) (a : Actor) (d : TransactionData) (f : Frame) (v : Delivery) → Told s → Mid s.steps (replied s a d f v)
unfolding replied closed
replies_mid s a d f v h =
    told_keeps (Mid s.steps) (work.Reply s.steps) (λ z t. owe_mid s.steps z (OfThread t) (work.Reply s.steps) refl) _ f.caller
    (sent_mid (closed s f.made) a d v false (record { fresh = h.fresh; distinct = h.distinct }))

ended_mid : (s : Space) (t : ℕ) (x : DeathNotification) → Told s → Mid s.steps (death_ended s t x)
unfolding death_ended without_death
ended_mid s t x h = search (arith, owe_mid, fewer_mid)

commands_mid : (s : Space) → Told s → IsQuiet s → DeathCommands s (Mid s.steps)
unfolding requested with_death cleared mark_cleared death_done with_phase deaths_go names_go objects_go request_check
commands_mid s h quiet = record {
  requests = λ p n cookie o e. either (Mid s.steps) (is_some_and (object_in s.objects o) (λ x. lives_in s.processes x.owner)) _ _ (fewer_mid s _ h refl (λ w l. l))
      (owe_mid s.steps (with_death s p o cookie Queued) (OfProcess p) (work.Death s.steps) (search (arith, and_then_ok, unless_ok, named_has, found_ok, filter_in, any_in, and_both, eq-eqb, eq_same, in_last)) (fewer_mid s _ h refl (λ w l. l)));
  clears = λ t x. either (Mid s.steps) (is_out x.phase) _ _ (fewer_mid s _ h refl (λ w l. l)) (ended_mid s t x h);
  dones = λ t p cookie x e. either (Mid s.steps) x.cleared _ _ (ended_mid s t x h) (fewer_mid s _ h refl (λ w l. l));
}

-- ---- every step, where the end of a process is told by itself

pub step_owing : (s : Space) (seat : ℕ) (x : Step) → Told s → IsQuiet s → ((p : ℕ) → Mid s.steps (tell_deaths (without_process (threads_go s p) p) p)) → Keeps s seat x (Mid s.steps) (Owing s.steps)
unfolding without_buffer ask assign_numbers drop_asked acknowledge with_looping
step_owing s seat x h quiet ends =
    let seated = set_up_beside s seat (Owing s.steps) (λ qs ts os rs m. record { steps = refl; todo = fresh_numbered s.steps s.todo h.fresh h.distinct }) in
    search (arith, transacts_mid, replies_mid, fewer_mid, commands_mid, read_mid, goes_mid, ripens_mid, follow_owing, closed_owing, owe_owing)
