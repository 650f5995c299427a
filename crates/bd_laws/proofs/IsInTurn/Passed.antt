-- For SpacesAreTidy, and for the audit's laws of turns, names, gone objects and replies: within a step each process, object
-- and buffer was there before, or the step made it.
use Rattle.bd_laws.proofs.words.Logic.{arith, ◌≡◌, ℕ, ◌==◌, Bool, true, false, List, Some, ◌⊎◌, inl, inr, refl, subst, ◌∙◌}
use Rattle.bd_laws.proofs.words.Types.{Identity, Process, Actor, Object, Buffer, Work, OfProcess}
use Rattle.bd_laws.proofs.words.Space.{Space, actor, objects_go, stays_in, names_go, assign_numbers, hands_out, follow, notify, work_goes, deaths_go, ask, drop_asked, acknowledge, with_thread, with_process, with_manager, with_spam_detection}
use Rattle.bd_laws.proofs.words.Laws.{In, Due, On, OnLists}
use Rattle.bd_laws.proofs.Lists.{in_push, in_filter, find_in}
use Rattle.bd_laws.proofs.IsInTurn.OneWay.{less_table, HandsNothing, Less}
use Rattle.bd_laws.proofs.Machine.Table.{notify_by}
use Rattle.bd_laws.proofs.Machine.Untouched
use Rattle.bd_laws.proofs.Machine.Untouched.{Untouched}
use Rattle.bd_laws.proofs.Checks.{actor_acts}
use Rattle.bd_laws.proofs.Machine.Following.{follow_by}
use Rattle.bd_laws.proofs.Machine.Marks.{marked_in}

-- One of these processes was opened at p.
abbrev pub Lives : List Process → ℕ → Type 0
Lives processes p = (q : Process) × In q processes × (q.made ≡ p)

-- before the step the buffer was b; if it was handed out by the step, it was due
pub record Became (s : Space) (b c : Buffer) : Type 0 where
  pub made : c.made ≡ b.made
  pub receiver : c.receiver ≡ b.receiver
  pub one_way : c.one_way ≡ b.one_way
  pub target : c.target ≡ b.target
  pub handed : (c.handed ≡ b.handed) ⊎ ((c.handed ≡ true) × Due s.todo b.made)

-- The step made the buffer; if it is a one-way call's, that is on an object of its receiver.
pub record New (s : Space) (c : Buffer) : Type 0 where
  pub made : c.made ≡ s.steps
  pub handed : c.handed ≡ false
  pub owned : (o : Identity) → On o c → (x : Object) × In x s.objects × (x.id ≡ o) × (x.owner ≡ c.receiver) × Lives s.processes x.owner

-- The process p has ended: it isn't among the live ones, and no buffer is left in its window.
pub record Ended (z : Space) (p : ℕ) : Type 0 where
  pub process : Lives z.processes p → ⊥
  pub buffers : (c : Buffer) → In c z.buffers → c.receiver ≡ p → ⊥

pub record Passed (s z : Space) : Type 0 where
  pub steps : z.steps ≡ s.steps
  pub processes : (q : Process) → In q z.processes → Lives s.processes q.made ⊎ (q.made ≡ s.steps)
  pub objects : (x : Object) → In x z.objects → ((y : Object) × In y s.objects × (x.id ≡ y.id) × (x.owner ≡ y.owner)) ⊎ ((x.id.place ≡ s.steps) × Lives s.processes x.owner)
  pub from : (c : Buffer) → In c z.buffers → ((b : Buffer) × In b s.buffers × Became s b c) ⊎ New s c
  pub to : (o : Identity) (b : Buffer) → In b s.buffers → On o b → ((c : Buffer) × In c z.buffers × Became s b c) ⊎ ((b.handed ≡ true) ⊎ Ended z b.receiver)
  pub lists : (w : Work) (c : Buffer) (o : Identity) → In w z.todo → hands_out w.kind ≡ Some c.made → In c z.buffers → On o c → w.list ≡ OfProcess c.receiver

pub same_buffer : (s : Space) (b : Buffer) → Became s b b
same_buffer s b = record { made = refl; receiver = refl; one_way = refl; target = refl; handed = inl refl }

pub passed_none : (s : Space) → OnLists s → Passed s s
passed_none s l = search (arith, same_buffer)

-- ---- what comes later in the step

-- what keeps the buffers and processes, and makes no object
pub record After (z y : Space) : Type 0 where
  pub steps : z.steps ≡ y.steps
  pub processes : z.processes ≡ y.processes
  pub objects : (x : Object) → In x z.objects → In x y.objects
  pub buffers : z.buffers ≡ y.buffers
  pub due : (w : Work) (m : ℕ) → In w z.todo → hands_out w.kind ≡ Some m → In w y.todo

pub after_trans : (z y x : Space) → After z y → After y x → After z x
after_trans z y x h k = search (arith, k.steps, h.processes, k.processes, k.objects, h.objects, h.buffers, k.buffers, k.due, h.due)

pub untouched_after : (z y : Space) → Untouched z y → Less z y → After z y
untouched_after z y u l = record { steps = u.steps; processes = u.processes; objects = λ x i. subst (In x) u.objects i; buffers = u.buffers; due = l.due }

-- what ends at most: nothing is made, and a buffer of a one-way call stays unless its receiver ends
pub record Going (z y : Space) : Type 0 where
  pub steps : z.steps ≡ y.steps
  pub processes : (q : Process) → In q z.processes → In q y.processes
  pub objects : (x : Object) → In x z.objects → In x y.objects
  pub buffers : (c : Buffer) → In c z.buffers → In c y.buffers
  pub stays : (o : Identity) (c : Buffer) → In c y.buffers → On o c → In c z.buffers ⊎ Ended z c.receiver

pub going_passed : (s z y : Space) → Going z y → OnLists z → Passed s y → Passed s z
going_passed s z y g l h = record {
  steps = g.steps ∙ h.steps;
  processes = λ q i. h.processes q (g.processes q i);
  objects = λ x i. h.objects x (g.objects x i);
  from = λ c i. h.from c (g.buffers c i);
  to = λ o b i on. elim (h.to o b i on) [
    | inl c ↦ elim (g.stays o c.0 c.1 (c.2.one_way ∙ on.0, c.2.target ∙ on.1)) [ inl k ↦ inl (c.0, k, c.2) | inr e ↦ inr (inr (subst (Ended z) c.2.receiver e)) ]
    | inr (inl t) ↦ inr (inl t)
    | inr (inr e) ↦ inr (inr (record { process = λ q. e.process (q.0, g.processes q.0 q.1, q.2); buffers = λ c j. e.buffers c (g.buffers c j) }))
  ];
  lists = l;
}

pub passed_after : (s z y : Space) → After z y → Passed s y → Passed s z
passed_after s z y a h = going_passed s z y (search (arith, a.steps, a.processes, a.objects, a.buffers)) (λ w c o i e j on. h.lists w c o (a.due w c.made i e) e (subst (In c) a.buffers j) on) h

-- ---- asking and dropping, which touch references and names alone

pub ask_after : (z : Space) (p : ℕ) (o : Identity) (strong : Bool) → After (ask z p o strong) z
unfolding ask assign_numbers
ask_after z p o strong = record { steps = refl; processes = refl; objects = λ x i. i; buffers = refl; due = λ w m l e. l }

pub drop_asked_after : (z : Space) (p : ℕ) (o : Identity) (strong : Bool) → After (drop_asked z p o strong) z
unfolding drop_asked
drop_asked_after z p o strong = record { steps = refl; processes = refl; objects = λ x i. i; buffers = refl; due = λ w m l e. l }

pub acknowledge_after : (z : Space) (o : Identity) (strong : Bool) → After (acknowledge z o strong) z
unfolding acknowledge
acknowledge_after z o strong = record { steps = refl; processes = refl; objects = λ x i. i; buffers = refl; due = λ w m l e. l }

pub follow_after : (z : Space) → After (follow z) z
unfolding names_go objects_go deaths_go
follow_after = follow_by After after_trans (record {
  names = λ z. record { steps = refl; processes = refl; objects = λ x i. i; buffers = refl; due = λ w m l e. l };
  objects = λ z. record { steps = refl; processes = refl; objects = λ x i. (in_filter (stays_in z.processes z.references) x z.objects i).0; buffers = refl; due = λ w m l e. l };
  deaths = λ z. record { steps = refl; processes = refl; objects = λ x i. i; buffers = refl; due = λ w m l e. l };
  work = λ z. untouched_after (work_goes z) z (Untouched.work_goes_untouched z) (less_table.sheds z);
  notices = λ z. untouched_after (notify z) z (Untouched.notify_untouched z) (notify_by Less HandsNothing less_table z);
})

-- ---- opening, managing and marking

pub opened_passed : (s : Space) (seat pid euid window : ℕ) → OnLists s → Passed s (with_thread (with_process s pid euid window) seat s.steps)
unfolding with_thread with_process
opened_passed s seat pid euid window l = search (arith, in_push, same_buffer)

pub attached_passed : (s : Space) (seat p : ℕ) → OnLists s → Passed s (with_thread s seat p)
unfolding with_thread
attached_passed s seat p l = search arith

pub actor_alive : (s : Space) (seat : ℕ) (a : Actor) → actor s seat ≡ Some a → Lives s.processes a.process.made
actor_alive s seat a h = (a.process, (actor_acts s seat a h).process, refl)

pub managed_passed : (s : Space) (seat : ℕ) (a : Actor) → actor s seat ≡ Some a → OnLists s → Passed s (with_manager s a.process.made)
unfolding with_manager
managed_passed s seat a acts l = search (arith, in_push, actor_alive, same_buffer)

pub marked_passed : (s : Space) (p : ℕ) (on : Bool) → OnLists s → Passed s (with_spam_detection s p on)
unfolding with_spam_detection
marked_passed s p on l =
    let h = passed_none s l in
    record {
      steps = refl;
      processes = λ q i. let r = marked_in p on s.processes q i in inl (r.0, r.1, r.2);
      objects = h.objects;
      from = h.from;
      to = λ o b i on. inl (b, i, same_buffer s b);
      lists = l;
    }
