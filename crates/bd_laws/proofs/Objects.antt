-- SpacesAreTidy, and ObjectsAreKept, which is proved from it: objects stay in the space as long as anything refers to them,
-- and no two have one identity.
use Rattle.bd_laws.proofs.words.Logic.{◌≡◌, ℕ, suc, Bool, true, false, cond, List, [], ◌∷◌, ◌++◌, Option, Some, None, Ok, inl, inr, refl, ap, sym, subst, ◌∙◌, arith, list_all, flat_map, is_some}
use Rattle.bd_laws.proofs.words.Types.{Identity, Process, Object, Reference, Manager, Name, Item, Work, OfThread, Step, Entry}
use Rattle.bd_laws.proofs.words.Space.{changed, same, Space, reference_of, held_in, object_in, stays_in, objects_go, names_go, read_by, handshakes, handshakes_for, shakes, told_of, is_told_by, returns_of, returns_of_object, with_thread, with_process, with_manager, opening, closed, ripen, follow, change, counted, next, with_spam_detection, ask_check}
use Rattle.bd_space.specs.declared.space.WorkKind.TheVariants as work
use Rattle.bd_laws.proofs.words.Laws.{In, Here, Earlier, Kept, KeptBefore}
use Rattle.bd_laws.proofs.Lists.{in_left, in_last, in_filter, filter_in, in_changed, changed_in, any_found, any_in, all_in, find_in, find_some, pairs_filter, pairs_changed}
use Rattle.bd_laws.proofs.Tests.{to_false, same_eq, eq_same, notice_named}
use Rattle.bd_laws.proofs.Sendings.{Sends}
use Rattle.bd_laws.proofs.Checks.{asked_checked}
use Rattle.bd_laws.proofs.Machine.EveryStep.{Keeps, every_step}
use Rattle.bd_laws.proofs.Machine.Untouched.{owe_untouched, closed_untouched, ripen_untouched, notify_untouched, work_goes_untouched, deaths_go_untouched, with_looping_untouched, on_deaths_untouched, tell_deaths_untouched}
use Rattle.bd_laws.proofs.Machine.Deaths.{on_mapped, on_commands}
use Rattle.bd_laws.proofs.FollowingIsLocal.Handshakes.{for_object, shaken_by}
use Rattle.bd_laws.proofs.KeptBefore.ObjectsKept.{IsKept, IsKeptWhole, kept_untouched, whole_untouched, drop_asked_kept, acknowledge_kept, without_buffer_kept, thread_goes_kept, threads_go_kept, without_process_kept, grown, referred, ask_kept, sent_here, asked_here}
pub use Rattle.bd_laws.proofs.KeptBefore.ObjectsKept.{later, replied_kept, transacted_kept}

-- ---- managing

pub managed_kept : (s : Space) (p : ℕ) → KeptBefore s → IsKeptWhole (with_manager s p)
unfolding with_manager
managed_kept s p h =
    let o : Identity = record { place = s.steps; index = 0 } in
    let x : Object = record { id = o; owner = p; ptr = 0; cookie = 0; told_weak = true; told_strong = true } in
    let r = reference_of s.steps 0 o true Manager in
    let none : Kept s.steps None s.objects s.references = record { refs = h.kept.refs; manages = λ y e. absurd (cc); below = h.kept.below; in_order = h.kept.in_order } in
    let k = grown s.steps None s.objects (x ∷ []) s.references (r ∷ []) none
    (λ y l. elim l [ inl e ↦ sym (ap (λ (z : Object). z.id.place) e) | inr none ↦ absurd none ]) ((λ y l. absurd l), tt)
    (λ q l. elim l [ inl e ↦ (x, in_last x s.objects, ap (λ (z : Reference). z.object) e) | inr none ↦ absurd none ]) in
    record {
      kept = record {
        refs = k.refs;
        manages = λ y e. (r, in_last r s.references, cc, refl, refl);
        below = k.below;
        in_order = k.in_order;
      };
      named = λ m l. let q = h.named m l in (q.0, in_left q.0 s.references (r ∷ []) q.1, q.2);
    }

-- ---- reading

no_object : (s : Space) (references : List Reference) (o : Identity) (found : Option Object) (n k : ℕ) (r : Reference) → object_in s.objects o ≡ found
    → In r (handshakes_for n k o (flat_map shakes (returns_of_object references found))) → Here s.objects r.object
no_object s references o None n k r e l = absurd l
no_object s references o (Some x) n k r e l =
    let f = find_in (λ (y : Object). same y.id o) x s.objects e in
    (x, f.0, same_eq x.id o f.1 ∙ sym (for_object n k o (flat_map shakes (returns_of_object references (Some x))) r l))

handshakes_here : (s : Space) (ws : List Work) (k : ℕ) (r : Reference) → In r (handshakes s k ws) → Here s.objects r.object
unfolding returns_of
handshakes_here s ws k r l =
    let x = shaken_by s ws k r l in
    no_object s s.references x.object (object_in s.objects x.object) s.steps x.number r refl
    (subst (λ kind. In r (handshakes_for s.steps x.number x.object (flat_map shakes (returns_of s kind)))) (notice_named x.item.kind x.object x.tells) x.shakes_for)

pub told_id : (references : List Reference) (b : Bool) (x : Object) → (cond b (told_of references x) x).id ≡ x.id
told_id references b x = search arith

pub told_here : (s : Space) (ws : List Work) (o : Identity) → Here s.objects o → Here (changed (λ x. is_told_by ws x.id) (told_of s.references) s.objects) o
told_here s ws o h = (_, changed_in (λ (x : Object). is_told_by ws x.id) (told_of s.references) h.0 s.objects h.1, told_id s.references (is_told_by ws h.0.id) h.0 ∙ h.2)

pub read_kept : (s : Space) (seat : ℕ) (ws : List Work) → IsKept s → IsKept (read_by s seat ws)
unfolding read_by
read_kept s seat ws h =
    let told = λ (x : Object). is_told_by ws x.id in
    let f = told_of s.references in
    let all = referred (suc s.steps) s.manager s.objects s.references (handshakes s 0 ws) h (λ r l. handshakes_here s ws 0 r l) in
    record {
      refs = λ r l. told_here s ws r.object (all.refs r l);
      manages = all.manages;
      below = λ x l. let z = in_changed told f x s.objects l in
          let e : x.id.place ≡ z.0.id.place = ap (λ (y : Object). y.id.place) z.2 ∙ ap (λ (i : Identity). i.place) (told_id s.references (told z.0) z.0) in
          let lt = h.below z.0 z.1 in omega arith;
      in_order = pairs_changed Earlier told f (λ x y d. rw (told_id s.references (told x) x, told_id s.references (told y) y) d) s.objects h.in_order;
    }

-- ---- what follows

pub stays : (processes : List Process) (references : List Reference) (x : Object) (r : Reference) → In r references → x.id ≡ r.object → stays_in processes references x ≡ true
stays processes references x r l e = search (arith, any_in, eq_same)

pub objects_go_kept : (z : Space) → IsKept z → IsKept (objects_go z)
unfolding objects_go
objects_go_kept z h =
    let p = stays_in z.processes z.references in
    record {
      refs = λ r l. let x = h.refs r l in (x.0, filter_in p x.0 z.objects x.1 (stays z.processes z.references x.0 r l x.2), x.2);
      manages = h.manages;
      below = λ x l. h.below x (in_filter p x z.objects l).0;
      in_order = pairs_filter Earlier p z.objects h.in_order;
    }

-- ---- every step

pub kept_step : (s : Space) (seat : ℕ) (x : Step) → KeptBefore s → Keeps s seat x IsKept IsKeptWhole
unfolding with_thread with_process with_spam_detection follow names_go objects_go
kept_step s seat x h =
    let now = later s h in
    record {
      set_up = search (arith, managed_kept);
      changes = record {
        transacts = λ a d parcel v e i t. transacted_kept s a d parcel v h t;
        replies = λ a d parcel f v e i g t. replied_kept s a d parcel f v h t;
        frees = λ p ptr b e t. without_buffer_kept s b.made now.kept;
        asks = λ a n strong o e i t. ask_kept s a.process.made n strong o h t;
        drops = λ p o strong. drop_asked_kept s p o strong now.kept;
        acknowledges = λ o strong i. acknowledge_kept s o strong now.kept;
        loops = λ a looping e. kept_untouched _ s (with_looping_untouched s a.thread.seat looping) now.kept;
        on_deaths = on_commands s _ (on_mapped s _ _ (λ y k. kept_untouched y s k now.kept) (on_deaths_untouched s));
        reads = λ a limit e i n. read_kept s a.thread.seat _ now.kept;
        leaves = λ a e. thread_goes_kept s a.thread.seat now.kept;
        ends = λ a e. search (arith, kept_untouched, tell_deaths_untouched, without_process_kept, threads_go_kept);
        ripens = λ z k. kept_untouched (ripen z) z (ripen_untouched z) k;
      };
      follows = λ z k. search (arith, whole_untouched, notify_untouched, work_goes_untouched, deaths_go_untouched, objects_go_kept, in_filter, any_found, same_eq);
      closes = λ z made k. whole_untouched (closed z made) z (closed_untouched z made) k;
      refuses = λ z t r k. whole_untouched _ z (owe_untouched z (OfThread t) (work.Refusal r)) k;
      tells = λ z t r k. whole_untouched _ z (owe_untouched z (OfThread t) (work.Verdict r)) k;
    }

counted_kept : (z : Space) → IsKeptWhole z → KeptBefore (counted z)
unfolding counted
counted_kept z k = search arith

pub step_kept : (s : Space) (e : Entry) → KeptBefore s → KeptBefore (next s e)
step_kept s e h = counted_kept (change s e.seat e.step).space (every_step s e.seat e.step IsKept IsKeptWhole (kept_step s e.seat e.step h))

pub opening_kept : KeptBefore opening
opening_kept = search arith

-- ---- the laws

pub here_found : (objects : List Object) (o : Identity) → Here objects o → is_some (object_in objects o) ≡ true
here_found objects o h = find_some (λ (x : Object). same x.id o) h.0 objects h.1 (eq_same h.0.id o h.2)

pub references_here : (z : Space) → KeptBefore z → list_all (λ r. is_some (object_in z.objects r.object)) z.references ≡ true
references_here z h = all_in (λ (r : Reference). is_some (object_in z.objects r.object)) z.references (λ r l. here_found z.objects r.object (h.kept.refs r l))

pub names_here : (z : Space) → KeptBefore z → list_all (λ m. is_some (object_in z.objects m.object)) z.names ≡ true
names_here z h =
    all_in (λ (m : Name). is_some (object_in z.objects m.object)) z.names
    (λ m l. let r = h.named m l in let x = h.kept.refs r.0 r.1 in here_found z.objects m.object (x.0, x.1, x.2 ∙ r.2))

-- what a process may ask for is there
pub asked_found : (s : Space) (p n : ℕ) (strong : Bool) (o : Identity) → KeptBefore s → ask_check s p n strong ≡ Ok o → is_some (object_in s.objects o) ≡ true
asked_found s p n strong o h check = here_found s.objects o (asked_here s p o n h (asked_checked s p n strong o check))

-- what a parcel carries is there, once what the sending makes is there too
pub carried_found : (s : Space) (p : ℕ) (made : List Object) (items : List Item) → KeptBefore s → Sends s p made items
    → list_all (λ x. is_some (object_in (s.objects ++ made) x.object)) items ≡ true
carried_found s p made items h sends =
    all_in (λ (x : Item). is_some (object_in (s.objects ++ made) x.object)) items
    (λ x l. here_found (s.objects ++ made) x.object (sent_here s p made x.object h (sends.sent x l)))

-- what isn't in the space isn't referred to
pub gone_unheld : (z : Space) → KeptBefore z → (o : Identity) → is_some (object_in z.objects o) ≡ false → held_in z.references o ≡ false
gone_unheld z h o gone = to_false (held_in z.references o) (λ e.
    let r = any_found (λ (r : Reference). same r.object o) z.references e in
    let x = h.kept.refs r.0 r.1 in
    let here = here_found z.objects o (x.0, x.1, x.2 ∙ same_eq r.0.object o r.2) in cc)
