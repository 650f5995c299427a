-- What follows from an exit, where all that it touches was gathered.
use Rattle.bd_step.proofs.Words.{Actor, Earlier, Exit, Frame, HasProcess, HasThread, Identity, IsBy, IsTidy, List, MakesOfOrdered, MakesWithin, NameTest, Pairs, Space, Tables, Within, actor_acts, and_both, any_found, any_in, ap, at_name, close_among, ended_parts, ending_local, eq-eqb, follow, follow_frames, follow_of, is_among, is_place_among, leaving_local, left_names, left_parts, length, names_among}
use Rattle.bd_step.proofs.{Words.{no_name, same, seats_in, settle, subst, sym, tell_deaths, thread_goes, threads_go, true, without_process, ℕ, ◌==◌, ◌∙◌, ◌≡◌}, Gathering.{thread_objects, thread_frames, process_objects, process_frames}}

-- what the tables make after the exit
abbrev pub looked_at : NameTest → Exit → Space → Space
looked_at a x z = (let y = follow_of a (is_among x.objects.items) z in close_among (length y.frames) (is_place_among x.frames.items) y)

same_count : (a : NameTest) (x : Exit) (z : Space) → close_among (length z.frames) (is_place_among x.frames.items) (follow_of a (is_among x.objects.items) z) ≡ looked_at a x z
same_count a x z = ap (λ (fs : List Frame). close_among (length fs) (is_place_among x.frames.items) (follow_of a (is_among x.objects.items) z)) (sym (follow_frames a (is_among x.objects.items) z))

named_among : (p q : ℕ) (os : List Identity) (o : Identity) → p ≡ q → is_among os o ≡ true → names_among p os q o ≡ true
named_among p q os o is e =
    let i = any_found (λ (i : Identity). same o i) os e in
    any_in (λ (i : Identity). at_name p i q o) i.0 os i.1 (and_both (q == p) (same o i.0) (eq-eqb q p (sym is)) i.2)

pub thread_exits : (s : Space) (a : Actor) (x : Exit) → IsBy a s → HasThread x s a.thread.seat
    → settle (follow (thread_goes s a.thread.seat)) ≡ looked_at (names_among a.thread.process x.objects.items) x (thread_goes s a.thread.seat)
thread_exits s a x by has =
    let seat = a.thread.seat in
    let here = actor_acts s seat a by.acts in
    leaving_local s seat by.tidy (names_among a.thread.process x.objects.items) (is_among x.objects.items) (is_place_among x.frames.items)
    (λ p o e. let n = left_names s seat by.tidy a.thread here.thread here.seat p o e in named_among a.thread.process p x.objects.items o n.0 (thread_objects x s seat has o n.1))
    (thread_objects x s seat has) (thread_frames x s seat has)
    ∙ same_count (names_among a.thread.process x.objects.items) x (thread_goes s seat)

pub process_exits : (s : Space) (p : ℕ) (x : Exit) → IsTidy s → HasProcess x s (seats_in s p) p
    → settle (follow (tell_deaths (without_process (threads_go s p) p) p)) ≡ looked_at no_name x (tell_deaths (without_process (threads_go s p) p) p)
process_exits s p x tidy has =
    ending_local s p tidy (is_among x.objects.items) (is_place_among x.frames.items) (process_objects x s p has) (process_frames x s p has)
    ∙ same_count no_name x (tell_deaths (without_process (threads_go s p) p) p)

-- ---- the tables

ordered_thread : (s : Space) (seat : ℕ) → IsTidy s → Pairs Earlier (thread_goes s seat).objects
ordered_thread s seat tidy = subst (Pairs Earlier) (sym (left_parts s seat tidy).objects) tidy.before.objects.kept.in_order

ordered_process : (s : Space) (p : ℕ) → IsTidy s → Pairs Earlier (tell_deaths (without_process (threads_go s p) p) p).objects
ordered_process s p tidy = subst (Pairs Earlier) (sym (ended_parts s p tidy).objects) tidy.before.objects.kept.in_order

-- from the exit to what follows from it
pub thread_ends : (t u v : Tables) (s : Space) (a : Actor) (x : Exit) (os : List Identity) (ms : List ℕ) → os ≡ x.objects.items → ms ≡ x.frames.items → IsBy a s → HasThread x s a.thread.seat
    → Within t (thread_goes s a.thread.seat) → MakesOfOrdered t u (follow_of (names_among a.thread.process os) (is_among os))
    → MakesWithin u v (λ z. close_among (length z.frames) (is_place_among ms) z) → Within v (settle (follow (thread_goes s a.thread.seat)))
thread_ends t u v s a x os ms e f by has h follows closes =
    let z = thread_goes s a.thread.seat in
    subst (Within v) (sym (thread_exits s a x by has))
    (subst (λ (ns : List ℕ). Within v (let y = follow_of (names_among a.thread.process x.objects.items) (is_among x.objects.items) z in close_among (length y.frames) (is_place_among ns) y)) f
    (subst (λ (is : List Identity). Within v (let y = follow_of (names_among a.thread.process is) (is_among is) z in close_among (length y.frames) (is_place_among ms) y)) e
    (closes _ (follows z h (ordered_thread s a.thread.seat by.tidy)))))

pub process_ends : (t u v : Tables) (s : Space) (p : ℕ) (x : Exit) (os : List Identity) (ms : List ℕ) → os ≡ x.objects.items → ms ≡ x.frames.items → IsTidy s → HasProcess x s (seats_in s p) p
    → Within t (tell_deaths (without_process (threads_go s p) p) p) → MakesOfOrdered t u (follow_of no_name (is_among os))
    → MakesWithin u v (λ z. close_among (length z.frames) (is_place_among ms) z) → Within v (settle (follow (tell_deaths (without_process (threads_go s p) p) p)))
process_ends t u v s p x os ms e f tidy has h follows closes =
    let z = tell_deaths (without_process (threads_go s p) p) p in
    subst (Within v) (sym (process_exits s p x tidy has))
    (subst (λ (ns : List ℕ). Within v (let y = follow_of no_name (is_among x.objects.items) z in close_among (length y.frames) (is_place_among ns) y)) f
    (subst (λ (is : List Identity). Within v (let y = follow_of no_name (is_among is) z in close_among (length y.frames) (is_place_among ms) y)) e
    (closes _ (follows z h (ordered_process s p tidy)))))
