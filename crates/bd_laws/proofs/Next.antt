-- NothingIsPending: what comes after a quiet space is quiet.
use Rattle.bd_laws.proofs.words.Logic.{arith, ◌≡◌, ℕ, ◌-◌, ◌==◌, Bool, true, false, cond, not, ◌||◌, List, [], ◌∷◌, ◌++◌, Option, Some, None, inl, inr, refl, ap, sym, subst, ◌∙◌, filter, list_any, list_any-append, or_false, cons_option, eqb-true, eq-eqb, option_and_then, is_some}
use Rattle.bd_laws.proofs.words.Types.{Step, Entry, Thread, Buffer, Turn, Work, OfThread, OfProcess}
use Rattle.bd_laws.proofs.words.Space.{same, Space, is_call, is_on, is_item, hands_out, without_taken, list_to_read, turn_of, turns_of, follow, is_made_at, read_by, taken, buffer_taken, buffer_in, thread_goes, is_lost_with, threads_go, without_process, tell_deaths, change, counted, next}
use Rattle.bd_space.specs.declared.space.WorkKind.TheVariants as work
use Rattle.bd_laws.proofs.words.Laws.{In, Pairs, Differ, Before, IsSettled, NoneRipe, IsQuiet, Distinct, On, OnLists}
use Rattle.bd_laws.proofs.Lists.{in_filter, filter_in, any_found, any_in, find_in, find_some, in_filter_map}
use Rattle.bd_laws.proofs.Tests.{not_false_true, same_eq, not_true, to_false}
use Rattle.bd_laws.proofs.Earlier.{in_order_differ}
use Rattle.bd_laws.proofs.Objects.{kept_step}
use Rattle.bd_laws.proofs.KeptBefore.ObjectsKept.{IsKept}
use Rattle.bd_laws.proofs.Machine.Table.{SameFrames, Any, frames_table, followed_by}
use Rattle.bd_laws.proofs.Machine.Deaths.{on_told}
use Rattle.bd_laws.proofs.Machine.Following.{threads_keep}
use Rattle.bd_laws.proofs.Machine.EveryEnding.{Endings, every_ending_step}
use Rattle.bd_laws.proofs.NothingIsPending.Quiet.{settle_quiet, follow_calm, completed_quiet, elsewhere_aside, CallsStay, unripe_one, unripe_kept}
use Rattle.bd_laws.proofs.Freeing.{IsUnripe, owed_unripe}
use Rattle.bd_laws.proofs.IsInTurn.Ripening.{read_in, turn_made}
use Rattle.bd_laws.proofs.IsInTurn.InTurn.{is_call_hands}
use Rattle.bd_laws.proofs.IsInTurn.Passing.{lost_on, not_on}
use Rattle.bd_laws.proofs.NothingIsPending.NextParts.{refused_quiet, failed_quiet, opened_quiet, attached_quiet, managed_quiet, on_of, taken_handed, served_settled, unripe_handed, marked_quiet}
pub use Rattle.bd_laws.proofs.NothingIsPending.NextParts.{calm}

module _ (s : Space) (distinct : Distinct s.todo) (lists : OnLists s) (t : Thread) (left : ℕ) where
  abbrev ws : List Work
  ws = taken s left (list_to_read s t)

  given : (b : Option Buffer) (c : Buffer) → is_some b ≡ true → ((d : Buffer) → b ≡ Some d → d.made ≡ c.made) → (d : Buffer) × (b ≡ Some d) × (d.made ≡ c.made)
  given b c e k = search arith

  -- a call that is taken hands its buffer out
  takes_buffer : (c : Buffer) (u : Turn) → turn_of c ≡ Some u → In c s.buffers → (v : Work) → In v s.todo → is_call c.made v.kind ≡ true → list_any (λ (d : Work). is_item v d) ws ≡ true
      → (b : Buffer) × (buffer_taken s ws ≡ Some b) × (b.made ≡ c.made)
  unfolding buffer_taken
  takes_buffer c u turn l v i call some =
      let d = any_found (λ (d : Work). is_item v d) ws some in
      let is = distinct v d.0 i (read_in s t left d.0 d.1) d.2 in
      let hands : hands_out d.0.kind ≡ Some c.made = ap (λ (w : Work). hands_out w.kind) (sym is) ∙ is_call_hands c.made v.kind call in
      let first = taken_handed s (list_to_read s t) left d.0 c.made d.1 hands in
      let found = find_some (is_made_at c.made) c s.buffers l (eq-eqb c.made c.made refl) in
      let b = given (buffer_in s.buffers c.made) c found (λ x e. eqb-true x.made c.made (find_in (is_made_at c.made) x s.buffers e).1) in
      (b.0, ap (λ o. option_and_then (buffer_in s.buffers) o) first ∙ b.1, b.2)

  call_stays : (c : Buffer) → In c s.buffers → (u : Turn) → turn_of c ≡ Some u → ((b : Buffer) → buffer_taken s ws ≡ Some b → is_made_at b.made c ≡ false)
      → CallsStay s.todo (without_taken ws s.todo) u
  call_stays c l u e none calls =
      let made : u.made ≡ c.made = turn_made c u e in
      let v = any_found (λ (w : Work). is_call u.made w.kind) s.todo calls in
      any_in (λ (w : Work). is_call u.made w.kind) v.0 _
      (filter_in (λ (w : Work). not (list_any (λ (d : Work). is_item w d) ws)) v.0 s.todo v.1
      (rw (to_false (list_any (λ (d : Work). is_item v.0 d) ws) (λ some.
      let b = takes_buffer c u e l v.0 v.1 (subst (λ n. is_call n v.0.kind ≡ true) made v.2) some in
      let no = none b.0 b.1 in
      let same_made = eq-eqb c.made b.0.made (sym b.2) in cc)) refl)) v.2

read_quiet : (s : Space) (t : Thread) (seat left : ℕ) → Distinct s.todo → OnLists s → IsQuiet s → Pairs Differ (read_by s seat (taken s left (list_to_read s t))).objects
    → IsQuiet (follow (read_by s seat (taken s left (list_to_read s t))))
unfolding read_by
read_quiet s t seat left distinct lists h differ =
    let z = read_by s seat (taken s left (list_to_read s t)) in
    let k = follow_calm z differ (search (arith, unripe_kept, in_filter_map, call_stays, unripe_handed, left)) in
    record { differ = k.differ; followed = k.followed; unripe = k.unripe; settled = subst IsSettled (sym (followed_by SameFrames Any frames_table z)) (search (arith, served_settled)) }

-- ---- ends of threads

pub turns_filtered : (keep : Buffer → Bool) (bs : List Buffer) → ((c : Buffer) → In c bs → keep c ≡ false → turn_of c ≡ None) → turns_of (filter keep bs) ≡ turns_of bs
turns_filtered keep [] h = refl
turns_filtered keep (c ∷ cs) h = search (arith, turns_filtered keep cs (λ d l. h d (inr l)))

-- on its receiver's list, a call goes only with that list
called_stays : (z : Space) (stays : Work → Bool) → OnLists z → (c : Buffer) → In c z.buffers → ((w : Work) → w.list ≡ OfProcess c.receiver → stays w ≡ true) → (t : Turn) → turn_of c ≡ Some t
    → CallsStay z.todo (filter stays z.todo) t
called_stays z stays lists c l k t e calls = search (arith, any_found, is_call_hands, any_in, filter_in, on_of)

left_unripe : (z : Space) (seat : ℕ) → OnLists z → NoneRipe z.todo [] (turns_of z.buffers) → NoneRipe (thread_goes z seat).todo [] (turns_of (thread_goes z seat).buffers)
unfolding thread_goes
left_unripe z seat lists h =
    subst (λ ts. NoneRipe (filter stays z.todo) [] ts) (sym (turns_filtered keep z.buffers (λ c l e. search (arith, lost_on, not_on, on_of, not_false_true))))
    (unripe_kept z.todo (filter stays z.todo) (turns_of z.buffers) [] h (λ t l. let c = in_filter_map turn_of t z.buffers l in
    called_stays z stays lists c.0 c.1 (λ w e. rw e refl) t c.2))
  where
    keep : Buffer → Bool
    keep = λ (b : Buffer). not (is_lost_with z.todo (OfThread seat) b.made)

    stays : Work → Bool
    stays = λ (w : Work). not (is_on (OfThread seat) w)

-- ---- ends of processes

-- from one ending thread of the process to the next
record Leaving (s z : Space) : Type 0 where
  lists : OnLists z
  buffers : (c : Buffer) → In c z.buffers → In c s.buffers
  unripe : NoneRipe z.todo [] (turns_of z.buffers)

one_leaves : (s z : Space) (seat : ℕ) → Leaving s z → Leaving s (thread_goes z seat)
unfolding thread_goes
one_leaves s z seat h = record {
  lists = let k = h.lists in search (arith, in_filter);
  buffers = λ c l. h.buffers c (in_filter (λ (b : Buffer). not (is_lost_with z.todo (OfThread seat) b.made)) c z.buffers l).0;
  unripe = left_unripe z seat h.lists h.unripe;
}

threads_leave : (s : Space) (p : ℕ) → OnLists s → NoneRipe s.todo [] (turns_of s.buffers) → Leaving s (threads_go s p)
threads_leave s p lists h = threads_keep (Leaving s) (one_leaves s) s p (record { lists = lists; buffers = λ c l. l; unripe = h })

module _ (todo more : List Work) (keep : Buffer → Bool) where
  -- turns that go are on other objects than those that stay
  unripe_parted : (bs : List Buffer) (older less : List Turn)
      → ((c : Buffer) → In c bs → keep c ≡ true → (t : Turn) → turn_of c ≡ Some t → list_any (λ (u : Turn). same u.target t.target) less ≡ list_any (λ (u : Turn). same u.target t.target) older)
      → NoneRipe todo older (turns_of bs)
      → ((c : Buffer) → In c bs → keep c ≡ true → (t : Turn) → turn_of c ≡ Some t → CallsStay todo more t)
      → ((c d : Buffer) → In c bs → In d bs → keep c ≡ false → keep d ≡ true → (t u : Turn) → turn_of c ≡ Some t → turn_of d ≡ Some u → same t.target u.target ≡ false)
      → NoneRipe more less (turns_of (filter keep bs))
  unripe_parted [] older less e h k apart = tt
  unripe_parted (c ∷ cs) older less e h k apart =
      at (keep c) refl (turn_of c) refl h (λ o l f i. unripe_parted cs o l f i (λ d j. k d (inr j)) (λ d b j m. apart d b (inr j) (inr m)))
    where
      Rest : List Turn → List Turn → Type 0
      Rest o l = ((d : Buffer) → In d cs → keep d ≡ true → (t : Turn) → turn_of d ≡ Some t → list_any (λ (u : Turn). same u.target t.target) l ≡ list_any (λ (u : Turn). same u.target t.target) o)

      pushed : (o l : List Turn) (t : Turn) → Rest o l → Rest (o ++ t ∷ []) (l ++ t ∷ [])
      pushed o l t f d i kept u g = search (arith, list_any-append)

      parted : (o l : List Turn) (t : Turn) → keep c ≡ false → turn_of c ≡ Some t → Rest o l → Rest (o ++ t ∷ []) l
      parted o l t gone is f d i kept u g =
          f d i kept u g
          ∙ sym (list_any-append (λ (v : Turn). same v.target u.target) o (t ∷ [])
          ∙ ap (λ b. list_any (λ (v : Turn). same v.target u.target) o || (b || false)) (apart c d (inl refl) (inr i) gone kept t u is g)
          ∙ or_false (list_any (λ (v : Turn). same v.target u.target) o))

      at : (b : Bool) → keep c ≡ b → (f : Option Turn) → turn_of c ≡ f → NoneRipe todo older (cons_option f (turns_of cs))
          → ((o l : List Turn) → Rest o l → NoneRipe todo o (turns_of cs) → NoneRipe more l (turns_of (filter keep cs)))
          → NoneRipe more less (turns_of (cond b (c ∷ filter keep cs) (filter keep cs)))
      at true i None f h rest = subst (λ g. NoneRipe more less (cons_option g (turns_of (filter keep cs)))) (sym f) (rest older less (λ d j. e d (inr j)) h)
      at true i (Some t) f h rest =
          subst (λ g. NoneRipe more less (cons_option g (turns_of (filter keep cs)))) (sym f)
          (unripe_one todo more older less t (e c (inl refl) i t f) (k c (inl refl) i t f) h.0, rest (older ++ t ∷ []) (less ++ t ∷ []) (pushed older less t (λ d j. e d (inr j))) h.1)
      at false i None f h rest = rest older less (λ d j. e d (inr j)) h
      at false i (Some t) f h rest = rest (older ++ t ∷ []) less (parted older less t i f (λ d j. e d (inr j))) h.1

without_unripe : (s z : Space) (p : ℕ) → Before s → Leaving s z → NoneRipe (without_process z p).todo [] (turns_of (without_process z p).buffers)
unfolding without_process
without_unripe s z p before h =
    unripe_parted z.todo (filter stays z.todo) keep z.buffers [] [] (λ c l e t f. refl) h.unripe
    (λ c l e t f. called_stays z stays h.lists c l (λ w is. rw is (rw (other c e) refl)) t f)
    (λ c d l m gone kept t u f g. to_false (same t.target u.target) (λ one_object.
    let target : t.target ≡ u.target = same_eq t.target u.target one_object in
    let on = subst (λ o. On o c) target (on_of c t f) in
    let one : c.receiver ≡ d.receiver = before.received.one u.target c d (h.buffers c l) (h.buffers d m) on (on_of d u g) in
    let mine = eqb-true c.receiver p (not_false_true (c.receiver == p) gone) in
    let theirs = not_true (d.receiver == p) kept in
    let wrong = eq-eqb d.receiver p (sym one ∙ mine) in cc))
  where
    keep : Buffer → Bool
    keep = λ (b : Buffer). not (b.receiver == p)

    stays : Work → Bool
    stays = λ (w : Work). not (is_on (OfProcess p) w)

    other : (c : Buffer) → not (c.receiver == p) ≡ true → (p == c.receiver) ≡ false
    other c e = search (arith, to_false, not_true, eq-eqb, eqb-true)

told_unripe : (z : Space) (p : ℕ) → IsUnripe z → IsUnripe (tell_deaths z p)
told_unripe z p h = on_told IsUnripe (record {
  others = λ y ds k. k;
  dies = λ y q made k. owed_unripe y (OfProcess q) (work.Death made) k;
  clears = λ y t cookie k. owed_unripe y (OfThread t) (work.Cleared cookie) k;
}) z p h

-- ---- every step

step_endings : (s : Space) (seat : ℕ) (x : Step) → Before s → Distinct s.todo → IsQuiet s → Endings s seat x IsKept IsQuiet
step_endings s seat x before distinct h =
    let k = kept_step s seat x before.objects in
    record {
      set_up = search (arith, opened_quiet, attached_quiet, managed_quiet, marked_quiet);
      changes = k.changes;
      completes = λ z m. completed_quiet z (in_order_differ z.objects m.in_order);
      refuses = λ t c. refused_quiet s t c h;
      fails = λ a d parcel f e i g. failed_quiet s a.thread.seat f h;
      reads = λ a limit e i n. read_quiet s a.thread a.thread.seat (limit - 4) distinct before.received.lists h (in_order_differ _ (k.changes.reads a limit e i n).in_order);
      leaves = λ a e. settle_quiet _ (follow_calm _ (in_order_differ _ (k.changes.leaves a e).in_order) (left_unripe s a.thread.seat before.received.lists h.unripe));
      ends = λ a e. settle_quiet _ (follow_calm _ (in_order_differ _ (k.changes.ends a e).in_order)
          (told_unripe _ a.process.made (without_unripe s (threads_go s a.process.made) a.process.made before (threads_leave s a.process.made before.received.lists h.unripe))));
    }

counted_quiet : (z : Space) → IsQuiet z → IsQuiet (counted z)
unfolding counted
counted_quiet z h = search (arith, elsewhere_aside)

-- the law, where the items of each list have different identities
pub next_quiet : (s : Space) (e : Entry) → Before s → Distinct s.todo → IsQuiet s → IsQuiet (next s e)
next_quiet s e before distinct h =
    counted_quiet (change s e.seat e.step).space (every_ending_step s e.seat e.step IsKept IsQuiet (step_endings s e.seat e.step before distinct h))
