-- For the engine, by FollowingIsLocal: after a BC_FREE_BUFFER it is enough to look at what the buffer's references stood
-- for, and at a one-way call's object.
use Rattle.bd_laws.proofs.words.Logic.{arith, ◌≡◌, ℕ, ◌==◌, Bool, true, false, cond, not, ◌&&◌, List, [], ◌∷◌, ◌++◌, Option, Some, None, inl, inr, refl, ap, sym, subst, ◌∙◌, filter, find, list_any, cons_option}
use Rattle.bd_laws.proofs.words.Types.{Identity, DeathNotification, Reference, Buffer, Turn, Work, WorkKind, TodoList, OfProcess}
use Rattle.bd_laws.proofs.words.Space.{same, Space, is_of_buffer, owe, with_work, is_notice, is_call, without_buffer, is_made_at, turn_of, turns_of, is_ripe, completed, NameTest, ObjectTest, follow_of, notify_of, work_goes_of, deaths_go_of, objects_go_of, names_go_of, ripen_of, first_due, names_of_references, objects_of_references}
use Rattle.bd_space.specs.declared.space.WorkKind.TheVariants as work
use Rattle.bd_laws.proofs.words.Laws.{In, Elsewhere, IsSettled, NoneRipe, IsQuiet}
use Rattle.bd_laws.proofs.Lists.{in_push}
use Rattle.bd_laws.proofs.Tests.{not_false_true, to_false}
use Rattle.bd_laws.proofs.Follow.{follow_local}
use Rattle.bd_laws.proofs.Machine.Settled.{settle_still}
use Rattle.bd_laws.proofs.FollowingIsLocal.Ripe.{NoneRipeBut, ripen_local}
use Rattle.bd_laws.proofs.NothingIsPending.Quiet.{IsPlainKind, any_more, unripe_kept}
pub use Rattle.std.proofs.lemmas.List.Folds.{list_any-append as any_append}
use Rattle.bd_laws.proofs.Fewer.{elsewhere_said, filtered_said}

-- ---- an item more is pending nowhere else

-- no one-way call is ripe
abbrev pub IsUnripe : Space → Type 0
IsUnripe z = NoneRipe z.todo [] (turns_of z.buffers)

pub owed_unripe : (z : Space) (list : TodoList) (kind : WorkKind) → IsUnripe z → IsUnripe (owe z list kind)
unfolding owe
owed_unripe z list kind h = unripe_kept z.todo (with_work z.steps z.todo list kind) (turns_of z.buffers) [] h (λ t l. any_more (λ (w : Work). is_call t.made w.kind) z.todo _)

pub owed_elsewhere : (a : NameTest) (b : ObjectTest) (z : Space) (list : TodoList) (kind : WorkKind) → ((o : Identity) → kind ≡ work.Notice o → ⊥)
    → ((n : ℕ) → kind ≡ work.Death n → list_any (λ (x : DeathNotification). x.made == n) z.deaths ≡ true) → Elsewhere a b z → Elsewhere a b (record z { todo = with_work z.steps z.todo list kind })
owed_elsewhere a b z list kind other told h = record {
  names = h.names;
  objects = h.objects;
  deaths = h.deaths;
  notices = λ w o l e none. elim (in_push w _ z.todo l) [ inl k ↦ h.notices w o k e none | inr is ↦ absurd (other o (ap (λ (v : Work). v.kind) is ∙ e)) ];
  tellings = λ w n l e. elim (in_push w _ z.todo l) [ inl k ↦ h.tellings w n k e | inr is ↦ told n (ap (λ (v : Work). v.kind) is ∙ e) ];
  made = λ x l none wants. any_more (λ (w : Work). is_notice x.id w.kind) z.todo _ (h.made x l none wants);
}

pub owe_elsewhere : (a : NameTest) (b : ObjectTest) (z : Space) (list : TodoList) (kind : WorkKind) → IsPlainKind kind → Elsewhere a b z
    → Elsewhere a b (record z { todo = with_work z.steps z.todo list kind })
owe_elsewhere a b z list kind plain = owed_elsewhere a b z list kind plain.0 (λ n e. absurd (plain.1 n e))

pub ripen_of_elsewhere : (a : NameTest) (b : ObjectTest) (o : Identity) (z : Space) → Elsewhere a b z → Elsewhere a b (ripen_of o z)
unfolding ripen_of
ripen_of_elsewhere a b o z h = at (find (λ (t : Turn). same t.target o) (turns_of z.buffers))
  where
    if_due : (t : Turn) (c : Bool) → Elsewhere a b (record z { todo = cond c (with_work z.steps z.todo (OfProcess t.receiver) (work.Call t.made)) z.todo })
    if_due t true = owe_elsewhere a b z (OfProcess t.receiver) (work.Call t.made) ((λ o e. cc), (λ n e. cc)) h
    if_due t false = h

    at : (f : Option Turn) → Elsewhere a b (record z { todo = first_due z.steps z.todo f })
    at None = h
    at (Some t) = if_due t (not t.handed && not (list_any (λ (w : Work). is_call t.made w.kind) z.todo))

follow_of_frames : (a : NameTest) (b : ObjectTest) (o : Identity) (z : Space) → (follow_of a b (ripen_of o z)).frames ≡ z.frames
unfolding follow_of notify_of work_goes_of deaths_go_of objects_go_of names_go_of ripen_of
follow_of_frames a b o z = search arith

-- nothing is pending but on one object, whose one-way calls may be ripe
pub completed_ripe : (a : NameTest) (b : ObjectTest) (o : Identity) (z : Space) → Elsewhere a b z → NoneRipeBut o z.todo [] (turns_of z.buffers) → IsSettled z.frames
    → completed z ≡ follow_of a b (ripen_of o z)
unfolding completed
completed_ripe a b o z h unripe settled = search (arith, ripen_local, follow_local, ripen_of_elsewhere, settle_still, follow_of_frames)

-- ---- buffers that go

-- older calls on other objects are the same
abbrev SameBut : Identity → List Turn → List Turn → Type 0
SameBut o more less = (i : Identity) → same i o ≡ false → list_any (λ (u : Turn). same u.target i) less ≡ list_any (λ (u : Turn). same u.target i) more

module _ (o : Identity) (todo : List Work) where
  same_push : (more less : List Turn) (t : Turn) → SameBut o more less → SameBut o (more ++ t ∷ []) (less ++ t ∷ [])
  same_push more less t h i none = search (arith, any_append)

  -- A further call on the object o is nothing to calls on other objects.
  same_more : (more less : List Turn) (t : Turn) → same t.target o ≡ true → SameBut o more less → SameBut o (more ++ t ∷ []) less
  same_more more less t on h i none = search (arith, any_append, to_false)

  ripe_same : (more less : List Turn) (t : Turn) → SameBut o more less → is_ripe todo more t ≡ false → same t.target o ≡ false → is_ripe todo less t ≡ false
  ripe_same more less t h k none = search arith

  module _ (keep : Buffer → Bool) where
    but_filtered : (bs : List Buffer) (more less : List Turn) → SameBut o more less → NoneRipe todo more (turns_of bs)
        → ((c : Buffer) → In c bs → keep c ≡ false → (t : Turn) → turn_of c ≡ Some t → same t.target o ≡ true) → NoneRipeBut o todo less (turns_of (filter keep bs))
    but_filtered [] more less e h k = tt
    but_filtered (c ∷ cs) more less e h k =
        at (keep c) refl (turn_of c) refl h (λ m l f i. but_filtered cs m l f i (λ d j. k d (inr j)))
      where
        at : (b : Bool) → keep c ≡ b → (f : Option Turn) → turn_of c ≡ f → NoneRipe todo more (cons_option f (turns_of cs))
            → ((m l : List Turn) → SameBut o m l → NoneRipe todo m (turns_of cs) → NoneRipeBut o todo l (turns_of (filter keep cs)))
            → NoneRipeBut o todo less (turns_of (cond b (c ∷ filter keep cs) (filter keep cs)))
        at true i None f h rest = subst (λ g. NoneRipeBut o todo less (cons_option g (turns_of (filter keep cs)))) (sym f) (rest more less e h)
        at true i (Some t) f h rest = search (arith, ripe_same, same_push)
        at false i None f h rest = rest more less e h
        at false i (Some t) f h rest = rest (more ++ t ∷ []) less (same_more more less t (k c (inl refl) i t f) e) h.1

-- the references of the buffer made there
abbrev pub references_of_buffer : Space → ℕ → List Reference
references_of_buffer s made = filter (λ r. is_of_buffer made r.holder) s.references

-- the buffers of that place, if one-way calls', are on this object
pub freed_local : (s : Space) (made : ℕ) (o : Identity) → IsQuiet s → ((c : Buffer) → In c s.buffers → is_made_at made c ≡ true → (t : Turn) → turn_of c ≡ Some t → same t.target o ≡ true)
    → completed (without_buffer s made)
    ≡ follow_of (names_of_references (references_of_buffer s made)) (objects_of_references (references_of_buffer s made)) (ripen_of o (without_buffer s made))
unfolding without_buffer
freed_local s made o h k =
    let gone = λ (r : Reference). is_of_buffer made r.holder in
    let e = elsewhere_said _ _ s _ h.followed (filtered_said gone s.references) in
    completed_ripe _ _ o (without_buffer s made)
    (record { names = e.names; objects = e.objects; deaths = e.deaths; notices = e.notices; tellings = e.tellings; made = e.made })
    (but_filtered o s.todo (λ (b : Buffer). not (is_made_at made b)) s.buffers [] [] (λ i none. refl) h.unripe (λ c l f t i. k c l (not_false_true (is_made_at made c) f) t i)) h.settled
