-- For NothingIsPending: after a change and what follows from it nothing is pending.
use Rattle.bd_laws.proofs.words.Logic.{arith, ◌≡◌, ℕ, ◌==◌, true, false, ◌||◌, List, [], ◌∷◌, ◌++◌, Option, Some, None, inl, inr, refl, ap, sym, subst, ◌∙◌, list_any, fold}
use Rattle.bd_laws.proofs.words.Types.{Identity, Object, DeathNotification, Work, Thread, Turn, Buffer, Frame, DeadReply, WorkKind, TodoList, OfProcess, OfThread}
use Rattle.bd_laws.proofs.words.Space.{closed, same, is_some_and, Space, opening, object_in, stays_in, objects_go, names_go, with_work, owe, is_notice, notice_of, is_call, turns_of, is_ripe, ripen, settle, NameTest, ObjectTest, completed, wants_notice, has_notice_in, with_notice, is_name_of, deaths_go, work_goes, notify, follow}
use Rattle.bd_space.specs.declared.space.WorkKind.TheVariants as work
use Rattle.bd_laws.proofs.words.Laws.{In, Pairs, Differ, Elsewhere, NoneRipe, IsFollowed, IsQuiet}
use Rattle.bd_laws.proofs.Lists.{in_left, in_last, in_push, in_filter, filter_in, any_found, any_in, pairs_filter, fold_keeps}
use Rattle.bd_laws.proofs.Tests.{and_both, not_true, eq_same}
use Rattle.bd_laws.proofs.NothingIsPending.Noticing.{follow_wanted}
use Rattle.bd_laws.proofs.Machine.Settled.{settle_settles, settle_keeps}
pub use Rattle.bd_laws.proofs.FollowingIsLocal.Finding.{any_more}
use Rattle.bd_laws.proofs.FollowingIsLocal.Finding.{find_only}
use Rattle.bd_laws.proofs.FollowingIsLocal.Ripe.{ripen_none}
use Rattle.bd_laws.proofs.Machine.Adding.{told_keeps, notice_keeps, notify_keeps}

-- ---- after what follows, nothing more does

module _ (z : Space) where
  told : List Work → Object → List Work
  told todo x = with_notice z.steps z.processes z.references (OfProcess x.owner) todo x

  -- what tells of a death has its notification
  abbrev AllTell : List DeathNotification → List Work → Type 0
  AllTell deaths todo = (w : Work) (n : ℕ) → In w todo → w.kind ≡ work.Death n → list_any (λ (x : DeathNotification). x.made == n) deaths ≡ true

  follow_tellings : AllTell (follow z).deaths (follow z).todo
  unfolding follow notify told work_goes deaths_go objects_go names_go
  follow_tellings =
      let y = deaths_go (objects_go (names_go z)) in
      notify_keeps (AllTell y.deaths) (work_goes y) (λ todo x i due k w n l e. search (arith, in_push))
      (λ w n l e. search (arith, in_filter))

  follow_differ : Pairs Differ z.objects → Pairs Differ (follow z).objects
  unfolding follow notify work_goes deaths_go objects_go names_go
  follow_differ h = search (arith, pairs_filter)

  follow_notices : Pairs Differ z.objects → (w : Work) (o : Identity) → In w (follow z).todo → w.kind ≡ work.Notice o
      → is_some_and (object_in (follow z).objects o) (wants_notice (follow z).processes (follow z).references) ≡ true
  follow_notices h w o l e =
      let x = follow_wanted z w o l (ap notice_of e) in
      let found = find_only (follow z).objects x.0 o (follow_differ h) x.1 x.2 in
      ap (λ (f : Option Object). is_some_and f (wants_notice (follow z).processes (follow z).references)) found ∙ x.3

  -- ---- each Notice that is wanted is made

  all_made : (xs : List Object) (todo : List Work) (x : Object) → In x xs → wants_notice z.processes z.references x ≡ true → has_notice_in (fold told todo xs) x.id ≡ true
  unfolding told
  all_made [] todo x l wants = absurd l
  all_made (y ∷ ys) todo x (inl e) wants =
      let wanted = subst (λ (v : Object). wants_notice z.processes z.references v ≡ true) (sym e) wants in
      fold_keeps (λ todo. has_notice_in todo x.id ≡ true) told ys (λ todo v l k. search (arith, notice_keeps, any_found, any_in, in_left)) (told todo y)
      (subst (λ (v : Object). has_notice_in (told todo y) v.id ≡ true) e (search (arith, any_in, in_last, eq_same)))
  all_made (y ∷ ys) todo x (inr l) wants = all_made ys (told todo y) x l wants

  pub follow_followed : Pairs Differ z.objects → IsFollowed (follow z)
  unfolding follow notify told work_goes deaths_go objects_go names_go
  follow_followed h = record {
    names = λ m l none. search (arith, in_filter, any_found, any_in, not_true, and_both);
    objects = λ x l none. (in_filter (stays_in z.processes z.references) x z.objects l).1;
    deaths = λ d l none. (in_filter (λ (x : DeathNotification). x.cleared || is_name_of (names_go z).names x.process x.object) d z.deaths l).1;
    notices = λ w o l e none. follow_notices h w o l e;
    tellings = follow_tellings;
    made = λ x l none wants. all_made (objects_go (names_go z)).objects (work_goes (deaths_go (objects_go (names_go z)))).todo x l wants;
  }

-- ---- after an accepted command's change, whatever it was

module _ (todo more : List Work) where
  abbrev pub CallsStay : Turn → Type 0
  CallsStay t = list_any (λ (w : Work). is_call t.made w.kind) todo ≡ true → list_any (λ (w : Work). is_call t.made w.kind) more ≡ true

  pub unripe_one : (older less : List Turn) (t : Turn) → list_any (λ (u : Turn). same u.target t.target) less ≡ list_any (λ (u : Turn). same u.target t.target) older → CallsStay t
      → is_ripe todo older t ≡ false → is_ripe more less t ≡ false
  unripe_one older less t e k h = search arith

  pub unripe_kept : (ts older : List Turn) → NoneRipe todo older ts → ((t : Turn) → In t ts → CallsStay t) → NoneRipe more older ts
  unripe_kept [] older h k = tt
  unripe_kept (t ∷ ts) older h k = (unripe_one older older t refl (k t (inl refl)) h.0, unripe_kept ts (older ++ t ∷ []) h.1 (λ u l. k u (inr l)))

-- following touches neither calls that are due nor frames
pub still_unripe_if : (todo more : List Work) (z : Space) → ((n : ℕ) → list_any (λ (w : Work). is_call n w.kind) todo ≡ true → list_any (λ (w : Work). is_call n w.kind) more ≡ true)
    → (ts older : List Turn) → NoneRipe todo older ts → NoneRipe more older ts
still_unripe_if todo more z k ts older h = unripe_kept todo more ts older h (λ t l. k t.made)

-- nothing is pending but abandoned calls
pub record IsCalm (z : Space) : Type 0 where
  pub differ : Pairs Differ z.objects
  pub followed : IsFollowed z
  pub unripe : NoneRipe z.todo [] (turns_of z.buffers)

-- where nothing is pending it is the same with other threads, frames and buffers, at any step
pub elsewhere_aside : (a : NameTest) (b : ObjectTest) (z : Space) (n : ℕ) (ts : List Thread) (fs : List Frame) (bs : List Buffer) → Elsewhere a b z
    → Elsewhere a b (record z { steps = n; threads = ts; frames = fs; buffers = bs })
elsewhere_aside a b z n ts fs bs h = record { names = h.names; objects = h.objects; deaths = h.deaths; notices = h.notices; tellings = h.tellings; made = h.made }

-- An item of this kind is neither a Notice nor of a death.
abbrev pub IsPlainKind : WorkKind → Type 0
IsPlainKind kind = ((o : Identity) → kind ≡ work.Notice o → ⊥) × ((n : ℕ) → kind ≡ work.Death n → ⊥)

pub owe_calm : (z : Space) (list : TodoList) (kind : WorkKind) → IsPlainKind kind → IsCalm z → IsCalm (owe z list kind)
unfolding owe
owe_calm z list kind plain h = record {
  differ = h.differ;
  followed = record {
    names = h.followed.names;
    objects = h.followed.objects;
    deaths = h.followed.deaths;
    notices = λ w o l e none. elim (in_push w _ z.todo l) [ inl k ↦ h.followed.notices w o k e none | inr is ↦ absurd (plain.0 o (ap (λ (v : Work). v.kind) is ∙ e)) ];
    tellings = λ w n l e. elim (in_push w _ z.todo l) [ inl k ↦ h.followed.tellings w n k e | inr is ↦ absurd (plain.1 n (ap (λ (v : Work). v.kind) is ∙ e)) ];
    made = λ x l none wants. any_more (λ (w : Work). is_notice x.id w.kind) z.todo _ (h.followed.made x l none wants);
  };
  unripe = still_unripe_if z.todo (with_work z.steps z.todo list kind) z (λ n k. any_more (λ (w : Work). is_call n w.kind) z.todo _ k) (turns_of z.buffers) [] h.unripe;
}

pub closed_calm : (z : Space) (made : ℕ) → IsCalm z → IsCalm (closed z made)
unfolding closed
closed_calm z made h = record { differ = h.differ; followed = elsewhere_aside _ _ z _ _ _ _ h.followed; unripe = h.unripe }

pub told_calm : (z : Space) (caller : Option ℕ) (kind : WorkKind) → IsPlainKind kind → IsCalm z
    → IsCalm (elim caller as (λ (o : Option ℕ). Space) [ None ↦ z | Some t ↦ owe z (OfThread t) kind ])
told_calm z caller kind plain = told_keeps IsCalm kind (λ z t. owe_calm z (OfThread t) kind plain) z caller

-- settling a calm space makes it quiet
pub settle_quiet : (z : Space) → IsCalm z → IsQuiet (settle z)
settle_quiet z h =
    let k = settle_keeps IsCalm (λ z f e h. told_calm (closed z f.made) f.caller (work.Verdict DeadReply) ((λ o e. cc), (λ n e. cc)) (closed_calm z f.made h)) z h in
    record { differ = k.differ; followed = k.followed; unripe = k.unripe; settled = settle_settles z }

-- ---- what follows keeps the calls that are due

follow_calls : (z : Space) (n : ℕ) → list_any (λ (w : Work). is_call n w.kind) z.todo ≡ true → list_any (λ (w : Work). is_call n w.kind) (follow z).todo ≡ true
unfolding follow notify told work_goes deaths_go objects_go names_go
follow_calls z n h =
    let y = deaths_go (objects_go (names_go z)) in
    notify_keeps (λ todo. list_any (λ (w : Work). is_call n w.kind) todo ≡ true) (work_goes y) (λ todo x l due. any_more (λ (w : Work). is_call n w.kind) todo _)
    (search (arith, any_found, any_in, filter_in))

pub follow_calm : (z : Space) → Pairs Differ z.objects → NoneRipe z.todo [] (turns_of z.buffers) → IsCalm (follow z)
unfolding follow notify work_goes deaths_go objects_go names_go
follow_calm z differ none = record {
  differ = follow_differ z differ;
  followed = follow_followed z differ;
  unripe = still_unripe_if z.todo (follow z).todo z (follow_calls z) (turns_of z.buffers) [] none;
}

-- whatever an accepted command changes, the space after it is quiet
pub completed_quiet : (z : Space) → Pairs Differ z.objects → IsQuiet (completed z)
unfolding completed ripen
completed_quiet z h = settle_quiet _ (follow_calm (ripen z) h (ripen_none z))

pub opening_quiet : IsQuiet opening
opening_quiet = search arith
