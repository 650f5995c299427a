-- For the engine, by FollowingIsLocal: after the end of a thread it is enough to look at what it touched.
use Rattle.bd_laws.proofs.words.Logic.{arith, ◌≡◌, ℕ, ◌==◌, Bool, true, false, not, ◌&&◌, ◌||◌, List, [], ◌∷◌, length, inl, refl, ap, sym, subst, ◌∙◌, filter, list_any, eqb-true}
use Rattle.bd_laws.proofs.words.Types.{Identity, Object, Reference, Name, Thread, Holder, Carried, DeathNotification, Work, TodoList, OfThread}
use Rattle.bd_laws.proofs.words.Space.{same, is_some_and, Space, lives_in, object_in, owned_in, held_in, gives_name_to, buffer_of_holder, is_on, is_notice, hands_out, wants_notice, is_name_of, follow, settle, thread_goes, is_lost_with, NameTest, ObjectTest, follow_of, close_among, left_objects, lost_with_thread, names_left, objects_left, frames_left}
use Rattle.bd_space.specs.declared.space.WorkKind.TheVariants as work
use Rattle.bd_laws.proofs.words.Laws.{In, Elsewhere, IsFollowed, IsTidy, IsFramed}
use Rattle.bd_laws.proofs.Lists.{in_filter, filter_in, any_found, any_in, find_in}
use Rattle.bd_laws.proofs.Tests.{both, and_both, equal_tests, same_eq, to_false}
use Rattle.bd_laws.proofs.Follow.{follow_local}
use Rattle.bd_laws.proofs.Abandoned.{OneEach}
use Rattle.bd_laws.proofs.Framing.{one_each_framed, framed_exits}
use Rattle.bd_laws.proofs.AtHome.HomesSent.{one_thread}
use Rattle.bd_laws.proofs.FollowingIsLocal.Closings.{settle_among}
pub use Rattle.bd_laws.proofs.Machine.Fields.{follow_of_frames as follow_frames}
pub use Rattle.bd_laws.proofs.Tests.{or_left, or_right}
use Rattle.bd_laws.proofs.FollowingIsLocal.Left.{on_thread, abandoned_touched, Left, left_none, left_step}

-- ---- what is pending elsewhere, after references and items went

pub record Parts (a : NameTest) (b : ObjectTest) (s z : Space) : Type 0 where
  pub names : (m : Name) → In m z.names → In m s.names
  pub objects : z.objects ≡ s.objects
  pub owners : (x : Object) → In x s.objects → b x.id ≡ false → lives_in z.processes x.owner ≡ lives_in s.processes x.owner
  pub fewer : (r : Reference) → In r z.references → In r s.references
  pub stay : (r : Reference) → In r s.references → b r.object ≡ false → In r z.references
  pub named : (m : Name) → In m z.names → a m.process m.object ≡ false → (r : Reference) → In r s.references → same r.object m.object ≡ true → gives_name_to m.process r.holder ≡ true → In r z.references
  pub less : (w : Work) (o : Identity) → In w z.todo → w.kind ≡ work.Notice o → In w s.todo
  pub more : (w : Work) (o : Identity) → In w s.todo → is_notice o w.kind ≡ true → b o ≡ false → In w z.todo
  pub deaths : (d : DeathNotification) → In d z.deaths → a d.process d.object ≡ false → (d.cleared || is_name_of z.names d.process d.object) ≡ true
  pub tellings : (w : Work) (n : ℕ) → In w z.todo → w.kind ≡ work.Death n → list_any (λ (x : DeathNotification). x.made == n) z.deaths ≡ true

module _ (a : NameTest) (b : ObjectTest) (s z : Space) (h : IsFollowed s) (k : Parts a b s z) where
  any_same : (p : Reference → Bool) (o : Identity) → ((r : Reference) → p r ≡ true → same r.object o ≡ true) → b o ≡ false → list_any p z.references ≡ list_any p s.references
  any_same p o at none =
      equal_tests (list_any p z.references) (list_any p s.references)
      (λ e. let r = any_found p z.references e in any_in p r.0 s.references (k.fewer r.0 r.1) r.2)
      (λ e. let r = any_found p s.references e in
      any_in p r.0 z.references (k.stay r.0 r.1 (subst (λ i. b i ≡ false) (sym (same_eq r.0.object o (at r.0 r.2))) none)) r.2)

  held_same : (o : Identity) → b o ≡ false → held_in z.references o ≡ held_in s.references o
  held_same o none = search (arith, any_same)

  wants_same : (x : Object) → In x s.objects → b x.id ≡ false → wants_notice z.processes z.references x ≡ wants_notice s.processes s.references x
  wants_same x l none = search (arith, any_same, both)

  due_same : (o : Identity) → b o ≡ false → is_some_and (object_in s.objects o) (wants_notice s.processes s.references) ≡ true → is_some_and (object_in z.objects o) (wants_notice z.processes z.references) ≡ true
  due_same o none due = search (arith, find_in, wants_same)

  pub parts_elsewhere : Elsewhere a b z
  parts_elsewhere = record {
    names = λ m l none.
        let t = both (not (owned_in s.objects m.process m.object)) _ (h.names m (k.names m l) refl) in
        let r = any_found (λ (r : Reference). same r.object m.object && gives_name_to m.process r.holder) s.references t.1 in
        let c = both (same r.0.object m.object) (gives_name_to m.process r.0.holder) r.2 in
        and_both (not (owned_in z.objects m.process m.object)) _ (ap (λ (os : List Object). not (owned_in os m.process m.object)) k.objects ∙ t.0)
        (any_in (λ (r : Reference). same r.object m.object && gives_name_to m.process r.holder) r.0 z.references (k.named m l none r.0 r.1 c.0 c.1) r.2);
    objects = λ x l none. search (arith, held_same);
    deaths = k.deaths;
    notices = λ w o l e none. due_same o none (h.notices w o (k.less w o l e) e refl);
    tellings = k.tellings;
    made = λ x l none wants. search (arith, wants_same, any_found, any_in);
  }

-- ---- more may be looked at than is touched

pub not_more : (a b : Bool) → (a ≡ true → b ≡ true) → b ≡ false → a ≡ false
not_more a b h none = search arith

pub elsewhere_more : (a c : NameTest) (b d : ObjectTest) (z : Space) → ((p : ℕ) (o : Identity) → a p o ≡ true → c p o ≡ true) → ((o : Identity) → b o ≡ true → d o ≡ true) → Elsewhere a b z → Elsewhere c d z
elsewhere_more a c b d z more_names more_objects h = record {
  names = λ m l none. h.names m l (not_more _ _ (more_names m.process m.object) none);
  objects = λ x l none. h.objects x l (not_more _ _ (more_objects x.id) none);
  deaths = λ x l none. h.deaths x l (not_more _ _ (more_names x.process x.object) none);
  notices = λ w o l e none. h.notices w o l e (not_more _ _ (more_objects o) none);
  tellings = h.tellings;
  made = λ x l none wants. h.made x l (not_more _ _ (more_objects x.id) none) wants;
}

-- ---- what isn't touched

pub untouched_reference : (s : Space) (gone : Reference → Bool) (lists : List TodoList) (r : Reference) → In r s.references → left_objects gone lists s r.object ≡ false → gone r ≡ false
untouched_reference s gone lists r l none = search (arith, to_false, any_in)

pub untouched_notice : (s : Space) (gone : Reference → Bool) (lists : List TodoList) (w : Work) (o : Identity) → In w s.todo → is_notice o w.kind ≡ true → left_objects gone lists s o ≡ false
    → list_any (λ (l : TodoList). is_on l w) lists ≡ false
untouched_notice s gone lists w o l e none = search (arith, any_in, and_both)

-- ---- a thread ends

module _ (s : Space) (seat : ℕ) (h : IsTidy s) where
  abbrev gone : Reference → Bool
  gone = lost_with_thread s seat

  pub left : Left s gone (seat ∷ []) (OfThread seat ∷ []) (thread_goes s seat)
  left = left_step s gone (seat ∷ []) (OfThread seat ∷ []) s seat (inl refl) (inl refl) (λ r e. e) (left_none s gone (seat ∷ []) (OfThread seat ∷ []))

  pub left_parts : Parts (names_left s seat) (objects_left s seat) s (thread_goes s seat)
  left_parts = record {
    names = λ m l. subst (In m) left.names l;
    objects = left.objects;
    owners = λ x l none. ap (λ ps. lives_in ps x.owner) left.processes;
    fewer = left.fewer;
    stay = λ r l none. left.stay r l (untouched_reference s gone (OfThread seat ∷ []) r l none);
    named = λ m l none r i at for. search (arith, left, to_false, any_in, filter_in, and_both);
    less = λ w o l e. left.less w l;
    more = λ w o l e none. left.more w l (untouched_notice s gone (OfThread seat ∷ []) w o l e none);
    deaths = λ d l none. ap (λ ns. d.cleared || is_name_of ns d.process d.object) left.names ∙ h.quiet.followed.deaths d (subst (In d) left.deaths l) refl;
    tellings = λ w n l e. ap (λ ds. list_any (λ (x : DeathNotification). x.made == n) ds) left.deaths ∙ h.quiet.followed.tellings w n (left.less w l) e;
  }

  -- places of frames stay their own
  one_left : OneEach (thread_goes s seat).frames
  unfolding IsFramed
  one_left = one_each_framed s.steps (thread_goes s seat).frames (framed_exits.goes s seat s.steps h.framed)

  -- Of ExitThread: where the names and objects of lost references, the objects of lost Notices, and the thread's frames are
  -- looked at, nothing else has to be
  pub leaving_local : (a : NameTest) (b : ObjectTest) (c : ℕ → Bool) → ((p : ℕ) (o : Identity) → names_left s seat p o ≡ true → a p o ≡ true) → ((o : Identity) → objects_left s seat o ≡ true → b o ≡ true)
      → ((m : ℕ) → frames_left s seat m ≡ true → c m ≡ true) → settle (follow (thread_goes s seat)) ≡ close_among (length (thread_goes s seat).frames) c (follow_of a b (thread_goes s seat))
  leaving_local a b c names objects among = search (arith, follow_frames, parts_elsewhere, left_parts, abandoned_touched, left, follow_local, settle_among, one_left)

  -- the names to look at are the process's, and their objects are looked at too
  pub left_names : (t : Thread) → In t s.threads → t.seat ≡ seat → (p : ℕ) (o : Identity) → names_left s seat p o ≡ true → (t.process ≡ p) × (objects_left s seat o ≡ true)
  left_names t here at p o e =
      let test = λ (r : Reference). same r.object o && gives_name_to p r.holder in
      let r = any_found test (filter gone s.references) e in
      let i = in_filter gone r.0 s.references r.1 in
      let c = both (same r.0.object o) (gives_name_to p r.0.holder) r.2 in
      let touched = any_in (λ (q : Reference). same q.object o && gone q) r.0 s.references i.0 (and_both (same r.0.object o) (gone r.0) c.0 i.1) in
      (by_holder r.0 i.0 c.1 i.1, or_left _ (list_any (λ (w : Work). is_notice o w.kind && list_any (λ (l : TodoList). is_on l w) (OfThread seat ∷ [])) s.todo) touched)
    where
      -- a lost reference by which the process has a name is a buffer's
      carried : (c : Holder) (lost : ℕ → Bool) → gives_name_to p c ≡ true → is_some_and (buffer_of_holder c) lost ≡ true → (b : ℕ) × (c ≡ Carried b p) × (lost b ≡ true)
      carried c lost named k = search (arith, eqb-true)

      by_holder : (r : Reference) → In r s.references → gives_name_to p r.holder ≡ true → is_some_and (buffer_of_holder r.holder) (is_lost_with s.todo (OfThread seat)) ≡ true → t.process ≡ p
      by_holder r l named lost =
          let b = carried r.holder (is_lost_with s.todo (OfThread seat)) named lost in
          let w = any_found (λ (w : Work). is_on (OfThread seat) w && is_some_and (hands_out w.kind) (λ m. m == b.0)) s.todo b.2 in
          let k = both (is_on (OfThread seat) w.0) (is_some_and (hands_out w.0.kind) (λ m. m == b.0)) w.2 in
          let u = h.home.home w.0 seat b.0 w.1 (on_thread seat w.0.list k.0) (search (arith, eqb-true)) in
          let is = one_thread s h.home t u.0 here u.1 (at ∙ sym u.2) in
          ap (λ (x : Thread). x.process) is ∙ u.3 r p l b.1
