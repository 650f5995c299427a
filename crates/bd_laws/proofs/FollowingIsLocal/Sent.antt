-- For FollowingIsLocal, with lemmas for NothingIsPending: what a delivery leaves pending, at the objects that are sent, and
-- nowhere else.
use Rattle.bd_laws.proofs.words.Logic.{fold, ◌≡◌, ℕ, ◌==◌, Bool, true, false, ◌||◌, List, [], ◌∷◌, ◌++◌, Option, Some, ◌⊎◌, inl, inr, refl, sym, ◌∙◌, map, arith, list_any, not, ◌&&◌, ap, filter, list_any-append}
use Rattle.bd_laws.proofs.words.Types.{TransactionData, Identity, Object, Reference, Name, Item, Actor, Work, DeathNotification, WorkKind, TodoList, OfThread}
use Rattle.bd_laws.proofs.words.Space.{buffer_of, same, is_some_and, Space, object_in, held_in, strong_in, is_named_in, with_name, assign_numbers, with_work, is_call, wants_notice, has_notice_in, is_name_of, object_of_item, Delivery, delivered, own_notices, add_buffer, with_carried, refer, make_objects, buffer_references, ObjectTest, no_name, objects_of_items, lives_in, owned_in, stays_in, is_notice, add_notice, withdraw_notice}
use Rattle.bd_space.specs.declared.space.WorkKind.TheVariants as work
use Rattle.bd_laws.proofs.words.Laws.{In, KeptBefore, Elsewhere, IsFollowed}
use Rattle.bd_laws.proofs.Lists.{in_push, in_filter, filter_in, any_found, any_in, find_in, fold_keeps, in_append}
use Rattle.bd_laws.proofs.Machine.Adding.{Missing, notice_keeps}
use Rattle.bd_laws.proofs.Tests.{both, same_eq, eq_same, and_both, to_false}
use Rattle.bd_laws.proofs.KeptBefore.ObjectsKept.{buffer_reference}
pub use Rattle.bd_laws.proofs.FollowingIsLocal.Finding.{any_none}
use Rattle.bd_laws.proofs.FollowingIsLocal.Finding.{any_more, any_same, any_none, find_left, found_still}

-- ---- names that come are named

pub with_names_named : (manager : Option Identity) (objects : List Object) (references : List Reference) (p : ℕ) (os : List Identity) (names : List Name) (m : Name)
    → In m (fold (with_name manager objects references p) names os) → In m names ⊎ (is_named_in objects references m.process m.object ≡ true)
with_names_named manager objects references p [] names m l = inl l
with_names_named manager objects references p (o ∷ os) names m l = search (arith, with_names_named manager objects references p os (with_name manager objects references p names o) m l, in_push)

-- names that there were are there still
pub name_stays : (manager : Option Identity) (objects : List Object) (references : List Reference) (p : ℕ) (names : List Name) (o : Identity) (q : ℕ) (i : Identity)
    → is_name_of names q i ≡ true → is_name_of (with_name manager objects references p names o) q i ≡ true
name_stays manager objects references p names o q i h = search (arith, any_more)

-- ---- objects and references that come: of an older object nothing is pending, where references say of it what they said

module _ (b : ObjectTest) (s : Space) (h : IsFollowed s) (kept : KeptBefore s) (made : List Object) (more : List Reference) (new : (x : Object) → In x made → x.id.place ≡ s.steps) where
  abbrev pub objects : List Object
  objects = s.objects ++ made

  abbrev pub references : List Reference
  references = s.references ++ more

  named_still : (m : Name) → In m s.names → is_named_in objects references m.process m.object ≡ true
  named_still m l =
      let t = both (not (owned_in s.objects m.process m.object)) _ (h.names m l refl) in
      let r = kept.named m l in
      let x = kept.kept.refs r.0 r.1 in
      let lt = kept.kept.below x.0 x.1 in
      let place : x.0.id.place ≡ m.object.place = ap (λ (i : Identity). i.place) (x.2 ∙ r.2) in
      let none : owned_in objects m.process m.object ≡ owned_in s.objects m.process m.object = any_none _ s.objects made (λ y i. to_false _ (λ e.
      let is : y.id.place ≡ m.object.place = ap (λ (i : Identity). i.place) (same_eq y.id m.object (both (same y.id m.object) _ e).0) in
      let at = new y i in absurd (omega arith))) in
      and_both (not (owned_in objects m.process m.object)) _ (rw none t.0) (search (arith, list_any-append, t.1))

  -- of an object that isn't touched the references say the same, and for one that comes nothing is to be done
  pub come_elsewhere : ((x : Object) → In x s.objects → b x.id ≡ false → (held_in references x.id ≡ held_in s.references x.id) × (strong_in references x.id ≡ strong_in s.references x.id))
      → ((x : Object) → In x made → b x.id ≡ false → (stays_in s.processes references x ≡ true) × (wants_notice s.processes references x ≡ false)) → (manager : Option Identity)
      → Elsewhere no_name b (record s { manager = manager; objects = objects; references = references })
  come_elsewhere untied comes manager = record {
    names = λ m l none. named_still m l;
    objects = λ x l none. elim (in_append x s.objects made l) [
      | inl i ↦ ap (λ c. c || (lives_in s.processes x.owner && (x.told_weak || x.told_strong))) (untied x i none).0 ∙ h.objects x i refl
      | inr i ↦ (comes x i none).0
    ];
    deaths = λ d l none. h.deaths d l refl;
    notices = λ w o l e none.
        let due = h.notices w o l e refl in
        ap (λ (f : Option Object). is_some_and f (wants_notice s.processes references)) (find_left (λ (x : Object). same x.id o) s.objects made _ due)
        ∙ found_still s.objects o _ _ (λ x i is wants. wants_same x i (ap b is ∙ none) ∙ wants) due;
    tellings = h.tellings;
    made = λ x l none wants. elim (in_append x s.objects made l) [
      | inl i ↦ h.made x i refl (sym (wants_same x i none) ∙ wants)
      | inr i ↦ (let no = (comes x i none).1 in absurd (cc))
    ];
  }
    where
      wants_same : (x : Object) → In x s.objects → b x.id ≡ false → wants_notice s.processes references x ≡ wants_notice s.processes s.references x
      wants_same x l none = search arith

-- ---- Notices of the sender's own: standing ones of sent objects go first, then missing ones of sent objects come

module _ (P R : List Work → Type 0) (z : Space) (seat : ℕ) (items : List Item) where
  pub sent_notices_keep : ((i : Item) (todo : List Work) → In i items → P todo → P (filter (λ (w : Work). not (is_notice i.object w.kind)) todo)) → ((todo : List Work) → P todo → R todo)
      → ((i : Item) (todo : List Work) (x : Object) → In i items → object_in z.objects i.object ≡ Some x → Missing z.processes z.references todo x → R todo
      → R (with_work z.steps todo (OfThread seat) (work.Notice x.id)))
      → P z.todo → R (own_notices z seat items).todo
  unfolding own_notices
  sent_notices_keep takes turns makes h =
      fold_keeps R (add_notice z seat) items (λ todo i l. search (arith, notice_keeps)) _
      (turns _ (fold_keeps P (withdraw_notice z.objects) items (λ todo i l. search arith) z.todo h))

-- ---- the whole delivery

pub strong_held : (references : List Reference) (o : Identity) → strong_in references o ≡ true → held_in references o ≡ true
strong_held references o e = search (arith, any_found, any_in)

or_more : (a b c : Bool) → (b ≡ true → c ≡ true) → (a || b) ≡ true → (a || c) ≡ true
or_more a b c k h = search arith

-- what has been checked of a delivery: its objects are there or made by it, and somebody holds its target strongly
pub record Delivers (s : Space) (v : Delivery) : Type 0 where
  pub sent : (x : Object) → In x v.sending.made → objects_of_items v.sending.items x.id ≡ true
  pub new : (x : Object) → In x v.sending.made → x.id.place ≡ s.steps
  pub target : (o : Identity) → v.target ≡ Some o → strong_in s.references o ≡ true

module _ (s : Space) (v : Delivery) (h : IsFollowed s) (kept : KeptBefore s) (k : Delivers s v) where
  abbrev pub all_objects : List Object
  all_objects = s.objects ++ v.sending.made

  abbrev pub all_references : List Reference
  all_references = s.references ++ buffer_references s.steps v.receiver.made 0 v.sending.items v.target

  abbrev pub is_sent : ObjectTest
  is_sent = objects_of_items v.sending.items

  -- each new reference is a sent object's or the target's
  comes : (o : Identity) → is_sent o ≡ false → (r : Reference) → In r (buffer_references s.steps v.receiver.made 0 v.sending.items v.target) → same r.object o ≡ true
      → strong_in s.references o ≡ true
  comes o none r l e = search (arith, buffer_reference, any_in)

  come : (manager : Option Identity) → Elsewhere no_name is_sent (record s { manager = manager; objects = all_objects; references = all_references })
  come = come_elsewhere is_sent s h kept v.sending.made _ k.new (λ x l. search (arith, any_same, strong_held, comes, both)) (λ x l none. (let yes = k.sent x l in absurd (cc)))

  -- ---- the Notices of the sender's own

  pub record Todo (todo : List Work) : Type 0 where
    pub due : (w : Work) (o : Identity) → In w todo → w.kind ≡ work.Notice o → is_sent o ≡ false → is_some_and (object_in all_objects o) (wants_notice s.processes all_references) ≡ true
    pub tells : (w : Work) (n : ℕ) → In w todo → w.kind ≡ work.Death n → list_any (λ (x : DeathNotification). x.made == n) s.deaths ≡ true
    pub calls : (n : ℕ) → list_any (λ (w : Work). is_call n w.kind) s.todo ≡ true → list_any (λ (w : Work). is_call n w.kind) todo ≡ true
    pub has : (o : Identity) → is_sent o ≡ false → has_notice_in s.todo o ≡ true → has_notice_in todo o ≡ true

  sent_item : (x : Item) (o : Identity) → In x v.sending.items → is_sent o ≡ false → same x.object o ≡ true → ⊥
  sent_item x o l none e = search (arith, any_in)

  adds_work : (todo : List Work) (list : TodoList) (kind : WorkKind) → ((o : Identity) → kind ≡ work.Notice o → is_sent o ≡ false → ⊥) → ((n : ℕ) → kind ≡ work.Death n → ⊥) → Todo todo
      → Todo (with_work s.steps todo list kind)
  adds_work todo list kind none never t = search (arith, in_push, any_more)

  pub delivered_todo : (a : Actor) (d : TransactionData) → Todo (delivered s a d v).todo
  unfolding delivered add_buffer with_carried assign_numbers refer make_objects
  delivered_todo a d =
      sent_notices_keep Todo Todo (add_buffer (with_carried s v) (buffer_of (with_carried s v) a d v)) a.thread.seat v.sending.items
      (λ i todo l t. search (arith, in_filter, any_found, any_in, filter_in, to_false, sent_item, eq_same, same_eq)) (λ todo t. t)
      (λ i todo x l e missing. adds_work todo (OfThread a.thread.seat) (work.Notice x.id)
      (λ o is none.
      let id = same_eq x.id i.object (find_in (λ (y : Object). same y.id i.object) x all_objects e).1 in
      sent_item i o l none (eq_same i.object o (let j : x.id ≡ o = cc in sym id ∙ j)))
      (λ n is. cc)) (record { due = (come s.manager).notices; tells = h.tellings; calls = λ n e. e; has = λ o none e. e })

  pub delivered_elsewhere : (a : Actor) (d : TransactionData) → Elsewhere no_name is_sent (delivered s a d v)
  unfolding delivered own_notices add_buffer with_carried assign_numbers refer make_objects
  delivered_elsewhere a d =
      let t = delivered_todo a d in
      let e = come s.manager in
      record {
        names = λ m l none. elim (with_names_named s.manager all_objects all_references v.receiver.made (map object_of_item v.sending.items) s.names m l) [ inl i ↦ e.names m i refl | inr is ↦ is ];
        objects = e.objects;
        deaths = λ x l none. or_more x.cleared (is_name_of s.names x.process x.object) _ (fold_keeps (λ names. is_name_of names x.process x.object ≡ true)
            (with_name s.manager all_objects all_references v.receiver.made) (map object_of_item v.sending.items)
            (λ names o i j. name_stays s.manager all_objects all_references v.receiver.made names o x.process x.object j) s.names) (h.deaths x l refl);
        notices = t.due;
        tellings = t.tells;
        made = λ x l none wants. t.has x.id none (e.made x l none wants);
      }
