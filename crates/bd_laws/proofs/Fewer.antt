-- FollowingIsLocal: where references go, a look at their names and objects is enough.
use Rattle.bd_laws.proofs.words.Logic.{arith, ◌≡◌, ℕ, Bool, true, false, not, ◌&&◌, ◌||◌, List, [], ◌∷◌, Option, Some, None, inr, refl, ap, sym, subst, ◌∙◌, filter, list_any, eqb-true, eq-eqb}
use Rattle.bd_laws.proofs.words.Types.{Identity, Process, Object, Reference}
use Rattle.bd_laws.proofs.words.Space.{same, is_some_and, without_first, Space, lives_in, object_in, owned_in, held_in, strong_in, gives_name_to, wants_notice, drop_asked, acknowledge, turns_of, completed, NameTest, ObjectTest, follow_of, at_name, no_name, at_object, names_of_references, objects_of_references}
use Rattle.bd_laws.proofs.words.Laws.{In, Elsewhere, IsSettled, NoneRipe, IsQuiet, IsFollowed}
use Rattle.bd_laws.proofs.Lists.{find_in, filter_in, any_in}
use Rattle.bd_laws.proofs.Tests.{both, and_both, same_eq, eq_same}
pub use Rattle.bd_laws.proofs.Tests.{to_false}
use Rattle.bd_laws.proofs.Follow.{follow_local}
use Rattle.bd_laws.proofs.Machine.Settled.{settle_still}
use Rattle.bd_laws.proofs.FollowingIsLocal.Ripe.{ripen_still}
use Rattle.bd_laws.proofs.Machine.Fields.{follow_of_frames}

-- of what isn't touched the references say the same
pub record SameSaid (a : NameTest) (b : ObjectTest) (references changed : List Reference) : Type 0 where
  pub named : (p : ℕ) (o : Identity) → a p o ≡ false
      → list_any (λ (r : Reference). same r.object o && gives_name_to p r.holder) changed ≡ list_any (λ (r : Reference). same r.object o && gives_name_to p r.holder) references
  pub held : (o : Identity) → b o ≡ false → held_in changed o ≡ held_in references o
  pub strong : (o : Identity) → b o ≡ false → strong_in changed o ≡ strong_in references o

wants_same : (a : NameTest) (b : ObjectTest) (processes : List Process) (references changed : List Reference) (x : Object) → SameSaid a b references changed → b x.id ≡ false
    → wants_notice processes changed x ≡ wants_notice processes references x
wants_same a b processes references changed x k none = search arith

pub found_same : (b : ObjectTest) (objects : List Object) (o : Identity) (p q : Object → Bool) → b o ≡ false → ((x : Object) → b x.id ≡ false → p x ≡ q x)
    → is_some_and (object_in objects o) q ≡ true → is_some_and (object_in objects o) p ≡ true
found_same b objects o p q none k h = at (object_in objects o) refl h
  where
    at : (f : Option Object) → object_in objects o ≡ f → is_some_and f q ≡ true → is_some_and f p ≡ true
    at None e i = absurd (cc)
    at (Some x) e i =
        let l = find_in (λ (y : Object). same y.id o) x objects e in
        let is : b x.id ≡ false = subst (λ j. b j ≡ false) (sym (same_eq x.id o l.1)) none in
        k x is ∙ i

-- nothing is pending where the lists of references agree
pub elsewhere_said : (a : NameTest) (b : ObjectTest) (s : Space) (changed : List Reference) → IsFollowed s → SameSaid a b s.references changed
    → Elsewhere a b (record s { references = changed })
elsewhere_said a b s changed h k = record {
  names = λ m l none. ap (λ c. not (owned_in s.objects m.process m.object) && c) (k.named m.process m.object none) ∙ h.names m l refl;
  objects = λ x l none. ap (λ c. c || (lives_in s.processes x.owner && (x.told_weak || x.told_strong))) (k.held x.id none) ∙ h.objects x l refl;
  deaths = λ d l none. h.deaths d l refl;
  notices = λ w o l e none. found_same b s.objects o _ _ none (λ x f. wants_same a b s.processes s.references changed x k f) (h.notices w o l e refl);
  tellings = h.tellings;
  made = λ x l none wants. h.made x l refl (sym (wants_same a b s.processes s.references changed x k none) ∙ wants);
}

-- ---- one reference goes

module _ {A : Type 0} where
  any_without : (p q : A → Bool) (xs : List A) → ((x : A) → In x xs → q x ≡ true → p x ≡ false) → list_any p (without_first q xs) ≡ list_any p xs
  any_without p q [] h = refl
  any_without p q (x ∷ xs) h = search (arith, any_without p q xs (λ y l. h y (inr l)))

  pub any_filtered : (p q : A → Bool) (xs : List A) → ((x : A) → In x xs → q x ≡ false → p x ≡ false) → list_any p (filter q xs) ≡ list_any p xs
  any_filtered p q [] h = refl
  any_filtered p q (x ∷ xs) h = search (arith, any_filtered p q xs (λ y l. h y (inr l)))

-- the names and objects of those that come or go are touched
module _ (a : NameTest) (b : ObjectTest) (references changed : List Reference) (Differs : Reference → Type 0)
    (any_same : (p : Reference → Bool) → ((r : Reference) → Differs r → p r ≡ false) → list_any p changed ≡ list_any p references)
    (named : (r : Reference) (p : ℕ) (o : Identity) → Differs r → (same r.object o && gives_name_to p r.holder) ≡ true → a p o ≡ true)
    (held : (r : Reference) (o : Identity) → Differs r → same r.object o ≡ true → b o ≡ true) where
  pub said_by : SameSaid a b references changed
  said_by = search arith

-- one of the list that passes
abbrev Goes : List Reference → (Reference → Bool) → Reference → Type 0
Goes references gone r = In r references × (gone r ≡ true)

-- where nothing is ripe or abandoned
pub completed_local : (a : NameTest) (b : ObjectTest) (z : Space) → Elsewhere a b z → NoneRipe z.todo [] (turns_of z.buffers) → IsSettled z.frames
    → completed z ≡ follow_of a b z
unfolding completed
completed_local a b z h unripe settled = search (arith, ripen_still, follow_local, settle_still, follow_of_frames)

-- Of BC_RELEASE and BC_DECREFS: one name and its object are looked at
pub dropped_local : (s : Space) (p : ℕ) (o : Identity) (strong : Bool) → IsQuiet s
    → completed (drop_asked s p o strong) ≡ follow_of (at_name p o) (at_object o) (drop_asked s p o strong)
unfolding drop_asked
dropped_local s p o strong h = search (arith, completed_local, elsewhere_said, any_without, and_both, eq_same, same_eq, eq-eqb, eqb-true)

-- ---- an acknowledgement: no name, one object

-- What follows BC_INCREFS_DONE and BC_ACQUIRE_DONE is looked for at the acknowledged object alone.
pub acknowledged_local : (s : Space) (o : Identity) (strong : Bool) → IsQuiet s
    → completed (acknowledge s o strong) ≡ follow_of no_name (at_object o) (acknowledge s o strong)
unfolding acknowledge
acknowledged_local s o strong h = search (arith, completed_local, elsewhere_said, any_without, both, eq_same, same_eq)

-- ---- some references go

pub filtered_said : (gone : Reference → Bool) (references : List Reference)
    → SameSaid (names_of_references (filter gone references)) (objects_of_references (filter gone references)) references (filter (λ r. not (gone r)) references)
filtered_said gone references = search (arith, any_filtered, any_in, filter_in)
