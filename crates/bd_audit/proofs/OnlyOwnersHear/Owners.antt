-- For OnlyOwnersHear: what is heard of an object is heard by its owner.
use Rattle.bd_laws.proofs.words.Logic.{arith, ◌≡◌, ℕ, ◌==◌, Bool, true, false, cond, ◌&&◌, List, [], ◌∷◌, Option, Some, None, ◌⊎◌, inl, inr, refl, find, eqb-true}
use Rattle.bd_laws.proofs.words.Types.{Identity, Step, StepAnswer, Entry, Object, Actor, Work}
use Rattle.bd_laws.proofs.words.Space.{same, is_some_and, Space, opening, actor, owned_in, list_to_read, taken, after}
use Rattle.bd_laws.specs.Lists.{In}
use Rattle.bd_laws.proofs.Lists.{in_filter, find_in}
use Rattle.bd_laws.proofs.Tests.{both, same_eq}
use Rattle.bd_laws.proofs.Always.{tidy_after}
use Rattle.bd_laws.proofs.NothingIsPending.Noticing.{Live, quiet_live}
use Rattle.bd_laws.proofs.IsInTurn.Ripening.{taken_in, read_in}
use Rattle.bd_audit.specs.Hearing.{Event, heard_in, names_own, heard_by, heard_at, is_by_owner}
use Rattle.bd_audit.proofs.OwnersHearInOrder.Returns.{told_or_silent, silent_heard}
use Rattle.bd_audit.proofs.NamesHaveGiftChains.Chains.{owns_test}
use Rattle.bd_audit.proofs.OnlyOwnersHear.Sitting.{always_sits}
use Rattle.bd_audit.proofs.OnlyOwnersHear.SittingSent.{Reaches, SitsIn, actor_process, actor_seat}

module _ (s : Space) (live : Live s) (sits : SitsIn s) (seat : ℕ) (a : Actor) (e : actor s seat ≡ Some a) where
  -- what stands on the list that the thread reads is its process's
  reads_own : (w : Work) (q : ℕ) → In w (list_to_read s a.thread) → Reaches s.threads w.list q → q ≡ a.process.made
  unfolding list_to_read
  reads_own w q l r = search (arith, eqb-true, actor_seat, actor_process, in_filter)

  module _ (o : Identity) where
    abbrev IsOwned : Type 0
    IsOwned = owned_in s.objects a.process.made o ≡ true

    reads_owned : (left : ℕ) (got_it : Bool) → (cond got_it (heard_in s o (taken s left (list_to_read s a.thread))) [] ≡ []) ⊎ IsOwned
    reads_owned left false = inl refl
    reads_owned left true = elim (told_or_silent s o (taken s left (list_to_read s a.thread))) [
      | inr none ↦ inl (silent_heard s o (taken s left (list_to_read s a.thread)) none)
      | inl w ↦ inr (
          let l = taken_in s (list_to_read s a.thread) left w.0 w.1 in
          let due = read_in s a.thread left w.0 w.1 in
          let x = live w.0 o due w.2 in
          owns_test s.objects a.process.made o (x.0, x.1, x.2, reads_own w.0 x.0.owner l (sits w.0 o x.0 due w.2 x.1 x.2)))
    ]

    abbrev own_with : ℕ → ℕ → Object → Bool
    own_with ptr cookie x = (x.owner == a.process.made) && (x.ptr == ptr) && (x.cookie == cookie)

    names_owned : (ptr cookie : ℕ) → names_own s o a.process.made ptr cookie ≡ true → IsOwned
    names_owned ptr cookie h = at (find (own_with ptr cookie) s.objects) refl h
      where
        at : (f : Option Object) → find (own_with ptr cookie) s.objects ≡ f → is_some_and f (λ (x : Object). same x.id o) ≡ true → IsOwned
        at None g k = absurd (cc)
        at (Some y) g k =
            let l = find_in (own_with ptr cookie) y s.objects g in
            let t = both (y.owner == a.process.made) (y.ptr == ptr) (both ((y.owner == a.process.made) && (y.ptr == ptr)) (y.cookie == cookie) l.1).0 in
            owns_test s.objects a.process.made o (y, l.0, same_eq y.id o k, eqb-true y.owner a.process.made t.0)

    done_owned : (ptr cookie : ℕ) (v : Event) (b : Bool) → names_own s o a.process.made ptr cookie ≡ b → (cond b (v ∷ []) [] ≡ []) ⊎ IsOwned
    done_owned ptr cookie v b h = search (arith, names_owned)

    by_owner : (x : Step) (answer : StepAnswer) → (heard_by s o a x answer ≡ []) ⊎ IsOwned
    by_owner x answer = search (arith, reads_owned, done_owned)

hears_own : (s : Space) → Live s → SitsIn s → (o : Identity) (e : Entry) → (heard_at s o e ≡ []) ⊎ (is_by_owner s o e ≡ true)
hears_own s live sits o e = at (actor s e.seat) refl
  where
    at : (f : Option Actor) → actor s e.seat ≡ f
        → (elim f as (λ (g : Option Actor). List Event) [ None ↦ [] | Some a ↦ heard_by s o a e.step e.answer ] ≡ []) ⊎ (is_some_and f (λ a. owned_in s.objects a.process.made o) ≡ true)
    at f g = search (arith, by_owner)

pub only_owners : (es : List Entry) (o : Identity) (e : Entry) → (heard_at (after opening es) o e ≡ []) ⊎ (is_by_owner (after opening es) o e ≡ true)
only_owners es o e = hears_own (after opening es) (quiet_live (after opening es) (tidy_after es).quiet) (always_sits es) o e
