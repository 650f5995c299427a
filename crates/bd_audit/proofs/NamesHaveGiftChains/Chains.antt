-- For NamesHaveGiftChains: each name has a gift chain.
use Rattle.bd_laws.proofs.words.Logic.{◌≡◌, ℕ, ◌+◌, ◌<◌, ◌≤◌, ◌==◌, Bool, true, cond, ◌&&◌, List, [], ◌∷◌, ◌++◌, Option, Some, Ok, ◌⊎◌, inl, inr, refl, ap, sym, subst, ◌∙◌, length, arith, length-append, append_assoc, append-nil, eq-eqb}
use Rattle.bd_laws.proofs.words.Types.{Identity, Entry, Parcel, Command, Accepted, Actor, Object, Name, Holder, Carried}
use Rattle.bd_laws.proofs.words.Space.{same, is_some_and, Space, opening, actor, owned_in, named, ask_check, command_step, change, counted, History, after, next, space_after}
use Rattle.bd_uapi.specs.declared.command.Command.TheVariants as bc
use Rattle.bd_laws.proofs.words.Laws.{In}
use Rattle.bd_laws.proofs.Lists.{any_in}
use Rattle.bd_laws.proofs.Tests.{and_both, eq_same, either_true}
use Rattle.bd_laws.proofs.Sendings.{Owns, HasName, named_has}
use Rattle.bd_laws.proofs.Machine.Steps.{always_steps}
use Rattle.bd_audit.specs.Gifts as gifts
use Rattle.bd_audit.specs.Gifts.{is_carried_to, is_asking_0, AsksManager, Stands, Gives, OwnerGives, ManagerGives, IsChainFrom, IsGiftChain}
use Rattle.bd_audit.proofs.Beginnings.{after_append}
use Rattle.bd_audit.proofs.NamesHaveGiftChains.Naming.{step_naming, has_number}
use Rattle.bd_audit.proofs.NamesHaveGiftChains.NewNames.{ByHand, ByAsking}

-- ---- more entries

pub stands_more : (es fs : List Entry) (i : ℕ) (before : List Entry) (e : Entry) → Stands es i before e → Stands (es ++ fs) i before e
stands_more es fs i before e h = record { rest = h.rest ++ fs; all = ap (λ xs. xs ++ fs) h.all ∙ append_assoc before (e ∷ h.rest) fs; at = h.at }

stands_below : (es : List Entry) (i : ℕ) (before : List Entry) (e : Entry) → Stands es i before e → i < length es
stands_below es i before e h = search (arith, length-append)

begins_below : (es : List Entry) (i : ℕ) (o : Identity) (r : ℕ) → OwnerGives es i o r ⊎ ManagerGives es i o r → i < length es
begins_below es i o r (inl g) = stands_below es i g.0 g.1 g.3
begins_below es i o r (inr g) = stands_below es i g.0 g.1 g.2

chain_from_more : (es fs : List Entry) (o : Identity) (is : List ℕ) (p k q : ℕ) → IsChainFrom es o p k is q → IsChainFrom (es ++ fs) o p k is q
chain_from_more es fs o [] p k q h = h
chain_from_more es fs o (i ∷ is) p k q h =
    (h.0, h.1, (h.2.0, h.2.1, stands_more es fs i h.2.0 h.2.1 h.2.2, h.2.3), chain_from_more es fs o is h.0 (i + 1) q h.3)

-- A gift that begins a chain still does so with more entries behind.
pub begins_more : (es fs : List Entry) (i : ℕ) (o : Identity) (r : ℕ) → OwnerGives es i o r ⊎ ManagerGives es i o r → OwnerGives (es ++ fs) i o r ⊎ ManagerGives (es ++ fs) i o r
begins_more es fs i o r (inl g) = inl (g.0, g.1, g.2, stands_more es fs i g.0 g.1 g.3, g.4, g.5)
begins_more es fs i o r (inr g) = inr (g.0, g.1, stands_more es fs i g.0 g.1 g.2, g.3)

chain_more : (es fs : List Entry) (o : Identity) (is : List ℕ) (q : ℕ) → IsGiftChain es o is q → IsGiftChain (es ++ fs) o is q
chain_more es fs o [] q h = h
chain_more es fs o (i ∷ is) q h = (h.0, begins_more es fs i o h.0 h.1, chain_from_more es fs o is h.0 (i + 1) q h.2)

-- ---- one gift more, at the end

module _ (es : List Entry) (e : Entry) (o : Identity) (q r : ℕ) (g : Gives (es ++ e ∷ []) (length es) o q r) where
  chain_from_push : (is : List ℕ) (p k : ℕ) → k ≤ length es → IsChainFrom es o p k is q → IsChainFrom (es ++ e ∷ []) o p k (is ++ length es ∷ []) r
  chain_from_push [] p k le h = (r, le, subst (λ x. Gives (es ++ e ∷ []) (length es) o x r) (sym h) g, refl)
  chain_from_push (i ∷ is) p k le h =
      let lt = stands_below es i h.2.0 h.2.1 h.2.2 in
      (h.0, h.1, (h.2.0, h.2.1, stands_more es (e ∷ []) i h.2.0 h.2.1 h.2.2, h.2.3), chain_from_push is h.0 (i + 1) (omega arith) h.3)

  chain_push : (is : List ℕ) → IsGiftChain es o is q → IsGiftChain (es ++ e ∷ []) o (is ++ length es ∷ []) r
  chain_push [] h = absurd h
  chain_push (i ∷ is) h =
      let lt = begins_below es i o h.0 h.1 in
      (h.0, begins_more es (e ∷ []) i o h.0 h.1, chain_from_push is h.0 (i + 1) (omega arith) h.2)

pub here : (es : List Entry) (e : Entry) → Stands (es ++ e ∷ []) (length es) es e
here es e = record { rest = []; all = refl; at = refl }

-- ---- the gift of a step

by_actor : (s : Space) (seat : ℕ) (a : Actor) → actor s seat ≡ Some a → is_some_and (actor s seat) (λ b. b.process.made == a.process.made) ≡ true
by_actor s seat a h = rw h (eq-eqb a.process.made a.process.made refl)

pub owns_test : (objects : List Object) (p : ℕ) (o : Identity) → Owns objects p o → owned_in objects p o ≡ true
owns_test objects p o h = any_in (λ (x : Object). same x.id o && (x.owner == p)) h.0 objects h.1 (and_both (same h.0.id o) (h.0.owner == p) (eq_same h.0.id o h.2) (eq-eqb h.0.owner p h.3))

carried_test : (place q : ℕ) (holder : Holder) → holder ≡ Carried place q → is_carried_to place q holder ≡ true
carried_test place q holder h = subst (λ k. is_carried_to place q k ≡ true) (sym h) (and_both (place == place) (q == q) (eq-eqb place place refl) (eq-eqb q q refl))

pub sends : (s : Space) (place : ℕ) (e : Entry) (m : Name) → s.steps ≡ place → (g : ByHand s e.seat m (change s e.seat e.step).space) → gifts.Sends s place e m.object g.by.process.made m.process
unfolding counted
sends s place e m at g = search (arith, change, by_actor, either_true, owns_test, has_number, any_in, and_both, eq_same, carried_test)

asking_0 : (strong : Bool) (parcel : Option Parcel) → is_asking_0 (Command (cond strong (bc.Acquire 0) (bc.Increfs 0)) parcel) ≡ true
asking_0 strong parcel = search arith

accepts : (s : Space) (seat : ℕ) (a : Actor) (o : Identity) (strong : Bool) (parcel : Option Parcel) → actor s seat ≡ Some a → ask_check s a.process.made 0 strong ≡ Ok o
    → (change s seat (Command (cond strong (bc.Acquire 0) (bc.Increfs 0)) parcel)).answer ≡ Accepted
unfolding change command_step
accepts s seat a o strong parcel acts check = search arith

pub asks : (s : Space) (e : Entry) (m : Name) (z : Space) → ByAsking s e.seat e.step m z → AsksManager s e m.object m.process
asks s e m z g = search (arith, by_actor, asking_0, change, accepts)

-- ---- every history

abbrev Chained : List Entry → Space → Type 0
Chained es s = (m : Name) → In m s.names → (is : List ℕ) × IsGiftChain es m.object is m.process

-- the chain of a name that a process has
has_chain : (es : List Entry) (s : Space) → Chained es s → (p : ℕ) (o : Identity) → HasName s.names p o → (is : List ℕ) × IsGiftChain es o is p
has_chain es s log p o has =
    let c = log has.0 has.1 in
    (c.0, subst (λ x. IsGiftChain es x c.0 p) has.3 (subst (λ x. IsGiftChain es has.0.object c.0 x) has.2 c.1))

module _ (es : List Entry) (s : Space) (e : Entry) (at : s ≡ after opening es) (log : Chained es s) where
  hand_chain : (m : Name) (g : ByHand s e.seat m (change s e.seat e.step).space) → (is : List ℕ) × IsGiftChain (es ++ e ∷ []) m.object is m.process
  unfolding counted
  hand_chain m g =
      let p = g.by.process.made in
      let sent = sends s (length es) e m (ap (λ (y : Space). y.steps) at ∙ always_steps es) g in
      elim g.has [
        | inl own ↦ (
            let owned = owns_test (change s e.seat e.step).space.objects p m.object own in
            let both = subst (λ (y : Space). gifts.Sends y (length es) e m.object p m.process × (owned_in (next y e).objects p m.object ≡ true)) at (sent, owned) in
            (length es ∷ [], (m.process, inl (es, e, p, here es e, both.0, both.1), refl)))
        | inr has ↦ (
            let c = has_chain es s log p m.object has in
            (c.0 ++ length es ∷ [], chain_push es e m.object p m.process (es, e, here es e, subst (λ (y : Space). gifts.Sends y (length es) e m.object p m.process) at sent) c.0 c.1))
      ]

  asked_chain : (m : Name) → ByAsking s e.seat e.step m (change s e.seat e.step).space → (is : List ℕ) × IsGiftChain (es ++ e ∷ []) m.object is m.process
  asked_chain m g = (length es ∷ [], (m.process, inr (es, e, here es e, subst (λ (y : Space). AsksManager y e m.object m.process) at (asks s e m (change s e.seat e.step).space g)), refl))

  chained_step : Chained (es ++ e ∷ []) (next s e)
  unfolding counted
  chained_step m i = elim (step_naming s e.seat e.step m i) [
    | inl k ↦ (let c = log m k in (c.0, chain_more es (e ∷ []) m.object c.0 m.process c.1))
    | inr k ↦ elim k [ inl g ↦ hand_chain m g | inr g ↦ asked_chain m g ]
  ]

chained_all : (fs es : List Entry) (s : Space) → s ≡ after opening es → Chained es s → Chained (es ++ fs) (after s fs)
chained_all [] es s at log = subst (λ xs. Chained xs s) (sym (append-nil es)) log
chained_all (e ∷ fs) es s at log =
    subst (λ xs. Chained xs (after (next s e) fs)) (append_assoc es (e ∷ []) fs)
    (chained_all fs (es ++ e ∷ []) (next s e) (ap (λ (y : Space). next y e) at ∙ sym (after_append opening es (e ∷ []))) (chained_step es s e at log))

none_chained : Chained [] opening
none_chained = λ m i. absurd i

pub name_chain : (h : History) (p number : ℕ) (o : Identity) → named (space_after h) p number ≡ Some o → (is : List ℕ) × IsGiftChain h.entries o is p
unfolding space_after
name_chain h p number o e =
    let s = after opening h.entries in
    let log = chained_all h.entries [] opening refl none_chained in
    has_chain h.entries s log p o (named_has s p number o e)
