-- For the public search `gift_chain`: the step at which a name begins, and to whom a step gives. GoneUnheld uses one lemma.
use Rattle.bd_laws.proofs.words.Logic.{◌≡◌, ℕ, ◌<◌, ◌==◌, Bool, true, false, ◌&&◌, not, List, [], ◌∷◌, ◌++◌, Option, Some, None, inl, inr, refl, ap, sym, subst, ◌∙◌, length, find, arith, length-append, is_some, option_map, option_and_then, option_or, eqb-true, eq-eqb}
use Rattle.bd_laws.proofs.words.Types.{Identity, Entry, Thread, Actor, Name, Buffer, Carried}
use Rattle.bd_laws.proofs.words.Space.{same, when, Space, opening, actor, number_in, named, is_made_at, buffer_in, change, counted, History, after, next, space_after}
use Rattle.bd_engine.specs.Looks.{knows, process_of}
use Rattle.bd_laws.proofs.words.Laws.{In, IsTidy}
use Rattle.bd_laws.proofs.Lists.{find_in, find_some}
use Rattle.bd_laws.proofs.Tests.{both, same_eq, not_eq, is_some_ok}
use Rattle.bd_laws.proofs.Sending.{find_none}
use Rattle.bd_laws.proofs.Sendings.{HasName, named_has}
use Rattle.bd_laws.proofs.Checks.{actor_lives, actor_acts}
use Rattle.bd_laws.proofs.Always.{tidy_after}
use Rattle.bd_audit.specs.declared.gifts.Gift.{Gift}
use Rattle.bd_audit.specs.Replays.{with_entry}
use Rattle.bd_audit.specs.GiftSearch.{knows_after, giver_in, gift_made, receiver_at, receiver_of, GivenBy, IsGift, BeginsAt}
use Rattle.bd_audit.proofs.Beginnings.{after_append}
use Rattle.bd_audit.proofs.NamesHaveGiftChains.Naming.{step_naming, has_number, is_some_map}
use Rattle.bd_audit.proofs.NamesHaveGiftChains.NewNames.{ByHand, ByAsking}
use Rattle.bd_audit.proofs.NamesHaveGiftChains.Chains.{stands_more, begins_more, here, sends, asks, owns_test}
use Rattle.bd_laws.proofs.Machine.Steps.{always_steps}

-- ---- names and actors

-- what a search that finds something finds
module _ {A : Type 0} (p : A → Bool) (xs : List A) where
  pub some_found : is_some (find p xs) ≡ true → (x : A) × In x xs × (p x ≡ true) × (find p xs ≡ Some x)
  some_found h = let f = is_some_ok (find p xs) h in let l = find_in p f.0 xs f.1 in (f.0, l.0, l.1, f.1)

number_has : (names : List Name) (p : ℕ) (o : Identity) → is_some (number_in names p o) ≡ true → HasName names p o
number_has names p o h =
    let m = some_found (λ (m : Name). (m.process == p) && same m.object o) names (sym (is_some_map _ _) ∙ h) in
    let t = both (m.0.process == p) (same m.0.object o) m.2 in
    (m.0, m.1, eqb-true m.0.process p t.0, same_eq m.0.object o t.1)

pub named_knows : (s : Space) (p n : ℕ) (o : Identity) → named s p n ≡ Some o → knows s p o ≡ true
named_knows s p n o h = has_number s.names p o (named_has s p n o h)

actor_process : (s : Space) (seat : ℕ) (a : Actor) → actor s seat ≡ Some a → process_of s seat ≡ Some a.process.made
actor_process s seat a h = ap (option_map (λ (t : Thread). t.process)) (actor_lives s seat a h).0 ∙ ap (λ n. Some n) (sym (actor_acts s seat a h).own)

actor_giver : (s : Space) (seat : ℕ) (a : Actor) (o : Identity) → actor s seat ≡ Some a → giver_in s seat o ≡ when (knows s a.process.made o) a.process.made
actor_giver s seat a o h = ap (option_and_then (λ p. when (knows s p o) p)) (actor_process s seat a h)

-- ---- the step at which a name begins

module _ (es : List Entry) (e : Entry) where
  -- the acting process has a name for the object, or it doesn't
  by_hand : (m : Name) (g : ByHand (after opening es) e.seat m (change (after opening es) e.seat e.step).space) (b : Bool) → knows_after es g.by.process.made m.object ≡ b
      → GivenBy (es ++ e ∷ []) (length es) m.object m.process (when b g.by.process.made)
  unfolding counted
  by_hand m g true k = (es, e, here es e, sends (after opening es) (length es) e m (always_steps es) g, k)
  by_hand m g false k =
      let s = after opening es in
      let z = (change s e.seat e.step).space in
      let p = g.by.process.made in
      elim g.has [
        | inl own ↦ inl (es, e, p, here es e, sends s (length es) e m (always_steps es) g, owns_test z.objects p m.object own)
        | inr has ↦ (let yes = has_number s.names p m.object has in absurd (cc))
      ]

  hand_gives : (m : Name) → ByHand (after opening es) e.seat m (change (after opening es) e.seat e.step).space
      → GivenBy (es ++ e ∷ []) (length es) m.object m.process (giver_in (after opening es) e.seat m.object)
  hand_gives m g =
      subst (GivenBy (es ++ e ∷ []) (length es) m.object m.process) (sym (actor_giver (after opening es) e.seat g.by m.object g.acts))
      (by_hand m g (knows_after es g.by.process.made m.object) refl)

  asked_gives : (m : Name) → ByAsking (after opening es) e.seat e.step m (change (after opening es) e.seat e.step).space → knows_after es m.process m.object ≡ false
      → GivenBy (es ++ e ∷ []) (length es) m.object m.process (giver_in (after opening es) e.seat m.object)
  asked_gives m g new =
      let s = after opening es in
      let p = g.by.process.made in
      let none : giver_in s e.seat m.object ≡ None =
      actor_giver s e.seat g.by m.object g.acts ∙ ap (λ b. when b p) (subst (λ q. knows s q m.object ≡ false) (sym g.process) new) in
      subst (GivenBy (es ++ e ∷ []) (length es) m.object m.process) (sym none) (inr (es, e, here es e, asks s e m (change s e.seat e.step).space g))

  pub name_given : (o : Identity) (q : ℕ) → knows_after es q o ≡ false → knows_after (es ++ e ∷ []) q o ≡ true
      → GivenBy (es ++ e ∷ []) (length es) o q (giver_in (after opening es) e.seat o)
  unfolding counted
  name_given o q new now = search (arith, change, after_append, number_has, step_naming, has_number, hand_gives, asked_gives)

-- The gift that an engine finds, by what it knows before and after the step, is that of the definition.
pub gift_is : (h k : History) (e : Entry) (q : ℕ) (o : Identity) (knew now : Bool) (n : ℕ) (giver : Option ℕ) → k ≡ with_entry h e → knew ≡ knows (space_after h) q o
    → now ≡ knows (space_after k) q o → n ≡ length h.entries → giver ≡ giver_in (space_after h) e.seat o
    → when (not knew && now) (let g : Gift = record { receiver = q; place = n; giver = giver } in g) ≡ gift_made h.entries e q o
unfolding space_after
gift_is h k e q o knew now n giver at a b c d = rw (a, b, at, c, d) refl

-- ---- more entries

given_more : (es fs : List Entry) (i : ℕ) (o : Identity) (q : ℕ) (giver : Option ℕ) → GivenBy es i o q giver → GivenBy (es ++ fs) i o q giver
given_more es fs i o q None h = begins_more es fs i o q h
given_more es fs i o q (Some p) h = (h.0, h.1, stands_more es fs i h.0 h.1 h.2, h.3, h.4)

pub gift_more : (es fs : List Entry) (o : Identity) (g : Gift) → IsGift es o g → IsGift (es ++ fs) o g
gift_more es fs o g h = (let l = length-append es fs in let below = h.0 in omega (arith, l), given_more es fs g.place o g.receiver g.giver h.1)

-- ---- to whom a step gives

-- what is made at no place of these is found at none
none_made : (place : ℕ) (bs : List Buffer) → ((b : Buffer) → In b bs → b.made < place) → buffer_in bs place ≡ None
none_made place bs h = find_none (is_made_at place) bs (λ b i. not_eq b.made place (λ e. let below = h b i in absurd (omega arith)))

module _ (es : List Entry) (e : Entry) where
  hand_receiver : (m : Name) → ByHand (after opening es) e.seat m (change (after opening es) e.seat e.step).space → receiver_at (next (after opening es) e) (length es) ≡ Some m.process
  unfolding counted
  hand_receiver m g =
      let s = after opening es in
      let z = (change s e.seat e.step).space in
      let at : g.buffer.0.made ≡ length es = g.buffer.2 ∙ always_steps es in
      let b = some_found (is_made_at (length es)) z.buffers (find_some (is_made_at (length es)) g.buffer.0 z.buffers g.buffer.1 (eq-eqb g.buffer.0.made (length es) at)) in
      let windows = (subst IsTidy (after_append opening es (e ∷ [])) (tidy_after (es ++ e ∷ []))).in_windows in
      let r = g.carried in
      let held : r.0.holder ≡ Carried b.0.made m.process = r.3 ∙ ap (λ n. Carried n m.process) (always_steps es ∙ sym (eqb-true b.0.made (length es) b.2)) in
      ap (option_map (λ (c : Buffer). c.receiver)) b.3 ∙ ap (λ n. Some n) (windows r.0 b.0 m.process r.1 b.1 held)

  asked_receiver : (m : Name) → ByAsking (after opening es) e.seat e.step m (change (after opening es) e.seat e.step).space
      → (receiver_at (next (after opening es) e) (length es) ≡ None) × (process_of (after opening es) e.seat ≡ Some m.process)
  unfolding counted
  asked_receiver m g =
      let s = after opening es in
      let z = (change s e.seat e.step).space in
      let below = (tidy_after es).before.turns.below in
      let none = none_made (length es) s.buffers (λ b i. subst (λ n. b.made < n) (always_steps es) (below b i)) in
      let none_now : buffer_in (next s e).buffers (length es) ≡ None = ap (λ bs. buffer_in bs (length es)) g.buffers ∙ none in
      (ap (option_map (λ (c : Buffer). c.receiver)) none_now, actor_process s e.seat g.by g.acts ∙ ap (λ n. Some n) g.process)

  -- a process whose name for the object begins there is the one that receives there; if none does, it asks
  pub begins_with : (o : Identity) (q : ℕ) → BeginsAt es e o q → option_or (receiver_at (next (after opening es) e) (length es)) (process_of (after opening es) e.seat) ≡ Some q
  unfolding counted
  begins_with o q begins =
      let s = after opening es in
      let z = (change s e.seat e.step).space in
      let knows_now : knows (next s e) q o ≡ true = subst (λ (y : Space). knows y q o ≡ true) (after_append opening es (e ∷ [])) begins.1 in
      let has = number_has (next s e).names q o knows_now in
      let m = has.0 in
      let receives : option_or (receiver_at (next s e) (length es)) (process_of s e.seat) ≡ Some m.process = elim (step_naming s e.seat e.step m has.1) [
        | inl k ↦ (let yes = has_number s.names q o (m, k, has.2, has.3) in let no = begins.0 in absurd (cc))
        | inr k ↦ elim k [
          | inl g ↦ ap (λ r. option_or r (process_of s e.seat)) (hand_receiver m g)
          | inr g ↦ (let a = asked_receiver m g in ap (λ r. option_or r (process_of s e.seat)) a.0 ∙ a.1)
        ]
      ] in
      receives ∙ ap (λ n. Some n) has.2

-- The receiver that engines find is the only process whose name for the object can begin with the entry.
pub one_candidate : (h : History) (e : Entry) (o : Identity) (receiver asker candidate : Option ℕ) → receiver ≡ receiver_of h.entries e
    → asker ≡ process_of (space_after h) e.seat → candidate ≡ option_or receiver asker → (q : ℕ) → BeginsAt h.entries e o q → candidate ≡ Some q
unfolding space_after
one_candidate h e o receiver asker candidate a b c q begins =
    let found = begins_with h.entries e o q begins in
    let there = ap (λ (y : Space). receiver_at y (length h.entries)) (after_append opening h.entries (e ∷ [])) in
    c ∙ ap (λ r. option_or r asker) (a ∙ there) ∙ ap (option_or (receiver_at (next (after opening h.entries) e) (length h.entries))) b ∙ found
