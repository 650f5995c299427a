-- Gifts that are told of as their steps are made.
use Rattle.std.proofs.Common.{◌≡◌, ◌<◌, ◌≤◌, ◌+◌, inl, inr, ℕ, List, [], ◌∷◌, ◌++◌, map, get_or, length, Option, Some, refl, ap, sym, ◌∙◌, subst, arith}
use Rattle.std.specs.Prelude.{option_and_then}
use Rattle.std.specs.List.{slice_get}
use Rattle.std.proofs.lemmas.List.{length-append, length-take-le, map-append, append_assoc, append-nil}
use Rattle.std.proofs.lemmas.Option.{slice_get-get_or}
use Rattle.bd_space.specs.declared.step.Entry.{Entry}
use Rattle.bd_space.specs.declared.step.Identity.{Identity}
use Rattle.bd_space.specs.Histories.{History, space_after}
use Rattle.bd_audit.specs.Gifts.{Stands, IsChainFrom, IsGiftChain, IsChainOf}
use Rattle.bd_audit.specs.Replays.{beginning, with_entry}
use Rattle.bd_player.specs.declared.certificates.Gift.{Gift}
use Rattle.bd_player.specs.Certified.{AreGiftsAt, AreChainOf, IsGiftOf, IsMadeBy, Rise}
use Rattle.bd_player.specs.Pids.{maker_of, pid_of, receiver_of, taker_of}

got : (h : History) (es : List Entry) (i : ℕ) (e : Entry) → es ≡ h.entries → i < length es → e ≡ get_or es i e → slice_get h.entries i ≡ Some e
got h es i e same_es below found = subst (λ (xs : List Entry). slice_get xs i ≡ Some e) same_es (slice_get-get_or es i e below ∙ ap (λ (x : Entry). Some x) (sym found))

-- where the gift was made that is made after a beginning
pub placed : (h g : History) (i : ℕ) (e : Entry) (es : List Entry) (gift : Gift) → g ≡ beginning i h → es ≡ h.entries → i < length es → IsMadeBy g es e gift → gift.place ≡ i
placed h g i e es gift at_i same_es below m =
    let inside : i < length h.entries = subst (λ (xs : List Entry). i < length xs) same_es below in
    m.place ∙ ap (λ (x : History). length x.entries) at_i ∙ length-take-le i h.entries (omega (arith, inside))

-- so many entries were made before it
pub so_many : (h g : History) (i : ℕ) (es : List Entry) → g ≡ beginning i h → es ≡ h.entries → i < length es → length g.entries ≡ i
so_many h g i es at_i same_es below =
    let inside : i < length h.entries = subst (λ (xs : List Entry). i < length xs) same_es below in
    ap (λ (x : History). length x.entries) at_i ∙ length-take-le i h.entries (omega (arith, inside))

-- who made the step by which a gift was made, and who got it, as the entry stands in the whole history
pub made_there : (h g : History) (i : ℕ) (e : Entry) (es : List Entry) (gift : Gift) → g ≡ beginning i h → es ≡ h.entries → i < length es → e ≡ get_or es i e
    → with_entry g e ≡ beginning (i + 1) h → IsMadeBy g es e gift → IsGiftOf h gift
made_there h g i e es gift at_i same_es below found next m =
    let k = beginning i h in
    let place : gift.place ≡ i = placed h g i e es gift at_i same_es below m in
    let maker : maker_of h i ≡ pid_of (space_after k) h.entries e.seat =
    ap (option_and_then (λ (x : Entry). pid_of (space_after k) h.entries x.seat)) (got h es i e same_es below found) in
    let same : pid_of (space_after g) es e.seat ≡ pid_of (space_after k) h.entries e.seat =
    ap (λ (x : History). pid_of (space_after x) es e.seat) at_i ∙ ap (λ (xs : List Entry). pid_of (space_after k) xs e.seat) same_es in
    let taker : receiver_of (space_after (with_entry g e)) es (length g.entries) ≡ taker_of h i =
    ap (λ (x : History). receiver_of (space_after x) es (length g.entries)) next
    ∙ ap (λ (xs : List Entry). receiver_of (space_after (beginning (i + 1) h)) xs (length g.entries)) same_es
    ∙ ap (receiver_of (space_after (beginning (i + 1) h)) h.entries) (so_many h g i es at_i same_es below) in
    record {
      pid = subst (λ (p : ℕ). gift.pid ≡ maker_of h p) (sym place) (m.pid ∙ (same ∙ sym maker));
      to = subst (λ (p : ℕ). gift.to ≡ taker_of h p) (sym place) (m.to ∙ taker);
    }

-- ---- one place after the other

abbrev places_of : List Gift → List ℕ
places_of gifts = map (λ (g : Gift). g.place) gifts

-- these are the gifts at the first of the places, and the others come from here on
pub record AreSoFar (i : ℕ) (es : List Entry) (places : List ℕ) (gifts : List Gift) : Type 0 where
  pub rest : List ℕ
  pub all : places ≡ places_of gifts ++ rest
  pub rises : Rise i es rest

pub none_yet : (es : List Entry) (places : List ℕ) (gifts : List Gift) → gifts ≡ [] → Rise 0 es places → AreSoFar 0 es places gifts
none_yet es places gifts none rises = subst (AreSoFar 0 es places) (sym none) (record { rest = places; all = refl; rises = rises })

head_left : (gifts : List Gift) (rest : List ℕ) → slice_get (places_of gifts ++ rest) (length gifts) ≡ slice_get rest 0
head_left [] rest = refl
head_left (g ∷ gifts) rest = head_left gifts rest

asked_is : (places : List ℕ) (gifts : List Gift) (rest : List ℕ) (asked : Option ℕ) → asked ≡ slice_get places (length gifts) → places ≡ places_of gifts ++ rest → asked ≡ slice_get rest 0
asked_is places gifts rest asked is all = is ∙ ap (λ (xs : List ℕ). slice_get xs (length gifts)) all ∙ head_left gifts rest

beyond : (p i : ℕ) → i ≤ p → (p ≡ i → ⊥) → i + 1 ≤ p
beyond p i le other = search (arith)

pub passes : (i : ℕ) (es : List Entry) (places : List ℕ) (gifts : List Gift) (asked : Option ℕ) → asked ≡ slice_get places (length gifts) → (asked ≡ Some i → ⊥)
    → AreSoFar i es places gifts → AreSoFar (i + 1) es places gifts
passes i es places gifts asked is other s = by s.rest s.all s.rises (asked_is places gifts s.rest asked is s.all)
  where
    by : (rest : List ℕ) → places ≡ places_of gifts ++ rest → Rise i es rest → asked ≡ slice_get rest 0 → AreSoFar (i + 1) es places gifts
    by [] all rises head = record { rest = []; all = all; rises = tt }
    by (p ∷ rest) all rises head =
        record { rest = p ∷ rest; all = all; rises = (beyond p i rises.0 (λ same. other (head ∙ ap (λ (n : ℕ). Some n) same)), rises.1, rises.2) }

pub gives : (i : ℕ) (es : List Entry) (places : List ℕ) (gifts : List Gift) (g : Gift) (asked : Option ℕ) → asked ≡ slice_get places (length gifts) → asked ≡ Some i → g.place ≡ i
    → AreSoFar i es places gifts → AreSoFar (i + 1) es places (gifts ++ g ∷ [])
gives i es places gifts g asked is here place s = by s.rest s.all s.rises (sym (asked_is places gifts s.rest asked is s.all) ∙ here)
  where
    by : (rest : List ℕ) → places ≡ places_of gifts ++ rest → Rise i es rest → slice_get rest 0 ≡ Some i → AreSoFar (i + 1) es places (gifts ++ g ∷ [])
    by [] all rises head = absurd cc
    by (p ∷ rest) all rises head =
        let same : p ≡ i = cc in
        record {
          rest = rest;
          all = all ∙ ap (λ (n : ℕ). places_of gifts ++ n ∷ rest) (same ∙ sym place) ∙ sym (append_assoc (places_of gifts) (g.place ∷ []) rest)
              ∙ ap (λ (xs : List ℕ). xs ++ rest) (sym (map-append (λ (x : Gift). x.place) gifts (g ∷ [])));
          rises = subst (λ (n : ℕ). Rise (n + 1) es rest) same rises.2;
        }

pub all_given : (i : ℕ) (es : List Entry) (places : List ℕ) (gifts : List Gift) → length es ≤ i → AreSoFar i es places gifts → places_of gifts ≡ places
all_given i es places gifts done s = by s.rest s.all s.rises
  where
    by : (rest : List ℕ) → places ≡ places_of gifts ++ rest → Rise i es rest → places_of gifts ≡ places
    by [] all rises = sym (all ∙ append-nil (places_of gifts))
    by (p ∷ rest) all rises = absurd (let from = rises.0 in let below = rises.1 in omega (arith, done, from, below))

-- ---- the places of a chain rise

inside : (es : List Entry) (i : ℕ) (before : List Entry) (e : Entry) → Stands es i before e → i < length es
inside es i before e s = let all = ap length s.all in let parts = length-append before (e ∷ s.rest) in let at = s.at in omega (arith, all, parts, at)

rise_from : (es : List Entry) (o : Identity) (p k : ℕ) (places : List ℕ) (q : ℕ) → IsChainFrom es o p k places q → Rise k es places
rise_from es o p k [] q chain = tt
rise_from es o p k (i ∷ places) q chain =
    (chain.1, inside es i chain.2.0 chain.2.1 chain.2.2, rise_from es o chain.0 (i + 1) places q chain.3)

rise : (es : List Entry) (o : Identity) (places : List ℕ) (q : ℕ) → IsGiftChain es o places q → Rise 0 es places
rise es o [] q chain = absurd chain
rise es o (i ∷ places) q chain =
    let there : i < length es = elim chain.1 [
      | inl x ↦ inside es i x.0 x.1 x.3
      | inr x ↦ inside es i x.0 x.1 x.2
    ] in
    (omega arith, there, rise_from es o chain.0 (i + 1) places q chain.2)

-- the gifts at the places of a chain are those of the chain
pub chain_told : (h : History) (pid number : ℕ) (places : List ℕ) (gifts : List Gift) → IsChainOf h pid number places → (Rise 0 h.entries places → AreGiftsAt h places gifts) → AreChainOf h pid number gifts
chain_told h pid number places gifts chain told = record {
  places = places;
  chain = chain;
  gifts_are = told (rise h.entries chain.object places chain.process.made chain.chain);
}
