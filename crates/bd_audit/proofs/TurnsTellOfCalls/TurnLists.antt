-- For TurnsTellOfCalls, TurnsAreTaken and the search `oneway_turns`: the turns of an object as they are noted step by step,
-- by the buffer made at each place.
use Rattle.bd_laws.proofs.words.Logic.{◌≡◌, ℕ, ◌+◌, ◌<◌, Bool, false, cond, ◌||◌, List, [], ◌∷◌, ◌++◌, Option, Some, None, inr, refl, ap, sym, ◌∙◌, map, length, take, drop, set, get_or, arith, filter_map, is_some, eqb-true, map_over_more, get_or_default, inl}
use Rattle.bd_laws.proofs.words.Types.{Identity, Entry, Buffer}
use Rattle.bd_laws.proofs.words.Space.{is_some_and, Space, is_made_at, buffer_in, History, after, next, space_after}
use Rattle.bd_laws.proofs.words.Laws.{In, Pairs, Waits}
use Rattle.bd_ways.proofs.Ranges.{any_some}
use Rattle.bd_laws.proofs.Lists.{pairs_map, any_found}
use Rattle.bd_laws.proofs.Tests.{both, not_eq}
use Rattle.bd_laws.proofs.Always.{always_tidy}
use Rattle.bd_audit.specs.declared.turns.Turn.{Turn}
use Rattle.bd_audit.specs.Replays.{with_entry}
use Rattle.bd_audit.specs.TurnSearch.{is_call_on, is_live, is_handed, turn_made, next_turns, turns_from, turns_on}
use Rattle.bd_audit.proofs.Beginnings.{after_append}
use Rattle.bd_laws.proofs.Machine.Steps.{always_steps}

-- ---- the buffer made at a place

abbrev Rising : Buffer → Buffer → Type 0
Rising b c = b.made < c.made

-- no later buffer is made there
later_not : (bs : List Buffer) (made : ℕ) → ((c : Buffer) → In c bs → c.made ≡ made → ⊥) → is_handed bs made ≡ false
later_not bs made h = search (arith, any_found, both, eqb-true)

later_none : (o : Identity) (bs : List Buffer) (made : ℕ) → ((c : Buffer) → In c bs → c.made ≡ made → ⊥) → filter_map (turn_made o made) bs ≡ []
later_none o [] made h = refl
later_none o (b ∷ bs) made h = let no : is_made_at made b ≡ false = not_eq b.made made (h b (inl refl)) in rw no (later_none o bs made (λ c i. h c (inr i)))

or_false : (a b : Bool) → b ≡ false → (a || b) ≡ a
or_false a b h = search arith

pub handed_find : (bs : List Buffer) (made : ℕ) → Pairs Rising bs → is_handed bs made ≡ is_some_and (buffer_in bs made) (λ b. b.handed)
handed_find [] made h = refl
handed_find (b ∷ bs) made h = search (arith, handed_find bs made h.1, or_false, later_not, eqb-true)

abbrev pub one_turn : Identity → ℕ → Option Buffer → List Turn
one_turn o made None = []
one_turn o made (Some b) = cond (is_call_on o b) (record { made = made; handed = None; ended = None } ∷ []) []

made_find : (o : Identity) (bs : List Buffer) (made : ℕ) → Pairs Rising bs → filter_map (turn_made o made) bs ≡ one_turn o made (buffer_in bs made)
made_find o [] made h = refl
made_find o (b ∷ bs) made h = search (arith, made_find o bs made h.1, later_none, eqb-true)

rising : (h : History) → Pairs Rising (space_after h).buffers
rising h = pairs_map (Waits (space_after h).todo) Rising (space_after h).buffers (λ b c i j w. w.earlier) (always_tidy h).before.turns.waits

-- ---- as an engine's reading call finds the buffer

pub live_is : (h : History) (made : ℕ) (o : Option Buffer) → o ≡ buffer_in (space_after h).buffers made → is_some o ≡ is_live (space_after h).buffers made
live_is h made o e = ap is_some e ∙ sym (any_some (is_made_at made) (space_after h).buffers)

pub handed_is : (h : History) (made : ℕ) (o : Option Buffer) → o ≡ buffer_in (space_after h).buffers made → is_some_and o (λ b. b.handed) ≡ is_handed (space_after h).buffers made
handed_is h made o e = ap (λ x. is_some_and x (λ b. b.handed)) e ∙ sym (handed_find (space_after h).buffers made (rising h))

pub made_is : (h : History) (x : Identity) (made : ℕ) (o : Option Buffer) → o ≡ buffer_in (space_after h).buffers made → one_turn x made o ≡ filter_map (turn_made x made) (space_after h).buffers
made_is h x made o e = ap (one_turn x made) e ∙ sym (made_find x (space_after h).buffers made (rising h))

pub made_call : (h : History) (x : Identity) (made : ℕ) (b : Buffer) (is : Bool) → Some b ≡ buffer_in (space_after h).buffers made → is_call_on x b ≡ is
    → cond is (record { made = made; handed = None; ended = None } ∷ []) [] ≡ filter_map (turn_made x made) (space_after h).buffers
made_call h x made b is e k = ap (λ c. cond c (let t : Turn = record { made = made; handed = None; ended = None } in t ∷ []) []) (sym k) ∙ made_is h x made (Some b) e

-- ---- marking

pub mark_next : (f : Turn → Turn) (xs ys : List Turn) (i : ℕ) (d r : Turn) → ys ≡ map f (take i xs) ++ drop i xs → i < length xs → i < length ys → r ≡ f (get_or ys i d)
    → set ys i r ≡ map f (take (i + 1) xs) ++ drop (i + 1) xs
mark_next f xs ys i d r e lt below k =
    ap (λ t. set ys i t) k ∙ map_over_more f xs ys i (get_or ys i d) lt e (get_or_default ys i d (get_or ys i d) below)

-- ---- one step more

pub turns_last : (o : Identity) (es : List Entry) (s : Space) (ts : List Turn) (e : Entry)
    → turns_from o s ts (es ++ e ∷ []) ≡ next_turns o (after s es).steps (next (after s es) e).buffers (turns_from o s ts es)
turns_last o [] s ts e = refl
turns_last o (x ∷ es) s ts e = turns_last o es (next s x) (next_turns o s.steps (next s x).buffers ts) e

pub turns_next : (o : Identity) (h : History) (e : Entry) → turns_on o (with_entry h e) ≡ next_turns o (length h.entries) (space_after (with_entry h e)).buffers (turns_on o h)
unfolding turns_on space_after
turns_next o h e = search (arith, turns_last, always_steps, after_append)

pub turns_noted : (o : Identity) (g k : History) (e : Entry) (place : ℕ) (ts us : List Turn) → k ≡ with_entry g e → place ≡ length g.entries → ts ≡ turns_on o g
    → us ≡ next_turns o place (space_after k).buffers ts → us ≡ turns_on o k
turns_noted o g k e place ts us at p t u = search (arith, turns_next)

pub turns_none : (o : Identity) (seats : ℕ) → turns_on o (record { seats = seats; entries = [] }) ≡ []
unfolding turns_on
turns_none o seats = refl
