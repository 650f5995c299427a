-- Who stands before whom: only by standing before it can one have a turn first, and then it stands behind.
use Rattle.std.proofs.Common.{◌≡◌, ◌==◌, ◌+◌, ◌≤◌, ℕ, Bool, true, false, List, [], ◌∷◌, ◌++◌, cond, refl, sym, ap, subst, ◌∙◌, arith, if◌then◌else◌}
use Rattle.std.proofs.{lemmas.Bool.Decides.{nat_tests}, lemmas.Bool.{eqb-true}, lemmas.Grind.{common_steps}}
use Rattle.bd_ring.specs.Turns.{wants, is_ring, Event, after, after_enter, after_leave, is_turn, is_pass, turns, passes, Stays, AlwaysWants, NobodyHasTwo, NobodyHasMore}
use Rattle.bd_ring.specs.Turns.Event.{Enters, Leaves, Turn, Pass}
use Rattle.bd_ring.proofs.Staying.{wants_more, first_apart, rest_of, ring_more, wants_left, ring_fewer, ring_turned, ring_passed}

abbrev before : ℕ → ℕ → List ℕ → Bool
before other one [] = false
before other one (x ∷ xs) = if x == one then false else (if x == other then true else before other one xs)

stands : (other one : ℕ) (xs : List ℕ) → before other one xs ≡ true → wants xs other ≡ true
stands other one [] e = e
stands other one (x ∷ xs) e = let later = stands other one xs in grind (arith, nat_tests, common_steps, later)

before_more : (other one z : ℕ) (xs : List ℕ) → wants xs one ≡ true → before other one (xs ++ z ∷ []) ≡ before other one xs
before_more other one z [] e = cc
before_more other one z (x ∷ xs) e = let later = before_more other one z xs in grind (arith, nat_tests, common_steps, later)

before_fewer : (other one z : ℕ) (xs : List ℕ) → (one ≡ z → ⊥) → before other one (after_leave xs z) ≡ true → before other one xs ≡ true
before_fewer other one z [] apart e = e
before_fewer other one z (x ∷ xs) apart e = let rest = before_fewer other one z xs apart in grind (arith, nat_tests, common_steps, rest)

-- ---- an event

abbrev as_number : Bool → ℕ
as_number b = if b then 1 else 0

abbrev ahead : ℕ → ℕ → List ℕ → ℕ
ahead other one ring = as_number (before other one ring)

fewer : (a b : Bool) → (a ≡ true → b ≡ true) → as_number a ≤ as_number b
fewer true b e = rw (e refl) (omega arith)
fewer false b e = omega arith

one_most : (a : Bool) → as_number a ≤ 1
one_most true = omega arith
one_most false = omega arith

-- the one still stands there, and who had a turn stands before it no more, unless it was passed over
record Goes (ring new : List ℕ) (one other turned passed : ℕ) : Type 0 where
  wanted : wants new one ≡ true
  ring' : is_ring new ≡ true
  less : turned + ahead other one new ≤ ahead other one ring + passed

entered : (ring : List ℕ) (z one other : ℕ) → is_ring ring ≡ true → wants ring one ≡ true → Goes ring (after_enter ring z) one other 0 0
entered ring z one other r w = by (wants ring z) refl
  where
    by : (b : Bool) → wants ring z ≡ b → Goes ring (cond b ring (ring ++ z ∷ [])) one other 0 0
    by true e = record { wanted = w; ring' = r; less = omega arith }
    by false e = record {
      wanted = wants_more ring z one ∙ rw w refl;
      ring' = ring_more ring z r e;
      less = let same = ap {B = ℕ} as_number (before_more other one z ring w) in omega (arith, same);
    }

left : (ring : List ℕ) (z one other : ℕ) → is_ring ring ≡ true → wants ring one ≡ true → (one ≡ z → ⊥) → Goes ring (after_leave ring z) one other 0 0
left ring z one other r w apart = record {
  wanted = wants_left ring z one apart ∙ w;
  ring' = ring_fewer ring z r;
  less = let less = fewer _ _ (before_fewer other one z ring apart) in omega (arith, less);
}

-- the first had a turn, which isn't the one
turned : (x : ℕ) (xs : List ℕ) (one other : ℕ) → is_ring (x ∷ xs) ≡ true → wants (x ∷ xs) one ≡ true → (x == one) ≡ false → Goes (x ∷ xs) xs one other (as_number (x == other)) 0
turned x xs one other r w none = record {
  wanted = grind (arith, nat_tests, common_steps);
  ring' = rest_of (wants xs x) (is_ring xs) r;
  less = by (x == other) refl (before other one xs) refl;
}
  where
    by : (b : Bool) → (x == other) ≡ b → (a : Bool) → before other one xs ≡ a → as_number (x == other) + ahead other one xs ≤ ahead other one (x ∷ xs) + 0
    by true e true s =
        let there = stands other one xs s in
        let out = first_apart (wants xs x) (is_ring xs) r in
        let same : x ≡ other = eqb-true x other e in
        absurd (let n : wants xs other ≡ false = subst (λ k. wants xs k ≡ false) same out in cc)
    by true e false s = rw (none, e, s) (omega arith)
    by false e a s = rw (none, e) (omega arith)

later_ahead : (x one other : ℕ) (xs : List ℕ) → (x == one) ≡ false → before other one xs ≡ true → before other one (x ∷ xs) ≡ true
later_ahead x one other xs e s = rw e (keeps (x == other) (before other one xs) s)
  where
    keeps : (c b : Bool) → b ≡ true → (if c then true else b) ≡ true
    keeps true b s = refl
    keeps false b s = s

-- the first was passed over
passed : (x : ℕ) (xs : List ℕ) (one other : ℕ) → is_ring (x ∷ xs) ≡ true → wants (x ∷ xs) one ≡ true → Goes (x ∷ xs) (xs ++ x ∷ []) one other 0 (as_number (x == one))
passed x xs one other r w = record {
  wanted = let more = wants_more xs x one in grind (arith, nat_tests, common_steps, more);
  ring' = ring_passed (x ∷ xs) r;
  less = by (x == one) refl;
}
  where
    by : (b : Bool) → (x == one) ≡ b → 0 + ahead other one (xs ++ x ∷ []) ≤ ahead other one (x ∷ xs) + as_number (x == one)
    by true e =
        let most = one_most (before other one (xs ++ x ∷ [])) in
        let once : as_number (x == one) ≡ 1 = ap {B = ℕ} as_number e in
        omega (arith, most, once)
    by false e =
        let still : wants xs one ≡ true = grind (arith, nat_tests, common_steps) in
        let same : ahead other one (xs ++ x ∷ []) ≡ ahead other one xs = ap {B = ℕ} as_number (before_more other one x xs still) in
        let less : ahead other one xs ≤ ahead other one (x ∷ xs) = fewer (before other one xs) (before other one (x ∷ xs)) (λ s. later_ahead x one other xs e s) in
        omega (arith, same, less)

goes : (ring : List ℕ) (e : Event) (es : List Event) (one other : ℕ) → is_ring ring ≡ true → wants ring one ≡ true → Stays one (e ∷ es) → is_turn ring e one ≡ false
    → Goes ring (after ring e) one other (as_number (is_turn ring e other)) (as_number (is_pass ring e one))
goes ring (Enters z) es one other r w stays none = entered ring z one other r w
goes ring (Leaves z) es one other r w stays none = left ring z one other r w (λ e. stays.0 (sym e))
goes [] Turn es one other r w stays none = absurd cc
goes (x ∷ xs) Turn es one other r w stays none = turned x xs one other r w none
goes [] Pass es one other r w stays none = absurd cc
goes (x ∷ xs) Pass es one other r w stays none = passed x xs one other r w

-- ---- over time

rest_stays : (one : ℕ) (e : Event) (es : List Event) → Stays one (e ∷ es) → Stays one es
rest_stays one (Enters y) es s = s
rest_stays one (Leaves y) es s = s.1
rest_stays one Turn es s = s
rest_stays one Pass es s = s

no_turn : (b : Bool) (n : ℕ) → as_number b + n ≡ 0 → (b ≡ false) × (n ≡ 0)
no_turn true n e = absurd (omega arith)
no_turn false n e = (refl, omega arith)

at_most : (ring : List ℕ) (es : List Event) (one other : ℕ) → is_ring ring ≡ true → wants ring one ≡ true → Stays one es → turns ring es one ≡ 0
    → turns ring es other ≤ ahead other one ring + passes ring es one
at_most ring [] one other r w stays none = omega arith
at_most ring (e ∷ es) one other r w stays none =
    let now = no_turn (is_turn ring e one) (turns (after ring e) es one) none in
    let g = goes ring e es one other r w stays now.0 in
    let later = at_most (after ring e) es one other g.ring' g.wanted (rest_stays one e es stays) now.1 in
    omega (arith, g.less, later)

pub nobody_has_two : NobodyHasTwo
nobody_has_two ring es one other r w stays apart none =
    let most = at_most ring es one other r w stays none in
    let one_at_most = one_most (before other one ring) in
    omega (arith, most, one_at_most)

-- ---- over any time: who had a turn may have others before it again, but one each

abbrev share : ℕ → ℕ → List ℕ → ℕ
share other one ring = if wants ring one then ahead other one ring else 1

share_most : (other one : ℕ) (ring : List ℕ) → share other one ring ≤ 1
share_most other one ring = by (wants ring one)
  where
    by : (b : Bool) → (if b then ahead other one ring else 1) ≤ 1
    by true = one_most (before other one ring)
    by false = omega arith

share_is : (other one : ℕ) (ring : List ℕ) → wants ring one ≡ true → share other one ring ≡ ahead other one ring
share_is other one ring w = rw w refl

share_out : (other one : ℕ) (ring : List ℕ) → wants ring one ≡ false → share other one ring ≡ 1
share_out other one ring w = rw w refl

ring_after : (ring : List ℕ) (e : Event) → is_ring ring ≡ true → is_ring (after ring e) ≡ true
ring_after ring (Enters z) r = by (wants ring z) refl
  where
    by : (b : Bool) → wants ring z ≡ b → is_ring (cond b ring (ring ++ z ∷ [])) ≡ true
    by true e = r
    by false e = ring_more ring z r e
ring_after ring (Leaves z) r = ring_fewer ring z r
ring_after ring Turn r = ring_turned ring r
ring_after ring Pass r = ring_passed ring r

-- whoever still wants a turn
keeps : (ring new : List ℕ) (one other turned passed : ℕ) → wants ring one ≡ true → Goes ring new one other turned passed → turned + share other one new ≤ share other one ring + passed
keeps ring new one other turned passed w g =
    let less = g.less in
    let was = share_is other one ring w in
    let is = share_is other one new g.wanted in
    omega (arith, less, was, is)

gives : (ring : List ℕ) (e : Event) (es : List Event) (one other : ℕ) → is_ring ring ≡ true → AlwaysWants one ring (e ∷ es) → (other ≡ one → ⊥)
    → as_number (is_turn ring e other) + share other one (after ring e) ≤ share other one ring + as_number (is_turn ring e one) + as_number (is_pass ring e one)
gives ring (Enters z) es one other r always apart = by (wants ring one) refl
  where
    by : (b : Bool) → wants ring one ≡ b → 0 + share other one (after_enter ring z) ≤ share other one ring + 0 + 0
    by true w = let less = keeps ring (after_enter ring z) one other 0 0 w (entered ring z one other r w) in omega (arith, less)
    by false w = let most = share_most other one (after_enter ring z) in let was = share_out other one ring w in omega (arith, most, was)
gives ring (Leaves z) es one other r always apart = by (wants ring one) refl
  where
    by : (b : Bool) → wants ring one ≡ b → 0 + share other one (after_leave ring z) ≤ share other one ring + 0 + 0
    by true w = let less = keeps ring (after_leave ring z) one other 0 0 w (left ring z one other r w (λ e. always.0 (sym e))) in omega (arith, less)
    by false w = let most = share_most other one (after_leave ring z) in let was = share_out other one ring w in omega (arith, most, was)
gives [] Turn es one other r always apart = absurd (let w = always.0 in cc)
gives (x ∷ xs) Turn es one other r always apart = by (x == one) refl (x == other) refl
  where
    by : (b : Bool) → (x == one) ≡ b → (c : Bool) → (x == other) ≡ c
        → as_number (x == other) + share other one xs ≤ share other one (x ∷ xs) + as_number (x == one) + 0
    by false none c d =
        let less = keeps (x ∷ xs) xs one other (as_number (x == other)) 0 always.0 (turned x xs one other r always.0 none) in
        let no : as_number (x == one) ≡ 0 = ap {B = ℕ} as_number none in
        omega (arith, less, no)
    by true e true d = absurd (apart (sym (eqb-true x other d) ∙ eqb-true x one e))
    by true e false d =
        let most = share_most other one xs in
        let yes : as_number (x == one) ≡ 1 = ap {B = ℕ} as_number e in
        let no : as_number (x == other) ≡ 0 = ap {B = ℕ} as_number d in
        omega (arith, most, yes, no)
gives [] Pass es one other r always apart = absurd (let w = always.0 in cc)
gives (x ∷ xs) Pass es one other r always apart =
    let less = keeps (x ∷ xs) (xs ++ x ∷ []) one other 0 (as_number (x == one)) always.0 (passed x xs one other r always.0) in
    omega (arith, less)

rest_wants : (one : ℕ) (ring : List ℕ) (e : Event) (es : List Event) → AlwaysWants one ring (e ∷ es) → AlwaysWants one (after ring e) es
rest_wants one ring (Enters y) es always = always
rest_wants one ring (Leaves y) es always = always.1
rest_wants one ring Turn es always = always.1
rest_wants one ring Pass es always = always.1

no_more : (ring : List ℕ) (es : List Event) (one other : ℕ) → is_ring ring ≡ true → AlwaysWants one ring es → (other ≡ one → ⊥)
    → turns ring es other ≤ share other one ring + turns ring es one + passes ring es one
no_more ring [] one other r always apart = omega arith
no_more ring (e ∷ es) one other r always apart =
    let now = gives ring e es one other r always apart in
    let later = no_more (after ring e) es one other (ring_after ring e r) (rest_wants one ring e es always) apart in
    omega (arith, now, later)

pub nobody_has_more : NobodyHasMore
nobody_has_more ring es one other r always apart =
    let more = no_more ring es one other r always apart in
    let most = share_most other one ring in
    omega (arith, more, most)
