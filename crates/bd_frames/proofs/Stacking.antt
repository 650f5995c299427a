-- The stacks of a table as its frames come, go and change.
use Rattle.std.proofs.Common.{◌≡◌, ℕ, ◌≤◌, ◌<◌, ◌==◌, Bool, true, false, not, List, Option, Some, None, ◌⊎◌, inl, inr, All, map, filter, take, length, get_or, leb, cond, refl, ap, sym, ◌∙◌, arith}
use Rattle.std.proofs.{lemmas.Bool.{cases_Bool, cond_both, leb-true, leb-false, eqb-true, eq-eqb}, lemmas.Bool.Decides.{nat_tests}}
use Rattle.std.proofs.lemmas.List.{get_or-take, get_or_default, length-take}
use Rattle.std.proofs.lemmas.List.Elements.{All-contains, All-filter, All-map, All-take, Contains-get_or, filter_passes}
use Rattle.std.specs.{Prelude.{Contains, nat_le}, Option.{option_and}, List.{AllWithin}, List.Sorted.{IsPartitionPoint}}
use Rattle.bd_space.specs.{declared.space.Server.{Server}, declared.space.Server.TheVariants.{Pending, Serving, Gone}}
use Rattle.bd_space.specs.{Frames.{calls, serves, takes_part}, Words.{is_some_and}}
use Rattle.bd_keys.proofs.Rising.{without}
use Rattle.bd_frames.specs.{declared.frame.Row.{Row}, Places.{place, turned, AreRising}}
use Rattle.bd_frames.specs.Linked.{below_of, IsUpTo, IsBelow, IsLinked, IsStack, Covers, server_but, other_server, put_top, popped_top}

-- a row whose thread took part in the one before it there, and is led on as from that
pub record IsFewer (s : ℕ) (r x : Row) : Type 0 where
  pub made : place r ≡ place x
  pub part : takes_part s r.frame ≡ true
  pub below : below_of s r ≡ below_of s x

abbrev pub KeepsPart : ℕ → Row → Row → Type 0
KeepsPart s r x = takes_part s x.frame ≡ true → IsFewer s r x

-- after the bound the thread takes part in none
pub none_above : (s b : ℕ) (rs : List Row) (i : ℕ) → IsPartitionPoint (λ r. leb (place r) b ≡ true) (λ r. leb (place r) b ≡ false) rs i
    → IsStack s (Some b) rs
    → AllWithin (λ r. takes_part s r.frame ≡ false) rs i (length rs)
none_above s b rs i p st = λ k d ge lt. elim (cases_Bool (takes_part s (get_or rs k d).frame)) [
  | inl part ↦ let up = (st k d lt part).0 in let over = leb-false (place (get_or rs k d)) b (p.1 k d ge lt) in absurd (omega (arith, up, over))
  | inr other ↦ other
]

-- ---- a bound that covers another

pub covered : (s : ℕ) (p o : Option ℕ) (rs : List Row) → Covers p o → IsStack s p rs → IsStack s o rs
covered s p None rs c st = tt
covered s None (Some c) rs never st = absurd never
covered s (Some b) (Some c) rs le st = λ k d lt part. let f = st k d lt part in (omega (arith, f.0, le), f.1)

-- ---- the rows become others

module _ (s : ℕ) (rs ss : List Row) where
  abbrev pub From : Row → Type 0
  From x = (r : Row) × Contains rs r × IsFewer s r x

  -- it has come there, and the bound of those below it is this
  abbrev pub Comes : ℕ → Option ℕ → Row → Type 0
  Comes made o x = (place x ≡ made) × (below_of s x ≡ o)

  module _ (b n : ℕ) (le : b ≤ n) (st : IsStack s (Some b) rs) where
    old : (x : Row) (f : From x) → IsLinked s b rs f.0
    old x f = All-contains (IsLinked s b rs) rs f.0 st f.1

    up_to : (x : Row) → From x ⊎ Comes n (Some b) x → place x ≤ n
    up_to x (inl f) = let a = (old x f f.2.part).0 in omega (arith, a, le, f.2.made)
    up_to x (inr c) = omega (arith, c.0)

    leads : (x y : Row) → From x ⊎ Comes n (Some b) x → From y ⊎ Comes n (Some b) y → place y < place x → IsUpTo (below_of s x) (place y)
    leads x y (inl f) (inl g) lt =
        let a = All-contains (IsBelow s f.0) rs g.0 (old x f f.2.part).1 g.1 g.2.part (omega (arith, lt, f.2.made, g.2.made)) in
        rw (f.2.below, g.2.made) at a
    leads x y (inl f) (inr c) lt = let a = (old x f f.2.part).0 in absurd (omega (arith, a, le, f.2.made, c.0, lt))
    leads x y (inr c) (inl g) lt = let a = (old y g g.2.part).0 in rw c.1 (omega (arith, a, g.2.made))
    leads x y (inr c) (inr e) lt = absurd (omega (arith, c.0, e.0, lt))

    onto : All (λ x. takes_part s x.frame ≡ true → From x ⊎ Comes n (Some b) x) ss → IsStack s (Some n) ss
    onto new = λ k d lt part. (
      up_to (get_or ss k d) (new k d lt part),
      λ j e h other below. leads (get_or ss k d) (get_or ss j e) (new k d lt part) (new j e h other) below,
    )

  pub stays : (o : Option ℕ) → IsStack s o rs → All (λ x. takes_part s x.frame ≡ true → From x) ss → IsStack s o ss
  stays None st new = tt
  stays (Some b) st new = onto b b (omega arith) st (λ k d lt part. inl (new k d lt part))

  -- where a frame has come that was made there
  pub put_on : (made : ℕ) (o : Option ℕ) → IsStack s o rs → All (λ x. takes_part s x.frame ≡ true → From x ⊎ Comes made o x) ss
      → IsStack s (put_top made o) ss
  put_on made None st new = tt
  put_on made (Some b) st new =
      cond_both (nat_le b made) (Some made) None (λ o. IsStack s o ss) (λ e. onto b made (leb-true b made e) st new) (λ e. tt)

module _ (s : ℕ) (rs : List Row) where
  pub itself : All (λ x. takes_part s x.frame ≡ true → From s rs rs x) rs
  itself = λ k d lt part. (get_or rs k d, Contains-get_or rs k d lt, record { made = refl; part = part; below = refl })

  pub mapped : (g : Row → Row) → ((r : Row) → KeepsPart s r (g r)) → (o : Option ℕ) → IsStack s o rs → IsStack s o (map g rs)
  mapped g keeps o st =
      stays s rs (map g rs) o st
      (All-map (λ x. takes_part s x.frame ≡ true → From s rs (map g rs) x) g rs
      (λ k d lt part. (get_or rs k d, Contains-get_or rs k d lt, keeps (get_or rs k d) part)))

  -- where one row changes
  pub turns : (made : Option ℕ) (g : Row → Row) → ((r : Row) → KeepsPart s r (g r)) → (o : Option ℕ) → IsStack s o rs
      → IsStack s o (map (turned made g) rs)
  turns made g keeps =
      mapped (turned made g)
      (λ r. cond_both (is_some_and made (λ m. place r == m)) (g r) r (KeepsPart s r) (λ e. keeps r)
      (λ e part. record { made = refl; part = part; below = refl }))

  pub filtered : (p : Row → Bool) (o : Option ℕ) → IsStack s o rs → IsStack s o (filter p rs)
  filtered p o st = stays s rs (filter p rs) o st (All-filter p (λ x. takes_part s x.frame ≡ true → From s rs (filter p rs) x) rs itself)

  -- where the frame of a row has gone
  pub popped : (r : Row) (o : Option ℕ) → Contains rs r → takes_part s r.frame ≡ true → IsStack s o rs
      → IsStack s (popped_top s r o) (without place (place r) rs)
  popped r None inside part st = tt
  popped r (Some b) inside part st =
      cond_both (b == place r) (below_of s r) (Some b) (λ o. IsStack s o (filter keep rs)) (λ e. lowered (eqb-true b (place r) e) (below_of s r) refl)
      (λ e. filtered keep (Some b) st)
    where
      keep : Row → Bool
      keep x = not (place x == place r)

      lowered : b ≡ place r → (o : Option ℕ) → below_of s r ≡ o → IsStack s o (filter keep rs)
      lowered top None is = tt
      lowered top (Some c) is = λ k d lt p.
          let x = get_or (filter keep rs) k d in
          let old = All-filter keep (IsLinked s b rs) rs st k d lt p in
          let other = filter_passes keep rs k d lt in
          let apart : place x ≡ place r → ⊥ = λ same. (let yes = eq-eqb (place x) (place r) same in cc) in
          let low : place x < place r = omega (arith, old.0, top, apart) in
          let up = All-filter keep (IsBelow s r) rs (All-contains (IsLinked s b rs) rs r st inside part).1 k d lt p low in
          (rw is at up, All-filter keep (IsBelow s x) rs old.1)

-- who calls is not told of again as the server
calls_alone : (s : ℕ) (c : Option ℕ) (v : Server) → is_some_and c (λ t. t == s) ≡ true → is_some_and (server_but c v) (λ t. t == s) ≡ false
calls_alone s None v e = absurd (cc)
calls_alone s (Some c) Pending e = refl
calls_alone s (Some c) Gone e = refl
calls_alone s (Some c) (Serving t) e = grind (arith, nat_tests)

other_serves : (s : ℕ) (c : Option ℕ) (v : Server) → is_some_and (server_but c v) (λ t. t == s) ≡ true → serves s v ≡ true
other_serves s c Pending e = absurd (cc)
other_serves s c Gone e = absurd (cc)
other_serves s c (Serving t) e = grind (arith, nat_tests)

-- the frame of a row went from its caller's stack, and then from that of its server, if that is another
pub gone_from_both : (s : ℕ) (r : Row) (rs : List Row) (was mid new : Option ℕ) → Contains rs r → IsStack s was rs
    → Covers (cond (calls s r.frame) (popped_top s r was) was) mid
    → Covers (cond (is_some_and (other_server r.frame) (λ t. t == s)) (popped_top s r mid) mid) new
    → IsStack s new (without place (place r) rs)
gone_from_both s r rs was mid new there st first then = by (calls s r.frame) refl first (is_some_and (other_server r.frame) (λ t. t == s)) refl then
  where
    left : List Row
    left = without place (place r) rs

    by : (b : Bool) → calls s r.frame ≡ b → Covers (cond b (popped_top s r was) was) mid → (d : Bool)
        → is_some_and (other_server r.frame) (λ t. t == s) ≡ d
        → Covers (cond d (popped_top s r mid) mid) new → IsStack s new left
    by true e f true g h = let alone = sym (calls_alone s r.frame.caller r.frame.server e) ∙ g in absurd (cc)
    by true e f false g h = covered s mid new left h (covered s (popped_top s r was) mid left f (popped s rs r was there (rw e refl) st))
    by false e f true g h =
        let part : takes_part s r.frame ≡ true = rw (e, other_serves s r.frame.caller r.frame.server g) refl in
        covered s (popped_top s r mid) new left h (popped s rs r mid there part (covered s was mid rs f st))
    by false e f false g h = covered s mid new left h (filtered s rs (λ x. not (place x == place r)) mid (covered s was mid rs f st))

-- the way down goes on from the frame at an index
pub way_on : (s : ℕ) (o : Option ℕ) (rs : List Row) (i : ℕ) (d : Row) → AreRising rs → i < length rs → takes_part s (get_or rs i d).frame ≡ true
    → IsStack s o rs
    → IsStack s (option_and o (below_of s (get_or rs i d))) (take i rs)
way_on s None rs i d rises lt part st = tt
way_on s (Some b) rs i d rises lt part st = at (below_of s (get_or rs i d)) refl
  where
    at : (o : Option ℕ) → below_of s (get_or rs i d) ≡ o → IsStack s o (take i rs)
    at None is = tt
    at (Some c) is = λ k e h p.
        let low = length-take i rs in
        let before = rises k i e (omega (arith, h, low)) lt in
        let same = ap place (get_or_default rs i e d lt) in
        let read = ap place (get_or-take i rs k e (omega (arith, h, low))) in
        let up = All-take (IsBelow s (get_or rs i d)) i rs (st i d lt part).1 k e h p (omega (arith, before, same, read)) in
        (rw is at up, All-take (IsBelow s (get_or (take i rs) k e)) i rs (All-take (IsLinked s b rs) i rs st k e h p).1)
