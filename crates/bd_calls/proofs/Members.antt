-- What is kept of a process's members, and of others.
use Rattle.std.proofs.Common.{◌≡◌, ◌<◌, ℕ, ◌==◌, Bool, true, false, List, Some, None, ap, refl, ◌∙◌, cond, sym, arith, length, get_or, set, eqb-true}
use Rattle.std.proofs.lemmas.{Bool.{eqb-false}, List.{get_or-set_same, get_or-set_other}}
use Rattle.std.specs.{Int.{bit_at}, Prelude.{Option, option_map}}
use Rattle.bd_ways.specs.Words.{is_some_and}
use Rattle.bd_calls.specs.{declared.seen.Seen.{Seen}, Grouped.{is_member}, Ready.{with_shared}}

-- something else is kept of one seat
pub kept_at : (xs : List (Option Seen)) (at i : ℕ) (y : Option Seen) → at < length xs → get_or (set xs at y) i None ≡ cond (at == i) y (get_or xs i None)
kept_at xs at i y inside = by (at == i) refl
  where
    by : (b : Bool) → (at == i) ≡ b → get_or (set xs at y) i None ≡ cond b y (get_or xs i None)
    by true e = ap (λ n. get_or (set xs at y) n None) (sym (eqb-true at i e)) ∙ get_or-set_same xs at y None inside
    by false e = get_or-set_other xs at i y None (λ k. eqb-false at i e (sym k))

-- its thread is the one that it was
pub shared_thread : (process : ℕ) (has : Bool) (x : Seen) → (with_shared process has x).thread ≡ x.thread
shared_thread process has x = by (is_some_and x.thread (λ t. t.process == process))
  where
    by : (b : Bool) → (cond b (record x { shared = has }) x).thread ≡ x.thread
    by true = refl
    by false = refl

-- what was noted may be noted again
noted_twice : (process : ℕ) (has : Bool) (x : Seen) → with_shared process has (with_shared process has x) ≡ with_shared process has x
noted_twice process has x = by (is_some_and x.thread (λ t. t.process == process)) refl
  where
    by : (b : Bool) → is_some_and x.thread (λ t. t.process == process) ≡ b → with_shared process has (with_shared process has x) ≡ with_shared process has x
    by true e =
        let once : with_shared process has x ≡ record x { shared = has } = ap (λ b. cond b (record x { shared = has }) x) e in
        ap (with_shared process has) once ∙ ap (λ b. cond b (record x { shared = has }) (record x { shared = has })) e ∙ sym once
    by false e = ap (with_shared process has) (ap (λ b. cond b (record x { shared = has }) x) e)

twice : (process : ℕ) (has : Bool) (o : Option Seen) → option_map (with_shared process has) (option_map (with_shared process has) o) ≡ option_map (with_shared process has) o
twice process has None = refl
twice process has (Some x) = ap Some (noted_twice process has x)

-- what is kept of one that is no member stays
kept_as : (process : ℕ) (has : Bool) (o : Option Seen) → is_member process o ≡ false → o ≡ option_map (with_shared process has) o
kept_as process has None another = refl
kept_as process has (Some x) another = ap Some (sym (ap (λ b. cond b (record x { shared = has }) x) another))

-- so of each seat that is missing in a word with all members
pub kept_beside : (process : ℕ) (has : Bool) (o : Option Seen) (word i : ℕ) → (is_member process o ≡ true → bit_at word i ≡ 1) → bit_at word i ≡ 0
    → o ≡ option_map (with_shared process has) o
kept_beside process has o word i members none = by (is_member process o) refl
  where
    by : (b : Bool) → is_member process o ≡ b → o ≡ option_map (with_shared process has) o
    by true e = absurd (omega (arith, none, members e))
    by false e = kept_as process has o e

-- a seat was noted, or another one
pub still_alike : (process : ℕ) (has b : Bool) (x y z : Option Seen) → y ≡ cond b (option_map (with_shared process has) x) x
    → option_map (with_shared process has) x ≡ option_map (with_shared process has) z → option_map (with_shared process has) y ≡ option_map (with_shared process has) z
still_alike process has true x y z is before = ap (option_map (with_shared process has)) is ∙ twice process has x ∙ before
still_alike process has false x y z is before = ap (option_map (with_shared process has)) is ∙ before

pub still_noted : (process : ℕ) (has b : Bool) (x y : Option Seen) → y ≡ cond b (option_map (with_shared process has) x) x
    → (b ≡ false → x ≡ option_map (with_shared process has) x) → y ≡ option_map (with_shared process has) y
still_noted process has true x y is before = is ∙ sym (twice process has x) ∙ ap (option_map (with_shared process has)) (sym is)
still_noted process has false x y is before = is ∙ before refl ∙ ap (option_map (with_shared process has)) (sym is)

-- ---- one seat is noted

-- of which something is kept
pub noted_member : (process : ℕ) (has : Bool) (xs : List (Option Seen)) (at i : ℕ) (x noted : Seen) (ys : List (Option Seen)) → at < length xs → get_or xs at None ≡ Some x
    → noted ≡ with_shared process has x → ys ≡ set xs at (Some noted)
    → get_or ys i None ≡ cond (at == i) (option_map (with_shared process has) (get_or xs i None)) (get_or xs i None)
noted_member process has xs at i x noted ys inside is alike now = ap (λ zs. get_or zs i None) now ∙ kept_at xs at i (Some noted) inside ∙ by (at == i) refl
  where
    by : (b : Bool) → (at == i) ≡ b → cond b (Some noted) (get_or xs i None) ≡ cond b (option_map (with_shared process has) (get_or xs i None)) (get_or xs i None)
    by true e = ap Some alike ∙ ap (option_map (with_shared process has)) (sym is ∙ ap (λ n. get_or xs n None) (eqb-true at i e))
    by false e = refl

-- of which nothing is
pub none_noted : (process : ℕ) (has : Bool) (xs : List (Option Seen)) (at i : ℕ) → get_or xs at None ≡ None
    → get_or xs i None ≡ cond (at == i) (option_map (with_shared process has) (get_or xs i None)) (get_or xs i None)
none_noted process has xs at i none = by (at == i) refl
  where
    by : (b : Bool) → (at == i) ≡ b → get_or xs i None ≡ cond b (option_map (with_shared process has) (get_or xs i None)) (get_or xs i None)
    by true e =
        let here : get_or xs i None ≡ None = ap (λ n. get_or xs n None) (sym (eqb-true at i e)) ∙ none in
        here ∙ ap (option_map (with_shared process has)) (sym here)
    by false e = refl
