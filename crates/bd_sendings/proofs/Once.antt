-- Each object is known once.
use Rattle.std.proofs.Common.{◌≡◌, ℕ, ◌≤◌, Bool, true, false, not, ◌&&◌, ◌||◌, List, [], ◌∷◌, length, filter, count_by, refl, sym, ap, ◌∙◌, subst, arith}
use Rattle.std.specs.Prelude.{◌==◌, ◌+◌, ◌/◌, nat_lt, if◌then◌else◌}
use Rattle.std.specs.List.{list_any}
use Rattle.std.proofs.lemmas.Bool.{eqb-true}
use Rattle.bd_uapi.specs.Bytes.{word_at, long_at}
use Rattle.bd_parcel.specs.Parcels.{offsets_in}
use Rattle.bd_sendings.specs.declared.sent.{Sent.{Sent}, Sending.{Sending}}
use Rattle.bd_sendings.specs.Sendings.{is_of, is_told, is_elsewhere, has_room, added, goes, strong_one, weak_one, stays, is_anothers, sent_anew, sent_strong, sent_weak, sent_at, sent_among, noted, ended}
use Rattle.bd_sendings.specs.Laws.{AreOnce, EachIsKnownOnce}
use Rattle.bd_sendings.proofs.Counts.{pushed, fewer, none_in_rest, none_count}

both : (a b : Bool) → (a && b) ≡ true → (a ≡ true) × (b ≡ true)
both true true e = (refl, refl)
both true false e = absurd cc
both false b e = absurd cc

either : (b : Bool) (x y : List Sent) → AreOnce x → AreOnce y → AreOnce (if b then x else y)
either true x y i j = i
either false x y i j = j

less : (q : Sent → Bool) (known : List Sent) → AreOnce known → AreOnce (filter (λ e. not (q e)) known)
less q known once = record {
  sent = λ t p. let few = fewer (is_of t p) q known in let one = once.sent t p in omega (arith, few, one);
  told = λ p. let few = fewer (is_told p) q known in let one = once.told p in omega (arith, few, one);
}

-- one more that its thread hasn't sent, and of which nobody is told if that is
more : (e : Sent) (known : List Sent) → AreOnce known → count_by (is_of e.sender e.ptr) known ≡ 0 → (e.is_others ≡ false → count_by (is_told e.ptr) known ≡ 0) → AreOnce (added e known)
more e known once own none = either (has_room e.sender known) _ known (record {
  sent = λ t p. pushed (is_of t p) known e (once.sent t p) (λ is.
      let two = both (e.sender == t) (e.ptr == p) is in
      let s : e.sender ≡ t = eqb-true e.sender t two.0 in
      let o : e.ptr ≡ p = eqb-true e.ptr p two.1 in
      ap (λ p'. count_by (is_of t p') known) (sym o) ∙ ap (λ t'. count_by (is_of t' e.ptr) known) (sym s) ∙ own);
  told = λ p. pushed (is_told p) known e (once.told p) (λ is.
      let two = both (e.ptr == p) (not e.is_others) is in
      let o : e.ptr ≡ p = eqb-true e.ptr p two.0 in
      ap (λ p'. count_by (is_told p') known) (sym o) ∙ none (off e.is_others two.1));
}) once
  where
    off : (b : Bool) → not b ≡ true → b ≡ false
    off true e' = absurd cc
    off false e' = refl

own_goes : (a c : Bool) → a ≡ true → (a || c) ≡ true
own_goes true c e = refl
own_goes false c e = absurd cc

told_goes : (a b c : Bool) → b ≡ false → c ≡ true → (a || (not b && c)) ≡ true
told_goes true b c e f = refl
told_goes false false true e f = refl
told_goes false true c e f = absurd cc
told_goes false false false e f = absurd cc

anew : (s : Sending) (ptr : ℕ) (is_others : Bool) (known : List Sent) → AreOnce known → AreOnce (sent_anew s ptr is_others known)
anew s ptr is_others known once = more (strong_one s ptr is_others) _ (less (goes s.sender ptr is_others) known once)
    (none_in_rest (is_of s.sender ptr) (goes s.sender ptr is_others) (λ x is. own_goes (is_of s.sender ptr x) (not is_others && is_told ptr x) is) known)
    (λ off. none_in_rest (is_told ptr) (goes s.sender ptr is_others) (λ x is. told_goes (is_of s.sender ptr x) is_others (is_told ptr x) off is) known)

strong : (s : Sending) (ptr : ℕ) (known : List Sent) → AreOnce known → AreOnce (sent_strong s ptr known)
unfolding sent_strong
strong s ptr known once = either (stays s ptr known) known _ once (anew s ptr (is_anothers s ptr known) known once)

told_somewhere : (a c o : Bool) → (c && not o) ≡ true → ((a && c) || (not a && (c && not o))) ≡ true
told_somewhere true true o e = refl
told_somewhere true false o e = absurd cc
told_somewhere false c o e = e

weak : (thread ptr : ℕ) (known : List Sent) → AreOnce known → AreOnce (sent_weak thread ptr known)
unfolding sent_weak
weak thread ptr known once = at (list_any (λ e. is_of thread ptr e || is_elsewhere thread ptr e) known) refl
  where
    at : (b : Bool) → list_any (λ e. is_of thread ptr e || is_elsewhere thread ptr e) known ≡ b → AreOnce (if b then known else added (weak_one thread ptr) known)
    at true e = once
    at false e = more (weak_one thread ptr) known once
        (none_count (is_of thread ptr) (λ x. is_of thread ptr x || is_elsewhere thread ptr x) (λ x is. own_goes (is_of thread ptr x) (is_elsewhere thread ptr x) is) known e)
        (λ _. none_count (is_told ptr) (λ x. is_of thread ptr x || is_elsewhere thread ptr x) (λ x is. told_somewhere (x.sender == thread) (x.ptr == ptr) x.is_others is) known e)

one : (s : Sending) (body : List ℕ) (o : ℕ) (known : List Sent) → AreOnce known → AreOnce (sent_at s body o known)
one s body o known once = either (nat_lt (length body) (o + 24)) known _ once
    (either (word_at o body == 0x73622a85) _ _ (strong s (long_at (o + 8) body) known once)
    (either (word_at o body == 0x77622a85) _ known (weak s.sender (long_at (o + 8) body) known once) once))

among : (s : Sending) (body os : List ℕ) (known : List Sent) → AreOnce known → AreOnce (sent_among s body os known)
among s body [] known once = once
among s body (o ∷ os) known once = among s body os (sent_at s body o known) (one s body o known once)

pub each : EachIsKnownOnce
each = record {
  none = record { sent = λ t p. omega arith; told = λ p. omega arith };
  notes = λ s body offsets known once. either (nat_lt 32 (length offsets / 8)) known _ once (among s body (offsets_in offsets) known once);
  ends = λ thread known once. less (λ e. e.sender == thread) known once;
}
