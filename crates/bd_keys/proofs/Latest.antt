-- The value that came last, before the others.
use Rattle.std.proofs.Common.{◌≡◌, Bool, true, false, cond, Option, Some, None, is_some, refl, ap, sym, subst, ◌∙◌}
use Rattle.std.specs.Option.{ForSome, option_or}
use Rattle.bd_keys.specs.declared.key.WordKey.{WordKey}
use Rattle.bd_keys.specs.declared.map.Latest.{Latest}
use Rattle.bd_keys.specs.Keys.{same_word}
use Rattle.bd_keys.specs.Look.{latest_at}
use Rattle.bd_keys.proofs.Keys.{word_eq}
use Rattle.bd_keys.proofs.Options.{none_is}

module _ {V : Type 0} (f : WordKey → Option V) where
  -- what is looked for is there first, or among the others
  pub here_first : (o : Option (Latest V)) (k : WordKey) (v r : Option V) → r ≡ v → r ≡ latest_at o k
      → option_or v (f k) ≡ option_or (latest_at o k) (f k)
  here_first o k v r is at = ap (λ x. option_or x (f k)) (sym is ∙ at)

  -- it is put before the others
  pub goes_behind : (x : Latest V) (l : WordKey)
      → cond (same_word x.key l) (Some x.value) (f l) ≡ option_or (latest_at (Some x) l) (f l)
  goes_behind x l = at (same_word x.key l)
    where
      at : (b : Bool) → cond b (Some x.value) (f l) ≡ option_or (cond b (Some x.value) None) (f l)
      at true = refl
      at false = refl

  -- a change of the others shows where it isn't there
  pub shows_behind : (o : Option (Latest V)) (h : Option V → Option V) (k l : WordKey) (y : Option V)
      → latest_at o k ≡ None → y ≡ cond (same_word k l) (h (f l)) (f l)
      → option_or (latest_at o l) y
      ≡ cond (same_word k l) (h (option_or (latest_at o l) (f l))) (option_or (latest_at o l) (f l))
  shows_behind o h k l y none is = ap (option_or (latest_at o l)) is ∙ at (same_word k l) refl
    where
      at : (b : Bool) → same_word k l ≡ b → option_or (latest_at o l) (cond b (h (f l)) (f l))
          ≡ cond b (h (option_or (latest_at o l) (f l))) (option_or (latest_at o l) (f l))
      at true e =
          let n : latest_at o l ≡ None = ap (latest_at o) (sym (word_eq k l e)) ∙ none in
          ap (λ z. option_or z (h (f l))) n ∙ sym (ap (λ z. h (option_or z (f l))) n)
      at false e = refl

  -- what is at a key is at the same key
  pub at_same : (h : Option V → Option V) (k l : WordKey)
      → cond (same_word k l) (h (f k)) (f l) ≡ cond (same_word k l) (h (f l)) (f l)
  at_same h k l = at (same_word k l) refl
    where
      at : (b : Bool) → same_word k l ≡ b → cond b (h (f k)) (f l) ≡ cond b (h (f l)) (f l)
      at true e = ap (λ z. h (f z)) (word_eq k l e)
      at false e = refl

  -- what is there stays
  pub stays : (k l : WordKey) (v : V) → is_some (f k) ≡ true → f l ≡ cond (same_word k l) (option_or (f k) (Some v)) (f l)
  stays k l v there = at (same_word k l) refl
    where
      some : (o : Option V) → is_some o ≡ true → o ≡ option_or o (Some v)
      some None t = absurd (cc)
      some (Some x) t = refl

      at : (b : Bool) → same_word k l ≡ b → f l ≡ cond b (option_or (f k) (Some v)) (f l)
      at true e = ap f (sym (word_eq k l e)) ∙ some (f k) there
      at false e = refl

  -- at another key it isn't
  elsewhere : (o : Option (Latest V)) (k l : WordKey) → is_some (latest_at o k) ≡ true → same_word k l ≡ false
      → latest_at o l ≡ None
  elsewhere None k l there other = refl
  elsewhere (Some x) k l there other = by (same_word x.key k) refl there
    where
      by : (b : Bool) → same_word x.key k ≡ b → is_some (cond b (Some x.value) None) ≡ true → latest_at (Some x) l ≡ None
      by true e t =
          let here = subst (λ z. same_word z l ≡ false) (sym (word_eq x.key k e)) other in
          ap (λ b. cond b (Some x.value) None) here
      by false e t = absurd (cc)

  -- where it is there, something is found
  pub there_some : (o : Option (Latest V)) (k : WordKey) → is_some (latest_at o k) ≡ true
      → is_some (option_or (latest_at o k) (f k)) ≡ true
  there_some o k there = at (latest_at o k) there
    where
      at : (x : Option V) → is_some x ≡ true → is_some (option_or x (f k)) ≡ true
      at None t = absurd (cc)
      at (Some v) t = refl

  -- another value comes in its place
  pub put_again : (o : Option (Latest V)) (k l : WordKey) (v : V) → is_some (latest_at o k) ≡ true
      → option_or (cond (same_word k l) (Some v) None) (f l)
      ≡ cond (same_word k l) (Some v) (option_or (latest_at o l) (f l))
  put_again o k l v there = at (same_word k l) refl
    where
      at : (b : Bool) → same_word k l ≡ b → option_or (cond b (Some v) None) (f l)
          ≡ cond b (Some v) (option_or (latest_at o l) (f l))
      at true e = refl
      at false e = ap (λ z. option_or z (f l)) (sym (elsewhere o k l there e))

  -- it goes, and the others have nothing at its key
  pub goes_first : (o : Option (Latest V)) (k l : WordKey) → is_some (latest_at o k) ≡ true
      → ForSome o (λ x. is_some (f x.key) ≡ false)
      → f l ≡ cond (same_word k l) None (option_or (latest_at o l) (f l))
  goes_first None k l there apart = absurd (cc)
  goes_first (Some x) k l there apart = at (same_word k l) refl
    where
      own : (b : Bool) → same_word x.key k ≡ b → is_some (cond b (Some x.value) None) ≡ true → x.key ≡ k
      own true e t = word_eq x.key k e
      own false e t = absurd (cc)

      at : (b : Bool) → same_word k l ≡ b → f l ≡ cond b None (option_or (latest_at (Some x) l) (f l))
      at true e =
          let is : x.key ≡ l = own (same_word x.key k) refl there ∙ word_eq k l e in
          ap f (sym is) ∙ none_is (f x.key) (apart x refl)
      at false e = ap (λ z. option_or z (f l)) (sym (elsewhere (Some x) k l there e))

-- what comes last stands before what is left
pub comes_first : {V : Type 0} (b : Bool) (v : V) (y z w : Option V) → y ≡ cond b None z → z ≡ w
    → option_or (cond b (Some v) None) y ≡ cond b (Some v) w
comes_first true v y z w is same = refl
comes_first false v y z w is same = is ∙ same
