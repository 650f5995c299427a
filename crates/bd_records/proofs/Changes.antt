-- What the calls on maps leave, where they succeed.
use Rattle.bd_records.proofs.Words.{AreDistinct, Bool, Identity, List, None, Object, Option, Some, WordKey, ap, false, find, found_passes, id_key, not, object_in, option_map, own_key, refl, same, same_eq, same_self, same_word, subst, sym, true, word_eq, word_self, ◌∙◌, ◌≡◌}
use Rattle.bd_records.proofs.Found.{found_own}

-- an own object is found by its identity
pub by_own : (objects : List Object) (k : WordKey) (o : Identity) → AreDistinct id_key same objects
    → option_map (λ (x : Object). x.id) (find (λ x. same_word (own_key x) k) objects) ≡ Some o
    → object_in objects o ≡ find (λ x. same_word (own_key x) k) objects
by_own objects k o d h = at (find test objects) refl h
  where
    test : Object → Bool
    test x = same_word (own_key x) k

    at : (found : Option Object) → find test objects ≡ found → option_map (λ (x : Object). x.id) found ≡ Some o
        → object_in objects o ≡ find test objects
    at None e g = absurd (cc)
    at (Some x) e g =
        let is : x.id ≡ o = cc in
        subst (λ i. object_in objects i ≡ Some x) is (found_own id_key same same_eq same_self test objects x d e)
        ∙ sym e

-- of all own objects, the one with the identity goes
pub only_own : (objects : List Object) (o : Identity) (x : Object) → AreDistinct id_key same objects
    → AreDistinct own_key same_word objects → object_in objects o ≡ Some x
    → (l : WordKey) (y : Object) → find (λ z. same_word (own_key z) l) objects ≡ Some y
    → not (same y.id o) ≡ not (same_word (own_key x) l)
only_own objects o x ids owns h l y e = ap not (at (same y.id o) refl (same_word (own_key x) l) refl)
  where
    test : Object → Bool
    test z = same_word (own_key z) l

    own : own_key y ≡ l
    own = word_eq (own_key y) l (found_passes test objects y e)

    at : (a : Bool) → same y.id o ≡ a → (b : Bool) → same_word (own_key x) l ≡ b → a ≡ b
    at true f true g = refl
    at false f false g = refl
    at true f false g =
        let found : object_in objects o ≡ Some y =
        subst (λ k. find (λ z. same (id_key z) k) objects ≡ Some y) (same_eq (id_key y) o f)
        (found_own id_key same same_eq same_self test objects y ids e) in
        let is : x ≡ y = cc in
        let yes : same_word (own_key x) l ≡ true =
        subst (λ k. same_word k l ≡ true) (sym (ap own_key is ∙ own)) (word_self l) in
        absurd (cc)
    at false f true g =
        let found = found_own own_key same_word word_eq word_self (λ z. same (id_key z) o) objects x
        owns h in
        let there : find test objects ≡ Some x =
        subst (λ k. find (λ z. same_word (own_key z) k) objects ≡ Some x) (word_eq (own_key x) l g) found in
        let is : x ≡ y = cc in
        let yes : same y.id o ≡ true =
        subst (λ z. same z.id o ≡ true) is (found_passes (λ z. same z.id o) objects x h) in
        absurd (cc)
