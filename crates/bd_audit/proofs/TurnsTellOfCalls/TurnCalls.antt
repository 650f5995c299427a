-- TurnsAreTaken and TurnsTellOfCalls, both proved here: the turns of an object tell of its one-way calls: each of one
-- accepted transaction, and each such transaction has a turn.
use Rattle.bd_laws.proofs.words.Logic.{◌≡◌, ℕ, ◌==◌, List, [], ◌∷◌, ◌++◌, Option, Some, inl, inr, refl, ap, sym, subst, ◌∙◌, arith, AllPairs, eqb-true}
use Rattle.bd_laws.proofs.words.Types.{Identity, Entry}
use Rattle.bd_laws.proofs.words.Space.{opening, History}
use Rattle.bd_laws.proofs.words.Laws.{In, Pairs}
use Rattle.bd_laws.proofs.Lists.{by_last, pairs_map, pairs_at, at_pairs, any_found}
use Rattle.bd_audit.specs.declared.turns.Turn.{Turn}
use Rattle.bd_audit.specs.TurnSearch.{turns_from, turns_on}
use Rattle.bd_audit.specs.Replies.{HandsOutCall, At}
use Rattle.bd_audit.specs.TurnCalls.{CallsOneWay, EndsBuffer, TellsOf, IsEarlier, AreTurns, TurnsTellOfCalls, IsTakenBefore, TurnsAreTaken}
use Rattle.bd_audit.proofs.TurnsAreTaken.TurnLog.{no_turns, always_ordered}
use Rattle.bd_audit.proofs.TurnsAreTaken.Logged.{InOrder}
use Rattle.bd_audit.proofs.RepliesReachTheirCallers.Traces.{at_below}
use Rattle.bd_audit.proofs.TurnsTellOfCalls.TurnLists.{turns_last}
use Rattle.bd_audit.proofs.TurnsTellOfCalls.TurnsTelling.{in_slice, slice_in, Telling, step_telling}

-- ---- every history

none_telling : (o : Identity) → Telling o [] []
none_telling o = record {
  log = no_turns o;
  tells = λ t i. absurd i;
  all = λ c h. let lt = at_below [] c (λ z e. CallsOneWay z e o) h in absurd (omega arith);
  once = λ t i. absurd i;
}

always_telling : (o : Identity) (es : List Entry) → Telling o es (turns_from o opening [] es)
always_telling o es =
    by_last (λ es. Telling o es (turns_from o opening [] es)) (λ es e h. subst (Telling o (es ++ e ∷ [])) (sym (turns_last o es opening [] e)) (step_telling o es e _ h)) (none_telling o) es

pub turns_are : (h : History) (o : Identity) → AreTurns h.entries o (turns_on o h)
unfolding turns_on
turns_are h o =
    let k = always_telling o h.entries in
    let ts = turns_from o opening [] h.entries in
    record {
      tells = λ i t g. k.tells t (slice_in ts i t g);
      all = k.all;
      rising = pairs_at IsEarlier ts (pairs_map InOrder IsEarlier ts (λ t u i j r. r.earlier) (always_ordered o h));
    }

-- ---- there are no other turns

same_option : (a b : Option ℕ) → ((p : ℕ) → a ≡ Some p → b ≡ Some p) → ((p : ℕ) → b ≡ Some p → a ≡ Some p) → a ≡ b
same_option a b h k = search arith

same_turn : (es : List Entry) (o : Identity) (t u : Turn) → TellsOf es o t → TellsOf es o u → t.made ≡ u.made → t ≡ u
same_turn es o t u h k is =
    let handed = same_option t.handed u.handed
    (λ p e. k.unhanded p (subst (λ c. At es p (HandsOutCall c)) is (h.handed p e))) (λ p e. h.unhanded p (subst (λ c. At es p (HandsOutCall c)) (sym is) (k.handed p e))) in
    let ended = same_option t.ended u.ended
    (λ p e. k.unended p (subst (λ c. At es p (EndsBuffer c)) is (h.ended p e))) (λ p e. h.unended p (subst (λ c. At es p (EndsBuffer c)) (sym is) (k.ended p e))) in
    (λ i. record { made = is i; handed = handed i; ended = ended i })

-- ascending lists of the same turns are one
one_list : (ts us : List Turn) → Pairs IsEarlier ts → Pairs IsEarlier us → ((t : Turn) → In t ts → In t us) → ((t : Turn) → In t us → In t ts) → ts ≡ us
one_list [] [] h k to from = refl
one_list [] (u ∷ us) h k to from = absurd (from u (inl refl))
one_list (t ∷ ts) [] h k to from = absurd (to t (inl refl))
one_list (t ∷ ts) (u ∷ us) h k to from =
    let first : t ≡ u = elim (to t (inl refl)) [
      | inl is ↦ sym is
      | inr i ↦ elim (from u (inl refl)) [ inl is ↦ is | inr j ↦ (let a = k.0 t i in let b = h.0 u j in absurd (omega arith)) ]
    ] in
    let rest = one_list ts us h.1 k.1
    (λ v i. elim (to v (inr i)) [ inl is ↦ (let a = h.0 v i in let made = ap (λ (x : Turn). x.made) (first ∙ is) in absurd (omega arith)) | inr j ↦ j ])
    (λ v i. elim (from v (inr i)) [ inl is ↦ (let a = k.0 v i in let made = ap (λ (x : Turn). x.made) (sym first ∙ is) in absurd (omega arith)) | inr j ↦ j ]) in
    ap (λ x. x ∷ ts) first ∙ ap (λ xs. u ∷ xs) rest

module _ (es : List Entry) (o : Identity) where
  -- each turn of one list is in the other
  told_in : (ts us : List Turn) → AreTurns es o ts → AreTurns es o us → (t : Turn) → In t ts → In t us
  told_in ts us h k t i =
      let here = in_slice ts t i in
      let tells = h.tells here.0 t here.1 in
      let u = any_found (λ (u : Turn). u.made == t.made) us (k.all t.made tells.made) in
      let there = in_slice us u.0 u.1 in
      subst (λ x. In x us) (same_turn es o u.0 t (k.tells there.0 u.0 there.1) tells (eqb-true u.0.made t.made u.2)) u.1

  same_turns : (ts us : List Turn) → AreTurns es o ts → AreTurns es o us → ts ≡ us
  same_turns ts us h k = one_list ts us (at_pairs IsEarlier ts h.rising) (at_pairs IsEarlier us k.rising) (told_in ts us h k) (told_in us ts k h)

pub turns_tell : TurnsTellOfCalls
turns_tell h lawful o = let are = turns_are h o in (turns_on o h, are, λ us k. same_turns h.entries o us (turns_on o h) k are)

pub turns_taken : TurnsAreTaken
turns_taken h lawful o ts k =
    let us = turns_on o h in
    subst (AllPairs IsTakenBefore) (same_turns h.entries o us ts (turns_are h o) k) (pairs_at IsTakenBefore us (pairs_map InOrder IsTakenBefore us (λ t u i j r. r.taken) (always_ordered o h)))
