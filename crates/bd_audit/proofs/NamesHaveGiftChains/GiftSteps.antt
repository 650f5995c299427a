-- For the public search `gift_chain`, and for no law: the gift by which a name begins, the gifts of a history, and the chain
-- that they make, found from its end.
use Rattle.bd_laws.proofs.words.Logic.{◌≡◌, ℕ, ◌+◌, ◌<◌, Bool, true, false, List, [], ◌∷◌, ◌++◌, Option, Some, None, Result, IfOk, IfSome, inl, inr, refl, ap, sym, subst, ◌∙◌, length, take, get_or, reverse, arith, length-append, append-nil, append_assoc, nat_lt, ltb-true, ltb-false, reverse-append, length-take-le, take-append-le, take_all, get_or-append_seam, get_or-append}
use Rattle.bd_laws.proofs.words.Types.{Fault, Identity, Entry}
use Rattle.bd_laws.proofs.words.Space.{opening, named, History, after, space_after}
use Rattle.bd_laws.proofs.words.Laws.{In}
use Rattle.bd_laws.proofs.Lists.{in_left, in_push, in_last}
use Rattle.bd_audit.specs.declared.gifts.Gift.{Gift}
use Rattle.bd_audit.specs.Replays.{with_entry, beginning}
use Rattle.bd_audit.specs.Gifts.{IsChainFrom, IsGiftChain, IsChainOf}
use Rattle.bd_audit.specs.GiftSearch.{knows_after, gift_made, receiver_at, receiver_of, AreReceivers, GivenBy, IsGift, BeginsAt, BeginsWith, IsGiftOf, HasGift, Follows, FollowAfter, AllGifts, AreGifts, IsWay, IsHolder}
use Rattle.bd_audit.proofs.Beginnings.{one_next}
use Rattle.bd_audit.proofs.NamesHaveGiftChains.NameBegins.{named_knows, name_given, gift_more}

-- ---- who receives at each entry

pub receivers_push : (es : List Entry) (e : Entry) (rs : List (Option ℕ)) (r : Option ℕ) → AreReceivers es rs → r ≡ receiver_of es e
    → AreReceivers (es ++ e ∷ []) (rs ++ r ∷ [])
receivers_push es e rs r h is = record {
  all = (let k = length-append rs (r ∷ []) in let l = length-append es (e ∷ []) in let same_length = h.all in omega (arith, k, l, same_length));
  each = λ i lt. at i lt (nat_lt i (length es)) refl;
}
  where
    at : (i : ℕ) → i < length (es ++ e ∷ []) → (b : Bool) → nat_lt i (length es) ≡ b
        → get_or (rs ++ r ∷ []) i None ≡ receiver_at (after opening (take (i + 1) (es ++ e ∷ []))) i
    at i lt false t =
        let l = length-append es (e ∷ []) in
        let past = ltb-false i (length es) t in
        let last : i ≡ length es = omega (arith, l, lt, past) in
        let whole : take (i + 1) (es ++ e ∷ []) ≡ es ++ e ∷ [] = take_all (i + 1) (es ++ e ∷ []) (omega (arith, l, last)) in
        ap (λ n. get_or (rs ++ r ∷ []) n None) (last ∙ sym h.all) ∙ get_or-append_seam rs r [] None ∙ is ∙ ap (receiver_at (after opening (es ++ e ∷ []))) (sym last)
        ∙ ap (λ xs. receiver_at (after opening xs) i) (sym whole)
    at i lt true t =
        let below = ltb-true i (length es) t in
        let same_length = h.all in
        get_or-append rs (r ∷ []) None i (omega (arith, below, same_length)) ∙ h.each i below
        ∙ ap (λ xs. receiver_at (after opening xs) i) (sym (take-append-le (i + 1) es (e ∷ []) (omega (arith, below))))

-- as a loop over the entries finds it
pub receiver_there : (h g : History) (i : ℕ) (e : Entry) (es : List Entry) (rs : List (Option ℕ)) (n : ℕ) → AreReceivers h.entries rs → g ≡ beginning i h → es ≡ h.entries → i < length es
    → e ≡ get_or es i e → n ≡ length g.entries → get_or rs n None ≡ receiver_of g.entries e
receiver_there h g i e es rs n are at same_es below found place = search (arith, length-take-le, one_next)

pub receivers_next : (g k : History) (e : Entry) (rs qs : List (Option ℕ)) (place : ℕ) (r : Option ℕ) → AreReceivers g.entries rs → k ≡ with_entry g e → place ≡ length g.entries
    → r ≡ receiver_at (space_after k) place → qs ≡ rs ++ r ∷ [] → AreReceivers k.entries qs
unfolding space_after
receivers_next g k e rs qs place r are at there is pushed =
    let now = is ∙ ap (λ (x : History). receiver_at (after opening x.entries) place) at ∙ ap (receiver_at (after opening (g.entries ++ e ∷ []))) there in
    subst (λ (x : History). AreReceivers x.entries qs) (sym at) (subst (AreReceivers (g.entries ++ e ∷ [])) (sym pushed) (receivers_push g.entries e rs r are now))

-- ---- the gift of a step

module _ (es : List Entry) (e : Entry) (o : Identity) where
  pub no_gift : ((q : ℕ) → BeginsAt es e o q → ⊥) → IsGiftOf es e o None
  no_gift h = record { made = tt; every = λ q b. h q b }

  pub gift_of : (q : ℕ) → ((r : ℕ) → BeginsAt es e o r → r ≡ q) → IsGiftOf es e o (gift_made es e q o)
  gift_of q one = search (arith, no_gift)

pub ok_gift : (es : List Entry) (e : Entry) (o : Identity) (r : Result (Option Gift) Fault) (x : Option Gift) → IfOk r (λ g. g ≡ x) → IsGiftOf es e o x → IfOk r (IsGiftOf es e o)
ok_gift es e o r x h k = search arith

-- ---- the gifts so far

more_gifts : (gs : List Gift) (g : Gift) (q : ℕ) → HasGift gs q → HasGift (gs ++ g ∷ []) q
more_gifts gs g q h = (h.0, in_left h.0 gs (g ∷ []) h.1, h.2)

follow_push : (before gs : List Gift) (g : Gift) → FollowAfter before gs → Follows (before ++ gs) g → FollowAfter before (gs ++ g ∷ [])
follow_push before [] g h k = (subst (λ xs. Follows xs g) (append-nil before) k, tt)
follow_push before (x ∷ gs) g h k = (h.0, follow_push (before ++ x ∷ []) gs g h.1 (subst (λ xs. Follows xs g) (sym (append_assoc before (x ∷ []) gs)) k))

pub follow_front : (before gs : List Gift) (g : Gift) → FollowAfter before (gs ++ g ∷ []) → FollowAfter before gs × Follows (before ++ gs) g
follow_front before [] g h = (tt, subst (λ xs. Follows xs g) (sym (append-nil before)) h.0)
follow_front before (x ∷ gs) g h =
    let k = follow_front (before ++ x ∷ []) gs g h.1 in
    ((h.0, k.0), subst (λ xs. Follows xs g) (append_assoc before (x ∷ []) gs) k.1)

module _ (es : List Entry) (e : Entry) (o : Identity) (gs : List Gift) (h : AreGifts es o gs) where
  -- a name that was there before the step, or one that begins with it
  known_next : (q : ℕ) (P : Type 0) → knows_after (es ++ e ∷ []) q o ≡ true → (HasGift gs q → P) → (BeginsAt es e o q → P) → P
  known_next q P now old new = search arith

  follows_all : (g : Gift) → BeginsWith es e o g → Follows gs g
  follows_all g k = search arith

  begun_gift : (g : Gift) → BeginsWith es e o g → IsGift (es ++ e ∷ []) o g
  begun_gift g k = search (arith, length-append, name_given)

  pub gifts_stay : IsGiftOf es e o None → AreGifts (es ++ e ∷ []) o gs
  gifts_stay k = record {
    linked = h.linked;
    gifts = λ g i. gift_more es (e ∷ []) o g (h.gifts g i);
    known = λ q now. known_next q (HasGift gs q) now (λ x. x) (λ b. absurd (k.every q b));
  }

  pub gifts_push : (g : Gift) → IsGiftOf es e o (Some g) → AreGifts (es ++ e ∷ []) o (gs ++ g ∷ [])
  gifts_push g k = record {
    linked = follow_push [] gs g h.linked (follows_all g k.made);
    gifts = λ x i. elim (in_push x g gs i) [
      | inl l ↦ gift_more es (e ∷ []) o x (h.gifts x l)
      | inr same_gift ↦ subst (IsGift (es ++ e ∷ []) o) same_gift (begun_gift g k.made)
    ];
    known = λ q now. known_next q (HasGift (gs ++ g ∷ []) q) now (more_gifts gs g q) (λ b. (g, in_last g gs, k.every q b));
  }

-- The gifts after one entry more, where an engine has made its step.
module _ (h k : History) (e : Entry) (o : Identity) (gs : List Gift) (gift : Option Gift) (at : k ≡ with_entry h e) (are : AreGifts h.entries o gs) (of : IsGiftOf h.entries e o gift) where
  pub gifts_same : gift ≡ None → AreGifts k.entries o gs
  gifts_same is = subst (λ (x : History). AreGifts x.entries o gs) (sym at) (gifts_stay h.entries e o gs are (subst (IsGiftOf h.entries e o) is of))

  pub gifts_more : (g : Gift) (qs : List Gift) → gift ≡ Some g → qs ≡ gs ++ g ∷ [] → AreGifts k.entries o qs
  gifts_more g qs is pushed =
      subst (λ (x : History). AreGifts x.entries o qs) (sym at)
      (subst (AreGifts (h.entries ++ e ∷ []) o) (sym pushed) (gifts_push h.entries e o gs are g (subst (IsGiftOf h.entries e o) is of)))

-- ---- the way back

-- the places found so far, last first, lead on to q: from p, which has a gift among those that are left, and from after the place
-- of each of them; from none they are the way
abbrev pub LeadsOn : List Gift → List Gift → List ℕ → ℕ → Option ℕ → Type 0
LeadsOn gs left places q None = IsWay gs (reverse places) q
LeadsOn gs left places q (Some p) =
    HasGift left p × ((es : List Entry) (o : Identity) → AllGifts es o gs → (h : Gift) → In h left → IsChainFrom es o p (h.place + 1) (reverse places) q)

-- the gifts that are left to look at, and the way so far
pub record WayBack (gs left : List Gift) (places : List ℕ) (q : ℕ) (next : Option ℕ) : Type 0 where
  pub among : (g : Gift) → In g left → In g gs
  pub linked : FollowAfter [] left
  pub leads : LeadsOn gs left places q next

module _ (gs left : List Gift) (g : Gift) (places : List ℕ) (q : ℕ) where
  -- a gift to another
  way_goes_on : (next : Option ℕ) → (next ≡ Some g.receiver → ⊥) → LeadsOn gs (left ++ g ∷ []) places q next → LeadsOn gs left places q next
  way_goes_on next other h = search (arith, in_push, in_left)

  to_giver : (giver : Option ℕ) → g.giver ≡ giver → ((x : Gift) → In x (left ++ g ∷ []) → In x gs) → FollowAfter [] (left ++ g ∷ [])
      → LeadsOn gs (left ++ g ∷ []) places q (Some g.receiver) → LeadsOn gs left (places ++ g.place ∷ []) q giver
  to_giver None is among linked h =
      λ es o all.
      let given = subst (GivenBy es g.place o g.receiver) is (all g (among g (in_last g left))).1 in
      subst (λ is. IsGiftChain es o is q) (sym (reverse-append places (g.place ∷ []))) (g.receiver, given, h.1 es o all g (in_last g left))
  to_giver (Some r) is among linked h =
      let follows = (follow_front [] left g linked).1 in (
        subst (λ f. IfSome f (HasGift left)) is follows.given,
        λ es o all x i.
            let given = subst (GivenBy es g.place o g.receiver) is (all g (among g (in_last g left))).1 in
            let below = follows.later x i in
            subst (λ is. IsChainFrom es o r (x.place + 1) is q) (sym (reverse-append places (g.place ∷ [])))
            (g.receiver, omega (arith, below), (given.0, given.1, given.2, given.3), h.1 es o all g (in_last g left)),
      )

  way_to_giver : ((x : Gift) → In x (left ++ g ∷ []) → In x gs) → FollowAfter [] (left ++ g ∷ []) → LeadsOn gs (left ++ g ∷ []) places q (Some g.receiver)
      → LeadsOn gs left (places ++ g.place ∷ []) q g.giver
  way_to_giver = to_giver g.giver refl

  less_back : (next more : Option ℕ) (to : List ℕ) → (((x : Gift) → In x (left ++ g ∷ []) → In x gs) → FollowAfter [] (left ++ g ∷ []) → LeadsOn gs (left ++ g ∷ []) places q next → LeadsOn gs left to q more)
      → (all : List Gift) → all ≡ left ++ g ∷ [] → WayBack gs all places q next → WayBack gs left to q more
  less_back next more to leads all popped h =
      let k = subst (λ xs. WayBack gs xs places q next) popped h in
      record { among = λ x i. k.among x (in_left x left (g ∷ []) i); linked = (follow_front [] left g k.linked).0; leads = leads k.among k.linked k.leads }

  -- the latest gift is taken off: it was another's, or the way goes on from its giver
  pub back_past : (next : Option ℕ) → (next ≡ Some g.receiver → ⊥) → (all : List Gift) → all ≡ left ++ g ∷ [] → WayBack gs all places q next → WayBack gs left places q next
  back_past next other = less_back next next places (λ among linked leads. way_goes_on next other leads)

  pub back_to_giver : (next : Option ℕ) (to : List ℕ) → next ≡ Some g.receiver → to ≡ places ++ g.place ∷ [] → (all : List Gift) → all ≡ left ++ g ∷ []
      → WayBack gs all places q next → WayBack gs left to q g.giver
  back_to_giver next to is pushed = less_back next g.giver to (λ among linked leads.
      subst (λ ps. LeadsOn gs left ps q g.giver) (sym pushed) (way_to_giver among linked (subst (LeadsOn gs (left ++ g ∷ []) places q) is leads)))

-- ---- what the number names

pub holder_knows : (h : History) (pid n p : ℕ) (o : Identity) → IsHolder (space_after h) pid n p o → knows_after h.entries p o ≡ true
unfolding space_after
holder_knows h pid n p o k = named_knows (space_after h) p n o k.names

pub chain_of : (h g : History) (pid n p : ℕ) (o : Identity) (places : List ℕ) → g ≡ h → IsHolder (space_after g) pid n p o → IsGiftChain h.entries o places p → IsChainOf h pid n places
chain_of h g pid n p o places same_history k chain = search (arith, named)
