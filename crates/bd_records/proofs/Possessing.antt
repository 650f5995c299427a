-- The objects of each process, as they come and go.
use Rattle.bd_records.proofs.Words.{AreDistinct, Bool, Held, Identity, List, None, Object, Option, Owned, OwnedAre, Possession, Row, Some, Spot, WordKey, [], ap, arith, at_less, at_more, cond, distinct, drop_key, drop_none, eq-eqb, eqb-true, false, filter, find, found_passes, has, id_at, id_key}
use Rattle.bd_records.proofs.Words.{is_some, keys, look, map, not, object_in, option_map, own_key, possession, refl, same, same_eq, same_self, same_word, stands_at, subst, sym, true, values, word_eq, word_self, ℕ, ◌++◌, ◌<◌, ◌==◌, ◌∙◌, ◌∷◌, ◌≡◌, ◌≤◌}
use Rattle.bd_records.proofs.{Changes.{by_own}, Distinct.{away_none, cons_none, none_cons}, Found.{found_own}}
use Rattle.bd_chains.specs.Rows.{row_at}

abbrev pub id_of : Possession → Identity
id_of v = v.id

pub map_cond : {A B : Type 0} (f : A → B) (b : Bool) (v : Option A) (o : Option A) → option_map f (cond b v o) ≡ cond b (option_map f v) (option_map f o)
map_cond f true v o = refl
map_cond f false v o = refl

-- ---- one comes

pub values_more : (rs : List (Row Possession)) (r : Row Possession) → values (rs ++ r ∷ []) ≡ values rs ++ r.held.value ∷ []
values_more [] r = refl
values_more (q ∷ rs) r = ap (λ vs. q.held.value ∷ vs) (values_more rs r)

pub possessions_more : (objects : List Object) (x : Object) → map possession (objects ++ x ∷ []) ≡ map possession objects ++ possession x ∷ []
possessions_more [] x = refl
possessions_more (y ∷ ys) x = ap (λ vs. possession y ∷ vs) (possessions_more ys x)

-- the last one's slot is no other's
pub fresh_slot : (rs : List (Row Possession)) (r : Row Possession) → distinct (keys (rs ++ r ∷ [])) ≡ true → row_at r.key rs ≡ None
fresh_slot [] r e = refl
fresh_slot (q ∷ rs) r e = at (q.key == r.key) refl (fresh_slot rs r (grind (arith, e)))
  where
    there : (rs : List (Row Possession)) → has r.key (keys (rs ++ r ∷ [])) ≡ true
    there [] = grind (arith, eq-eqb r.key r.key refl)
    there (p ∷ rs) = grind (arith, there rs)

    at : (b : Bool) → (q.key == r.key) ≡ b → row_at r.key rs ≡ None → cond b (Some (q.list, q.held)) (row_at r.key rs) ≡ None
    at false f more = more
    at true f more = absurd (let k = subst (λ j. has j (keys (rs ++ r ∷ [])) ≡ true) (sym (eqb-true q.key r.key f)) (there rs) in grind (arith, e, k))

pub stands_more : (k : ℕ) (rs : List (Row Possession)) (r : Row Possession) → distinct (keys (rs ++ r ∷ [])) ≡ true
    → stands_at k (rs ++ r ∷ []) ≡ cond (r.key == k) (Some r.held.value) (stands_at k rs)
stands_more k rs r e = ap (option_map (λ (p : ℕ × Held Possession). p.1.value)) (at_more k rs r (fresh_slot rs r e)) ∙ map_cond (λ (p : ℕ × Held Possession). p.1.value) (r.key == k) (Some (r.list, r.held)) (row_at k rs)

-- ---- one goes

pub stands_less : (k x : ℕ) (rs : List (Row Possession)) → stands_at k (drop_key x rs) ≡ cond (x == k) None (stands_at k rs)
stands_less k x rs = ap (option_map (λ (p : ℕ × Held Possession). p.1.value)) (at_less k x rs) ∙ map_cond (λ (p : ℕ × Held Possession). p.1.value) (x == k) None (row_at k rs)

-- what stands somewhere is among the values
among : (k : ℕ) (m : Possession) (rs : List (Row Possession)) → stands_at k rs ≡ Some m → is_some (find (λ v. same v.id m.id) (values rs)) ≡ true
among k m [] e = absurd cc
among k m (r ∷ rs) e = at (r.key == k) refl (same r.held.value.id m.id) refl (among k m rs)
  where
    at : (b : Bool) → (r.key == k) ≡ b → (c : Bool) → same r.held.value.id m.id ≡ c → (stands_at k rs ≡ Some m → is_some (find (λ v. same v.id m.id) (values rs)) ≡ true)
        → is_some (cond c (Some r.held.value) (find (λ v. same v.id m.id) (values rs))) ≡ true
    at b f true g more = refl
    at true f false g more =
        let is : Some r.held.value ≡ Some m = sym (ap (λ b. option_map (λ (p : ℕ × Held Possession). p.1.value) (cond b (Some (r.list, r.held)) (row_at k rs))) f) ∙ e in
        let v : r.held.value ≡ m = cc in
        absurd (let h = subst (λ (w : Possession). same w.id m.id ≡ true) (sym v) (same_self m.id) in cc)
    at false f false g more = more (sym (ap (λ b. option_map (λ (p : ℕ × Held Possession). p.1.value) (cond b (Some (r.list, r.held)) (row_at k rs))) f) ∙ e)

-- what goes from a slot goes by its identity
pub values_less : (k : ℕ) (m : Possession) (rs : List (Row Possession)) → distinct (keys rs) ≡ true → AreDistinct id_of same (values rs) → stands_at k rs ≡ Some m
    → values (drop_key k rs) ≡ filter (λ v. not (same v.id m.id)) (values rs)
values_less k m [] apart ids e = absurd cc
values_less k m (r ∷ rs) apart ids e = at (r.key == k) refl (same r.held.value.id m.id) refl (values_less k m rs (grind (arith, apart)) ids.1)
  where
    at : (b : Bool) → (r.key == k) ≡ b → (c : Bool) → same r.held.value.id m.id ≡ c → (stands_at k rs ≡ Some m → values (drop_key k rs) ≡ filter (λ v. not (same v.id m.id)) (values rs))
        → values (cond b (drop_key k rs) (r ∷ drop_key k rs)) ≡ cond (not c) (r.held.value ∷ filter (λ v. not (same v.id m.id)) (values rs)) (filter (λ v. not (same v.id m.id)) (values rs))
    at true f c g more =
        let is : Some r.held.value ≡ Some m = sym (ap (λ b. option_map (λ (p : ℕ × Held Possession). p.1.value) (cond b (Some (r.list, r.held)) (row_at k rs))) f) ∙ e in
        let v : r.held.value ≡ m = cc in
        let on : same r.held.value.id m.id ≡ true = subst (λ (w : Possession). same w.id m.id ≡ true) (sym v) (same_self m.id) in
        let off : has k (keys rs) ≡ false = subst (λ j. has j (keys rs) ≡ false) (eqb-true r.key k f) (grind (arith, apart)) in
        let none : find (λ w. same w.id m.id) (values rs) ≡ None = subst (λ (w : Possession). find (λ u. same u.id w.id) (values rs) ≡ None) v ids.0 in
        let rest = away_none id_of same m.id (values rs) none in
        ap values (drop_none k rs off) ∙ sym rest ∙ grind (arith, g, on)
    at false f true g more =
        let there : stands_at k rs ≡ Some m = sym (ap (λ b. option_map (λ (p : ℕ × Held Possession). p.1.value) (cond b (Some (r.list, r.held)) (row_at k rs))) f) ∙ e in
        let none : find (λ w. same w.id m.id) (values rs) ≡ None = subst (λ i. find (λ w. same w.id i) (values rs) ≡ None) (same_eq r.held.value.id m.id g) ids.0 in
        absurd (let a = among k m rs there in let b : is_some (find (λ (w : Possession). same w.id m.id) (values rs)) ≡ false = ap is_some none in cc)
    at false f false g more = ap (λ vs. r.held.value ∷ vs) (more (sym (ap (λ b. option_map (λ (p : ℕ × Held Possession). p.1.value) (cond b (Some (r.list, r.held)) (row_at k rs))) f) ∙ e))

pub possessions_less : (objects : List Object) (i : Identity) → filter (λ (v : Possession). not (same v.id i)) (map possession objects) ≡ map possession (filter (λ y. not (same y.id i)) objects)
possessions_less [] i = refl
possessions_less (x ∷ xs) i = grind (arith, possessions_less xs i)

pub possessions_apart : (objects : List Object) → AreDistinct id_key same objects → AreDistinct id_of same (map possession objects)
possessions_apart [] d = tt
possessions_apart (x ∷ xs) d = (absent xs d.0, possessions_apart xs d.1)
  where
    absent : (xs : List Object) → find (λ y. same y.id x.id) xs ≡ None → find (λ (v : Possession). same v.id x.id) (map possession xs) ≡ None
    absent [] h = refl
    absent (y ∷ ys) h =
        let k = cons_none (same y.id x.id) y (find (λ z. same z.id x.id) ys) h in
        none_cons (same y.id x.id) (possession y) _ k.0 (absent ys k.1)

pub ids_of : (objects : List Object) → map id_of (map possession objects) ≡ map (λ x. x.id) objects
ids_of [] = refl
ids_of (x ∷ xs) = ap (λ is. x.id ∷ is) (ids_of xs)

-- those of one owner
pub possessions_of : (p : ℕ) (objects : List Object) → filter (λ (v : Possession). p == v.owner) (map possession objects) ≡ map possession (filter (λ x. x.owner == p) objects)
possessions_of p [] = refl
possessions_of p (x ∷ xs) = grind (arith, possessions_of p xs)

-- ---- the relation

own_found : (objects : List Object) → AreDistinct own_key same_word objects → (x : Object) → object_in objects x.id ≡ Some x → find (λ y. same_word (own_key y) (own_key x)) objects ≡ Some x
own_found objects d x has = found_own own_key same_word word_eq word_self (λ y. same y.id x.id) objects x d has

-- what is found by owner and pointer, by its spot
pub spot_is : (t : Owned) (objects : List Object) (h : OwnedAre t objects) (x : Object) → object_in objects x.id ≡ Some x → (o : Option Spot) → look t.ptrs (own_key x) ≡ o
    → (s : Spot) × (o ≡ Some s) × (s.id ≡ x.id)
spot_is t objects h x has None e =
    let f : id_at t (own_key x) ≡ Some x.id = h.found (own_key x) ∙ ap (option_map (λ (y : Object). y.id)) (own_found objects h.ptrs x has) in
    absurd (let k : None ≡ Some x.id = sym (ap (option_map (λ (s : Spot). s.id)) e) ∙ f in cc)
spot_is t objects h x has (Some s) e =
    let f : id_at t (own_key x) ≡ Some x.id = h.found (own_key x) ∙ ap (option_map (λ (y : Object). y.id)) (own_found objects h.ptrs x has) in
    let k : Some s.id ≡ Some x.id = sym (ap (option_map (λ (s : Spot). s.id)) e) ∙ f in
    (s, refl, cc)

clash : {b : Bool} → b ≡ true → b ≡ false → ⊥
clash a b = cc

-- another's spot is another
pub spots_apart : (t : Owned) (objects : List Object) (h : OwnedAre t objects) (x : Object) → object_in objects x.id ≡ Some x → (s : Spot) → look t.ptrs (own_key x) ≡ Some s → s.id ≡ x.id
    → (k : WordKey) (v : Spot) → look t.ptrs k ≡ Some v → same_word (own_key x) k ≡ false → (s.at == v.at) ≡ false
spots_apart t objects h x has s e is k v f off = at (s.at == v.at) refl
  where
    at : (b : Bool) → (s.at == v.at) ≡ b → b ≡ false
    at false g = refl
    at true g =
        let mine = h.spots (own_key x) s e in
        let others = subst (λ j. stands_at j h.rows ≡ Some (record { owner = k.process; id = v.id })) (sym (eqb-true s.at v.at g)) (h.spots k v f) in
        let both : Some (record { owner = x.owner; id = s.id }) ≡ Some (record { owner = k.process; id = v.id }) = sym mine ∙ others in
        let same_id : v.id ≡ x.id = sym (id_same (record { owner = x.owner; id = s.id }) (record { owner = k.process; id = v.id }) both) ∙ is in
        let found : option_map (λ (y : Object). y.id) (find (λ y. same_word (own_key y) k) objects) ≡ Some x.id = sym (h.found k) ∙ ap (option_map (λ (s : Spot). s.id)) f ∙ ap Some same_id in
        let there : find (λ y. same_word (own_key y) k) objects ≡ Some x = sym (by_own objects k x.id h.ids found) ∙ has in
        absurd (clash (found_passes (λ y. same_word (own_key y) k) objects x there) off)
      where
        id_same : (a b : Possession) → Some a ≡ Some b → a.id ≡ b.id
        id_same a b e = let q : a ≡ b = cc in ap id_of q

-- each spot is that of its object, once one more came
pub spots_more : (t : Owned) (objects : List Object) (n : OwnedAre t objects) (x : Object) (r : Row Possession) → distinct (keys (n.rows ++ r ∷ [])) ≡ true → r.held.value ≡ possession x
    → (L : WordKey → Option Spot) → ((l : WordKey) → L l ≡ cond (same_word (own_key x) l) (Some (record { id = x.id; at = r.key })) (look t.ptrs l))
    → (k : WordKey) (s : Spot) → L k ≡ Some s → stands_at s.at (n.rows ++ r ∷ []) ≡ Some (record { owner = k.process; id = s.id })
spots_more t objects n x r apart is L put k s e = at (same_word (own_key x) k) refl
  where
    new : Spot
    new = record { id = x.id; at = r.key }

    at : (b : Bool) → same_word (own_key x) k ≡ b → stands_at s.at (n.rows ++ r ∷ []) ≡ Some (record { owner = k.process; id = s.id })
    at true f =
        let here : Some new ≡ Some s = sym (put k ∙ ap (λ b. cond b (Some new) (look t.ptrs k)) f) ∙ e in
        let one : new ≡ s = cc in
        let own : own_key x ≡ k = word_eq (own_key x) k f in
        subst (λ (v : Spot). stands_at v.at (n.rows ++ r ∷ []) ≡ Some (record { owner = k.process; id = v.id })) one
        (stands_more r.key n.rows r apart ∙ ap (λ b. cond b (Some r.held.value) (stands_at r.key n.rows)) (eq-eqb r.key r.key refl) ∙ ap Some is
        ∙ ap (λ (q : WordKey). Some (record { owner = q.process; id = x.id })) own)
    at false f =
        let old : look t.ptrs k ≡ Some s = sym (put k ∙ ap (λ b. cond b (Some new) (look t.ptrs k)) f) ∙ e in
        let was = n.spots k s old in
        stands_more s.at n.rows r apart ∙ stays (r.key == s.at) refl was
      where
        stays : (b : Bool) → (r.key == s.at) ≡ b → stands_at s.at n.rows ≡ Some (record { owner = k.process; id = s.id }) → cond b (Some r.held.value) (stands_at s.at n.rows) ≡ Some (record { owner = k.process; id = s.id })
        stays false g was = was
        stays true g was =
            let free = ap (option_map (λ (p : ℕ × Held Possession). p.1.value)) (fresh_slot n.rows r apart) in
            absurd (let h = subst (λ j. stands_at j n.rows ≡ None) (eqb-true r.key s.at g) free in cc)

-- and once one went
pub spots_less : (t : Owned) (objects : List Object) (n : OwnedAre t objects) (x : Object) → object_in objects x.id ≡ Some x → (s : Spot) → look t.ptrs (own_key x) ≡ Some s → s.id ≡ x.id
    → (L : WordKey → Option Spot) → ((l : WordKey) → L l ≡ cond (same_word (own_key x) l) None (look t.ptrs l))
    → (k : WordKey) (v : Spot) → L k ≡ Some v → stands_at v.at (drop_key s.at n.rows) ≡ Some (record { owner = k.process; id = v.id })
spots_less t objects n x has s e is L gone k v f = at (same_word (own_key x) k) refl
  where
    at : (b : Bool) → same_word (own_key x) k ≡ b → stands_at v.at (drop_key s.at n.rows) ≡ Some (record { owner = k.process; id = v.id })
    at true g = absurd (let h : None ≡ Some v = sym (gone k ∙ ap (λ b. cond b None (look t.ptrs k)) g) ∙ f in cc)
    at false g =
        let old : look t.ptrs k ≡ Some v = sym (gone k ∙ ap (λ b. cond b None (look t.ptrs k)) g) ∙ f in
        stands_less v.at s.at n.rows ∙ ap (λ b. cond b None (stands_at v.at n.rows)) (spots_apart t objects n x has s e is k v old g) ∙ n.spots k v old

-- what no object has leads nowhere
pub none_at : (t : Owned) (objects : List Object) → OwnedAre t objects → (k : WordKey) → find (λ y. same_word (own_key y) k) objects ≡ None → look t.ptrs k ≡ None
none_at t objects n k none = at (look t.ptrs k) refl
  where
    at : (o : Option Spot) → look t.ptrs k ≡ o → o ≡ None
    at None e = refl
    at (Some s) e = absurd (let f : Some s.id ≡ None = sym (ap (option_map (λ (v : Spot). v.id)) e) ∙ n.found k ∙ ap (option_map (λ (y : Object). y.id)) none in cc)

-- ---- the highest pointer

-- what one key less or more leads to is no higher
pub higher_more : (t : Owned) (objects : List Object) (n : OwnedAre t objects) (x : Object) (v : Option Spot)
    (L : WordKey → Option Spot) → ((l : WordKey) → L l ≡ cond (same_word (own_key x) l) v (look t.ptrs l))
    → (m : ℕ) → x.ptr ≤ m → t.highest ≤ m → (k : WordKey) (s : Spot) → L k ≡ Some s → k.word ≤ m
higher_more t objects n x v L put m this up k s e = at (same_word (own_key x) k) refl
  where
    at : (b : Bool) → same_word (own_key x) k ≡ b → k.word ≤ m
    at true f = subst (λ (q : WordKey). q.word ≤ m) (word_eq (own_key x) k f) this
    at false f =
        let old : look t.ptrs k ≡ Some s = sym (put k ∙ ap (λ b. cond b v (look t.ptrs k)) f) ∙ e in
        let low = n.not_higher k s old in
        omega (arith, low, up)

pub none_higher : (t : Owned) (objects : List Object) → OwnedAre t objects → (k : WordKey) → t.highest < k.word → look t.ptrs k ≡ None
none_higher t objects n k above = at (look t.ptrs k) refl
  where
    at : (o : Option Spot) → look t.ptrs k ≡ o → o ≡ None
    at None e = refl
    at (Some s) e = absurd (let low = n.not_higher k s e in omega (arith, low, above))
