-- For ItemsAreToldApart, which SpacesAreTidy has as a part: no two work items of one list have one identity.
use Rattle.bd_laws.proofs.words.Logic.{◌≡◌, ℕ, ◌+◌, ◌<◌, ◌≤◌, ◌==◌, Bool, true, false, cond, List, [], ◌∷◌, inl, inr, refl, ap, sym, ◌∙◌, filter, arith, count_by, eq-eqb, sum_by-append, sum_by-cons}
use Rattle.bd_laws.proofs.words.Types.{Work, Origin, WorkKind, TodoList}
use Rattle.bd_laws.proofs.words.Space.{same_origin, with_work, is_item, is_on}
use Rattle.bd_laws.proofs.words.Laws.{In, Distinct, Fresh}
use Rattle.bd_laws.proofs.Lists.{in_push, in_filter}
use Rattle.bd_laws.proofs.Tests.{both, both_eq}

abbrev pub count_at : ℕ → List Work → ℕ
count_at n todo = count_by (λ w. w.id.place == n) todo

-- ---- counting

pub count_filter : (p q : Work → Bool) (xs : List Work) → ((w : Work) → In w xs → q w ≡ true → p w ≡ true) → count_by q (filter p xs) ≡ count_by q xs
count_filter p q [] h = refl
count_filter p q (x ∷ xs) h = at (p x) refl (count_filter p q xs (λ w l e. h w (inr l) e))
  where
    none : (c : Bool) → p x ≡ false → q x ≡ c → count_by q xs ≡ count_by q (x ∷ xs)
    none c e f = search (arith, sum_by-cons)

    at : (b : Bool) → p x ≡ b → count_by q (filter p xs) ≡ count_by q xs → count_by q (cond b (x ∷ filter p xs) (filter p xs)) ≡ count_by q (x ∷ xs)
    at true e k = sum_by-cons (λ y. cond (q y) 1 0) x (filter p xs) ∙ ap (λ n. cond (q x) 1 0 + n) k ∙ sym (sum_by-cons (λ y. cond (q y) 1 0) x xs)
    at false e k = k ∙ none (q x) e refl

pub count_work : (n : ℕ) (todo : List Work) (list : TodoList) (kind : WorkKind) → count_at n (with_work n todo list kind) ≡ count_at n todo + 1
count_work n todo list kind = sum_by-append (λ (w : Work). cond (w.id.place == n) 1 0) todo (_ ∷ []) ∙ ap (λ b. count_at n todo + (0 + cond b 1 0)) (eq-eqb n n refl)

-- ---- what is kept before the step at n ends

pub item_id : (v w : Work) → is_item v w ≡ true → v.id ≡ w.id
item_id v w h = let k = both_eq v.id.place v.id.index w.id.place w.id.index (both (same_origin v.id w.id) (is_on w.list v) h).0 in (λ i. record { place = k.0 i; index = k.1 i })

-- this step's items are numbered one after the other, so each below their count
abbrev pub Indexed : ℕ → List Work → Type 0
Indexed n todo = (w : Work) → In w todo → w.id.place ≡ n → w.id.index < count_at n todo

pub record Numbered (n : ℕ) (todo : List Work) : Type 0 where
  pub below : (w : Work) → In w todo → w.id.place ≤ n
  pub index : Indexed n todo
  pub distinct : Distinct todo

pub fresh_numbered : (n : ℕ) (todo : List Work) → Fresh n todo → Distinct todo → Numbered n todo
fresh_numbered n todo f h = search arith

-- ---- an item more

module _ (n : ℕ) (todo : List Work) (list : TodoList) (kind : WorkKind) where
  abbrev new_item : Work
  new_item = record { id = record { place = n; index = count_at n todo }; list = list; kind = kind }

  -- its identity is new
  is_new : Numbered n todo → (w : Work) → In w todo → w.id ≡ new_item.id → ⊥
  is_new h w l e =
      let lt = h.index w l (ap (λ (x : Origin). x.place) e) in
      let at : w.id.index ≡ count_at n todo = ap (λ (x : Origin). x.index) e in omega arith

  pub push_indexed : Indexed n todo → Indexed n (with_work n todo list kind)
  push_indexed h w l e =
      let c = count_work n todo list kind in
      elim (in_push w new_item todo l) [
        | inl i ↦ (let lt = h w i e in omega arith)
        | inr is ↦ (let at : count_at n todo ≡ w.id.index = ap (λ (x : Work). x.id.index) is in omega arith)
      ]

  pub push_numbered : Numbered n todo → Numbered n (with_work n todo list kind)
  push_numbered h = record {
    below = λ w l. elim (in_push w new_item todo l) [ inl i ↦ h.below w i | inr is ↦ (let at : n ≡ w.id.place = ap (λ (x : Work). x.id.place) is in omega arith) ];
    index = push_indexed h.index;
    distinct = λ v w l m same. search (arith, in_push, item_id, is_new, h.distinct);
  }

-- ---- items that go

module _ (n : ℕ) (todo : List Work) (keep : Work → Bool) where
  -- none of this step's
  pub filter_numbered : ((w : Work) → In w todo → w.id.place ≡ n → keep w ≡ true) → Numbered n todo → Numbered n (filter keep todo)
  filter_numbered k h = search (arith, in_filter, count_filter)
