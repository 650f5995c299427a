use Rattle.std.proofs.Common.{rules, ◌≡◌, ◌==◌, ◌||◌, ◌<◌, ℕ, Bool, true, false, cond, List, Option, Some, None, inl, inr, ◌⊎◌, set, get_or, length, refl, subst, ap, sym, ◌∙◌, eqb-true}
use Rattle.std.proofs.lemmas.List.Elements.{All-set}
use Rattle.std.specs.Option.{option_and_then}
use Rattle.bd_space.specs.{Words.{is_some_and}, Frames.{made_of, calls, takes_part}, ReadItems.{serve}}
use Rattle.bd_space.proofs.Keyed.{changed_none}
use Rattle.bd_frames.specs.{declared.frame.Row.{Row}, Stands.{FramesAre}, Places.{place}, Linked.{IsStack, top_in, put_top}}
use Rattle.bd_frames.proofs.{Places.{turned_at}, Stacking.{From, Comes, itself, stays, put_on, covered}, Standing.{own_rising, nowhere, one_changed}}
use Rattle.bd_frames.proofs.table.FrameTable.serve.Goals.{then-is_own, else-is_own}
use Rattle.bd_frames.proofs.table.FrameTable.serve.Goals as goal

module _ (s seat : ℕ) (rs : List Row) (i : ℕ) (d : Row) (link top : Option ℕ) (lt : i < length rs) (at : d ≡ get_or rs i d)
    (st : IsStack s top rs) where
  abbrev served : Row
  served = record d { frame = serve seat d.frame; server = link }

  own_part : ((seat == s) ≡ true → calls s d.frame ≡ true) → takes_part s served.frame ≡ true → calls s d.frame ≡ true
  own_part own part = by (calls s d.frame) refl part
    where
      by : (b : Bool) → calls s d.frame ≡ b → (b || (seat == s)) ≡ true → b ≡ true
      by true e part = refl
      by false e part = sym e ∙ own part

  -- where nobody serves it who didn't take part
  stays_on : ((seat == s) ≡ true → calls s d.frame ≡ true) → IsStack s top (set rs i served)
  stays_on own =
      stays s rs (set rs i served) top st (All-set (λ x. takes_part s x.frame ≡ true → From s rs (set rs i served) x) rs i served
      (λ part. let yes = own_part own part in (d, (i, lt, sym at), record { made = refl; part = rw yes refl; below = rw yes refl })) (itself s rs))

  served_on : (own : Bool) → calls seat d.frame ≡ own → (b : Bool) → (seat == s) ≡ b → (own ≡ false → b ≡ true → link ≡ top)
      → IsStack s (cond (is_some_and (cond own None (Some seat)) (λ t. t == s)) (put_top (place d) top) top) (set rs i served)
  served_on true is b e links = stays_on (λ same. ap (λ n. calls n d.frame) (sym (eqb-true seat s same)) ∙ is)
  served_on false is false e links = rw e (stays_on (λ same. absurd (cc (sym same ∙ e))))
  served_on false is true e links =
      let other = ap (λ n. calls n d.frame) (sym (eqb-true seat s e)) ∙ is in
      rw e (put_on s rs (set rs i served) (place d) top st
      (All-set (λ x. takes_part s x.frame ≡ true → From s rs (set rs i served) x ⊎ Comes s rs (set rs i served) (place d) top x) rs i served
      (λ part. inr (refl, rw other (links refl refl))) (λ k a h part. inl (itself s rs k a h part))))

pub returns-after-is_own-clause-stands : goal.returns-after-is_own-clause-stands
returns-after-is_own-clause-stands c = λ l h.
    let t = c.args.self.now in
    let rs = t.rows.items in
    let seat = c.args.seat in
    let made = c.args.made in
    let i = c.in-Some.i in
    let d = c.index.result.now in
    let link = c.put-server.result in
    let lt = rw c.deref.ensures.value at c.in-Some.ensures.within in
    let at = (rw c.deref.ensures.value at c.in-Some.ensures.found) (own_rising t l h) in
    let g = λ (r : Row). record r { frame = serve seat r.frame; server = link } in
    let is = ap (λ x. set rs i (g x)) c.index.ensures ∙ turned_at g made rs i d (own_rising t l h) lt at in
    let asked : c.if-is_own.put ≡ cond (calls seat d.frame) None (Some seat) = elim c.if-is_own.branch [
      | then-is_own w ↦ let own : calls seat d.frame ≡ true = search rules in w.put-is ∙ sym (ap {B = Option ℕ} (λ b. cond b None (Some seat)) own)
      | else-is_own w ↦ let own : calls seat d.frame ≡ false = search rules in w.put-is ∙ sym (ap {B = Option ℕ} (λ b. cond b None (Some seat)) own)
    ] in
    let there : place d ≡ made = ap place c.index.ensures ∙ at d in
    one_changed t l h _ made (serve seat) g (λ x. (refl, refl)) (λ r. refl) (λ r. refl) is
    (λ s.
    let top = top_in t.stacks s in
    subst (IsStack s (top_in c.put-server.new.self s)) is
    (covered s _ _ (set rs i (g d)) (c.put-server.ensures.tops s)
    (subst (λ (o : Option ℕ). IsStack s o (set rs i (g d)))
    (ap (λ n. cond (is_some_and (cond (calls seat d.frame) None (Some seat)) (λ t. t == s)) (put_top n top) top) there
    ∙ ap (λ o. cond (is_some_and o (λ t. t == s)) (put_top made top) top) (sym asked))
    (served_on s seat rs i d link top lt c.index.ensures (h.stacks_are s) (calls seat d.frame) refl (seat == s) refl
    (λ own same. c.put-server.ensures.below ∙ ap (option_and_then (top_in t.stacks)) (asked ∙ ap (λ b. cond b None (Some seat)) own)
    ∙ ap (top_in t.stacks) (eqb-true seat s same))))))

pub returns-in_default-clause-stands : goal.returns-in_default-clause-stands
returns-in_default-clause-stands c = λ l h.
    let t = c.args.self.now in
    let none = (rw c.deref.ensures.value at c.in_default.ensures.found) (own_rising t l h) in
    subst (FramesAre t) (sym (changed_none made_of (serve c.args.seat) c.args.made l (nowhere t l h c.args.made none))) h
