-- For TurnsAreTaken and TurnsTellOfCalls: what a step makes of the turns of an object: those that were there, in their
-- order, and one more at most.
use Rattle.bd_laws.proofs.words.Logic.{◌≡◌, ℕ, suc, Bool, true, false, not, ◌&&◌, List, [], ◌∷◌, ◌++◌, Option, Some, None, ◌⊎◌, inl, inr, refl, ap, sym, subst, ◌∙◌, map, arith, filter_map, cons_option, is_some, eqb-true, cases_Bool}
use Rattle.bd_laws.proofs.words.Types.{Identity, Buffer}
use Rattle.bd_laws.proofs.words.Space.{same, when, is_some_and, Space, is_made_at, counted}
use Rattle.bd_laws.proofs.words.Laws.{In, Pairs, Due, Rivals, Waits, On, Before}
use Rattle.bd_laws.proofs.Lists.{in_append, in_map, in_filter_map, pairs_either}
use Rattle.bd_laws.proofs.Tests.{both, same_eq, eq_same, not_true, not_false_true}
use Rattle.bd_laws.proofs.IsInTurn.InTurn.{Turning}
use Rattle.bd_laws.proofs.IsInTurn.Passing.{on_turn}
use Rattle.bd_laws.proofs.IsInTurn.Passed.{Became, Passed}
use Rattle.bd_laws.proofs.IsInTurn.Received.{on_after}
use Rattle.bd_audit.specs.declared.turns.Turn.{Turn}
use Rattle.bd_audit.specs.TurnSearch.{is_call_on, is_live, is_handed, noted_at, marked, turn_made, next_turns}
use Rattle.bd_audit.proofs.TurnsAreTaken.Logged.{Over, Open, InOrder, Past, Logged, live_found, live_in, handed_found, handed_in, noted_some, noted_none, noted_kept, never, ever, some_case, stays_open, over_after, ended_over}

module _ (s z : Space) (h : Before s) (turns : Turning z) (p : Passed s z) (o : Identity) where
  -- ---- turns that were there

  module _ (ts : List Turn) (log : Logged o ts s) where
    live_after : (t : Turn) → In t ts → (marked s.steps z.buffers t).ended ≡ None → (c : Buffer) × Open o (marked s.steps z.buffers t) z c
    live_after t i e =
        let k = noted_none t.ended s.steps (not (is_live z.buffers t.made)) e in
        let b = log.live t i k.0 in
        let c = live_found z.buffers t.made (not_false_true (is_live z.buffers t.made) k.1) in
        let became = (stays_open s z h turns p o) b.0 c.0 b.1.here c.1 (c.2 ∙ sym b.1.made) in (
          c.0,
          record {
            here = c.1;
            made = c.2;
            on = on_after s o b.0 c.0 became b.1.on;
            handed = handed_after c.0 c.1 c.2 (some_case t.handed) (λ q f. handed_stays b.0 c.0 became (b.1.handed ∙ ap is_some f));
          },
        )
      where
        handed_stays : (b c : Buffer) → Became s b c → b.handed ≡ true → c.handed ≡ true
        handed_stays b c k e = elim k.handed [ inl f ↦ f ∙ e | inr f ↦ f.0 ]

        now : (c : Buffer) → In c z.buffers → c.made ≡ t.made → (x : Bool) → is_handed z.buffers t.made ≡ x → c.handed ≡ is_some (noted_at None s.steps x)
        now c j e x f = search (arith, handed_found, pairs_either, turns, cases_Bool, handed_in)

        handed_after : (c : Buffer) → In c z.buffers → c.made ≡ t.made → (t.handed ≡ None) ⊎ ((q : ℕ) × (t.handed ≡ Some q)) → ((q : ℕ) → t.handed ≡ Some q → c.handed ≡ true)
            → c.handed ≡ is_some (noted_at t.handed s.steps (is_handed z.buffers t.made))
        handed_after c j e (inr q) f = f q.0 q.1 ∙ sym (ap is_some (noted_kept t.handed s.steps (is_handed z.buffers t.made) q.0 q.1))
        handed_after c j e (inl n) f = now c j e (is_handed z.buffers t.made) refl ∙ ap (λ q. is_some (noted_at q s.steps (is_handed z.buffers t.made))) (sym n)

    gone_after : (t : Turn) → In t ts → (q : ℕ) → (marked s.steps z.buffers t).ended ≡ Some q → (c : Buffer) → In c z.buffers → c.made ≡ t.made → ⊥
    gone_after t i q e c j m =
        elim (noted_some t.ended s.steps (not (is_live z.buffers t.made)) q e) [
          | inl k ↦ elim (p.from c j) [
            | inl b ↦ log.gone t i q k b.0 b.1 (sym b.2.made ∙ m)
            | inr n ↦ (let lt = (log.past t i).made in let at = n.made in absurd (omega arith))
          ]
          | inr k ↦ (let yes = live_in z.buffers c t.made j m in let none = not_true (is_live z.buffers t.made) k.1 in absurd (cc))
        ]

    over_turn : (t : Turn) → In t ts → (q : ℕ) → (marked s.steps z.buffers t).ended ≡ Some q → (marked s.steps z.buffers t).handed ≡ None → Over o z
    over_turn t i q e f =
        let unhanded = (noted_none t.handed s.steps (is_handed z.buffers t.made) f).0 in
        elim (noted_some t.ended s.steps (not (is_live z.buffers t.made)) q e) [
          | inl k ↦ (over_after s z h turns p o) (log.over t i q k unhanded)
          | inr k ↦ (
              let b = log.live t i k.0 in
              elim (p.to o b.0 b.1.here b.1.on) [
                | inl c ↦ (
                    let yes = live_in z.buffers c.0 t.made c.1 (c.2.made ∙ b.1.made) in
                    let none = not_true (is_live z.buffers t.made) k.1 in
                    absurd (cc))
                | inr l ↦ elim l [
                  | inl handed ↦ (let is = b.1.handed ∙ ap is_some unhanded in absurd (cc))
                  | inr ended ↦ (ended_over s z h turns p o) b.0 b.1.here b.1.on ended
                ]
              ])
        ]

    past_after : (t : Turn) → In t ts → Past (suc s.steps) (marked s.steps z.buffers t)
    past_after t i = search (arith, noted_some)

    -- who is handed out by this step was open, and due
    due_now : (u : Turn) → In u ts → u.handed ≡ None → is_handed z.buffers u.made ≡ true → (b : Buffer) × Open o u s b × Due s.todo b.made
    due_now u i n now =
        let c = handed_found z.buffers u.made now in
        let lives = never u.ended (λ q e. elim (p.from c.0 c.1) [
          | inl b ↦ log.gone u i q e b.0 b.1 (sym b.2.made ∙ c.2)
          | inr k ↦ (let lt = (log.past u i).made in let at = k.made in let m = c.2 in absurd (omega arith))
        ]) in
        let b = log.live u i lives in
        let became = (stays_open s z h turns p o) b.0 c.0 b.1.here c.1 (c.2 ∙ sym b.1.made) in (
          b.0,
          b.1,
          elim became.handed [
            | inl f ↦ (let unhanded = b.1.handed ∙ ap is_some n in let handed = c.3 in absurd (cc))
            | inr f ↦ f.1
          ],
        )

    rivals : (b c : Buffer) → On o b → On o c → Rivals b c
    rivals b c i j = search (arith, on_turn, eq_same)

    in_order_after : (t u : Turn) → In t ts → In u ts → InOrder t u → InOrder (marked s.steps z.buffers t) (marked s.steps z.buffers u)
    in_order_after t u i j k = record {
      earlier = k.earlier;
      taken = λ q e. elim (noted_some u.handed s.steps (is_handed z.buffers u.made) q e) [
        | inl f ↦ (
            let l = k.taken q f in
            (l.0, l.1, noted_kept t.handed s.steps (is_handed z.buffers t.made) l.0 l.2, noted_kept t.ended s.steps (not (is_live z.buffers t.made)) l.1 l.3, l.4, l.5))
        | inr f ↦ (
            let c = due_now u j f.0 f.1 in
            let e = ever t.ended (λ n.
            let b = log.live t i n in
            let lt = k.earlier in
            let bm = b.1.made in
            let cm = c.1.made in
            elim (pairs_either (Waits s.todo) s.buffers h.turns.waits b.0 c.0 b.1.here c.1.here) [
              | inl e ↦ (let m : b.0.made ≡ c.0.made = ap (λ (x : Buffer). x.made) e in absurd (omega arith))
              | inr w ↦ elim w [ inl v ↦ v.alone (inr c.2) (rivals b.0 c.0 b.1.on c.1.on) | inr v ↦ (let gt = v.earlier in absurd (omega arith)) ]
            ]) in
            let d = ever t.handed (λ n. (log.over t i e.0 e.1 n).none c.0 c.1.here c.1.on) in
            let past = log.past t i in
            let a = past.handed d.0 d.1 in
            let b = past.ended e.0 e.1 in
            let at = f.2 in
            (d.0, e.0, noted_kept t.handed s.steps (is_handed z.buffers t.made) d.0 d.1, noted_kept t.ended s.steps (not (is_live z.buffers t.made)) e.0 e.1, omega arith, omega arith))
      ];
    }

    -- ---- the turn that the step makes

    abbrev pub NewTurn : Turn → Buffer → Type 0
    NewTurn t c = In c z.buffers × (t.made ≡ s.steps) × (t.handed ≡ None) × (t.ended ≡ None) × (c.made ≡ s.steps) × On o c × (c.handed ≡ false)

    made_when : (b : Bool) (t u : Turn) → when b t ≡ Some u → (b ≡ true) × (t ≡ u)
    made_when b t u e = search arith

    targets : (target : Option Identity) → is_some_and target (λ x. same x o) ≡ true → target ≡ Some o
    targets target e = search (arith, same_eq)

    new_turn : (t : Turn) → In t (filter_map (turn_made o s.steps) z.buffers) → (c : Buffer) × NewTurn t c
    new_turn t i =
        let c = in_filter_map (turn_made o s.steps) t z.buffers i in
        let w = made_when (is_made_at s.steps c.0 && is_call_on o c.0) (record { made = s.steps; handed = None; ended = None }) t c.2 in
        let k = both (is_made_at s.steps c.0) (is_call_on o c.0) w.0 in
        let on = both c.0.one_way (is_some_and c.0.target (λ x. same x o)) k.1 in
        let at = eqb-true c.0.made s.steps k.0 in
        let unhanded : c.0.handed ≡ false = elim (p.from c.0 c.1) [
          | inl b ↦ (let lt = h.turns.below b.0 b.1 in let m = b.2.made in absurd (omega arith))
          | inr n ↦ n.handed
        ] in
        (c.0, subst (λ (u : Turn). NewTurn u c.0) w.1 (c.1, refl, refl, refl, at, (on.0, targets c.0.target on.1), unhanded))

    -- there is one at most
    new_pairs : (bs : List Buffer) → Pairs (Waits z.todo) bs → Pairs InOrder (filter_map (turn_made o s.steps) bs)
    new_pairs [] w = tt
    new_pairs (b ∷ bs) w = cons (is_made_at s.steps b && is_call_on o b) refl (new_pairs bs w.1)
      where
        cons : (x : Bool) → (is_made_at s.steps b && is_call_on o b) ≡ x → Pairs InOrder (filter_map (turn_made o s.steps) bs)
            → Pairs InOrder (cons_option (when x (record { made = s.steps; handed = None; ended = None })) (filter_map (turn_made o s.steps) bs))
        cons x e k = search (arith, in_filter_map, made_when, eqb-true, both)

    -- ---- all turns

    all_pairs : (us : List Turn) → ((t : Turn) → In t us → In t ts) → Pairs InOrder us → (vs : List Turn) → Pairs InOrder vs
        → ((t v : Turn) → In t us → In v vs → InOrder (marked s.steps z.buffers t) v) → Pairs InOrder (map (marked s.steps z.buffers) us ++ vs)
    all_pairs [] l k vs m n = m
    all_pairs (u ∷ us) l k vs m n = (
      (λ v i. elim (in_append v (map (marked s.steps z.buffers) us) vs i) [
        | inl j ↦ (let x = in_map (marked s.steps z.buffers) v us j in subst (InOrder (marked s.steps z.buffers u)) x.2 (in_order_after u x.0 (l u (inl refl)) (l x.0 (inr x.1)) (k.0 x.0 x.1)))
        | inr j ↦ n u v (inl refl) j
      ]),
      all_pairs us (λ t i. l t (inr i)) k.1 vs m (λ t v i j. n t v (inr i) j),
    )

    pub turn_is_of : (t : Turn) → In t (next_turns o s.steps z.buffers ts) → ((u : Turn) × In u ts × (marked s.steps z.buffers u ≡ t)) ⊎ ((c : Buffer) × NewTurn t c)
    turn_is_of t i = elim (in_append t (map (marked s.steps z.buffers) ts) (filter_map (turn_made o s.steps) z.buffers) i) [
      | inl j ↦ inl (in_map (marked s.steps z.buffers) t ts j)
      | inr j ↦ inr (new_turn t j)
    ]

    pub log_after : Logged o (next_turns o s.steps z.buffers ts) (counted z)
    unfolding counted
    log_after =
        let steps = p.steps in
        record {
          past = λ t i. subst (λ n. Past (suc n) t) (sym p.steps) (elim (turn_is_of t i) [
            | inl u ↦ subst (Past (suc s.steps)) u.2 (past_after u.0 u.1)
            | inr c ↦ (let m = c.1.1 in record {
              made = omega arith;
              handed = λ q e. let n = c.1.2 in absurd (cc);
              ended = λ q e. let n = c.1.3 in absurd (cc);
            })
          ]);
          live = λ t i e. elim (turn_is_of t i) [
            | inl u ↦ (let b = live_after u.0 u.1 (ap (λ (x : Turn). x.ended) u.2 ∙ e) in
                (b.0, record { here = b.1.here; made = b.1.made ∙ ap (λ (x : Turn). x.made) u.2; on = b.1.on; handed = b.1.handed ∙ ap (λ (x : Turn). is_some x.handed) u.2 }))
            | inr c ↦ (c.0, record { here = c.1.0; made = c.1.4 ∙ sym c.1.1; on = c.1.5; handed = c.1.6 ∙ sym (ap is_some c.1.2) })
          ];
          gone = λ t i q e b j m. elim (turn_is_of t i) [
            | inl u ↦ gone_after u.0 u.1 q (ap (λ (x : Turn). x.ended) u.2 ∙ e) b j (m ∙ sym (ap (λ (x : Turn). x.made) u.2))
            | inr c ↦ (let n = c.1.3 in absurd (cc))
          ];
          over = λ t i q e f. elim (turn_is_of t i) [
            | inl u ↦ (let k = over_turn u.0 u.1 q (ap (λ (x : Turn). x.ended) u.2 ∙ e) (ap (λ (x : Turn). x.handed) u.2 ∙ f) in
                record { old = let lt = k.old in omega arith; owner = k.owner; none = k.none })
            | inr c ↦ (let n = c.1.3 in absurd (cc))
          ];
          order = all_pairs ts (λ t i. i) log.order (filter_map (turn_made o s.steps) z.buffers) (new_pairs z.buffers turns.waits)
              (λ t v i j. let c = new_turn v j in record {
                earlier = let lt = (log.past t i).made in let m = c.1.1 in omega arith;
                taken = λ q e. let n = c.1.2 in absurd (cc);
              });
        }
