-- For SpacesAreTidy and the laws of one-way calls: these stay in turn as they ripen and as they are read.
use Rattle.bd_laws.proofs.words.Logic.{◌≡◌, ℕ, suc, ◌-◌, ◌<◌, Bool, true, false, cond, not, List, [], ◌∷◌, ◌++◌, Option, Some, None, ◌⊎◌, inl, inr, refl, ap, sym, subst, ◌∙◌, map, arith, length, append_assoc, list_any, cons_option, option_and_then_some, eqb-true}
use Rattle.bd_laws.proofs.words.Types.{Identity, Buffer, Turn, Thread, Work, OfProcess}
use Rattle.bd_laws.proofs.words.Space.{changed, first_of, Space, with_work, hands_out, list_to_read, without_taken, is_item, turn_of, turns_of, is_ripe, ripened, ripen, is_made_at, buffer_in, bytes_read, taken, buffer_taken, hand_out, handed_buffers, read_by}
use Rattle.bd_space.specs.declared.space.WorkKind.TheVariants as work
use Rattle.bd_laws.proofs.words.Laws.{In, Pairs, Due, Out, Waits, InTurn}
use Rattle.bd_laws.proofs.Lists.{in_push, in_filter, in_right, in_append, in_changed, any_in, find_in, in_filter_map, filter_map_in, pairs_map, pairs_changed, pairs_either}
use Rattle.bd_laws.proofs.IsInTurn.OneWay.{waits_less}

-- ---- what a one-way call has of its buffer

pub turn_parts : (b : Buffer) (t : Turn) → turn_of b ≡ Some t
    → (t.made ≡ b.made) × (t.receiver ≡ b.receiver) × (t.handed ≡ b.handed) × (b.one_way ≡ true) × (b.target ≡ Some t.target)
turn_parts b t h = search arith

pub turn_made : (b : Buffer) (t : Turn) → turn_of b ≡ Some t → t.made ≡ b.made
turn_made b t h = (turn_parts b t h).0

pub one_made : (n : ℕ) (bs : List Buffer) (todo : List Work) → InTurn n bs todo → (b c : Buffer) → In b bs → In c bs → b.made ≡ c.made → b ≡ c
one_made n bs todo h b c i j e = search (arith, pairs_either)

-- ---- ripening

pairs_cons : (o : Option Turn) (b : Buffer) (bs : List Buffer) → turn_of b ≡ o → ((c : Buffer) → In c bs → b.made < c.made)
    → Pairs (λ t u. t.made < u.made) (turns_of bs) → Pairs (λ t u. t.made < u.made) (cons_option o (turns_of bs))
pairs_cons o b bs e h k = search (arith, in_filter_map)

turns_rise : (todo : List Work) (bs : List Buffer) → Pairs (Waits todo) bs → Pairs (λ t u. t.made < u.made) (turns_of bs)
turns_rise todo [] h = tt
turns_rise todo (b ∷ bs) h = pairs_cons (turn_of b) b bs refl (λ c l. (h.0 c l).earlier) (turns_rise todo bs h.1)

after_rise : (older ts : List Turn) (t : Turn) → Pairs (λ t u. t.made < u.made) (older ++ t ∷ ts) → (u : Turn) → In u ts → t.made < u.made
after_rise [] ts t h u l = h.0 u l
after_rise (x ∷ older) ts t h u l = after_rise older ts t h.1 u l

-- an earlier one of the turns stands among the older ones
stands_older : (older ts : List Turn) (t u : Turn) → Pairs (λ t u. t.made < u.made) (older ++ t ∷ ts) → In u (older ++ t ∷ ts) → u.made < t.made → In u older
stands_older older ts t u h l lt =
    elim (in_append u older (t ∷ ts) l) [
      | inl k ↦ k
      | inr k ↦ elim k [ inl e ↦ (let m : t.made ≡ u.made = ap (λ (x : Turn). x.made) e in absurd (omega arith)) | inr i ↦ (let gt = after_rise older ts t h u i in absurd (omega arith)) ]
    ]

module _ (n place : ℕ) (bs : List Buffer) where
  due_call : (todo : List Work) (t : Turn) (m : ℕ) → Due (with_work place todo (OfProcess t.receiver) (work.Call t.made)) m → Due todo m ⊎ (m ≡ t.made)
  due_call todo t m d = search (arith, in_push)

  ripens_one : (todo : List Work) (older ts : List Turn) (t : Turn) → turns_of bs ≡ older ++ t ∷ ts → is_ripe todo older t ≡ true → InTurn n bs todo
      → InTurn n bs (with_work place todo (OfProcess t.receiver) (work.Call t.made))
  ripens_one todo older ts t e ripe h =
      let rise = subst (Pairs (λ (t u : Turn). t.made < u.made)) e (turns_rise todo bs h.waits) in
      let own = in_filter_map turn_of t bs (subst (In t) (sym e) (in_right t older (t ∷ ts) (inl refl))) in
      let own_made = turn_made own.0 t own.2 in
      record {
        below = h.below;
        fresh = λ m d. elim (due_call todo t m d) [ inl k ↦ h.fresh m k | inr is ↦ (let lt = h.below own.0 own.1 in omega arith) ];
        waits = pairs_map (Waits todo) (Waits (with_work place todo (OfProcess t.receiver) (work.Call t.made))) bs (λ b c i j w. record {
          earlier = w.earlier;
          alone = λ o r. elim o [
            | inl out ↦ w.alone (inl out) r
            | inr d ↦ elim (due_call todo t c.made d) [
              | inl k ↦ w.alone (inr k) r
              | inr is ↦ (
                  let same_buffer = one_made n bs todo h own.0 c own.1 j (sym own_made ∙ sym is) in
                  let turn : turn_of c ≡ Some t = ap turn_of (sym same_buffer) ∙ own.2 in
                  let same_turn : r.1 ≡ t = (let x = r.3 in cc) in
                  let first = turn_made b r.0 r.2 in
                  let lt = w.earlier in
                  let older_one : r.0.made < t.made = omega arith in
                  let stands = stands_older older ts t r.0 rise (subst (In r.0) e (filter_map_in turn_of r.0 b bs i r.2)) older_one in
                  search (arith, any_in))
            ]
          ];
        }) h.waits;
      }

  ripens_all : (ts : List Turn) (todo : List Work) (older : List Turn) → turns_of bs ≡ older ++ ts → InTurn n bs todo → InTurn n bs (ripened place older todo ts)
  ripens_all [] todo older e h = h
  ripens_all (t ∷ ts) todo older e h =
      ripens_all ts _ (older ++ t ∷ []) (e ∙ sym (append_assoc older (t ∷ []) ts)) (search (arith, ripens_one))

pub ripen_in_turn : (z : Space) → InTurn (suc z.steps) z.buffers z.todo → InTurn (suc (ripen z).steps) (ripen z).buffers (ripen z).todo
unfolding ripen
ripen_in_turn z h = ripens_all (suc z.steps) z.steps z.buffers (turns_of z.buffers) z.todo [] refl h

-- ---- reading

module _ (s : Space) where
  full : (b : Bool) (w : Work) (xs ys : List Work) → (In w xs → In w ys) → In w (cond b [] xs) → In w ys
  full b w xs ys k h = search arith

  pub taken_in : (xs : List Work) (left : ℕ) (w : Work) → In w (taken s left xs) → In w xs
  taken_in [] left w h = h
  taken_in (x ∷ xs) left w h = search (arith, taken_in xs (left - length (bytes_read s x)) w)

  pub read_in : (t : Thread) (left : ℕ) (w : Work) → In w (taken s left (list_to_read s t)) → In w s.todo
  unfolding list_to_read
  read_in t left w h = search (arith, in_filter, taken_in)

pub first_handed : (ws : List Work) (m : ℕ) → first_of (map (λ (w : Work). hands_out w.kind) ws) ≡ Some m → (w : Work) × In w ws × (hands_out w.kind ≡ Some m)
first_handed [] m h = absurd (cc)
first_handed (w ∷ ws) m h = search (arith, first_handed ws m)

-- the buffer that is handed over was due by one of these
pub taken_due : (s : Space) (ws : List Work) (b : Buffer) → buffer_taken s ws ≡ Some b → In b s.buffers × ((w : Work) × In w ws × (hands_out w.kind ≡ Some b.made))
unfolding buffer_taken
taken_due s ws b h =
    option_and_then_some (buffer_in s.buffers) (first_of (map (λ w. hands_out w.kind) ws)) b h
    (λ m e f.
    let l = find_in (is_made_at m) b s.buffers f in
    let w = first_handed ws m e in
    (l.0, (w.0, w.1, subst (λ i. hands_out w.0.kind ≡ Some i) (sym (eqb-true b.made m l.1)) w.2)))

pub made_kept : (c : Bool) (b : Buffer) → (cond c (hand_out b) b).made ≡ b.made
made_kept c b = search arith

turn_kept : (c : Bool) (b : Buffer) (t : Turn) → turn_of (cond c (hand_out b) b) ≡ Some t → (u : Turn) × (turn_of b ≡ Some u) × (u.target ≡ t.target)
turn_kept false b t h = (t, h, refl)
turn_kept true b t h = let p = turn_parts (hand_out b) t h in again b.one_way b.target refl refl p.3 p.4
  where
    again : (w : Bool) (o : Option Identity) → b.one_way ≡ w → b.target ≡ o → w ≡ true → o ≡ Some t.target → (u : Turn) × (turn_of b ≡ Some u) × (u.target ≡ t.target)
    again true (Some x) e f g h = (record { made = b.made; receiver = b.receiver; target = x; handed = b.handed }, rw (e, f) refl, cc)
    again true None e f g h = absurd (cc)
    again false o e f g h = absurd (cc)

handed_waits : (todo : List Work) (bs : List Buffer) (made : ℕ) → Due todo made → Pairs (Waits todo) bs → Pairs (Waits todo) (changed (is_made_at made) hand_out bs)
handed_waits todo bs made due h =
    pairs_changed (Waits todo) (is_made_at made) hand_out (λ x y w. record {
      earlier = rw (made_kept (is_made_at made x) x, made_kept (is_made_at made y) y) w.earlier;
      alone = λ o r. search (arith, turn_kept);
    }) bs h
  where
    out : (y : Buffer) (c : Bool) → is_made_at made y ≡ c → Out todo (cond c (hand_out y) y) → Out todo y
    out y c e o = search (arith, eqb-true)

handed_in_turn : (n : ℕ) (bs : List Buffer) (todo more : List Work) (o : Option Buffer) → ((b : Buffer) → o ≡ Some b → Due more b.made) → ((m : ℕ) → Due todo m → Due more m) → InTurn n bs more
    → InTurn n (handed_buffers bs o) todo
handed_in_turn n bs todo more None due k h = record { below = h.below; fresh = λ m d. h.fresh m (k m d); waits = pairs_map (Waits more) (Waits todo) bs (λ b c i j w. waits_less todo more k b c w) h.waits }
handed_in_turn n bs todo more (Some x) due k h = record {
  below = λ b l. let z = in_changed (is_made_at x.made) hand_out b bs l in
      let e : b.made ≡ z.0.made = ap (λ (y : Buffer). y.made) z.2 ∙ made_kept (is_made_at x.made z.0) z.0 in
      let lt = h.below z.0 z.1 in omega arith;
  fresh = λ m d. h.fresh m (k m d);
  waits = pairs_map (Waits more) (Waits todo) (changed (is_made_at x.made) hand_out bs) (λ b c i j w. waits_less todo more k b c w) (handed_waits more bs x.made (due x refl) h.waits);
}

pub read_in_turn : (s : Space) (t : Thread) (seat left : ℕ) → InTurn (suc s.steps) s.buffers s.todo
    → (let z = read_by s seat (taken s left (list_to_read s t)) in InTurn (suc z.steps) z.buffers z.todo)
unfolding read_by
read_in_turn s t seat left h =
    let ws = taken s left (list_to_read s t) in
    handed_in_turn (suc s.steps) s.buffers (without_taken ws s.todo) s.todo (buffer_taken s ws)
    (λ b e. let d = (taken_due s ws b e).1 in (d.0, read_in s t left d.0 d.1, d.2))
    (λ m d. (d.0, (in_filter (λ (w : Work). not (list_any (λ (d : Work). is_item w d) ws)) d.0 s.todo d.1).0, d.2)) h
