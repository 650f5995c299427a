-- For OneAtATime, OneWayCallsAreDueInTurn and SpacesAreTidy: in every history the one-way calls are in turn.
use Rattle.bd_laws.proofs.words.Logic.{◌≡◌, ℕ, suc, ◌≤◌, true, ◌&&◌, List, [], ◌∷◌, Option, Some, inl, refl, sym, ◌∙◌, filter, length, arith, cons_option, eqb-true}
use Rattle.bd_laws.proofs.words.Types.{Identity, Step, Entry, Buffer, Turn, Work, WorkKind}
use Rattle.bd_laws.proofs.words.Space.{same, Space, opening, is_call, hands_out, turn_of, turns_of, counted, next}
use Rattle.bd_laws.proofs.words.Laws.{is_out, out_on, In, Pairs, Waits, InTurn, IsInTurn}
use Rattle.bd_laws.proofs.Lists.{in_filter, any_found, in_filter_map, pairs_map, pairs_filter}
use Rattle.bd_laws.proofs.Tests.{both, same_eq, eq_same}
use Rattle.bd_laws.proofs.Checks.{reply_checked}
use Rattle.bd_laws.proofs.Machine.EveryStep.{Keeps, every_step}
use Rattle.bd_laws.proofs.IsInTurn.OneWay
use Rattle.bd_laws.proofs.IsInTurn.OneWay.{Less, HandsNothing, less_table, less_exits, less_closes, in_turn_less, more_steps}
use Rattle.bd_laws.proofs.Machine.Table.{keeps_by}
use Rattle.bd_laws.proofs.IsInTurn.Ripening.{ripen_in_turn, read_in_turn}

-- ---- every step

abbrev pub Turning : Space → Type 0
Turning z = InTurn (suc z.steps) z.buffers z.todo

pub kept : (s : Space) (seat : ℕ) (x : Step) → InTurn s.steps s.buffers s.todo → Keeps s seat x Turning Turning
kept s seat x h =
    let now : Turning s = more_steps s.steps (suc s.steps) s.buffers s.todo (omega arith) h in
    keeps_by Less HandsNothing less_table s seat x Turning (λ z l. in_turn_less z s l now) less_exits less_closes in_turn_less (λ r. refl) (λ r. refl) (record {
      transacts = λ a d parcel v e i t. OneWay.transacted_in_turn s a d v h;
      replies = λ a d parcel f v e i g t. OneWay.replied_in_turn s a d f v (reply_checked s a d parcel f v t).one_way h;
      reads = λ a limit e i n. read_in_turn s a.thread a.thread.seat _ now;
      ripens = λ z. ripen_in_turn z;
    })

pub step_in_turn : (s : Space) (e : Entry) → IsInTurn s → IsInTurn (next s e)
unfolding counted
step_in_turn s e h = every_step s e.seat e.step Turning Turning (kept s e.seat e.step h)

pub opening_in_turn : IsInTurn opening
opening_in_turn = record { below = λ b l. absurd l; fresh = λ m d. absurd d.1; waits = tt }

-- ---- one of an object's calls is out

pub at_most_one : {A : Type 0} (xs : List A) → Pairs (λ x y. ⊥) xs → length xs ≤ 1
at_most_one [] h = omega arith
at_most_one (x ∷ []) h = omega arith
at_most_one (x ∷ y ∷ ys) h = absurd (h.0 y (inl refl))

abbrev pub Alone : List Work → Turn → Turn → Type 0
Alone todo t u = is_out todo u ≡ true → same t.target u.target ≡ true → ⊥

pub is_call_hands : (m : ℕ) (k : WorkKind) → is_call m k ≡ true → hands_out k ≡ Some m
is_call_hands m k i = search (arith, eqb-true)

alone_cons : (todo : List Work) (o : Option Turn) (b : Buffer) (bs : List Buffer) → turn_of b ≡ o → ((c : Buffer) → In c bs → Waits todo b c)
    → Pairs (Alone todo) (turns_of bs) → Pairs (Alone todo) (cons_option o (turns_of bs))
alone_cons todo o b bs e h k = search (arith, in_filter_map, any_found, is_call_hands)

pub turns_alone : (todo : List Work) (bs : List Buffer) → Pairs (Waits todo) bs → Pairs (Alone todo) (turns_of bs)
turns_alone todo [] h = tt
turns_alone todo (b ∷ bs) h = alone_cons todo (turn_of b) b bs refl h.0 (turns_alone todo bs h.1)

pub one_out : (o : Identity) (s : Space) → IsInTurn s → length (out_on o s) ≤ 1
one_out o s h =
    let test = λ (t : Turn). same t.target o && is_out s.todo t in
    at_most_one (filter test (turns_of s.buffers))
    (pairs_map (Alone s.todo) (λ t u. ⊥) (filter test (turns_of s.buffers))
    (λ t u i j k.
    let p = both (same t.target o) (is_out s.todo t) (in_filter test t (turns_of s.buffers) i).1 in
    let q = both (same u.target o) (is_out s.todo u) (in_filter test u (turns_of s.buffers) j).1 in
    k q.1 (eq_same t.target u.target (same_eq t.target o p.0 ∙ sym (same_eq u.target o q.0))))
    (pairs_filter (Alone s.todo) test (turns_of s.buffers) (turns_alone s.todo s.buffers h.waits)))
