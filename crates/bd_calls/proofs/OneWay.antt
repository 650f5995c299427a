-- The one-way calls of changed buffers.
use Rattle.std.proofs.Common.{◌≡◌, ◌==◌, ◌<◌, ℕ, All, Bool, false, List, [], ◌∷◌, ◌++◌, Option, Some, None, refl, ap, sym, subst, ◌∙◌, filter, arith}
use Rattle.std.proofs.{lemmas.Bool.{eqb-true}, lemmas.List.Elements.{All-head, All-tail, filter_map-append}}
use Rattle.std.specs.Option.{is_some, option_map, option_to_list, option_and_then}
use Rattle.bd_ways.specs.Words.{Buffer, Turn, changed, is_some_and, list_any}
use Rattle.bd_keys.proofs.Found.{any_some, found_passes}
use Rattle.bd_ways.proofs.Ranges.{changed_none}
use Rattle.bd_space.specs.{Turns.{turn_of, turns_of}, Freeing.{is_made_at}, Returns.{buffer_in}, ReadItems.{hand_out, handed_buffers}}
use Rattle.bd_turns.specs.{declared.table.TurnTable.{TurnTable}, Stands.{TurnsAre}, Turn.{hand_turn}}
use Rattle.bd_calls.specs.Turn.{handed_turns}

-- ---- one more

pub turns_add : (bs : List Buffer) (b : Buffer) → turns_of (bs ++ b ∷ []) ≡ turns_of bs ++ option_to_list (turn_of b)
turns_add bs b = grind (arith, filter_map-append turn_of bs (b ∷ []))

-- ---- some go

turns_left : (p : Buffer → Bool) (q : Turn → Bool) → ((b : Buffer) (t : Turn) → turn_of b ≡ Some t → q t ≡ p b) → (bs : List Buffer)
    → turns_of (filter p bs) ≡ filter q (turns_of bs)
turns_left p q h [] = refl
turns_left p q h (b ∷ bs) = grind (arith, h b, turns_left p q h bs)

pub left_stand : (t : TurnTable) (p : Buffer → Bool) (q : Turn → Bool) → ((b : Buffer) (u : Turn) → turn_of b ≡ Some u → q u ≡ p b) → (bs : List Buffer)
    → TurnsAre t (filter q (turns_of bs)) → TurnsAre t (turns_of (filter p bs))
left_stand t p q h bs = subst (TurnsAre t) (sym (turns_left p q h bs))

-- ---- some change

turns_changed : (p : Buffer → Bool) (f : Buffer → Buffer) (q : Turn → Bool) (g : Turn → Turn) → ((b : Buffer) → turn_of (f b) ≡ option_map g (turn_of b))
    → ((b : Buffer) (t : Turn) → turn_of b ≡ Some t → q t ≡ p b) → (bs : List Buffer) → turns_of (changed p f bs) ≡ changed q g (turns_of bs)
turns_changed p f q g k h [] = refl
turns_changed p f q g k h (b ∷ bs) = grind (arith, k b, h b, turns_changed p f q g k h bs)

-- ---- what a one-way call has of its buffer

turn_handed : (b : Buffer) → turn_of (hand_out b) ≡ option_map hand_turn (turn_of b)
turn_handed b = grind arith

pub turn_is_of : (b : Buffer) (t : Turn) → turn_of b ≡ Some t → (t.made ≡ b.made) × (t.receiver ≡ b.receiver)
turn_is_of b t h = grind (arith, h)

turn_made : (b : Buffer) (t : Turn) → turn_of b ≡ Some t → t.made ≡ b.made
turn_made b t h = (turn_is_of b t h).0

-- no one-way call was made where a later buffer is
none_later : (made : ℕ) (bs : List Buffer) → All (λ b. b.made < made) bs → list_any (λ t. t.made == made) (turns_of bs) ≡ false
none_later made [] before = refl
none_later made (b ∷ bs) before =
    let earlier = λ (c : Buffer). c.made < made in
    grind (arith, turn_made b, All-head earlier b bs before, none_later made bs (All-tail earlier b bs before))

pub turn_new : (bs : List Buffer) (b : Buffer) → All (λ c. c.made < b.made) bs → is_some_and (turn_of b) (λ t. list_any (λ u. u.made == t.made) (turns_of bs)) ≡ false
turn_new bs b before = of (turn_of b) refl
  where
    of : (o : Option Turn) → turn_of b ≡ o → is_some_and o (λ t. list_any (λ u. u.made == t.made) (turns_of bs)) ≡ false
    of None e = refl
    of (Some t) e = ap (λ m. list_any (λ (u : Turn). u.made == m) (turns_of bs)) (turn_made b t e) ∙ none_later b.made bs before

-- ---- the buffer that is handed out

handed_in : (bs : List Buffer) (made : ℕ) (o : Option Buffer) → buffer_in bs made ≡ o → handed_buffers bs o ≡ changed (is_made_at made) hand_out bs
handed_in bs made None h = sym (changed_none (is_made_at made) hand_out bs (any_some (is_made_at made) bs ∙ ap is_some h))
handed_in bs made (Some b) h = ap (λ m. changed (is_made_at m) hand_out bs) (eqb-true b.made made (found_passes (is_made_at made) bs b h))

pub turns_handed : (bs : List Buffer) (made : Option ℕ) → turns_of (handed_buffers bs (option_and_then (buffer_in bs) made)) ≡ handed_turns made (turns_of bs)
turns_handed bs None = refl
turns_handed bs (Some made) =
    ap turns_of (handed_in bs made (buffer_in bs made) refl)
    ∙ turns_changed (is_made_at made) hand_out (λ t. t.made == made) hand_turn turn_handed (λ b t h. ap (λ m. m == made) (turn_made b t h)) bs
