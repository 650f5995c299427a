-- The gathering of all seats, and what the last state says.
use Rattle.bd_driver.proofs.{Deals.{not_taker}, Keeping.{recarry, reseat}, Views.{each_append, each_both, each_map}, Words.{AllSeats, Answer, Answered, Back, Done, Each, Empty, Entry, Final, Fits, Handed, Handover, HasTaker, History, Home, Idle, IsFinal, IsHistory, Joins, Kept, List, Mailbox, MailboxFits, Open, Option, OwnEntries, Posted, Request, RunAt, SeatState, Seen, Shut, Slot, State, View, Waiting, [], answered, ap, append-nil, arith, at_set, closed_hand, closed_view, cond, empty, eq-eqb, eqb, get_elem?, history_of, home_of, inl, inr, inside_of, map, ne_eqb, none, pending, picked, places, places_of, posted, refl, set, set_else, shut, some, some-injective, some-ne-none, subst, suc, sym, true≢false, views_of, zero, ℕ, ⊎_elim, ◌++◌, ◌+◌, ◌-◌, ◌∙◌, ◌∷◌, ◌≡◌, ◌≢◌}}

pub gathers : (seats id other : ℕ) (vs ws : List View) → Each Idle vs → Each Idle ws → Joins (Kept seats) id vs other ws (ws ++ vs) []
gathers seats id other vs ws idle idle' s h at apart at' =
    let both = ws ++ vs in
    let there : get_elem? s.views other ≡ some ws = sym (set_else s.views id other both apart) ∙ at' in
    let carrier : ℕ → ℕ = λ x. cond (eqb (h.carrier x) other) id (h.carrier x) in
    let stays : (x j : ℕ) → h.carrier x ≡ j → j ≢ other → carrier x ≡ j = λ x j is ne. ap (λ b. cond b id (h.carrier x)) (ne_eqb (h.carrier x) other (λ e. ne (sym is ∙ e))) ∙ is in
    let moves : (x : ℕ) → h.carrier x ≡ other → carrier x ≡ id = λ x is. ap (λ b. cond b id (h.carrier x)) (eq-eqb (h.carrier x) other is) in
    recarry seats s h carrier (set (set s.views id both) other []) (taker_stays h.taken_by there h.has_taker) (λ j us e. ⊎_elim
    (λ (x : (j ≡ other) × ([] ≡ us)). subst (λ (y : ℕ × List View). Each (Fits seats h.entries carrier h.taken_by h.mailboxes y.0) y.1) (λ i. (sym x.0 i, x.1 i)) tt)
    (λ (x : (j ≢ other) × (get_elem? (set s.views id both) j ≡ some us)). ⊎_elim
    (λ (y : (j ≡ id) × (both ≡ us)). subst (λ (z : ℕ × List View). Each (Fits seats h.entries carrier h.taken_by h.mailboxes z.0) z.1) (λ i. (sym y.0 i, y.1 i))
    (each_append (Fits seats h.entries carrier h.taken_by h.mailboxes id) ws vs
    (each_map (λ u. Idle u × Fits seats h.entries h.carrier h.taken_by h.mailboxes other u) (Fits seats h.entries carrier h.taken_by h.mailboxes id)
    (λ u f. reseat seats h.entries h.carrier carrier h.taken_by h.taken_by h.mailboxes other id u f.1 (moves u.who f.1.held) (λ on. absurd (true≢false (sym on ∙ f.0)))) ws (each_both Idle (Fits seats h.entries h.carrier h.taken_by h.mailboxes other) ws idle' (h.each other ws there)))
    (each_map (Fits seats h.entries h.carrier h.taken_by h.mailboxes id) (Fits seats h.entries carrier h.taken_by h.mailboxes id)
    (λ u f. reseat seats h.entries h.carrier carrier h.taken_by h.taken_by h.mailboxes id id u f (stays u.who id f.held (λ e. apart (sym e))) f.takes) vs (h.each id vs at))))
    (λ (y : (j ≢ id) × (get_elem? s.views j ≡ some us)).
    each_map (Fits seats h.entries h.carrier h.taken_by h.mailboxes j) (Fits seats h.entries carrier h.taken_by h.mailboxes j) (λ u f. reseat seats h.entries h.carrier carrier h.taken_by h.taken_by h.mailboxes j j u f (stays u.who j f.held x.0) f.takes) us (h.each j us y.1))
    (at_set s.views id j both us x.1))
    (at_set (set s.views id both) other j [] us e))
  where
    taker_stays : (taken_by : Option ℕ) → get_elem? s.views other ≡ some ws → HasTaker s.views h.mailboxes taken_by → HasTaker (set (set s.views id (ws ++ vs)) other []) h.mailboxes taken_by
    taker_stays none there t = t
    taker_stays (some j) there t =
        let one : j ≢ id = not_taker s.views id j vs t.0 at idle t.1 t.2 in
        let two : j ≢ other = not_taker s.views other j ws t.0 there idle' t.1 t.2 in
        (t.0, set_else (set s.views id (ws ++ vs)) other j [] two ∙ (set_else s.views id j (ws ++ vs) one ∙ t.1), t.2, t.3)

-- from all the views that were gathered to that of one seat
pub each_seat : (P : View → Type 0) (states : List SeatState) → Each P (views_of states) → (i : ℕ) (s : SeatState) → get_elem? states i ≡ some s → P (closed_view s.view)
each_seat P [] h i s at = absurd (some-ne-none s (sym at))
each_seat P (x ∷ xs) h zero s at = subst (λ (y : SeatState). P (closed_view y.view)) (some-injective x s at) h.0
each_seat P (x ∷ xs) h (suc i) s at = each_seat P xs h.1 i s at

-- once every seat is gathered nobody has the engine, so it is home
pub is_home : (seats : ℕ) (states : List SeatState) (s : State Slot (List View)) (k : Kept seats s) (id : ℕ) → get_elem? s.views id ≡ some (views_of states) → Each Idle (views_of states) → AllSeats seats states → k.taken_by ≡ none
is_home seats states s k id at idle all = home k.taken_by refl k.has_taker
  where
    home : (taken_by : Option ℕ) → k.taken_by ≡ taken_by → HasTaker s.views k.mailboxes taken_by → taken_by ≡ none
    home none is t = refl
    home (some j) is t =
        let taker = (k.each j (t.0 ∷ []) t.1).0 in
        let found = all t.0.who taker.below in
        let fits = each_seat (Fits seats k.entries k.carrier k.taken_by k.mailboxes id) states (k.each id (views_of states) at) found.0 found.1 found.2 in
        let here : j ≡ id = sym taker.held ∙ (ap k.carrier (sym found.3) ∙ fits.held) in
        absurd (not_taker s.views id j (views_of states) t.0 at idle t.1 t.2 here)

pub home_slot : (seats : ℕ) (s : State Slot (List View)) (k : Kept seats s) → k.taken_by ≡ none → get_elem? s.homes 0 ≡ some (some (Home (history_of seats k.entries)))
home_slot seats s k home = ap (λ hs. get_elem? hs 0) (k.homes ∙ ap (λ o. home_of seats k.entries o ∷ map inside_of k.mailboxes) home)

-- what the mailbox has pending makes up for a seat that still waits
entries_are : (seats : ℕ) (entries : List Entry) (carrier : ℕ → ℕ) (taken_by : Option ℕ) (mailboxes : List Mailbox) (id : ℕ) (v : View) → Fits seats entries carrier taken_by mailboxes id v → OwnEntries entries v
entries_are seats entries carrier taken_by mailboxes id v f = go f.mailbox f.fits_mailbox f.own
  where
    here : (r : Request) (n : ℕ) (answer : Answer) (start end : ℕ) → RunAt seats entries v.who r n answer start end → RunAt v.seats entries v.who r n answer start end
    here r n answer start end h = subst (λ z. RunAt z entries v.who r n answer start end) (sym f.seats_are) h

    go : (b : Mailbox) → MailboxFits seats entries v.who v.handover b → v.own ++ pending b ≡ places_of v.who entries → OwnEntries entries v
    go shut x o = inl (sym o ∙ append-nil v.own)
    go empty x o = inl (sym o ∙ append-nil v.own)
    go (posted r n) x o = inl (sym o ∙ append-nil v.own)
    go (picked r n start count) x o = ⊎_elim
        (λ (e : count ≡ 0). inl (sym o ∙ (ap (λ c. v.own ++ places start c) e ∙ append-nil v.own)))
        (λ (y : (answer : Answer) × RunAt seats entries v.who r n answer start (start + count)). inr (r, n, y.0, start, start + count, x.0, here r n y.0 start (start + count) y.1, sym o ∙ ap (λ c. v.own ++ places start c) (omega arith)))
        x.2
    go (answered r n (Done answer start end)) x o = inr (r, n, answer, start, end, x.0, here r n answer start end x.1, sym o)
    go (answered r n (Back back why)) x o = inl (sym o ∙ append-nil v.own)
    go (answered r n Handed) x o = absurd x.1

-- closing the mailbox says nothing else of the entries
own_of : (entries : List Entry) (v : View) → OwnEntries entries (closed_view v) → OwnEntries entries v
own_of entries v h = ⊎_elim (λ e. inl e) (λ (y : (r : Request) × (since : ℕ) × (answer : Answer) × (start : ℕ) × (end : ℕ) × (closed_hand v.handover ≡ Waiting r since) × RunAt v.seats entries v.who r since answer start end × (places_of v.who entries ≡ v.own ++ places start (end - start))).
    inr (y.0, y.1, y.2, y.3, y.4, same_hand v.handover y.0 y.1 y.5, y.6, y.7)) h
  where
    same_hand : (h : Handover) (r : Request) (since : ℕ) → closed_hand h ≡ Waiting r since → h ≡ Waiting r since
    same_hand Shut r since e = e
    same_hand Open r since e = absurd (cc)
    same_hand (Waiting q n) r since e = e

-- what the last state says of the engine in slot 0
pub ends : (seats id : ℕ) (states : List SeatState) (words : List ℕ) (slots : List Slot) (slot : Slot) → Final (Seen (Kept seats) id (views_of states)) words slots → get_elem? slots 0 ≡ some slot
    → Each Idle (views_of states) → AllSeats seats states
    → (entries : List Entry) × (slot ≡ Home (history_of seats entries)) × (IsHistory (history_of seats entries) → IsFinal seats states seats entries)
ends seats id states words slots slot f is idle all =
    let s = f.0 in
    let k = f.1.0 in
    let at = f.1.1 in
    let home = is_home seats states s k id at idle all in
    let same : slot ≡ Home (history_of seats k.entries) = some-injective _ _ (sym is ∙ f.4 0 (Home (history_of seats k.entries)) (home_slot seats s k home)) in
    let each = each_seat (Fits seats k.entries k.carrier k.taken_by k.mailboxes id) states (k.each id (views_of states) at) in
    (k.entries, same, λ lawful. record { seats_are = refl; lawful = lawful; begins = λ i x e. (each i x e).begins; own = λ i x e. own_of k.entries x.view (entries_are seats k.entries k.carrier k.taken_by k.mailboxes id (closed_view x.view) (each i x e)) })

-- `ends`, for the key and the views that `close_with` tells of.
pub ends_at : (key seats id : ℕ) (vs : List View) (states : List SeatState) (words : List ℕ) (slots : List Slot) (slot : Slot) → key ≡ seats → vs ≡ views_of states
    → Final (Seen (Kept key) id vs) words slots → get_elem? slots 0 ≡ some slot → Each Idle (views_of states) → AllSeats seats states
    → (entries : List Entry) × (slot ≡ Home (history_of seats entries)) × (IsHistory (history_of seats entries) → IsFinal seats states seats entries)
ends_at key seats id vs states words slots slot same are f is idle all =
    ends seats id states words slots slot (subst (λ (z : ℕ × List View). Final (Seen (Kept z.0) id z.1) words slots) (λ i. (same i, are i)) f) is idle all

-- the record that the engine gives
pub final_record : (seats : ℕ) (states : List SeatState) (e : History) (count : ℕ) (given : List Entry) (h : (entries : List Entry) × (Home e ≡ Home (history_of seats entries)) × (IsHistory (history_of seats entries) → IsFinal seats states seats entries))
    → (count ≡ e.seats) × (given ≡ e.entries) → IsHistory (history_of count given) → IsFinal seats states count given
final_record seats states e count given h parts lawful =
    let s : count ≡ seats = parts.0 ∙ ap (λ (x : History). x.seats) (engine_is h.1) in
    let l : given ≡ h.0 = parts.1 ∙ ap (λ (x : History). x.entries) (engine_is h.1) in
    subst (λ (z : ℕ × List Entry). IsFinal seats states z.0 z.1) (λ i. (sym s i, sym l i)) (h.2 (subst (λ (z : ℕ × List Entry). IsHistory (history_of z.0 z.1)) (λ i. (s i, l i)) lawful))
  where
    engine_in : History → Slot → History
    engine_in d (Home x) = x
    engine_in d (Posted r) = d
    engine_in d (Answered o) = d
    engine_in d Empty = d

    engine_is : {x y : History} → Home x ≡ Home y → x ≡ y
    engine_is {x} {y} p = ap (engine_in x) p

-- A record without entries is a history.
pub no_history : (seats : ℕ) (entries : List Entry) → entries ≡ [] → IsHistory (history_of seats entries)
no_history seats entries is = subst (λ l. IsHistory (history_of seats l)) (sym is) (record { short = omega arith; seats = refl; follows = tt })
