-- Certificates of a record's history, as C is told of them.
use Rattle.std.proofs.Common.{◌≡◌, ◌∙◌, ℕ, List, false, refl, sym, subst, map, inl}
use Rattle.std.proofs.lemmas.Bool.{false≢true}
use Rattle.std.specs.Prelude.{[], ◌∷◌, Option, Some, None, is_some}
use Rattle.bd_spelling.specs.declared.record.Record.{Record}
use Rattle.bd_space.specs.Histories.{space_after}
use Rattle.bd_spelling.specs.Records.{history_in}
use Rattle.bd_journal.specs.Cut.{HasHeading}
use Rattle.bd_engine.specs.Looks.{named_by}
use Rattle.bd_audit.specs.Gifts.{IsChainOf}
use Rattle.bd_audit.specs.CallOf.{IsAnswerOf}
use Rattle.bd_audit.specs.TurnCalls.{AreTurns}
use Rattle.bd_audit.specs.declared.turns.Turn.{Turn}
use Rattle.bd_c.specs.declared.certificates.TurnTold.{TurnTold}
use Rattle.bd_c.specs.declared.status.Status.TheVariants.{Done}
use Rattle.bd_c.specs.Status.{Reports}
use Rattle.bd_c.specs.Parts.{Fetches}
use Rattle.bd_c.proofs.Judged.{has_heading}
use Rattle.bd_c.specs.Certificates.{IsHistoryOf, IsChain, Certifies, place_told, turn_told}

-- the journal of a history has a heading
pub heading_of : (bytes : List ℕ) (r : Record) → IsHistoryOf bytes r → HasHeading bytes
heading_of bytes r h = has_heading bytes r h.journal

-- a gift chain has a place
pub is_chain : (r : Record) (pid number : ℕ) (places : List ℕ) → IsChainOf (history_in r) pid number places → IsChain r pid number places
is_chain r pid number [] chain = absurd chain.chain
is_chain r pid number (i ∷ is) chain = chain

none_of : {T : Type 0} (m : Option T) → is_some m ≡ false → m ≡ None
none_of None is = refl
none_of (Some x) never = absurd (false≢true (sym never))

pub no_chain : (r : Record) (pid number : ℕ) → is_some (named_by (space_after (history_in r)) pid number) ≡ false → IsChain r pid number []
no_chain r pid number none = none_of (named_by (space_after (history_in r)) pid number) none

pub answer_told : (bytes : List ℕ) (place n call before : ℕ) (found : Option ℕ) → ((r : Record) × IsHistoryOf bytes r × IsAnswerOf (history_in r) place found)
    → call ≡ place_told found → n ≡ 0
    → Reports n (Certifies bytes (λ r. (f : Option ℕ) × IsAnswerOf (history_in r) place f × (call ≡ place_told f)) (call ≡ before))
answer_told bytes place n call before found (r, history, answer) told done = (Done, done, inl (refl, (r, history, (found, answer, told))))

pub all_told : (bytes : List ℕ) (place index n count before : ℕ) (items slice old new : List TurnTold)
    → ((r : Record) × IsHistoryOf bytes r × (ts : List Turn) × AreTurns r.entries (record { place = place; index = index }) ts × (items ≡ map turn_told ts))
    → slice ≡ items → Fetches slice old new count → n ≡ 0
    → Reports n (Certifies bytes (λ r. (ts : List Turn) × AreTurns r.entries (record { place = place; index = index }) ts × Fetches (map turn_told ts) old new count)
    ((new ≡ old) × (count ≡ before)))
all_told bytes place index n count before items slice old new (r, history, ts, turns, are) same fetched done =
    (Done, done, inl (refl, (r, history, (ts, turns, subst (λ (l : List TurnTold). Fetches l old new count) (same ∙ are) fetched))))

pub chain_told : (bytes : List ℕ) (pid number n count before : ℕ) (places slice old new : List ℕ) → ((r : Record) × IsHistoryOf bytes r × IsChain r pid number places)
    → slice ≡ places → Fetches slice old new count → n ≡ 0
    → Reports n (Certifies bytes (λ r. (ps : List ℕ) × IsChain r pid number ps × Fetches ps old new count) ((new ≡ old) × (count ≡ before)))
chain_told bytes pid number n count before places slice old new (r, history, chain) same fetched done =
    (Done, done, inl (refl, (r, history, (places, chain, subst (λ (l : List ℕ). Fetches l old new count) same fetched))))
