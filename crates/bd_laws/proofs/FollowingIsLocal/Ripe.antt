-- For FollowingIsLocal, with lemmas for NothingIsPending: nothing is ripe once calls have ripened. To ripen what may be ripe
-- on one object only, that object's oldest call is enough.
use Rattle.bd_laws.proofs.words.Logic.{arith, ◌≡◌, ℕ, true, false, List, [], ◌∷◌, ◌++◌, refl, ap, find}
use Rattle.bd_laws.proofs.words.Types.{Identity, Turn, Work}
use Rattle.bd_laws.proofs.words.Space.{same, Space, turns_of, is_ripe, ripened, ripen, first_due, ripen_of}
use Rattle.bd_laws.proofs.words.Laws.{In, NoneRipe}
use Rattle.bd_laws.proofs.Lists.{in_left, in_last, in_push, any_found, any_in}
use Rattle.bd_laws.proofs.Tests.{same_eq, eq_same}
use Rattle.bd_laws.proofs.FollowingIsLocal.Finding.{any_more}

-- none but those on this object
abbrev pub NoneRipeBut : Identity → List Work → List Turn → List Turn → Type 0
NoneRipeBut o todo older [] = Unit {0}
NoneRipeBut o todo older (t ∷ ts) = (same t.target o ≡ false → is_ripe todo older t ≡ false) × NoneRipeBut o todo (older ++ t ∷ []) ts

-- ---- nothing ripens

pub ripened_still : (place : ℕ) (ts older : List Turn) (todo : List Work) → NoneRipe todo older ts → ripened place older todo ts ≡ todo
ripened_still place [] older todo h = refl
ripened_still place (t ∷ ts) older todo h = search (arith, ripened_still place ts)

pub ripen_still : (z : Space) → NoneRipe z.todo [] (turns_of z.buffers) → ripen z ≡ z
unfolding ripen
ripen_still z h = ap (λ (ws : List Work). let y : Space = record z { todo = ws } in y) (ripened_still z.steps (turns_of z.buffers) [] z.todo h)

-- ---- what isn't ripe stays so

still_unripe : (todo : List Work) (w : Work) (older : List Turn) (t : Turn) → is_ripe todo older t ≡ false → is_ripe (todo ++ w ∷ []) older t ≡ false
still_unripe todo w older t h = search (arith, any_more)

module _ (place : ℕ) where
  unripe_stays : (ts more older : List Turn) (todo : List Work) (t : Turn) → is_ripe todo older t ≡ false → is_ripe (ripened place more todo ts) older t ≡ false
  unripe_stays [] more older todo t h = h
  unripe_stays (u ∷ us) more older todo t h = search (arith, unripe_stays us, still_unripe)

  ripened_none : (ts older : List Turn) (todo : List Work) → NoneRipe (ripened place older todo ts) older ts
  ripened_none [] older todo = tt
  ripened_none (t ∷ ts) older todo = search (arith, ripened_none ts, unripe_stays, any_in, in_last)

pub ripen_none : (z : Space) → NoneRipe (ripen z).todo [] (turns_of (ripen z).buffers)
unfolding ripen
ripen_none z = ripened_none z.steps (turns_of z.buffers) [] z.todo

-- ---- what ripens on one object

module _ (o : Identity) where
  but_more : (ts older : List Turn) (todo : List Work) (w : Work) → NoneRipeBut o todo older ts → NoneRipeBut o (todo ++ w ∷ []) older ts
  but_more [] older todo w h = tt
  but_more (t ∷ ts) older todo w h = ((λ e. still_unripe todo w older t (h.0 e)), but_more ts (older ++ t ∷ []) todo w h.1)

  abbrev OnObject : List Turn → Type 0
  OnObject older = (u : Turn) × In u older × (same u.target o ≡ true)

  after_none : (ts older : List Turn) (todo : List Work) → OnObject older → NoneRipeBut o todo older ts → NoneRipe todo older ts
  after_none [] older todo k h = tt
  after_none (t ∷ ts) older todo k h = search (arith, after_none ts, in_left, any_in, eq_same)

  ripened_first : (place : ℕ) (ts older : List Turn) (todo : List Work) → ((u : Turn) → In u older → same u.target o ≡ false) → NoneRipeBut o todo older ts
      → ripened place older todo ts ≡ first_due place todo (find (λ t. same t.target o) ts)
  ripened_first place [] older todo k h = refl
  ripened_first place (t ∷ ts) older todo k h = search (arith, ripened_first place ts, ripened_still, after_none, in_last, but_more, any_found, same_eq, in_push)

  pub ripen_local : (z : Space) → NoneRipeBut o z.todo [] (turns_of z.buffers) → ripen z ≡ ripen_of o z
  unfolding ripen ripen_of
  ripen_local z h = ap (λ (ws : List Work). let y : Space = record z { todo = ws } in y) (ripened_first z.steps (turns_of z.buffers) [] z.todo (λ u l. absurd l) h)
