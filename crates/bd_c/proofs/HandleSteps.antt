-- A handle by value. Assumes `Logic`.
use Rattle.std.proofs.Common.{◌≡◌, ℕ, List, [], ◌∷◌, ◌++◌, refl, subst}
use seplogic.Ra.Ura.{Ura}
use mir.Val.{Val, vptr, vcons, vnil, vstruct, of_list}
use mir.Raw.{raw as bare}
use base.Logic.{ent, via, guard, guard_i, fst∗, snd∗, never}
use types.Logic.{Logic, sem}
use types.Kit.{Item, Goal, Seq, Step, step, given, ‵, ◌$◌, drop, fsplit, fjoin, fpick, fpack, learn, rewrite, feq_i, feq_l, use1}
use contract.Monad.{fact_use}
use denote.RattleType.{Valss}
use denote.Builtin.{RawPtr}
use base.Fraction.{full_share}
use denote.Memory.{lone}
use denote.RawPtr.{Ptr, block_ptr, null_ptr, ptr_val, in_a_block, lies_at, Testable}
use denote.Steps.{nothing}
use denote.Struct.Struct.{within}
use denote.Struct.Owning.{shape}
use Rattle.std.specs.Prelude.{Option, Some, None}
use Rattle.std.proofs.GlobalToken.{dealloc_token-Testable}
use Rattle.std_alloc.specs.Box.Ownership.{box_owns}
use Rattle.bd_c.specs.Owned.{owned, chunk}
use Rattle.bd_c.specs.declared.held.Held.{Held}
use Rattle.bd_c.specs.contracts.held.Held as held
use Rattle.bd_c.specs.contracts.handles.Handle as handle

abbrev pub word_of : Val → Val
word_of v = vstruct (vcons v vnil)

-- what a handle leads to may be compared with null
module _ {M : Type 1} {𝓤 : Ura M} (𝓛 : Logic 𝓤) (p : Ptr) (x : Held) where
  testable : ent 𝓤 (sem 𝓛 (box_owns chunk held.the_row p x)) (guard 𝓤 (Testable p) (sem 𝓛 (box_owns chunk held.the_row p x)))
  testable =
      fact_use 𝓤 (Testable p) (via 𝓤 _ (snd∗ 𝓤 (sem 𝓛 (lies_at held.the_row full_share p x)) (sem 𝓛 (chunk (bare (lone held.the_row.mir)) p)))
      (dealloc_token-Testable 𝓛 (record { memory = record { seal = tt } }) (bare (lone held.the_row.mir)) p)) (guard_i 𝓤 (Testable p) (sem 𝓛 (box_owns chunk held.the_row p x)))

module _ {M : Type 1} {𝓤 : Ura M} {𝓛 : Logic 𝓤} {K : Type 0} {Γ : List (Item 𝓤)} {G : Goal 𝓤 𝓛.H} where
  pub handle_out : K → (h : handle.the_row.Denot) (x : Held) (vs : List Val) → h.held ≡ Some x
      → ((b o : ℕ) → h.at ≡ block_ptr b o → vs ≡ word_of (vptr b o) ∷ [] → Seq K 𝓛 (‵ (box_owns chunk held.the_row (block_ptr b o) x) ∷ Γ) G) → Seq K 𝓛 (‵ (handle.the_row.own_val h vs) ∷ Γ) G
  unfolding owned
  handle_out t h x vs is k =
      fsplit t $ fpick t (λ vss. fsplit t $ feq_l t (λ ev. fsplit t $ feq_l t (λ ep. drop t $ rewrite t 0 (λ (m : Option Held). ‵ (owned m h.at)) is refl $
      in_a_block t h.at (λ p. box_owns chunk held.the_row p x) (fst∗ 𝓤 (never 𝓤) (sem 𝓛 (chunk (bare (lone held.the_row.mir)) null_ptr))) (λ b o e. k b o e
      (subst (λ (p : Ptr). vs ≡ vstruct (of_list (ptr_val p ∷ [])) ∷ []) e (subst (λ (ps : List Val). vs ≡ vstruct (of_list (ps ++ [])) ∷ []) ep ev))))))

  -- a handle that has nothing is null, and one that has something isn't
  pub handle_by : K → (h : handle.the_row.Denot) (vs : List Val) (m : Option Held) → h.held ≡ m
      → (h.held ≡ None → h.at ≡ null_ptr → vs ≡ word_of (ptr_val null_ptr) ∷ [] → Seq K 𝓛 Γ G)
      → ((x : Held) (b o : ℕ) → h.held ≡ Some x → h.at ≡ block_ptr b o → vs ≡ word_of (vptr b o) ∷ [] → Testable (block_ptr b o) → Seq K 𝓛 (‵ (box_owns chunk held.the_row (block_ptr b o) x) ∷ Γ) G)
      → Seq K 𝓛 (‵ (handle.the_row.own_val h vs) ∷ Γ) G
  unfolding owned
  handle_by t h vs None is none some =
      fsplit t $ fpick t (λ vss. fsplit t $ feq_l t (λ ev. fsplit t $ feq_l t (λ ep. drop t $ rewrite t 0 (λ (m : Option Held). ‵ (owned m h.at)) is refl $ feq_l t (λ e. none is e
      (subst (λ (p : Ptr). vs ≡ vstruct (of_list (ptr_val p ∷ [])) ∷ []) e (subst (λ (ps : List Val). vs ≡ vstruct (of_list (ps ++ [])) ∷ []) ep ev))))))
  handle_by t h vs (Some x) is none some =
      handle_out t h x vs is (λ b o e word. let B = box_owns chunk held.the_row (block_ptr b o) x in
      use1 𝓛 (given (Testable (block_ptr b o)) (‵ B)) (testable 𝓛 (block_ptr b o) x) $ learn t (λ may. some x b o is e word may))

  pub handle_in : K → (b o : ℕ) (x : Held) → Step K 𝓛 (‵ (handle.the_row.own_val (record { at = block_ptr b o; held = Some x }) (word_of (vptr b o) ∷ [])) ∷ Γ) G (‵ (box_owns chunk held.the_row (block_ptr b o) x) ∷ Γ) G
  unfolding owned
  handle_in t b o x = step (λ s. let v : Val = word_of (vptr b o) in
      nothing t $ feq_i t (List Val) (vptr b o ∷ []) (vptr b o ∷ []) refl $ fjoin t $ feq_i t (List Val) (v ∷ []) (v ∷ []) refl $ fjoin t $
      fpack t (Valss (RawPtr ∷ [])) (within (shape handle.the_type) (block_ptr b o, tt) (v ∷ [])) (vptr b o ∷ [], tt) $ fjoin t $ s)

  pub none_in : K → Step K 𝓛 (‵ (handle.the_row.own_val (record { at = null_ptr; held = None }) (word_of (ptr_val null_ptr) ∷ [])) ∷ Γ) G Γ G
  unfolding owned
  none_in t = step (λ s. let v : Val = word_of (ptr_val null_ptr) in
      feq_i t Ptr null_ptr null_ptr refl $ nothing t $ feq_i t (List Val) (ptr_val null_ptr ∷ []) (ptr_val null_ptr ∷ []) refl $ fjoin t $ feq_i t (List Val) (v ∷ []) (v ∷ []) refl $ fjoin t $
      fpack t (Valss (RawPtr ∷ [])) (within (shape handle.the_type) (null_ptr, tt) (v ∷ [])) (ptr_val null_ptr ∷ [], tt) $ fjoin t $ s)
