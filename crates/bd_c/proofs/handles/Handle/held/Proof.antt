-- `held` compares the pointer with null, and lends what it leads to.
use Rattle.std.proofs.Common.{◌≡◌, ℕ, List, [], ◌∷◌, refl, sym, lit<}
use base.Fraction.{full_share}
use mir.Syntax.{named}
use mir.Raw.{raw as bare}
use mir.Val.{Val, vptr, vcons, vnil}
use base.Logic.{ent, sep, id⊢}
use base.Fml.{GName, Fml, ftrue, flft, fres, fsep}
use seplogic.Ra.Ura.{Ura}
use types.Logic.{Logic, sem}
use types.Kit.{‵, raw, ◌⊛◌, some, later, at_ret, ◌$◌, ◌∵◌, !, qed, done, move, keep, split, split3, join, fsplit, fsplit3, fjoin, fpack, pick, suffices, use1, await, rewrite, use0, frame, group}
use types.Match.{live}
use types.Part.{agg, whole, sub, look_in}
use types.Run.{stop, fld, load, lit, bin, of_opd, addr, no_more, and_then, first, blocks, branches, skips, exec, returns, returns_within, enter}
use types.ByLocal.{alloc_all, pass_all, free_all, look_at, get, through, sets, sets_last, env}
use contract.Running.{tables}
use denote.Exit.{no}
use denote.Follow.{follows, follows_by, Part, lends_Part}
use denote.Memory.{lone, part_at, mem, cell_at, part_of}
use denote.RawPtr.{Ptr, block_ptr, null_ptr, ptr_val, tests_null}
use denote.Ref.{MutRef, MutBor, mut_vals, mut_Tells}
use denote.Signature.{plain, mut_ref_to}
use denote.Steps.{nothing, opens, closes}
use denote.Triple.Walked.{says, Stays, stay_dropped, walk_of, ends_at, Goes-spent_ref}
use Rattle.std.proofs.raw_atomic.Walks.{proved}
use Rattle.std.proofs.VecSteps.Shapes.{after}
use Rattle.core.specs.contracts.option.Option as option
use Rattle.core.proofs.option.Made.{Some-of, none_of}
use Rattle.std.specs.Prelude.{Option, Some, None}
use Rattle.bd_c.specs.Lending.{holding}
use Rattle.bd_c.specs.Owned.{chunk}
use Rattle.bd_c.specs.declared.handles.Handle.{Handle}
use Rattle.bd_c.specs.declared.held.Held.{Held}
use Rattle.bd_c.specs.contracts.handles.Handle.held as f
use Rattle.bd_c.specs.contracts.handles.Handle.{the_row as R}
use Rattle.bd_c.specs.contracts.held.Held.{the_row as T}
use Rattle.bd_c.proofs.HandleSteps.{handle_by, handle_in, none_in, word_of}
use Rattle.bd_c.proofs.handles.Handle.held.Statement.{statement}
use Rattle.bd_c.proofs.handles.Handle.held.Code as code

abbrev stayed : Stays f.ended.signature.params f.ended.kept
stayed = (stay_dropped (mut_ref_to (0 ∷ []) tt (plain (λ _. R))) no, tt)

-- all that the handle owns but what is lent
abbrev Rest : ℕ → ℕ → ℕ → ℕ → Fml
Rest rb ro b o = fsep (chunk (bare (lone T.mir)) (block_ptr b o)) (cell_at full_share R.mir (word_of (vptr b o) ∷ []) rb ro)

back : {M : Type 1} {𝓤 : Ura M} (𝓛 : Logic 𝓤) (h : Handle) (rb ro b o : ℕ) → h.at ≡ block_ptr b o → (w : Held)
    → ent 𝓤 (sep 𝓤 (sem 𝓛 ((mem T).own_at w b o)) (sem 𝓛 (Rest rb ro b o))) (sem 𝓛 ((mem R).own_at (holding h w) rb ro))
unfolding part_of
back 𝓛 h rb ro b o e w =
    qed 𝓛 (‵ (part_at T full_share w b o) ∷ ‵ (Rest rb ro b o) ∷ []) ∵ move ! (1 ∷ []) $ fsplit ! $ move ! (2 ∷ 0 ∷ []) $ fjoin ! $
    handle_in ! b o w $ rewrite ! 0 (λ (p : Ptr). ‵ (R.own_val (record { at = p; held = Some w }) (word_of (vptr b o) ∷ []))) (sym e) refl $
    move ! (1 ∷ 0 ∷ []) $ fjoin ! $ fpack ! (List Val) (λ us. fsep (cell_at full_share R.mir us rb ro) (R.own_val (holding h w) us)) (word_of (vptr b o) ∷ []) $ done !

pub held_spec : {M : Type 1} → statement M
unfolding follows_by
held_spec 𝓤 𝓛 𝓜 𝓡 wired =
    let c = f.clauses 𝓛 𝓜.mem 𝓡.returns in let W = walk_of 𝓛 f.ended stayed c in let 𝓣 = tables 𝓤 𝓛.H 𝓜 𝓡 𝓡.env in
    proved 𝓛 f.ended stayed c 𝓜 𝓡 (Goes-spent_ref 𝓛 1 (0 ∷ []) tt (plain (λ _. R)), tt)
    f.Key.name code.function (code.unfolded 𝓤 𝓛.H 𝓜 𝓡 wired)
    (λ κs. (mut_vals, tt)) (λ κs. (mut_Tells (named 0) κs.0 R, tt)) (λ κs qs bounds a _ are.
    let κ = κs.0 in let q = qs.0 in let rb = a.0.ref_ptr.0 in let ro = a.0.ref_ptr.1 in let γ = a.0.ghost_name in let h : Handle = a.0.now in let vs = mut_vals a.0 in
    let y : W.Ghost = ((κs, qs, bounds, a, (vs, tt)), tt) in let Lent = MutRef (named 0) κ T in let Out = option.the_row Lent in
    qed 𝓛 (((‵ (flft κ q) ⊛ ‵ ftrue) ⊛ ‵ ((MutRef (named 0) κ R).own_val a.0 vs) ⊛ ‵ ftrue) ∷ ‵ ftrue ∷ []) ∵
    split ! $ split ! $ move ! (2 ∷ []) $ split ! $ keep ! (0 ∷ 2 ∷ []) $
    enter ! _ _ _ _ _ $ alloc_all ! (λ l. pass_all ! refl ((tt, tt), tt) $
    fsplit3 ! $ move ! (1 ∷ 2 ∷ 3 ∷ []) $ opens ! tt R rb ro (λ us. move ! (1 ∷ []) $ handle_by ! h us h.held refl
    (λ is at word. let none : Option Held = None in let bare_handle : Handle = record { at = null_ptr; held = none } in let same : bare_handle ≡ h = λ i. record { at = sym at i; held = sym is i } in
    rewrite ! 0 (λ (ws : List Val). ‵ (cell_at full_share R.mir ws rb ro)) word refl $
    -- [the handle's cell; the open borrow, in three entries]
    sets ! (of_opd ! (load ! (through ! refl (fld ! refl (stop !))) (look_in ! 0 (sub ! 0 refl (whole !))))) refl (tt, record { fits = lit< tt }) $
    sets ! (bin ! (get ! refl) (lit ! tt) tt) refl (tt, tt) $
    first ! $ branches ! (get ! refl)
    (λ _. sets ! (agg ! (and_then ! (lit ! tt) (no_more !))) refl (tt, (record { fits = lit< tt }, tt)) $
    none_in ! $ move ! (1 ∷ 0 ∷ []) $ closes ! tt R bare_handle (word_of (ptr_val null_ptr) ∷ []) rb ro $
    use1 𝓛 (‵ (fres γ (R.coded.code bare_handle))) (𝓛.names.obs-res γ (R.coded.code bare_handle)) $
    rewrite ! 0 (λ (g : Handle). ‵ (fres γ (R.coded.code g))) same refl $
    use0 𝓛 (‵ (Out.own_val None (live 0 vnil ∷ []))) (none_of 𝓛 Lent) $
    returns_within ! (W.post y) refl (look_at ! 0 refl) $ free_all ! refl $ keep ! (0 ∷ 1 ∷ 3 ∷ []) $
    suffices ! _ (ends_at 𝓛 f.ended stayed c y (live 0 vnil) None (tt, tt) (tt, tt)) $
    nothing ! $ nothing ! $ fjoin ! $ join ! $ nothing ! $ move ! (3 ∷ 0 ∷ []) $ join ! $ join ! $ frame ! $ says ! is $ done !)
    (λ wrong. absurd wrong))
    (λ x b o is e word may. fsplit ! $
    rewrite ! 2 (λ (ws : List Val). ‵ (cell_at full_share R.mir ws rb ro)) word refl $
    -- [what is behind it; the right to free it; the handle's cell; the open borrow, in three entries]
    sets ! (of_opd ! (load ! (through ! refl (fld ! refl (stop !))) (look_in ! 2 (sub ! 0 refl (whole !))))) refl (tt, tt) $
    sets ! (bin ! (get ! refl) (lit ! tt) (tests_null (block_ptr b o) may)) refl (tt, tt) $
    first ! $ branches ! (get ! refl)
    (λ wrong. absurd wrong)
    (λ _. skips ! $ exec ! 𝓣.C 𝓣.Λ (env code.Mir.locals l) (after 3 (code.function).body) (at_ret (env (code.function).locals l) (W.post y)) $
    first ! $ blocks ! $
    sets ! (of_opd ! (load ! (through ! refl (fld ! refl (stop !))) (look_in ! 2 (sub ! 0 refl (whole !))))) refl (tt, tt) $
    sets ! (of_opd ! (get ! refl)) refl (tt, tt) $
    sets_last ! (addr ! (through ! refl (stop !))) refl (tt, tt) $
    exec ! 𝓣.C 𝓣.Λ (env code.Mir.locals l) (after 4 (code.function).body) (at_ret (env (code.function).locals l) (W.post y)) $
    sets ! (of_opd ! (get ! refl)) refl (tt, tt) $
    sets ! (agg ! (and_then ! (lit ! tt) (and_then ! (get ! refl) (no_more !)))) refl (tt, (record { fits = lit< tt }, (tt, tt))) $
    move ! (1 ∷ 2 ∷ []) $ fjoin ! $ move ! (2 ∷ 3 ∷ 4 ∷ 1 ∷ 0 ∷ []) $ group ! 5 $
    let kept = sem 𝓛 (Rest rb ro b o) in let returned = back 𝓛 h rb ro b o e in
    use1 𝓛 (later (some (λ (γ' : GName). raw (Part 𝓛 R T (holding h) (named 0) κ q rb ro b o γ kept returned x γ'))))
    (lends_Part 𝓛 R T (holding h) (named 0) κ q rb ro b o γ kept returned (R.coded.code h) (R.coded.code h) x) $ await ! tt $ pick ! (λ γ'.
    let r : MutBor Held = record { ref_ptr = (b, o); ghost_name = γ'; now = x } in
    use1 𝓛 (‵ (Lent.own_val r (vptr b o ∷ [])) ⊛ ‵ (flft κ q) ⊛ ‵ (follows R T γ γ' (holding h))) (id⊢ 𝓤 _) $ split3 ! $
    use1 𝓛 (‵ (Out.own_val (Some r) (live 1 (vcons (vptr b o) vnil) ∷ []))) (Some-of 𝓛 Lent r (vptr b o)) $
    returns ! (look_at ! 0 refl) $ free_all ! refl $ keep ! (0 ∷ 1 ∷ 2 ∷ []) $
    suffices ! _ (ends_at 𝓛 f.ended stayed c y (live 1 (vcons (vptr b o) vnil)) (Some r) (tt, tt) (tt, tt)) $
    nothing ! $ nothing ! $ fjoin ! $ join ! $ nothing ! $ move ! (2 ∷ 0 ∷ []) $ join ! $ join ! $ frame ! $ says ! is $ done !))))))
