-- The block goes to the inner allocator: `deallocate_spec`, by a walk over the steps of the body.
-- Assumes `Logic`.
use Rattle.std.proofs.Common.{◌≡◌, [], ◌∷◌, ◌++◌, refl, w64}
use Rattle.std.proofs.alloc.Calls.{Al, seen, token, Gives, at_gives, Gives-goes, Gives-Gives}
use Rattle.std.proofs.raw_atomic.Walks.{proved}
use Rattle.test_kit.proofs.Places.{self, inner_at}
use Rattle.test_kit.specs.contracts.refusing.RefusingAllocator.deallocate as F
use Rattle.test_kit.specs.contracts.refusing.RefusingAllocator.deallocate.Key as key
use Rattle.test_kit.proofs.refusing.RefusingAllocator.deallocate.Statement.{statement}
use Rattle.test_kit.proofs.refusing.RefusingAllocator.deallocate.Code as code
use mir.MapTy.{inst_fn}
use mir.Syntax.{a_type, dnil, dcons}
use mir.Val.{vunit, vint}
use base.Fml.{Fml, ftrue, fsep, flft}
use base.Logic.{never, fst∗, id⊢}
use prog.Memory.{size, align, capped}
use prog.Wp.{WpFn}
use types.Logic.{sem}
use contract.BorrowLft.{◌⊑◌, ⊑_trans}
use contract.Monad.{fact}
use contract.Running.{tables}
use types.Kit.{‵, raw, ◌⊛◌, given, later, prop, ◌$◌, ◌∵◌, !, qed, move, keep, use1, split, split3, join, learn, fsplit, fjoin, feq_i, regoal, suffices, await, done}
use types.Run.{stop, fld, addr, unit_lit, of_opd, no_more, and_then, returns, enter}
use types.ByLocal.{alloc_all, pass_all, free_all, look_at, get, through, sets, lands_as}
use denote.Builtin.{usize, RawPtr}
use denote.Exit.{yes}
use denote.Opens.{unhide}
use denote.Param.{bounded}
use denote.Plain.{uint_vals, uint_Tells}
use denote.RattleType.{Valss, owns}
use denote.RawPtr.{Ptr, block_ptr, null_ptr, ptr_val, room_for, in_a_block, rawptr_vals, rawptr_Tells}
use denote.Ref.{shr_vals}
use denote.Signature.{plain, types_at}
use denote.Steps.{heard, nothing}
use denote.Triple.Call.{calls_at}
use denote.Triple.Table.{framed}
use denote.Triple.Walked.{Stays, stay_dropped, walk_of, ends_at, Goes-dropped}

-- `deallocate` does what its contract states
pub deallocate_spec : {M : Type 1} → statement M
deallocate_spec 𝓤 𝓛 𝓜 𝓡 wired A L g d e met _ =
    let Z : Al = record { row = A; laws = L; g = g; d = d; drops = e } in
    let c = F.clauses A g d e 𝓛 𝓜.mem 𝓡.returns in let En = F.ended A g d e in
    let inst = bounded (a_type ∷ []) (A, tt) (dcons d (dcons e dnil)) in let fn = inst_fn inst code.function in
    let 𝓣 = tables 𝓤 𝓛.H 𝓜 𝓡 𝓡.env in let G = Gives Z 𝓛 𝓜.mem 𝓡.returns in
    let number = plain (λ _. usize) in let pointer = plain (λ _. RawPtr) in
    let hs : Stays En.signature.params En.kept = (
      stay_dropped (self A) yes,
      (stay_dropped pointer yes, (stay_dropped number yes, (stay_dropped number yes, tt))),
    ) in
    let number_goes = Goes-dropped 𝓛 2 number yes (λ κs x w. refl) in
    proved 𝓛 En hs c 𝓜 𝓡 (
      Goes-dropped 𝓛 2 (self A) yes (λ κs x w. refl),
      (
        Goes-dropped 𝓛 2 pointer yes (λ κs x w. refl),
        (number_goes, (number_goes, tt)),
      ),
    )
    (key.name inst) fn (code.unfolded 𝓤 𝓛.H 𝓜 𝓡 wired (A, tt) d e)
    (λ κs. (shr_vals, (rawptr_vals, (uint_vals w64, (uint_vals w64, tt)))))
    (λ κs. ((λ r vs is. is.0), (rawptr_Tells, (uint_Tells w64, (uint_Tells w64, tt)))))
    (λ κs qs bounds a τ are.
    let κ = κs.0 in let ρ = κs.1.0 in let q = qs.0 in let h = a.0.now.inner in let at = inner_at A a.0.ref_ptr in
    let n = a.1.1.0 in let m = a.1.1.1.0 in let fn64 = are.1.1.0.1 in let fm64 = are.1.1.1.0.1 in
    let vals : Ptr → Valss (types_at En.signature.params κs) =
    λ p. (shr_vals a.0, (rawptr_vals p, (vint w64 n ∷ [], (vint w64 m ∷ [], tt)))) in
    let y : Ptr → (walk_of 𝓛 En hs c).Ghost = λ p. ((κs, qs, bounds, (a.0, (p, a.1.1)), vals p), τ) in
    let block : Ptr → Fml = λ p. fsep (room_for τ p) (token Z h τ p) in
    qed 𝓛 (((‵ (flft κ q) ⊛ ‵ (flft ρ qs.1.0) ⊛ ‵ ftrue) ⊛ ‵ (owns (types_at En.signature.params κs) a (vals a.1.0)))
    ∷ (raw (fact 𝓤 (ρ ⊑ A.lives)) ⊛ raw (fact 𝓤 ((capped (size τ) ≡ n) × (capped (align τ) ≡ m))) ⊛ ‵ (block a.1.0)) ∷ []) ∵
    move ! (1 ∷ []) $ split3 ! $ heard ! _ (λ le. heard ! _ (λ said.
    in_a_block ! a.1.0 block (fst∗ 𝓤 (never 𝓤) (sem 𝓛 (token Z h τ null_ptr))) (λ b o is.
    regoal ! (λ p. prop (WpFn 𝓤 𝓛.H 𝓣.C 𝓣.Λ fn (shr_vals a.0 ++ ptr_val p ∷ vint w64 n ∷ vint w64 m ∷ []) ((walk_of 𝓛 En hs c).post (y p))))
    is refl $
    move ! (1 ∷ []) $ split ! $ split ! $ move ! (2 ∷ []) $ fsplit ! $ fsplit ! $ move ! (1 ∷ []) $ unhide ! $ fsplit ! $ fsplit ! $
    use1 𝓛 (‵ (seen Z κ at h)) (id⊢ 𝓤 _) $ keep ! (0 ∷ 5 ∷ 6 ∷ 7 ∷ []) $
    -- [the inner allocator; the token of κ; the other tokens; the block]
    enter ! _ _ _ _ _ $ alloc_all ! (λ l. pass_all ! refl (
      (tt, tt),
      ((tt, tt), ((tt, record { fits = fn64 }), ((tt, record { fits = fm64 }), tt))),
    ) $
    sets ! (addr ! (through ! refl (fld ! refl (stop !)))) refl (tt, tt) $
    join ! $ move ! (2 ∷ []) $ fsplit ! $ move ! (1 ∷ 2 ∷ []) $ join ! $ move ! (1 ∷ 0 ∷ []) $ join ! $
    let z : G.Ghost = at_gives Z 𝓛 𝓜.mem 𝓡.returns κ q at h b o n m τ in
    use1 𝓛 (raw (G.pre z)) (Gives-goes Z 𝓛 𝓜.mem 𝓡.returns κ q at h (⊑_trans κ ρ A.lives bounds.0 le) b o n m τ said.0 said.1 fn64 fm64) $
    calls_at ! (framed 𝓤 𝓛.H 𝓜 𝓣) G (met.deallocate e) z
    (and_then ! (get ! refl) (and_then ! (get ! refl)
    (and_then ! (get ! refl) (and_then ! (get ! refl) (no_more !))))) (λ v.
    use1 𝓛 (later (given (v ≡ vunit) (‵ (flft κ q)))) (Gives-Gives Z 𝓛 𝓜.mem 𝓡.returns κ q at h b o n m τ v) $ await ! tt $ learn !
    (λ is_unit.
    lands_as ! is_unit refl (tt, tt) $ sets ! (of_opd ! (unit_lit !)) refl (tt, tt) $ returns ! (look_at ! 0 refl) $ free_all ! refl $
    suffices ! _ (ends_at 𝓛 En hs c (y (block_ptr b o)) vunit tt (tt, (tt, (tt, (tt, tt)))) (tt, (tt, (tt, (tt, tt))))) $
    nothing ! $ feq_i ! _ (vunit ∷ []) _ refl $ nothing ! $ nothing ! $ fjoin ! $ nothing ! $ fjoin ! $ nothing ! $ fjoin ! $ nothing ! $
    fjoin ! $ join ! $
    move ! (2 ∷ 3 ∷ []) $ join ! $ join ! $ done !)))))))
