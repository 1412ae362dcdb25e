-- The tally refuses, or the inner allocator answers: `allocate_spec`, by a walk over the steps of
-- the body. Assumes `Logic`.
use Rattle.std.proofs.Common.{◌≡◌, Bool, true, false, [], ◌∷◌, Ok, Err, refl, ap, w64}
use Rattle.std.proofs.alloc.Calls.{Al, seen, token, Answer, answer_val, Answer-typed, Answer-Ok, Answer-err, Takes, at_takes, Answered, Takes-goes, Takes-gives, answers}
use Rattle.std.proofs.raw_atomic.Walks.{proved}
use Rattle.std.proofs.VecSteps.Shapes.{after}
use Rattle.std.specs.Allocator.{block_if_ok}
use Rattle.std.specs.Prelude.{IsFalse}
use Rattle.test_kit.proofs.Places.{self, inner_at, tally_at}
use Rattle.test_kit.specs.contracts.refusing.Tally.{the_row as Tally}
use Rattle.test_kit.specs.contracts.refusing.Tally.refuses_next as asked
use Rattle.test_kit.proofs.refusing.Tally.refuses_next.Met.{met as asked_met}
use Rattle.test_kit.specs.contracts.refusing.RefusingAllocator.allocate as F
use Rattle.test_kit.specs.contracts.refusing.RefusingAllocator.allocate.Key as key
use Rattle.test_kit.proofs.refusing.RefusingAllocator.allocate.Statement.{statement}
use Rattle.test_kit.proofs.refusing.RefusingAllocator.allocate.Code as code
use mir.MapTy.{inst_fn}
use mir.Syntax.{a_type, dnil, dcons}
use mir.Val.{Val, vint, vptr}
use base.Fml.{ftrue, flft}
use base.Logic.{SProp, id⊢}
use prog.Memory.{size, align, capped}
use contract.BorrowLft.{◌⊑◌, ⊑_trans}
use contract.Monad.{fact}
use contract.Running.{tables}
use types.Kit.{‵, raw, ◌⊛◌, some, later, prop, at_ret, Sq, ◌$◌, ◌∵◌, !, qed, move, keep, drop, use0, use1, use2, split, join, pick, fsplit, fjoin, feq_i, feq_l, suffices, await, done}
use types.Part.{agg}
use types.Run.{stop, fld, addr, lit, no_more, and_then, first, branches, skips, exec, returns, returns_within, enter}
use types.ByLocal.{alloc_all, pass_all, free_all, look_at, get, through, sets, lands_as, env}
use denote.Builtin.{usize, bool}
use denote.Exit.{yes}
use denote.Memory.{hidden_shr}
use denote.Opens.{unhide}
use denote.Param.{bounded}
use denote.Plain.{uint_vals, uint_Tells}
use denote.RattleType.{Valss, owns}
use denote.RawPtr.{block_ptr}
use denote.Ref.{shr_vals}
use denote.Signature.{plain, types_at}
use denote.Steps.{heard, nothing, only}
use denote.Triple.Call.{calls_at}
use denote.Triple.Clauses.{lasts}
use denote.Triple.Spec.{triple_of}
use denote.Triple.Table.{framed}
use denote.Triple.Walked.{Stays, stay_dropped, walk_of, ends_at, Goes-dropped}

-- `allocate` does what its contract states
pub allocate_spec : {M : Type 1} → statement M
allocate_spec 𝓤 𝓛 𝓜 𝓡 wired A L g d e met _ =
    let Z : Al = record { row = A; laws = L; g = g; d = d; drops = e } in
    let c = F.clauses A g d e 𝓛 𝓜.mem 𝓡.returns in let En = F.ended A g d e in
    let inst = bounded (a_type ∷ []) (A, tt) (dcons d (dcons e dnil)) in let fn = inst_fn inst code.function in
    let 𝓣 = tables 𝓤 𝓛.H 𝓜 𝓡 𝓡.env in let number = plain (λ _. usize) in
    let Asks = triple_of 𝓛 asked.signature (asked.spec 𝓛 𝓜.mem 𝓡.returns) in let Asked = Takes Z 𝓛 𝓜.mem 𝓡.returns in
    let hs : Stays En.signature.params En.kept = (stay_dropped (self A) yes, (stay_dropped number yes, (stay_dropped number yes, tt))) in
    let number_goes = Goes-dropped 𝓛 2 number yes (λ κs x w. refl) in
    proved 𝓛 En hs c 𝓜 𝓡 (Goes-dropped 𝓛 2 (self A) yes (λ κs x w. refl), (number_goes, (number_goes, tt)))
    (key.name inst) fn (code.unfolded 𝓤 𝓛.H 𝓜 𝓡 wired (A, tt) d e)
    (λ κs. (shr_vals, (uint_vals w64, (uint_vals w64, tt)))) (λ κs. ((λ r vs is. is.0), (uint_Tells w64, (uint_Tells w64, tt))))
    (λ κs qs bounds a τ are.
    let κ = κs.0 in let ρ = κs.1.0 in let q = qs.0 in let s = qs.1.0 in
    let h = a.0.now.inner in let at = inner_at A a.0.ref_ptr in let t = a.0.now.tally in let tat = tally_at A a.0.ref_ptr in
    let n = a.1.0 in let m = a.1.1.0 in let fn64 = are.1.0.1 in let fm64 = are.1.1.0.1 in
    let vals : Valss (types_at En.signature.params κs) = (shr_vals a.0, (vint w64 n ∷ [], (vint w64 m ∷ [], tt))) in
    let y : (walk_of 𝓛 En hs c).Ghost = ((κs, qs, bounds, a, vals), τ) in
    let Post : Val → SProp 𝓤 = (walk_of 𝓛 En hs c).post y in
    -- from the answer, its block, the token of κ and the other tokens
    let ends : (v : Val) (r : Answer.Denot) → Sq 𝓛 (‵ (Answer.own_val r (v ∷ [])) ∷ ‵
    (block_if_ok (token Z h) τ r) ∷ ‵ (flft κ q) ∷ (‵ (flft ρ s) ⊛ ‵ ftrue) ∷ []) (prop (Post v)) = λ v r.
    suffices ! _ (ends_at 𝓛 En hs c y v r (tt, (tt, (tt, tt))) (tt, (tt, (tt, tt)))) $
    nothing ! $ nothing ! $ fjoin ! $ nothing ! $ fjoin ! $ nothing ! $ fjoin ! $ join ! $ move ! (2 ∷ 3 ∷ []) $ join ! $ join ! $ done ! in
    let fails : Sq 𝓛 (‵ (flft κ q) ∷ (‵ (flft ρ s) ⊛ ‵ ftrue) ∷ []) (prop (Post (answer_val false 0 0))) =
    nothing ! $ use0 𝓛 (‵ (Answer.own_val (Err (record {})) (answer_val false 0 0 ∷ []))) (Answer-err 𝓛) $ ends (answer_val false 0 0)
    (Err (record {})) in
    qed 𝓛 (((‵ (flft κ q) ⊛ ‵ (flft ρ s) ⊛ ‵ ftrue) ⊛ ‵ (owns (types_at En.signature.params κs) a vals))
    ∷ (raw (fact 𝓤 (ρ ⊑ A.lives)) ⊛ raw (fact 𝓤 ((capped (size τ) ≡ n) × (capped (align τ) ≡ m)))) ∷ []) ∵
    move ! (1 ∷ []) $ split ! $ heard ! _ (λ le. heard ! _ (λ said.
    split ! $ split ! $ move ! (2 ∷ []) $ fsplit ! $ fsplit ! $ move ! (1 ∷ []) $ unhide ! $ fsplit ! $ fsplit ! $
    use1 𝓛 (‵ (seen Z κ at h)) (id⊢ 𝓤 _) $ move ! (1 ∷ []) $ fsplit ! $ keep ! (0 ∷ 6 ∷ 2 ∷ 7 ∷ []) $
    -- [the tally; the token of κ; the inner allocator; the other tokens]
    enter ! _ _ _ _ _ $ alloc_all ! (λ l. pass_all ! refl ((tt, tt), ((tt, record { fits = fn64 }), ((tt, record { fits = fm64 }), tt))) $
    sets ! (addr ! (through ! refl (fld ! refl (stop !)))) refl (tt, tt) $
    let x : Asks.Ghost = (((κ, tt), (q, tt), tt, (record { ref_ptr = tat; now = t }, tt), (vptr tat.0 tat.1 ∷ [], tt)), tt) in
    use1 𝓛 (‵ (hidden_shr Tally κ t tat.0 tat.1)) (id⊢ 𝓤 _) $ feq_i ! _ (vptr tat.0 tat.1 ∷ []) _ refl $ fjoin ! $
    nothing ! $ move ! (1 ∷ 0 ∷ []) $ fjoin ! $ nothing ! $ move ! (2 ∷ 0 ∷ []) $ join ! $ join ! $ nothing ! $ move ! (1 ∷ 0 ∷ []) $
    use2 𝓛 (raw (Asks.pre x)) (id⊢ 𝓤 _) $
    calls_at ! (framed 𝓤 𝓛.H 𝓜 𝓣) Asks (asked_met 𝓤 𝓛 𝓜 𝓡
    (code.calls-test_kit::refusing::Tally::refuses_next 𝓡.env wired)) x
    (and_then ! (get ! refl) (no_more !)) (λ u.
    use1 𝓛 (later (some (λ (r : Bool). ((‵ (flft κ q) ⊛ ‵ ftrue) ⊛ ‵ (bool.own_val r (u ∷ []))) ⊛
    some (λ (ws : Unit {0} × Unit {0}). ‵ (lasts asked.ended x.0.0 x.0.3 ws) ⊛ raw (fact 𝓤 (t.refuse_at ≡ 0 → IsFalse r)))))) (id⊢ 𝓤 _) $
    await ! tt $ pick ! (λ refused. split ! $ move ! (1 ∷ []) $ drop ! $ split ! $ move ! (1 ∷ []) $ feq_l !
    (λ is_refused. split ! $ move ! (1 ∷ []) $ drop ! $
    lands_as ! (ap only is_refused) refl (tt, tt) $ first ! $ branches ! (get ! refl)
    (λ yes. sets ! (agg ! (no_more !)) refl (tt, tt) $ sets !
    (agg ! (and_then ! (lit ! tt) (and_then ! (get ! refl) (no_more !)))) refl (Answer-typed false 0 0) $
    returns_within ! Post refl (look_at ! 0 refl) $ free_all ! refl $ keep ! (0 ∷ 2 ∷ []) $ fails)
    (λ no. skips ! $ exec ! 𝓣.C 𝓣.Λ (env fn.locals l) (after 3 fn.body) (at_ret _ Post) $
    sets ! (addr ! (through ! refl (fld ! refl (stop !)))) refl (tt, tt) $ move ! (1 ∷ 0 ∷ []) $
    let z : Asked.Ghost = at_takes Z 𝓛 𝓜.mem 𝓡.returns κ q at h n m τ in
    use2 𝓛 (raw (Asked.pre z)) (Takes-goes Z 𝓛 𝓜.mem 𝓡.returns κ q at h (⊑_trans κ ρ A.lives bounds.0 le) n m τ said.0 said.1 fn64 fm64) $
    calls_at ! (framed 𝓤 𝓛.H 𝓜 𝓣) Asked (met.allocate e) z
    (and_then ! (get ! refl) (and_then ! (get ! refl) (and_then ! (get ! refl) (no_more !)))) (λ v.
    use1 𝓛 (later (raw (Answered Z 𝓛 𝓜.mem 𝓡.returns h τ v) ⊛ ‵ (flft κ q))) (Takes-gives Z 𝓛 𝓜.mem 𝓡.returns κ q at h n m τ v) $ await ! tt
    $ split ! $
    answers Z ! 𝓜.mem 𝓡.returns h τ v
    (λ b o is. fjoin ! $ lands_as ! is refl (Answer-typed true b o) $ returns ! (look_at ! 0 refl) $ free_all ! refl $
    use0 𝓛 (‵ (Answer.own_val (Ok (block_ptr b o)) (answer_val true b o ∷ []))) (Answer-Ok 𝓛 b o) $ ends (answer_val true b o)
    (Ok (block_ptr b o)))
    (λ is. lands_as ! is refl (Answer-typed false 0 0) $ returns ! (look_at ! 0 refl) $ free_all ! refl $ fails))))))))))
