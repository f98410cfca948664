-- `into_loose` tests the pointer: null owns nothing, and else the block goes on to the `Loose`. Two cases, by what
-- the handle owns (`either`). Each runs the code to its end, and leaves by tokens, parameters, answer and promise.
use Rattle.cellarcliff.proofs.Common.{◌≡◌, List, [], ◌∷◌, ◌++◌, None, Some, refl, sym, ap, ◌∙◌, subst, lit<, Val, vptr, vnull, vcons, vnil, SProp, ent, emp, id⊢}
use Rattle.cellarcliff.proofs.Common.{WpFn, ‵, raw, ◌⊛◌, at_ret, ◌$◌, ◌∵◌, !, qed, by, move, keep, split, fsplit3, fjoin, suffices, use0, use1, stop, fld, lit}
use Rattle.cellarcliff.proofs.Common.{of_opd, bin, no_more, and_then, first, branches, exec, returns, enter, alloc_all, pass_all, free_all, look_at, get, get_in}
use Rattle.cellarcliff.proofs.Common.{sets, sets_last, env, agg, sub, whole, live, fact, fact_i, tables, yes, layout, RattleType, owns, Ptr, block_ptr, null_ptr}
use Rattle.cellarcliff.proofs.Common.{ptr_val, tests_null, types_at, type_at, plain, nothing, alive, Stays, stay_dropped, walk_of, Goes-dropped, handle_tells, after}
use Rattle.cellarcliff.proofs.Common.{Good, Some-of, none_of, proved_at, leaves, and_tt, ghosts}
use Rattle.std.specs.contracts.alloc.Global as heap
use Rattle.std.proofs.alloc.Global.TheLaws as heap_laws
use Rattle.cellarcliff.proofs.Values.{both, alone, alone_good, al, Loose, loose_good, loose_in, EngineHandle, engine_out, either}
use Rattle.rx_turns.specs.contracts.turns.Turns as kept
use Rattle.cellarcliff.specs.contracts.handle.CellarHandle.into_loose.{ended, clauses}
use Rattle.cellarcliff.specs.contracts.handle.CellarHandle.into_loose.Key.{name as #self}
use Rattle.cellarcliff.proofs.handle.CellarHandle.into_loose.Statement.{statement}
use Rattle.cellarcliff.proofs.handle.CellarHandle.into_loose.Code as code

pub into_loose_spec : {M : Type 1} → statement M
into_loose_spec 𝓤 𝓛 𝓜 𝓡 wired =
    let 𝓣 = tables 𝓤 𝓛.H 𝓜 𝓡 𝓡.env in let c = clauses 𝓛 𝓜.mem 𝓡.returns in let fn = code.function in
    let R : RattleType = kept.the_row in let Z : RattleType = heap.the_row in let LZ = heap_laws.the_row_laws in
    let To : RattleType = Loose R Z LZ ghosts in
    let hs : Stays ended.signature.params ended.kept =
    (stay_dropped (plain (λ _. EngineHandle)) yes, (stay_dropped (plain (λ _. Z)) yes, tt)) in
    let goes = Goes-dropped 𝓛 0 (plain (λ _. EngineHandle)) yes (λ κs x f. refl) in
    let spent = Goes-dropped 𝓛 0 (plain (λ _. Z)) yes (λ κs x f. refl) in
    proved_at 𝓛 ended hs c 𝓜 𝓡 (goes, (spent, tt))
    #self fn (code.unfolded 𝓤 𝓛.H 𝓜 𝓡 wired) (λ z are.
    let κs = z.0.0 in let qs = z.0.1 in let v = z.0.3.0 in let a = z.0.3.1.0 in
    let Post : Val → SProp 𝓤 = (walk_of 𝓛 ended hs c).post z in
    let Out : RattleType = type_at ended.signature.result κs in
    let Run : List Val → SProp 𝓤 = λ ws. WpFn 𝓤 𝓛.H 𝓣.C 𝓣.Λ fn ws Post in
    qed 𝓛 ((raw (alive 𝓛 ended.signature κs qs) ⊛ ‵ (owns (types_at ended.signature.params κs) z.0.3 z.0.4)) ∷ raw
    ((c κs z.0.3).requires z.1) ∷ []) ∵
    split ! $ move ! (1 ∷ []) $ fsplit3 ! $ engine_out ! v z.0.4.0 (λ ws. move ! (1 ∷ []) $
    handle_tells (al R Z LZ ghosts) ! a z.0.4.1.0 (λ h ea fits. move ! (1 ∷ []) $
    -- [what the handle owns; the allocator; nothing; the tokens; the premise]
    either R a ! v.at v.kept
    (λ is none. let w : Val = alone vnull in let Said : Type 0 = v.kept ≡ None in
    let good₀ : Good (layout Out) (live 0 vnil) = (tt, (record { fits = lit< tt }, tt)) in
    let told : z.0.4.0 ≡ w ∷ [] = ws ∙ ap (λ (p : Ptr). alone (ptr_val p) ∷ []) is in
    suffices ! (Run (w ∷ h ∷ [])) (subst (λ (us : List Val). ent 𝓤 (Run (w ∷ h ∷ [])) (Run us)) (sym (λ i. told i ++
    (ea i ++ []))) (id⊢ 𝓤 (Run (w ∷ h ∷ [])))) $
    enter ! 𝓣.C 𝓣.Λ fn (w ∷ h ∷ []) Post $ alloc_all ! (λ l. pass_all ! refl (alone_good null_ptr, (fits, tt)) $
    let Ev = env fn.locals l in
    sets ! (of_opd ! (get_in ! (fld ! refl (stop !)) (sub ! 0 refl (whole !)))) refl (tt, record { fits = lit< tt }) $
    sets ! (bin ! (get ! refl) (lit ! tt) tt) refl (tt, tt) $ first ! $ branches ! (get ! refl)
    (λ _. sets_last ! (agg ! (and_then ! (lit ! tt) (no_more !))) refl good₀ $
    exec ! 𝓣.C 𝓣.Λ Ev (after 3 fn.body) (at_ret Ev Post) $ sets ! (of_opd ! (get ! refl)) refl good₀ $
    use0 𝓛 (‵ (Out.own_val None (live 0 vnil ∷ []))) (none_of 𝓛 To) $
    use0 𝓛 (raw (fact 𝓤 Said)) (fact_i 𝓤 Said (emp 𝓤) none) $
    nothing ! $ nothing ! $ fjoin ! $ nothing ! $ fjoin ! $ returns ! (look_at ! 0 refl) $ free_all ! refl $
    -- [nothing; the promise; the answer; the allocator; nothing; the tokens; the premise]
    keep ! (5 ∷ 0 ∷ 2 ∷ 1 ∷ []) $ by ! (leaves 𝓛 ended hs c z (live 0 vnil) None (tt, (tt, tt)) (tt, (tt, tt))))
    (λ wrong. absurd wrong)))
    (λ b o x is one t. let w : Val = alone (vptr b o) in let Said : Type 0 = v.kept ≡ Some x in
    let made : Val = both (vptr b o) h in let typed = loose_good R Z LZ ghosts b o h fits in
    let v₁ : Val = live 1 (vcons made vnil) in let d : To.Denot = record { at = block_ptr b o; alloc = a; value = x } in
    let good₁ : Good (layout Out) v₁ = (and_tt _ typed.0, (record { fits = lit< tt }, (typed.1, tt))) in
    let told : z.0.4.0 ≡ w ∷ [] = ws ∙ ap (λ (p : Ptr). alone (ptr_val p) ∷ []) is in
    suffices ! (Run (w ∷ h ∷ [])) (subst (λ (us : List Val). ent 𝓤 (Run (w ∷ h ∷ [])) (Run us)) (sym (λ i. told i ++
    (ea i ++ []))) (id⊢ 𝓤 (Run (w ∷ h ∷ [])))) $
    enter ! 𝓣.C 𝓣.Λ fn (w ∷ h ∷ []) Post $
    alloc_all ! (λ l. pass_all ! refl (alone_good (block_ptr b o), (fits, tt)) $ let Ev = env fn.locals l in
    sets ! (of_opd ! (get_in ! (fld ! refl (stop !)) (sub ! 0 refl (whole !)))) refl (tt, tt) $
    sets ! (bin ! (get ! refl) (lit ! tt) (tests_null (block_ptr b o) t)) refl (tt, tt) $ first ! $
    branches ! (get ! refl) (λ wrong. absurd wrong)
    (λ _. sets ! (of_opd ! (get ! refl)) refl (tt, tt) $
    sets ! (agg ! (and_then ! (get ! refl) (and_then ! (get ! refl) (no_more !)))) refl typed $
    sets_last ! (agg ! (and_then ! (lit ! tt) (and_then ! (get ! refl) (no_more !)))) refl good₁ $
    exec ! 𝓣.C 𝓣.Λ Ev (after 3 fn.body) (at_ret Ev Post) $ sets ! (of_opd ! (get ! refl)) refl good₁ $
    loose_in R Z LZ ghosts ! b o h a x $ use1 𝓛 (‵ (Out.own_val (Some d) (v₁ ∷ []))) (Some-of 𝓛 To d made) $
    use0 𝓛 (raw (fact 𝓤 Said)) (fact_i 𝓤 Said (emp 𝓤) one) $
    nothing ! $ nothing ! $ fjoin ! $ nothing ! $ fjoin ! $ returns ! (look_at ! 0 refl) $ free_all ! refl $
    -- [nothing; the promise; the answer; nothing; the tokens; the premise]
    keep ! (4 ∷ 0 ∷ 2 ∷ 1 ∷ []) $ by ! (leaves 𝓛 ended hs c z v₁ (Some d) (tt, (tt, tt)) (tt, (tt, tt)))))))))
