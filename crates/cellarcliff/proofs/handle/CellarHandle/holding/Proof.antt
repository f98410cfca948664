-- `holding` keeps the pointer, and with it all that the box owned.
use Rattle.cellarcliff.proofs.Common.{◌≡◌, List, [], ◌∷◌, ◌++◌, Option, Some, refl, sym, subst, Val, vptr, SProp, ent, emp, id⊢, WpFn, ‵, raw, ◌⊛◌, ◌$◌, ◌∵◌, !, qed}
use Rattle.cellarcliff.proofs.Common.{by, move, keep, split, fsplit, fjoin, suffices, use0, stop, fld, of_opd, no_more, and_then, returns, enter, alloc_all}
use Rattle.cellarcliff.proofs.Common.{pass_all, free_all, look_at, get, get_in, sets, agg, sub, whole, fact, fact_i, tables, yes, RattleType, owns, block_ptr}
use Rattle.cellarcliff.proofs.Common.{types_at, plain, nothing, alive, Stays, stay_dropped, walk_of, Goes-dropped, proved_at, leaves, ghosts}
use Rattle.std.specs.contracts.alloc.Global as heap
use Rattle.std.proofs.alloc.Global.TheLaws as heap_laws
use Rattle.cellarcliff.proofs.Values.{both, alone, alone_good, Loose, loose_good, loose_out, engine_in}
use Rattle.rx_turns.specs.contracts.turns.Turns as kept
use Rattle.cellarcliff.specs.contracts.handle.CellarHandle.holding.{ended, clauses}
use Rattle.cellarcliff.specs.contracts.handle.CellarHandle.holding.Key.{name as #self}
use Rattle.cellarcliff.proofs.handle.CellarHandle.holding.Statement.{statement}
use Rattle.cellarcliff.proofs.handle.CellarHandle.holding.Code as code

pub holding_spec : {M : Type 1} → statement M
holding_spec 𝓤 𝓛 𝓜 𝓡 wired =
    let 𝓣 = tables 𝓤 𝓛.H 𝓜 𝓡 𝓡.env in let c = clauses 𝓛 𝓜.mem 𝓡.returns in
    let R : RattleType = kept.the_row in let Z : RattleType = heap.the_row in let LZ = heap_laws.the_row_laws in
    let From : RattleType = Loose R Z LZ ghosts in
    let hs : Stays ended.signature.params ended.kept = (stay_dropped (plain (λ _. From)) yes, tt) in
    proved_at 𝓛 ended hs c 𝓜 𝓡 (Goes-dropped 𝓛 0 (plain (λ _. From)) yes (λ κs x f. refl), tt) #self code.function
    (code.unfolded 𝓤 𝓛.H 𝓜 𝓡 wired) (λ z are.
    let κs = z.0.0 in let qs = z.0.1 in let v = z.0.3.0 in let Post : Val → SProp 𝓤 = (walk_of 𝓛 ended hs c).post z in
    let Run : List Val → SProp 𝓤 = λ ws. WpFn 𝓤 𝓛.H 𝓣.C 𝓣.Λ code.function ws Post in
    let one : Option R.Denot = Some v.value in let Said : Type 0 = one ≡ one in
    qed 𝓛 ((raw (alive 𝓛 ended.signature κs qs) ⊛ ‵ (owns (types_at ended.signature.params κs) z.0.3 z.0.4)) ∷ raw
    ((c κs z.0.3).requires z.1) ∷ []) ∵
    split ! $ move ! (1 ∷ []) $ fsplit ! $
    loose_out R Z LZ ghosts ! v z.0.4.0 (λ b o h e ws fits. let w : Val = both (vptr b o) h in
    suffices ! (Run (w ∷ [])) (subst (λ (us : List Val). ent 𝓤 (Run (w ∷ [])) (Run us)) (sym (λ i. ws i ++ []))
    (id⊢ 𝓤 (Run (w ∷ [])))) $
    enter ! 𝓣.C 𝓣.Λ code.function (w ∷ []) Post $
    alloc_all ! (λ l. pass_all ! refl (loose_good R Z LZ ghosts b o h fits, tt) $
    sets ! (of_opd ! (get_in ! (fld ! refl (stop !)) (sub ! 0 refl (whole !)))) refl (tt, tt) $
    sets ! (of_opd ! (get ! refl)) refl (tt, tt) $
    sets ! (agg ! (and_then ! (get ! refl) (no_more !))) refl (alone_good (block_ptr b o)) $
    engine_in ! (block_ptr b o) one $
    use0 𝓛 (raw (fact 𝓤 Said)) (fact_i 𝓤 Said (emp 𝓤) refl) $ nothing ! $ nothing ! $ fjoin ! $
    returns ! (look_at ! 0 refl) $ free_all ! refl $
    -- [nothing; the promise; the handle; the allocator; nothing; the tokens; the premise]
    keep ! (5 ∷ 0 ∷ 2 ∷ 1 ∷ []) $
    by ! (leaves 𝓛 ended hs c z (alone (vptr b o)) (record { at = block_ptr b o; kept = one }) (tt, tt) (tt, tt)))))
