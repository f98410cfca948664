-- `empty` holds null, which owns nothing.
use Rattle.cellarcliff.proofs.Common.{◌≡◌, [], ◌∷◌, Option, None, refl, Val, vnull, SProp, emp, ftrue, ‵, raw, ◌⊛◌, ◌$◌, ◌∵◌, !, qed, by, keep, split, fpack, use0}
use Rattle.cellarcliff.proofs.Common.{lit, no_more, and_then, returns, enter, alloc_all, pass_all, free_all, look_at, sets, agg, fact, fact_i, tables, owns}
use Rattle.cellarcliff.proofs.Common.{null_ptr, types_at, nothing, alive, walk_of, proved_at, leaves}
use Rattle.cellarcliff.proofs.Values.{alone, alone_good, engine_in}
use Rattle.cellarcliff.proofs.handle.CellarHandle.empty.Statement.{statement}
use Rattle.rx_turns.specs.contracts.turns.Turns as kept
use Rattle.cellarcliff.specs.contracts.handle.CellarHandle.empty.{ended, clauses}
use Rattle.cellarcliff.specs.contracts.handle.CellarHandle.empty.Key.{name as #self}
use Rattle.cellarcliff.proofs.handle.CellarHandle.empty.Code as code

pub empty_spec : {M : Type 1} → statement M
empty_spec 𝓤 𝓛 𝓜 𝓡 wired =
    let 𝓣 = tables 𝓤 𝓛.H 𝓜 𝓡 𝓡.env in let c = clauses 𝓛 𝓜.mem 𝓡.returns in
    proved_at 𝓛 ended tt c 𝓜 𝓡 tt #self code.function (code.unfolded 𝓤 𝓛.H 𝓜 𝓡 wired) (λ z are.
    let κs = z.0.0 in let qs = z.0.1 in let Post : Val → SProp 𝓤 = (walk_of 𝓛 ended tt c).post z in
    let none : Option (kept.the_row).Denot = None in
    let Said : Type 0 = none ≡ none in
    qed 𝓛 ((raw (alive 𝓛 ended.signature κs qs) ⊛ ‵ (owns (types_at ended.signature.params κs) z.0.3 z.0.4)) ∷ raw
    ((c κs z.0.3).requires z.1) ∷ []) ∵
    split ! $ enter ! 𝓣.C 𝓣.Λ code.function [] Post $ alloc_all ! (λ l. pass_all ! refl tt $
    sets ! (agg ! (and_then ! (lit ! tt) (no_more !))) refl (alone_good null_ptr) $
    nothing ! $ fpack ! (null_ptr ≡ null_ptr) (λ _. ftrue) refl $ engine_in ! null_ptr none $
    use0 𝓛 (raw (fact 𝓤 Said)) (fact_i 𝓤 Said (emp 𝓤) refl) $ nothing ! $
    returns ! (look_at ! 0 refl) $ free_all ! refl $
    -- [nothing; the promise; the handle; the tokens; nothing; the premise]
    keep ! (3 ∷ 0 ∷ 2 ∷ 1 ∷ []) $
    by ! (leaves 𝓛 ended tt c z (alone vnull) (record { at = null_ptr; kept = none }) tt tt)))
