-- The machine values of a `Loose` and of both handles, and what each owns. Assumes `Logic`.
--     loose_out, loose_in      a `Loose` by value is [the box's memory and token; its allocator]
--     pointer_out, pointer_in  a struct of one pointer by value is [what it owns beside it]
--     engine_out, engine_in, live_out, live_in    a handle by value is [what it owns]
--     either                   what a handle owns: nothing at null, or a block whose pointer may be compared with null
use Rattle.cellarcliff.proofs.Common.{◌≡◌, List, [], ◌∷◌, ◌++◌, Option, None, Some, refl, subst, lit<, dnil, Val, vptr, vstruct, vcons, vnil, of_list, fsep, ent}
use Rattle.cellarcliff.proofs.Common.{never, fst∗, sem, ‵, ◌$◌, move, drop, use1, fsplit, fjoin, fpick, fpack, feq_i, feq_l, RattleType, RawPtr, Ptr, block_ptr}
use Rattle.cellarcliff.proofs.Common.{null_ptr, ptr_val, in_a_block, nothing, layout, handle_tells, Good, box_owns, and_tt}
use Rattle.std.proofs.Common.{ℕ}
use Rattle.std.proofs.alloc.Calls.{Al}
use Rattle.std.proofs.cell.Inside.{one}
use Rattle.std.proofs.GlobalToken.{dealloc_token-Testable}
use mathlib.Core.Bool.{true, ◌&&◌}
use lib.Dec.{T}
use seplogic.Ra.Ura.{Ura}
use mir.Syntax.{Sym, Lifetime, impl, tnil, ty_ptr}
use mir.Raw.{raw as bare}
use mir.Val.{has_ty, WT}
use base.Fml.{Fml}
use base.Fraction.{full_share}
use base.Logic.{guard, guard_i, via, snd∗}
use contract.Monad.{fact_use}
use types.Logic.{Logic}
use types.Kit.{Item, Goal, Seq, Step, step, given, learn}
use denote.RattleType.{Valss}
use denote.Memory.{lone}
use denote.RawPtr.{lies_at, Testable}
use denote.Param.Laws.{Laws}
use denote.Struct.Struct.{Shape, Struct, within}
use denote.Struct.Owning.{shape}
use Rattle.std.specs.declared.alloc.Allocator.{Ghosts}
use Rattle.std.specs.declared.alloc.Global.{Global}
use Rattle.cellarcliff.specs.Ownership.{block_token, owns_unless_null}
use Rattle.rx_turns.specs.contracts.turns.Turns as turns
use Rattle.cellarcliff.specs.contracts.handle.CellarHandle as handle
use Rattle.cellarcliff.specs.contracts.kept.Kept as kept
use Rattle.cellarcliff.specs.contracts.live_handle.LiveHandle as live_handle
use Rattle.cellarcliff.specs.contracts.loose.Loose as loose

abbrev pub both : Val → Val → Val
both v w = vstruct (vcons v (vcons w vnil))

module _ (R Z : RattleType) (L : Laws Z) (g : Ghosts Z.Denot) where
  abbrev pub Loose : RattleType
  Loose = loose.the_row R Z g

  abbrev pub al : Al
  al = record { row = Z; laws = L; g = g; d = impl [] tnil dnil; drops = impl [] tnil dnil }

  pub loose_good : (b o : ℕ) (h : Val) → Good (layout Z) h → T (has_ty (layout Z) h && true) × WT (both (vptr b o) h)
  loose_good b o h fits = (and_tt (has_ty (layout Z) h) fits.0, (tt, (fits.1, tt)))

  module _ {M : Type 1} {𝓤 : Ura M} {𝓛 : Logic 𝓤} {K : Type 0} {Γ : List (Item 𝓤)} {G : Goal 𝓤 𝓛.H} where
    pub loose_out : K → (d : Loose.Denot) (vs : List Val)
        → ((b o : ℕ) (h : Val) → d.at ≡ block_ptr b o → vs ≡ both (vptr b o) h ∷ [] → Good (layout Z) h
        → Seq K 𝓛 (‵ (box_owns (g.dealloc_token d.alloc) R (block_ptr b o) d.value) ∷ ‵ (Z.own_val d.alloc (h ∷ []))
        ∷ Γ) G)
        → Seq K 𝓛 (‵ (Loose.own_val d vs) ∷ Γ) G
    loose_out t d vs k =
        fsplit t $ fpick t (λ vss. fsplit t $ feq_l t (λ ev. fsplit t $ feq_l t (λ ep. fsplit t $
        handle_tells al t d.alloc vss.1.0 (λ h ea fits. move t (1 ∷ []) $ drop t $ move t (1 ∷ []) $
        in_a_block t d.at (λ p. box_owns (g.dealloc_token d.alloc) R p d.value) (fst∗ 𝓤 (never 𝓤) (sem 𝓛
        (g.dealloc_token d.alloc (bare (lone R.mir)) null_ptr))) (λ b o e. k b o h e
        (subst (λ (p : Ptr). vs ≡ vstruct (of_list (ptr_val p ∷ h ∷ [])) ∷ []) e
        (subst (λ (ws : List Val). vs ≡ vstruct (of_list (ptr_val d.at ∷ (ws ++ []))) ∷ []) ea (subst (λ
        (ps : List Val). vs ≡ vstruct (of_list (ps ++ (vss.1.0 ++ []))) ∷ []) ep ev))) fits)))))

    pub loose_in : K → (b o : ℕ) (h : Val) (a : Z.Denot) (x : R.Denot)
        → Step K 𝓛 (‵ (Loose.own_val (record { at = block_ptr b o; alloc = a; value = x }) (both (vptr b o) h ∷ []))
        ∷ Γ) G (‵ (box_owns (g.dealloc_token a) R (block_ptr b o) x) ∷ ‵ (Z.own_val a (h ∷ [])) ∷ Γ) G
    loose_in t b o h a x = step (λ s. let v : Val = both (vptr b o) h in
        nothing t $ move t (2 ∷ 0 ∷ []) $ fjoin t $ feq_i t (List Val) (vptr b o ∷ []) (vptr b o ∷ []) refl $
        fjoin t $ feq_i t (List Val) (v ∷ []) (v ∷ []) refl $ fjoin t $
        fpack t (Valss (RawPtr ∷ Z ∷ [])) (within (shape (loose.the_type R Z g)) (block_ptr b o, (a, tt)) (v ∷ []))
        (vptr b o ∷ [], (h ∷ [], tt)) $ fjoin t $ s)

abbrev pub alone : Val → Val
alone v = vstruct (vcons v vnil)

pub ptr_good : (p : Ptr) → Good ty_ptr (ptr_val p)
ptr_good (block_ptr b o) = (tt, tt)
ptr_good null_ptr = (tt, record { fits = lit< tt })

pub alone_good : (p : Ptr) → T (has_ty ty_ptr (ptr_val p) && true) × WT (alone (ptr_val p))
alone_good p = (and_tt (has_ty ty_ptr (ptr_val p)) (ptr_good p).0, ((ptr_good p).1, tt))

-- a struct of one pointer, and what it owns beside it
module _ (name : Sym) (args : List Lifetime) (types : List RattleType) where
  abbrev pub pointed : Shape
  pointed = record { name = name; args = args; types = types; fields = RawPtr ∷ [] }

  module _ {M : Type 1} {𝓤 : Ura M} {𝓛 : Logic 𝓤} {K : Type 0} {Γ : List (Item 𝓤)} {G : Goal 𝓤 𝓛.H} where
    pub pointer_out : K → (p : Ptr) (owned : Fml) (vs : List Val)
        → (vs ≡ alone (ptr_val p) ∷ [] → Seq K 𝓛 (‵ owned ∷ Γ) G)
        → Seq K 𝓛 (‵ (fsep ((Struct pointed).own_val (p, tt) vs) owned) ∷ Γ) G
    pointer_out t p owned vs k =
        fsplit t $ fpick t (λ vss. fsplit t $ feq_l t (λ ev. fsplit t $ feq_l t (λ ep. drop t $
        k (subst (λ (ps : List Val). vs ≡ vstruct (of_list (ps ++ [])) ∷ []) ep ev))))

    pub pointer_in : K → (p : Ptr) (owned : Fml)
        → Step K 𝓛 (‵ (fsep ((Struct pointed).own_val (p, tt) (alone (ptr_val p) ∷ [])) owned) ∷ Γ) G (‵ owned ∷ Γ) G
    pointer_in t p owned = step (λ s. let v : Val = alone (ptr_val p) in
        nothing t $ feq_i t (List Val) (ptr_val p ∷ []) (ptr_val p ∷ []) refl $ fjoin t $
        feq_i t (List Val) (v ∷ []) (v ∷ []) refl $ fjoin t $
        fpack t (Valss (RawPtr ∷ [])) (within pointed (p, tt) (v ∷ [])) (ptr_val p ∷ [], tt) $
        fjoin t $ s)

abbrev pub EngineHandle : RattleType
EngineHandle = handle.the_row

abbrev pub BookHandle : RattleType
BookHandle = live_handle.the_row

module _ {M : Type 1} {𝓤 : Ura M} {𝓛 : Logic 𝓤} {K : Type 0} {Γ : List (Item 𝓤)} {G : Goal 𝓤 𝓛.H} where
  pub engine_out : K → (d : EngineHandle.Denot) (vs : List Val)
      → (vs ≡ alone (ptr_val d.at) ∷ [] → Seq K 𝓛 (‵ (owns_unless_null turns.the_row d.at d.kept) ∷ Γ) G)
      → Seq K 𝓛 (‵ (EngineHandle.own_val d vs) ∷ Γ) G
  engine_out t d vs k =
      pointer_out handle.the_type.name handle.the_type.args handle.the_type.types t d.at (owns_unless_null turns.the_row d.at d.kept) vs k

  pub engine_in : K → (p : Ptr) (k : Option (turns.the_row).Denot)
      → Step K 𝓛 (‵ (EngineHandle.own_val (record { at = p; kept = k }) (alone (ptr_val p) ∷ [])) ∷ Γ) G (‵
      (owns_unless_null turns.the_row p k) ∷ Γ) G
  engine_in t p k = pointer_in handle.the_type.name handle.the_type.args handle.the_type.types t p (owns_unless_null turns.the_row p k)

  pub live_out : K → (d : BookHandle.Denot) (vs : List Val)
      → (vs ≡ alone (ptr_val d.at) ∷ [] → Seq K 𝓛 (‵ (owns_unless_null kept.the_row d.at d.kept) ∷ Γ) G)
      → Seq K 𝓛 (‵ (BookHandle.own_val d vs) ∷ Γ) G
  live_out t d vs k =
      pointer_out live_handle.the_type.name live_handle.the_type.args live_handle.the_type.types t d.at (owns_unless_null kept.the_row d.at d.kept) vs k

  pub live_in : K → (p : Ptr) (k : Option (kept.the_row).Denot)
      → Step K 𝓛 (‵ (BookHandle.own_val (record { at = p; kept = k }) (alone (ptr_val p) ∷ [])) ∷ Γ) G (‵
      (owns_unless_null kept.the_row p k) ∷ Γ) G
  live_in t p k = pointer_in live_handle.the_type.name live_handle.the_type.args live_handle.the_type.types t p (owns_unless_null kept.the_row p k)

module _ (R : RattleType) (a : Global) where
  pub tested : {M : Type 1} {𝓤 : Ura M} (𝓛 : Logic 𝓤) (p : Ptr) (x : R.Denot)
      → ent 𝓤 (sem 𝓛 (box_owns block_token R p x)) (guard 𝓤 (Testable p) (sem 𝓛 (box_owns block_token R p x)))
  tested {𝓤 = 𝓤} 𝓛 p x =
      fact_use 𝓤 (Testable p)
      (via 𝓤 _ (snd∗ 𝓤 (sem 𝓛 (lies_at R full_share p x)) (sem 𝓛 (block_token (bare (lone R.mir)) p)))
      (dealloc_token-Testable 𝓛 a (bare (lone R.mir)) p))
      (guard_i 𝓤 (Testable p) (sem 𝓛 (box_owns block_token R p x)))

  module _ {M : Type 1} {𝓤 : Ura M} {𝓛 : Logic 𝓤} {K : Type 0} {Γ : List (Item 𝓤)} {G : Goal 𝓤 𝓛.H} where
    pub either : K → (p : Ptr) (k : Option R.Denot) → (p ≡ null_ptr → k ≡ None → Seq K 𝓛 Γ G)
        → ((b o : ℕ) (x : R.Denot) → p ≡ block_ptr b o → k ≡ Some x → Testable (block_ptr b o)
        → Seq K 𝓛 (‵ (box_owns block_token R (block_ptr b o) x) ∷ Γ) G)
        → Seq K 𝓛 (‵ (owns_unless_null R p k) ∷ Γ) G
    either t p None none one = fpick t (λ is. drop t $ none is refl)
    either t p (Some x) none one =
        in_a_block t p (λ q. box_owns block_token R q x)
        (fst∗ 𝓤 (never 𝓤) (sem 𝓛 (block_token (bare (lone R.mir)) null_ptr))) (λ b o e.
        use1 𝓛 (given (Testable (block_ptr b o)) (‵ (box_owns block_token R (block_ptr b o) x))) (tested 𝓛
        (block_ptr b o) x) $
        learn t (λ u. one b o x e refl u))
