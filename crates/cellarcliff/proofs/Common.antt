-- The names that the proofs about pointers cite, passed on from one place. Declares nothing.
pub use Rattle.std.proofs.Common.{◌≡◌, List, [], ◌∷◌, ◌++◌, refl, sym, ap, subst, ◌∙◌, Option, None, Some, lit<}
pub use Rattle.std.{proofs.alloc.Calls.Goes-blank, proofs.alloc.Calls.handle_tells, proofs.alloc.Shapes.after, proofs.cell.Inside.Good}
pub use Rattle.std.{proofs.BoxSteps.Steps.box_out, proofs.BoxSteps.Steps.box_in, proofs.raw_atomic.Walks.proved_at, proofs.raw_atomic.Walks.leaves}
pub use Rattle.std.{specs.Box.Ownership.box_owns, specs.contracts.impls.GlobalAllocator.TheImpl.ghosts}
pub use Rattle.std.{proofs.option.Made.Some-of, proofs.option.Made.none_of, proofs.ResultValues.and_tt}
pub use mir.{Syntax.a_type, Syntax.dcons, Syntax.dnil, Val.Val, Val.vptr, Val.vstruct, Val.of_list, Val.vnull, Val.vcons, Val.vnil, MapTy.inst_fn}
pub use base.{Logic.SProp, Logic.ent, Logic.id⊢, Logic.emp, Logic.never, Logic.fst∗, Fml.ftrue, Fml.flft, Fml.fsep}
pub use prog.{Wp.WpFn}
pub use types.Kit.{‵, raw, ◌⊛◌, some, later, at_ret, ◌$◌, ◌∵◌, !, qed, by, move, keep, drop, split, split3, join, fsplit, fjoin, pick, suffices, use1, await}
pub use types.Kit.{rewrite, feq_i, fpick, use0, feq_l, fpack, fsplit3}
pub use types.{Run.stop, Run.fld, Run.of_opd, Run.no_more, Run.and_then, Run.first, Run.exec, Run.returns, Run.enter, Run.lit, Run.bin, Run.branches}
pub use types.{ByLocal.alloc_all, ByLocal.pass_all, ByLocal.free_all, ByLocal.look_at, ByLocal.get, ByLocal.get_in, ByLocal.sets, ByLocal.env}
pub use types.{ByLocal.sets_last, Part.sub, Part.whole, Part.agg, Logic.sem, Match.live}
pub use contract.{Monad.fact, Monad.fact_i, Running.tables}
pub use denote.{Exit.no, Exit.yes, RattleType.RattleType, RattleType.owns, Signature.types_at, Signature.plain, Signature.type_at, RawPtr.block_ptr}
pub use denote.{RawPtr.Ptr, RawPtr.null_ptr, RawPtr.ptr_val, RawPtr.in_a_block, RawPtr.tests_null, Steps.nothing, Steps.only, Param.param, Param.layout}
pub use denote.{Param.bounded, Param.Laws.param_laws, Triple.Spec.triple_of, Triple.Table.framed, Triple.Walked.Stays, Triple.Walked.stay_dropped}
pub use denote.{Triple.Walked.walk_of, Triple.Walked.Goes-dropped, Builtin.RawPtr, Triple.Entry.alive}
