use Rattle.std.proofs.Common.{◌≡◌, ◌↔◌, Some, slice_get, ap, sym, ◌∙◌, subst, arith}
use Rattle.std.proofs.lemmas.Option.{slice_get-get_or}
use Rattle.bd_function.specs.Flat.{IsFlat}
use Rattle.bd_equality.specs.inner.Apart.{IsListed}
use Rattle.bd_equality.specs.inner.Sets.{variable_of}
use Rattle.bd_equality.proofs.Constants.{IsKept-start, IsKept-step, IsKept-end}
use Rattle.bd_equality.proofs.apart.known_constants.Goals as goal

pub loop-sym-init : goal.loop-sym-init
loop-sym-init c = IsKept-start c.as_slice-sym-items.result.now c.args.vertices.now c.new-constants.result c.new-constants.ensures

pub loop-sym-preserved : goal.loop-sym-preserved
loop-sym-preserved c =
    let items = c.as_slice-sym-items.result.now in
    let there : slice_get items c.loop-sym.sym-index ≡ Some c.sym-item.result = slice_get-get_or items c.loop-sym.sym-index c.sym-item.result (omega arith) ∙ ap Some (sym c.sym-item.is) in
    IsKept-step c.args.flat.now.graph c.args.flat.now.root items (subst (IsFlat c.args.flat.now.graph c.args.flat.now.root) (sym c.as_slice-sym-items.ensures) c.args.flat.now.flat) c.args.vertices.now
    c.loop-sym.sym-index c.loop-sym.constants c.add_constant.new.constants c.sym-item.result there c.loop-sym.invariant c.in_ok-add_constant.ensures

pub returns : goal.returns
returns c f x =
    subst (λ l. (variable_of c.loop-sym.constants f ≡ Some x) ↔ IsListed l c.args.vertices.now f x) c.as_slice-sym-items.ensures
    (IsKept-end c.as_slice-sym-items.result.now c.args.vertices.now c.loop-sym.sym-index c.loop-sym.constants (omega arith) c.loop-sym.invariant f x)
