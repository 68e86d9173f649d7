use Rattle.std.proofs.Common.{◌≡◌, ◌+◌, ◌<◌, Some, get_or, slice_get, length, sym, subst}
use Rattle.std.proofs.lemmas.Option.{slice_get-get_or}
use Rattle.bd_transitive.specs.declared.span.Span.{Span}
use Rattle.bd_transitive.specs.Triangle.{value_at}
use Rattle.bd_transitive.specs.inner.Spans.{span}
use Rattle.bd_transitive.specs.inner.Links.{AreLinks}
use Rattle.bd_transitive.proofs.Linking.{links_none, links_false, links_true}
use Rattle.bd_transitive.proofs.equivalence.links.Goals as goal
use Rattle.bd_transitive.proofs.equivalence.links.Goals.{then-is_true, else-is_true}

pub loop-e-init : goal.loop-e-init
loop-e-init c = links_none c.args.spans.now (value_at c.args.values.now) c.args.count c.in_ok-links.links.items c.in_ok-links.ensures.size c.in_ok-links.ensures.own

pub loop-e-preserved : goal.loop-e-preserved
loop-e-preserved c =
    let spans = c.args.spans.now in
    let value = value_at c.args.values.now in
    let count = c.args.count in
    let e = c.loop-e.e in
    let links = c.loop-e.links.items in
    let s : Span = get_or spans e (span 0 0) in
    let lt : e < length spans = c.loop-e-test.true in
    let at : slice_get spans e ≡ Some s = slice_get-get_or spans e (span 0 0) lt in
    let bound = c.requires.bounded e (span 0 0) lt in
    elim c.if-is_true.branch [
      | then-is_true w ↦ subst (λ v. AreLinks spans value count (e + 1) v.items) (sym w.links-is) (links_true spans value count e links s at c.loop-e.invariant bound.0 bound.1 w.if-is_true.true)
      | else-is_true w ↦ subst (λ v. AreLinks spans value count (e + 1) v.items) (sym w.links-is) (links_false spans value count e links s at c.loop-e.invariant w.if-is_true.false)
    ]
