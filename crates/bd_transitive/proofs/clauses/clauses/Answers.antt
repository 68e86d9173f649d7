use Rattle.std.proofs.Common.{◌≡◌, ◌+◌, ◌<◌, ◌∙◌, ℕ, List, [], Some, All, get_or, length, slice_get, sym, ap, subst, arith}
use Rattle.std.proofs.lemmas.List.{get_or_read, length-replicate}
use Rattle.std.proofs.lemmas.Option.{slice_get-get_or}
use Rattle.std.proofs.lemmas.List.Elements.{All-contains}
use Rattle.bd_transitive.specs.declared.span.Span.{Span}
use Rattle.bd_transitive.specs.inner.Spans.{AddsFan, AreClausesBelow, IsEarlier, IsSpan, span}
use Rattle.bd_transitive.specs.inner.Rows.{row, HaveNumbers}
use Rattle.bd_transitive.proofs.Numbered.{AreClausesBelow-more, AreClausesBelow-none, HaveNumbers-empty, HaveNumbers-pushed, row_earlier}
use Rattle.bd_transitive.proofs.OrderSpans.{Contains-from_at}
use Rattle.bd_transitive.proofs.Pushed.{pushed_is, length-pushed}
use Rattle.bd_transitive.proofs.clauses.clauses.Goals as goal

pub push_fan-requires-clause-row : goal.push_fan-requires-clause-row
push_fan-requires-clause-row c =
    let spans = c.args.spans.now.keys in
    let items = c.as_slice-span-items.result.now in
    let rows = c.loop-e.rows.items in
    let e = c.loop-e.e in
    let s : Span = get_or items e (span 0 0) in
    let at : slice_get spans e ≡ Some s = ap (λ (l : List Span). slice_get l e) (sym c.as_slice-span-items.ensures.keys) ∙ slice_get-get_or items e (span 0 0) c.loop-e-test.true in
    let bound = All-contains (IsSpan c.args.count) spans s c.requires.complete.bounded (Contains-from_at spans e s at) in
    let less = bound.0 in
    let below = bound.1 in
    let size = c.loop-e.invariant.size in
    let within : s.low < length rows = omega arith in
    let is : c.as_slice-row.result.now ≡ row rows s.low = c.as_slice-row.ensures ∙ get_or_read rows s.low c.index.result.now within c.index.ensures [] in
    subst (All (IsEarlier spans e)) (sym is) (row_earlier spans rows e s at within c.loop-e.invariant.numbers)

pub loop-e-init : goal.loop-e-init
loop-e-init c =
    let spans = c.args.spans.now.keys in
    let rows = c.in_ok-rows.rows.items in
    record {
      size = ap length c.in_ok-rows.ensures ∙ length-replicate c.args.count [];
      numbers = subst (λ (l : List (List ℕ)). HaveNumbers spans l 0) (sym c.in_ok-rows.ensures) (HaveNumbers-empty spans c.args.count);
      clauses = subst (AreClausesBelow spans c.args.variables.now 0) (sym c.new-clauses.ensures) (AreClausesBelow-none spans c.args.variables.now);
    }

pub loop-e-preserved : goal.loop-e-preserved
loop-e-preserved c =
    let spans = c.args.spans.now.keys in
    let items = c.as_slice-span-items.result.now in
    let rows = c.loop-e.rows.items in
    let e = c.loop-e.e in
    let vars = c.args.variables.now in
    let s : Span = get_or items e (span 0 0) in
    let at : slice_get spans e ≡ Some s = ap (λ (l : List Span). slice_get l e) (sym c.as_slice-span-items.ensures.keys) ∙ slice_get-get_or items e (span 0 0) c.loop-e-test.true in
    let bound = All-contains (IsSpan c.args.count) spans s c.requires.complete.bounded (Contains-from_at spans e s at) in
    let less = bound.0 in
    let below = bound.1 in
    let has = c.loop-e.invariant in
    let size = has.size in
    let within : s.low < length rows = omega arith in
    let read : c.as_slice-row.result.now ≡ row rows s.low = c.as_slice-row.ensures ∙ get_or_read rows s.low c.index.result.now within c.index.ensures [] in
    let is = pushed_is rows s.low e c.index_mut.result.now c.push.new.self within c.index_mut.ensures.value c.in_ok-push.ensures.ok in
    let fan : AddsFan spans vars (row rows s.low) e c.loop-e.clauses c.push_fan.new.clauses =
    subst (λ (l : List ℕ). AddsFan spans vars l e c.loop-e.clauses c.push_fan.new.clauses) read c.in_ok-push_fan.ensures in
    record {
      size = ap length is ∙ length-pushed rows s.low e ∙ size;
      numbers = subst (λ (l : List (List ℕ)). HaveNumbers spans l (e + 1)) (sym is) (HaveNumbers-pushed spans rows e s at within has.numbers);
      clauses = AreClausesBelow-more spans rows e s at within has.numbers c.args.count c.requires.complete fan.triangles fan.are vars c.loop-e.clauses c.push_fan.new.clauses has.clauses fan.is;
    }
