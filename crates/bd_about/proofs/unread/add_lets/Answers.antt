use Rattle.std.proofs.Common.{◌≡◌, ◌<◌, ◌-◌, suc, Some, map, length, refl, subst, ap, ◌∙◌, arith}
use Rattle.std.specs.Prelude.{slice_get}
use Rattle.std.specs.Option.{option_map}
use Rattle.std.proofs.lemmas.List.{length-map}
use Rattle.std.proofs.lemmas.Option.{slice_get_read, slice_get-map}
use Rattle.bd_model.specs.DesignView.{local_view}
use Rattle.bd_about.proofs.Passing.{Passed, passed_all, passed_more, passed_none}
use Rattle.bd_about.proofs.unread.add_lets.Goals as goal

pub loop-i-init : goal.loop-i-init
loop-i-init c = (omega arith, passed_none (map local_view c.args.lets.now) c.args.marks.now (length c.args.lets.now) (omega (arith, length-map c.args.lets.now local_view)))

pub loop-i-preserved : goal.loop-i-preserved
loop-i-preserved c =
    let lets = map local_view c.args.lets.now in
    let place = c.loop-i.i - 1 in
    let some = c.loop-i-test.true in
    let below : place < length c.args.lets.now = omega (arith, some, c.loop-i.invariant.0) in
    let back : c.loop-i.i ≡ suc place = omega (arith, some) in
    let at : slice_get lets place ≡ Some (local_view c.index-lets-i.result) =
    slice_get-map local_view c.args.lets.now place ∙ ap (option_map local_view) (slice_get_read c.args.lets.now (length c.args.lets.now) place c.index-lets-i.result refl below c.index-lets-i.is) in (
      omega (arith, below),
      passed_more lets c.args.marks.now c.loop-i.marks c.add_let.new.marks place (local_view c.index-lets-i.result) c.requires (subst (λ k. Passed lets c.args.marks.now c.loop-i.marks k) back c.loop-i.invariant.1) at c.in_ok-add_let.ensures,
    )

pub returns : goal.returns
returns c =
    let none : c.loop-i.i ≡ 0 = omega (arith, c.loop-i-test.false) in
    passed_all (map local_view c.args.lets.now) c.args.marks.now c.loop-i.marks (subst (λ k. Passed (map local_view c.args.lets.now) c.args.marks.now c.loop-i.marks k) none c.loop-i.invariant.1)
