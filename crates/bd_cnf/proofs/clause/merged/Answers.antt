use Rattle.std.proofs.Common.{◌≡◌, ◌<◌, ◌≢◌, ◌∷◌, [], ◌++◌, List, length, take, set, get_or, sym, ap, ◌∙◌, arith, length-set, get_or-set_other}
use Rattle.std.proofs.lemmas.List.{take_more_set}
use Rattle.bd_cnf.specs.Literal.{Literal}
use Rattle.bd_cnf.proofs.Literals.{negate_from_apart, same_literal}
use Rattle.bd_cnf.proofs.Rising.{last_of, last_of_none, merged_next, merged_same, merged_tautology, signs_same, signs_apart}
use Rattle.bd_cnf.proofs.clause.merged.Goals as goal
use Rattle.bd_cnf.proofs.clause.merged.Goals.{in-Some+else-is_positive, in_default, in_default-via-in-Some+else-var, in_default-via-in_default}

pub returns-then-is_positive-clause-none : goal.returns-then-is_positive-clause-none
returns-then-is_positive-clause-none c =
    let last = c.in-Some.field-0.now in
    let lit = c.index-lit.result.now in
    let sorted = c.args.sorted.items in
    let place = c.loop-place.place in
    let cur = c.loop-place.lits.items in
    let item = c.in-Some.ensures.item in
    let here : place < length sorted = omega (arith, c.loop-place-test.true, c.loop-place.auto.place-end, c.len-place-end.ensures, c.args.sorted.ok.0) in
    let is : lit ≡ get_or sorted place lit = c.index-lit.ensures ∙ c.loop-place.invariant.rest place lit (omega arith) in
    let found = last_of _ (take c.loop-place.kept cur) last (ap (take c.loop-place.kept) c.deref.ensures.value) item.3.0 item.1 in
    let vars : last.var ≡ lit.var = sym c.var.ensures.value ∙ c.if-var.true ∙ c.var-var.ensures.value in
    let other : last ≡ _ = negate_from_apart last lit vars (λ e. signs_apart _ _ c.if-is_positive.true (c.is_positive.ensures ∙ e ∙ sym c.is_positive-in-Some.ensures)) in
    merged_tautology place sorted (take c.loop-place.kept cur) lit last here is c.loop-place.invariant.merged found.1 other

pub loop-place-preserved : goal.loop-place-preserved
loop-place-preserved c =
    let lit = c.index-lit.result.now in
    let sorted = c.args.sorted.items in
    let place = c.loop-place.place in
    let kept = c.loop-place.kept in
    let cur = c.loop-place.lits.items in
    let inv = c.loop-place.invariant in
    let here : place < length sorted = omega (arith, c.loop-place-test.true, c.loop-place.auto.place-end, c.len-place-end.ensures, c.args.sorted.ok.0) in
    let is : lit ≡ get_or sorted place lit = c.index-lit.ensures ∙ inv.rest place lit (omega arith) in
    let slice = ap (take kept) c.deref.ensures.value in
    elim c.match-last.branch [
      | in-Some+else-is_positive w ↦
          let last = w.in-Some.field-0.now in
          let item = w.in-Some.ensures.item in
          let found = last_of _ (take kept cur) last slice item.3.0 item.1 in
          let vars : last.var ≡ lit.var = sym w.var.ensures.value ∙ w.if-var.true ∙ c.var-var.ensures.value in
          let signs : last.positive ≡ lit.positive = sym w.is_positive.ensures ∙ signs_same _ _ w.if-is_positive.false ∙ w.is_positive-in-Some.ensures in
          let same : c.match-last.lits.items ≡ cur = ap (λ v. v.items) w.lits-is in
          record {
            low = omega (arith, w.kept-is, inv.low);
            long = ap length same ∙ inv.long;
            merged = merged_same place sorted (take kept cur) _ lit last here is inv.merged found (same_literal last lit vars signs) (λ i. take (w.kept-is i) (same i));
            rest = λ k d h. ap (λ (ls : List Literal). get_or ls k d) same ∙ inv.rest k d (omega arith);
          }
      | in_default w ↦
          let same : c.match-last.lits.items ≡ set cur kept lit = ap (λ v. v.items) w.lits-is in
          let room : kept < length cur = omega (arith, inv.long, inv.low) in
          let pushed : take c.match-last.kept c.match-last.lits.items ≡ take kept cur ++ lit ∷ [] = (λ i. take (w.kept-is i) (same i)) ∙ take_more_set cur kept lit room in
          record {
            low = omega (arith, w.kept-is, inv.low);
            long = ap length same ∙ length-set cur kept lit ∙ inv.long;
            merged =
                elim w.in_default.branch [
                  | in_default-via-in-Some+else-var u ↦
                      let last = u.in-Some.field-0.now in
                      let item = u.in-Some.ensures.item in
                      let found = last_of _ (take kept cur) last slice item.3.0 item.1 in
                      merged_next place sorted (take kept cur) _ lit here is c.requires inv.merged (λ e. u.if-var.false (u.var.ensures.value ∙ sym found.0 ∙ e ∙ sym c.var-var.ensures.value)) pushed
                  | in_default-via-in_default u ↦
                      let none = last_of_none _ (take kept cur) slice u.in_default.ensures.item.3 in
                      let up : 0 < lit.var = omega (arith, c.var-var.ensures.from_one) in
                      merged_next place sorted (take kept cur) _ lit here is c.requires inv.merged (λ e. absurd (omega arith)) pushed
                ];
            rest = λ k d h. let other : k ≢ kept = omega (arith, inv.low) in ap (λ (ls : List Literal). get_or ls k d) same ∙ get_or-set_other cur kept k lit d other ∙ inv.rest k d (omega arith);
          }
    ]
