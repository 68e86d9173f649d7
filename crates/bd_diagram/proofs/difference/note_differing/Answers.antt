use Rattle.std.proofs.Common.{◌≡◌, ℕ, Bool, List, subst, sym, ◌∙◌, ap}
use Rattle.std.specs.Prelude.{◌==◌, slice_index_or}
use Rattle.std.specs.List.{list_any}
use Rattle.bd_diagram.proofs.Differing.{with_same, with_found, with_new, differing_step}
use Rattle.bd_diagram.proofs.difference.note_differing.Goals as goal
use Rattle.bd_diagram.proofs.difference.note_differing.Goals.{then-at+then-not-has+in_ok-push, else-at, else-at-via-then-at+else-not-has, else-at-via-else-at}

-- what the test says of the addresses
noted : (items found : List ℕ) (a : ℕ) (b : Bool) (t : Bool) → items ≡ found → b ≡ list_any (λ w. w == a) items → b ≡ t → list_any (λ w. w == a) found ≡ t
noted items found a b t same is tells = subst (λ (xs : List ℕ). list_any (λ w. w == a) xs ≡ t) same (sym is ∙ tells)

pub loop-row-preserved : goal.loop-row-preserved
loop-row-preserved c =
    let a = (slice_index_or c.args.rows.now c.loop-row.row-index (record { address = 0; value = 0 })).address in
    let step = differing_step c.args.first.now c.args.second.now c.loop-row.addresses.items c.if-at.addresses.items c.args.rows.now c.loop-row.row-index _ c.loop-row-test.true c.loop-row.invariant in
    elim c.if-at.branch [
      | then-at+then-not-has+in_ok-push w ↦
          step (ap (λ v. v.items) w.addresses-is ∙ w.in_ok-push.ensures.items ∙ sym (with_new c.args.first.now c.args.second.now c.loop-row.addresses.items a (λ e. w.if-at.true (c.at.ensures ∙ e ∙ sym c.at-in-loop-row.ensures)) (noted _ _ _ _ _ w.as_slice.ensures.value w.has.ensures w.if-not-has.true)))
      | else-at w ↦ elim w.else-at.branch [
        | else-at-via-then-at+else-not-has w' ↦ step (ap (λ v. v.items) w.addresses-is ∙ sym (with_found c.args.first.now c.args.second.now c.loop-row.addresses.items a (noted _ _ _ _ _ w'.as_slice.ensures.value w'.has.ensures w'.if-not-has.false)))
        | else-at-via-else-at w' ↦ step (ap (λ v. v.items) w.addresses-is ∙ sym (with_same c.args.first.now c.args.second.now c.loop-row.addresses.items a (sym c.at.ensures ∙ w'.if-at.false ∙ c.at-in-loop-row.ensures)))
      ]
    ]
