use Rattle.std.proofs.Common.{◌≡◌, ap, sym, ◌∙◌, subst, length, refl, arith}
use Rattle.std.proofs.lemmas.Grind.{common_steps}
use Rattle.bd_terms.specs.Graph.{sort_at}
use Rattle.bd_terms.specs.Denotation.{Denotes, denoted}
use Rattle.bd_function.specs.declared.flat.FlatSym.{FlatSym}
use Rattle.bd_function.specs.inner.Nested.{AreEarlier, IsNestedChoice, chosen}
use Rattle.bd_function.specs.inner.Taken.{with_row}
use Rattle.std.proofs.lemmas.Option.{get_or_from_slice_get, slice_get_within}
use Rattle.bd_model.specs.declared.design.Sort.TheVariants as kind
use Rattle.bd_terms.proofs.Growth.{All-HasSort-Extends}
use Rattle.bd_function.proofs.Making.{Applies-made}
use Rattle.bd_function.proofs.Stepping.{Applies-Steps, earlier_rows, extends_two}
use Rattle.bd_function.proofs.eliminate.apply.Goals as goal

pub nested-requires-clause-arguments : goal.nested-requires-clause-arguments
nested-requires-clause-arguments c =
    All-HasSort-Extends c.args.taken.now.graph c.place.new.taken.graph
    (extends_two c.args.taken.now c.add_variable.new.taken c.place.new.taken c.in_ok-own.own c.args.sort c.args.sym c.in_ok-place.place c.in_ok-own.ensures c.in_ok-place.ensures)
    kind.Word c.args.args.now c.requires.arguments

pub nested-requires-clause-rows : goal.nested-requires-clause-rows
nested-requires-clause-rows c =
    let a = c.in_ok-place.ensures in
    let rows : c.as_slice-rows.result.now ≡ a.holder.rows =
    c.as_slice-rows.ensures ∙ ap (λ (x : FlatSym). x.rows) (c.index.ensures ∙ get_or_from_slice_get c.place.new.taken.rows.items c.in_ok-place.place a.holder _ a.there) in
    subst (AreEarlier c.place.new.taken.graph c.deref.result.now (length c.args.args.now) (sort_at c.place.new.taken.graph c.in_ok-own.own)) (sym rows)
    (subst (λ l. AreEarlier c.place.new.taken.graph l (length c.args.args.now) (sort_at c.place.new.taken.graph c.in_ok-own.own) a.holder.rows) (sym c.deref.ensures.value)
    (earlier_rows c.args.taken.now c.add_variable.new.taken c.place.new.taken c.in_ok-own.own (length c.args.args.now) c.args.sort c.args.sym c.in_ok-place.place
    c.requires.taken c.requires.rows c.in_ok-own.ensures a))

pub push-requires : goal.push-requires
push-requires c = slice_get_within c.place.new.taken.rows.items c.in_ok-place.place c.in_ok-place.ensures.holder c.in_ok-place.ensures.there

pub returns-clause-steps : goal.returns-clause-steps
returns-clause-steps c =
    let a = c.in_ok-place.ensures in
    let rows : c.as_slice-rows.result.now ≡ a.holder.rows =
    c.as_slice-rows.ensures ∙ ap (λ (x : FlatSym). x.rows) (c.index.ensures ∙ get_or_from_slice_get c.place.new.taken.rows.items c.in_ok-place.place a.holder _ a.there) in
    let size : c.len-var.result ≡ length c.args.taken.now.variables.items = grind (arith, common_steps) in
    Applies-Steps c.args.taken.now c.add_variable.new.taken c.place.new.taken _ c.in_ok-own.own c.in_ok-id.id c.in_ok-place.place c.args.args.now c.args.sort c.args.sym
    c.requires.taken c.requires.rows c.requires.arguments c.in_ok-own.ensures a (record {
      graph = c.in_ok-id.ensures.graph;
      extends = c.in_ok-id.ensures.extends;
      adds = c.in_ok-id.ensures.uses;
      sorted = c.in_ok-id.ensures.sorted;
      denotes = subst (λ l. Denotes c.nested.new.graph c.in_ok-id.id (λ w. chosen w c.place.new.taken.graph c.place.new.taken.variables.items l c.args.args.now (denoted w c.place.new.taken.graph c.in_ok-own.own))) rows
          (subst (λ l. Denotes c.nested.new.graph c.in_ok-id.id (λ w. chosen w c.place.new.taken.graph l c.as_slice-rows.result.now c.args.args.now (denoted w c.place.new.taken.graph c.in_ok-own.own))) c.deref.ensures.value c.in_ok-id.ensures.denotes);
      variables = refl;
      symbols = refl;
      rows = c.in_ok-push.ensures ∙ ap (with_row c.place.new.taken.rows.items c.in_ok-place.place) (c.in_ok-row.ensures ∙ (λ i. record { args = c.args.args.now; var = size i }));
      made = subst (λ l. IsNestedChoice c.nested.new.graph c.place.new.taken.variables.items l c.args.args.now c.in_ok-own.own c.in_ok-id.id) rows
          (subst (λ l. IsNestedChoice c.nested.new.graph l c.as_slice-rows.result.now c.args.args.now c.in_ok-own.own c.in_ok-id.id) c.deref.ensures.value c.in_ok-id.ensures.made);
    })

pub returns-clause-made : goal.returns-clause-made
returns-clause-made c =
    let a = c.in_ok-place.ensures in
    let rows : c.as_slice-rows.result.now ≡ a.holder.rows =
    c.as_slice-rows.ensures ∙ ap (λ (x : FlatSym). x.rows) (c.index.ensures ∙ get_or_from_slice_get c.place.new.taken.rows.items c.in_ok-place.place a.holder _ a.there) in
    let size : c.len-var.result ≡ length c.args.taken.now.variables.items = grind (arith, common_steps) in
    Applies-made c.args.taken.now c.add_variable.new.taken c.place.new.taken _ c.in_ok-own.own c.in_ok-id.id c.in_ok-place.place c.args.args.now c.args.sort c.args.sym
    c.requires.taken c.requires.rows c.in_ok-own.ensures a (record {
      graph = c.in_ok-id.ensures.graph;
      extends = c.in_ok-id.ensures.extends;
      adds = c.in_ok-id.ensures.uses;
      sorted = c.in_ok-id.ensures.sorted;
      denotes = subst (λ l. Denotes c.nested.new.graph c.in_ok-id.id (λ w. chosen w c.place.new.taken.graph c.place.new.taken.variables.items l c.args.args.now (denoted w c.place.new.taken.graph c.in_ok-own.own))) rows
          (subst (λ l. Denotes c.nested.new.graph c.in_ok-id.id (λ w. chosen w c.place.new.taken.graph l c.as_slice-rows.result.now c.args.args.now (denoted w c.place.new.taken.graph c.in_ok-own.own))) c.deref.ensures.value c.in_ok-id.ensures.denotes);
      variables = refl;
      symbols = refl;
      rows = c.in_ok-push.ensures ∙ ap (with_row c.place.new.taken.rows.items c.in_ok-place.place) (c.in_ok-row.ensures ∙ (λ i. record { args = c.args.args.now; var = size i }));
      made = subst (λ l. IsNestedChoice c.nested.new.graph c.place.new.taken.variables.items l c.args.args.now c.in_ok-own.own c.in_ok-id.id) rows
          (subst (λ l. IsNestedChoice c.nested.new.graph l c.as_slice-rows.result.now c.args.args.now c.in_ok-own.own c.in_ok-id.id) c.deref.ensures.value c.in_ok-id.ensures.made);
    })
