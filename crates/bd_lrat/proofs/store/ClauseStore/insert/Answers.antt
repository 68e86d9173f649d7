use Rattle.std.proofs.Common.{◌≡◌, ℕ, ◌<◌, ◌∷◌, [], ◌++◌, List, Bool, true, ap, sym, ◌∙◌, subst}
use Rattle.std.specs.FinMap as map
use Rattle.bd_cnf.specs.Literal.{Literal}
use Rattle.bd_lrat.specs.inner.Store.{IsStore, Store, store, standing_of}
use Rattle.bd_lrat.proofs.Stored.{standing_insert, store_insert}
use Rattle.bd_lrat.proofs.store.ClauseStore.insert.Goals as goal

pub invariant_of-self-2 : goal.invariant_of-self-2
invariant_of-self-2 c =
    let inside = c.self.inside in
    let ids : c.push_reserved.new.self.items ≡ inside.ids.items ++ c.args.id ∷ [] = c.push_reserved.ensures.items ∙ ap (λ (xs : List ℕ). xs ++ c.args.id ∷ []) c.reserve.ensures.items in
    let stands : c.push_reserved-2.new.self.items ≡ inside.stands.items ++ true ∷ [] = c.push_reserved-2.ensures.items ∙ ap (λ (xs : List Bool). xs ++ true ∷ []) c.reserve-2.ensures.items in
    let above : inside.last < c.args.id = subst (λ (s : Store). s.last < c.args.id) (sym c.self.view_is) c.requires.above in
    let so : IsStore c.args.id (inside.ids.items ++ c.args.id ∷ []) (inside.stands.items ++ true ∷ []) (inside.clauses ++ c.args.clause.now ∷ []) = store_insert inside.last inside.ids.items inside.stands.items inside.clauses c.self.invariant c.args.id c.args.clause.now above in
    subst (λ (cs : List (List Literal)). IsStore c.args.id c.push_reserved.new.self.items c.push_reserved-2.new.self.items cs) (sym c.in_ok-push.ensures.ok) (
    subst (λ (xs : List ℕ). IsStore c.args.id xs c.push_reserved-2.new.self.items (inside.clauses ++ c.args.clause.now ∷ [])) (sym ids) (
    subst (λ (xs : List Bool). IsStore c.args.id (inside.ids.items ++ c.args.id ∷ []) xs (inside.clauses ++ c.args.clause.now ∷ [])) (sym stands) so
    )
    )

pub returns-clause-ok : goal.returns-clause-ok
returns-clause-ok c =
    let inside = c.self.inside in
    let ids : c.push_reserved.new.self.items ≡ inside.ids.items ++ c.args.id ∷ [] = c.push_reserved.ensures.items ∙ ap (λ (xs : List ℕ). xs ++ c.args.id ∷ []) c.reserve.ensures.items in
    let stands : c.push_reserved-2.new.self.items ≡ inside.stands.items ++ true ∷ [] = c.push_reserved-2.ensures.items ∙ ap (λ (xs : List Bool). xs ++ true ∷ []) c.reserve-2.ensures.items in
    let above : inside.last < c.args.id = subst (λ (s : Store). s.last < c.args.id) (sym c.self.view_is) c.requires.above in
    let new = standing_insert inside.last inside.ids.items inside.stands.items inside.clauses c.self.invariant c.args.id c.args.clause.now above in
    ap (store c.args.id) ((λ i. standing_of (ids i) (stands i) (c.in_ok-push.ensures.ok i)) ∙ new ∙ ap (λ (s : Store). map.insert s.clauses c.args.id c.args.clause.now) c.self.view_is)
