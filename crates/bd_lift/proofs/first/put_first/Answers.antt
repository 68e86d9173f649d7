-- A new row goes last; one whose arguments stand before changes no value.
use Rattle.std.proofs.Common.{◌≡◌, ◌++◌, ◌∷◌, [], All, Contains, Vec, ℕ, List, Bool, false, is_some, map, nat_eq, ap, sym, ◌∙◌, subst, true}
use Rattle.std.specs.Map.{lookup}
use Rattle.std.specs.declared.alloc.Global.{Global}
use Rattle.std.proofs.lemmas.List.Elements.{All-contains_itself, All-weaker, Contains-append_left}
use Rattle.indexmap.proofs.CallerLemmas.{insert_entry-new}
use lib.Pointwise.{pointwise}
use Rattle.bd_model.specs.Table.{row_value}
use Rattle.bd_lift.specs.inner.First.{entry_row}
use Rattle.bd_lift.proofs.FirstRows.{Entries, put-new, shadowed, unmet}
use Rattle.bd_lift.proofs.first.put_first.Goals as goal
use Rattle.bd_lift.proofs.first.put_first.Goals.{In_ok-insert}

tested : (args mine : List ℕ) (es : Entries) (r b : Bool) → mine ≡ args → r ≡ is_some (lookup (λ (k : Vec ℕ Global). pointwise nat_eq mine k.items) es) → r ≡ b → is_some (lookup (λ (k : Vec ℕ Global). pointwise nat_eq args k.items) es) ≡ b
tested args mine es r b same is h = ap (λ l. is_some (lookup (λ (k : Vec ℕ Global). pointwise nat_eq l k.items) es)) (sym same) ∙ sym is ∙ h

new-rows : (c : In_ok-insert) → map entry_row c.insert.new.self.entries ≡ map entry_row c.args.first.now.entries ++ c.args.row ∷ []
new-rows c =
    let none = unmet c.args.first.now.entries c.into_vec.result c.args.row.args c.into_vec.ensures (tested c.args.row.args c.as_slice.result.now c.args.first.now.entries c.contains_key.result false c.as_slice.ensures c.contains_key.ensures c.if-not-contains_key.true) in
    put-new c.args.first.now.entries c.insert.new.self.entries c.into_vec.result c.args.row c.into_vec.ensures
    (c.in_ok-insert.ensures.entries ∙ insert_entry-new (λ (x y : Vec ℕ Global). pointwise nat_eq x.items y.items) c.args.first.now c.into_vec.result c.args.row.value none)

pub returns-in_ok-insert-clause-same : goal.returns-in_ok-insert-clause-same
returns-in_ok-insert-clause-same c = λ args d. ap (λ l. row_value l args d) (new-rows c)

pub returns-in_ok-insert-clause-among : goal.returns-in_ok-insert-clause-among
returns-in_ok-insert-clause-among c =
    subst (All (Contains (map entry_row c.args.first.now.entries ++ c.args.row ∷ []))) (sym (new-rows c)) (All-contains_itself (map entry_row c.args.first.now.entries ++ c.args.row ∷ []))

pub returns-else-not-contains_key-clause-same : goal.returns-else-not-contains_key-clause-same
returns-else-not-contains_key-clause-same c =
    shadowed c.args.first.now.entries c.args.row (tested c.args.row.args c.as_slice.result.now c.args.first.now.entries c.contains_key.result true c.as_slice.ensures c.contains_key.ensures c.if-not-contains_key.false)

pub returns-else-not-contains_key-clause-among : goal.returns-else-not-contains_key-clause-among
returns-else-not-contains_key-clause-among c =
    All-weaker (Contains (map entry_row c.args.first.now.entries)) (Contains (map entry_row c.args.first.now.entries ++ c.args.row ∷ []))
    (λ x p. Contains-append_left (map entry_row c.args.first.now.entries) (c.args.row ∷ []) x p) (map entry_row c.args.first.now.entries) (All-contains_itself (map entry_row c.args.first.now.entries))
