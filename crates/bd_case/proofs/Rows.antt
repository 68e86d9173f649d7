-- Rows and tables that are written read back.
use Rattle.std.proofs.Common.{◌≡◌, ℕ, ◌+◌, Bool, true, false, List, [], ◌∷◌, ◌++◌, length, map, Some, Result, Ok, refl, sym, ap, ◌∙◌, arith}
use Rattle.std.specs.List.{AllByRecursion}
use Rattle.std.proofs.lemmas.Bool.{eq-eqb}
use Rattle.std.proofs.lemmas.List.{length-map}
use Rattle.bd_text.specs.Nodes.{Node, atom, list, Nodes, no_nodes, node, node_count}
use Rattle.bd_text.specs.View.{nodes_from}
use Rattle.bd_text.specs.Written.{without_offsets, all_without_offsets}
use Rattle.bd_syntax.specs.Reading.{Fault, each_form, before_last, last_node}
use Rattle.bd_model.specs.Fits.{scalar_sort}
use Rattle.bd_model.specs.declared.design.Sort.{Sort}
use Rattle.bd_model.specs.declared.table.Row.{Row}
use Rattle.bd_model.specs.declared.table.Table.{Table}
use Rattle.bd_case.specs.Content.{IsShort, IsShortRow, IsShortTable}
use Rattle.bd_case.specs.Reading.{word_form, scalar_form, row_parts, counted_form, row_form, kept, table_form}
use Rattle.bd_case.specs.Text.{word_node, scalar_node, row_node}
use Rattle.bd_case.specs.declared.kind.EntryKind.{EntryKind}
use Rattle.bd_case.proofs.Atoms.{word_form-word_node, scalar_form-scalar_node}

-- each of some trees reads back
pub each_form-map : {A : Type 0} (form : Node → Result A Fault) (node_for : A → Node) (P : A → Type 0)
    → ((x : A) (u : Node) → P x → without_offsets u ≡ node_for x → form u ≡ Ok x)
    → (xs : List A) (us : Nodes) → AllByRecursion P xs → all_without_offsets us ≡ nodes_from (map node_for xs) → each_form form us ≡ Ok xs
each_form-map form node_for P reads [] no_nodes all e = refl
each_form-map form node_for P reads [] (node u us) all e = absurd (cc)
each_form-map form node_for P reads (x ∷ xs) no_nodes all e = absurd (cc)
each_form-map form node_for P reads (x ∷ xs) (node u us) all e =
    let first : form u ≡ Ok x = reads x u all.0 (cc) in
    let rest : each_form form us ≡ Ok xs = each_form-map form node_for P reads xs us all.1 (cc) in
    rw (first, rest) refl

-- the last of some trees, and those before it
record EndsWith (before : List Node) (last : Node) (us : Nodes) : Type 0 where
  end : Node
  is_end : last_node us ≡ Some end
  same_end : without_offsets end ≡ last
  same_before : all_without_offsets (before_last us) ≡ nodes_from before
  count : node_count us ≡ length before + 1

ends_with : (before : List Node) (last : Node) (us : Nodes) → all_without_offsets us ≡ nodes_from (before ++ last ∷ []) → EndsWith before last us
ends_with [] last no_nodes e = absurd (cc)
ends_with [] last (node u no_nodes) e = record { end = u; is_end = refl; same_end = cc; same_before = refl; count = refl }
ends_with [] last (node u (node v vs)) e = absurd (cc)
ends_with (x ∷ xs) last no_nodes e = absurd (cc)
ends_with (x ∷ xs) last (node u no_nodes) e =
    let rest : EndsWith xs last no_nodes = ends_with xs last no_nodes (cc) in
    absurd (cc rest.is_end)
ends_with (x ∷ xs) last (node u (node v vs)) e =
    let rest : EndsWith xs last (node v vs) = ends_with xs last (node v vs) (cc) in
    let first : without_offsets u ≡ x = cc in
    record {
      end = rest.end;
      is_end = rest.is_end;
      same_end = rest.same_end;
      same_before = let others = rest.same_before in rw (first, others) refl;
      count = let others = rest.count in omega arith;
    }

-- a row of so many words, and a value of that sort
pub record IsRowOf (kind : EntryKind) (r : Row) : Type 0 where
  pub arity : length r.args ≡ kind.arity
  pub value : scalar_sort r.value ≡ kind.sort

row_parts-row : (s : Sort) (offset : ℕ) (r : Row) (us : Nodes) → scalar_sort r.value ≡ s → IsShortRow r
    → all_without_offsets us ≡ nodes_from (map word_node r.args ++ scalar_node r.value ∷ []) → row_parts s offset us ≡ Ok r
unfolding row_parts
row_parts-row s offset r us sorted short e =
    let ends = ends_with (map word_node r.args) (scalar_node r.value) us e in
    let is_end = ends.is_end in
    let words : each_form word_form (before_last us) ≡ Ok r.args =
    each_form-map word_form word_node IsShort (λ n u small same. word_form-word_node n u small same) r.args (before_last us) short.args ends.same_before in
    let value : scalar_form s ends.end ≡ Ok r.value = ap (λ t. scalar_form t ends.end) (sym sorted) ∙ scalar_form-scalar_node r.value ends.end short.value ends.same_end in
    rw (words, is_end, value) refl

pub row_form-row_node : (kind : EntryKind) (r : Row) (u : Node) → IsRowOf kind r × IsShortRow r → without_offsets u ≡ row_node r → row_form kind u ≡ Ok r
unfolding counted_form
row_form-row_node kind r (atom offset text) h e = absurd (cc)
row_form-row_node kind r (list offset parts) h e =
    let inside : all_without_offsets parts ≡ nodes_from (map word_node r.args ++ scalar_node r.value ∷ []) = cc in
    let ends = ends_with (map word_node r.args) (scalar_node r.value) parts inside in
    let arity = h.0.arity in
    let count : node_count parts ≡ kind.arity + 1 = omega (arith, ends.count, length-map r.args word_node) in
    let test = eq-eqb (node_count parts) (kind.arity + 1) count in
    rw test (row_parts-row kind.sort offset r parts h.0.value h.1 inside)

-- a table of that sort and arity, without rows where it is kept apart
pub record IsTableOf (kind : EntryKind) (t : Table) : Type 0 where
  pub default : scalar_sort t.default ≡ kind.sort
  pub rows : AllByRecursion (IsRowOf kind) t.rows
  pub apart : kind.apart ≡ true → t.rows ≡ []

both : {A : Type 0} (P Q : A → Type 0) (xs : List A) → AllByRecursion P xs → AllByRecursion Q xs → AllByRecursion (λ x. P x × Q x) xs
both P Q [] p q = tt
both P Q (x ∷ xs) p q = ((p.0, q.0), both P Q xs p.1 q.1)

kept-same : (apart : Bool) (t : Table) → (apart ≡ true → t.rows ≡ []) → kept apart t ≡ t
kept-same false t h = refl
kept-same true t h = let none : t.rows ≡ [] = h refl in rw none (cc)

pub table_form-table : (kind : EntryKind) (t : Table) (u : Node) (us : Nodes) → IsTableOf kind t → IsShortTable t
    → without_offsets u ≡ scalar_node t.default → all_without_offsets us ≡ nodes_from (map row_node t.rows) → table_form kind u us ≡ Ok t
unfolding table_form
table_form-table kind t u us fits short same_default same_rows =
    let default : scalar_form kind.sort u ≡ Ok t.default = ap (λ s. scalar_form s u) (sym fits.default) ∙ scalar_form-scalar_node t.default u short.default same_default in
    let rows : each_form (row_form kind) us ≡ Ok t.rows =
    each_form-map (row_form kind) row_node (λ r. IsRowOf kind r × IsShortRow r) (row_form-row_node kind) t.rows us (both (IsRowOf kind) IsShortRow t.rows fits.rows short.rows) same_rows in
    rw (default, rows) (ap Ok (kept-same kind.apart t fits.apart))
