-- A trail that is written reads back, and so does a case.
use Rattle.std.proofs.Common.{◌≡◌, ◌≢◌, inl, inr, ℕ, zero, suc, ◌+◌, ◌<◌, ◌≤◌, true, false, List, [], ◌∷◌, ◌++◌, length, map, drop, get_or, set, Option, Some, None, Ok, refl, sym, ap, subst, ◌∙◌, arith}
use Rattle.std.specs.Prelude.{codes, if◌then◌else◌}
use Rattle.std.specs.Fmt.{decimal}
use Rattle.std.proofs.lemmas.Bool.{eq-eqb}
use Rattle.std.specs.List.{AllByRecursion, AllZip, AllPairs}
use Rattle.std.specs.Cmp.{unsigned_Decides}
use Rattle.std.proofs.lemmas.Slice.Eq.{slice_eq-Decides}
use Rattle.std.proofs.lemmas.List.{length-map, length-append, length-drop, drop_more}
use Rattle.std.proofs.lemmas.Slice.Zip.{AllZip-long}
use Rattle.bd_text.specs.Nodes.{Node, atom, list, Nodes, no_nodes, node, node_count}
use Rattle.bd_text.specs.View.{nodes_from}
use Rattle.bd_text.specs.Written.{without_offsets, all_without_offsets}
use Rattle.bd_syntax.specs.Words.{same_text}
use Rattle.bd_syntax.specs.Reading.{each_form, number_form, offset_of}
use Rattle.bd_model.specs.DesignView.{DesignView, PortView}
use Rattle.bd_model.specs.Lawful.{IsLawful, all_names}
use Rattle.bd_model.specs.Name.{IsName}
use Rattle.bd_model.specs.Value.{no_table}
use Rattle.bd_model.specs.Fits.{TrailFits, TableFits, scalar_sort, value_sort}
use Rattle.bd_model.specs.declared.table.Row.{Row}
use Rattle.bd_model.specs.declared.table.Table.{Table}
use Rattle.bd_model.specs.declared.table.Scalar.{Scalar}
use Rattle.bd_model.specs.declared.table.Value.{Value}
use Rattle.bd_model.specs.declared.design.Sort.{Sort}
use Rattle.bd_model.specs.declared.design.Sort.TheVariants as sort
use Rattle.bd_model.specs.declared.design.Symbol.{Symbol}
use Rattle.bd_model.specs.declared.design.Entry.{Entry}
use Rattle.bd_model.specs.declared.case.Trail.{Trail}
use Rattle.bd_case.specs.Kinds.{subject_text, head_text, head_of, head_takes, is_input, is_apart, symbol_kind, symbol_kinds, sort_kind, entry_kind, input_kind, kinds}
use Rattle.bd_case.specs.Content.{IsShortScalar, IsShortRow, IsShortTable, column, value_row, values_table, table_of_value, input_tables, tables_of, trail_from}
use Rattle.bd_case.specs.Reading.{scalar_form, value_form, values_form, content_form, place_of, kind_at, is_head, parts_form, entry_form, entries_form, whole_form, nothing_given, distinct_form, version_part, cycles_part, layout_part, file_form, walk_form, text_form}
use Rattle.bd_case.specs.Text.{word_node, scalar_node, row_node, entry_node, values_node, symbol_nodes, state_nodes, input_nodes, trail_nodes, version_text}
use Rattle.bd_case.specs.declared.kind.Subject.{Subject}
use Rattle.bd_case.specs.declared.kind.Layout.{Layout}
use Rattle.bd_case.specs.declared.kind.Version.{Version}
use Rattle.bd_case.specs.declared.kind.Version.TheVariants.{One, Two}
use Rattle.bd_case.specs.declared.kind.EntryHead.TheVariants as heads
use Rattle.bd_case.specs.declared.kind.EntryKind.{EntryKind}
use Rattle.bd_case.proofs.Atoms.{name_form-name, number_form-word_node, scalar_form-scalar_node}
use Rattle.bd_case.proofs.Rows.{table_form-table}
use Rattle.bd_case.proofs.Inputs.{values_back}
use Rattle.bd_case.proofs.Contents.{IsTabled, IsContent, input_known, symbol_head-tabled, trail_contents, trail_from-tables_of}
use Rattle.bd_case.proofs.Constants.{distinct_form-fits}
use Rattle.bd_model.specs.Limits.{most_cycles}

-- ---- places of names

same_text-same : (name : List ℕ) → same_text name name ≡ true
same_text-same name = (slice_eq-Decides unsigned_Decides name name (same_text name name) refl).1 refl

same_text-other : (name other : List ℕ) → name ≢ other → same_text name other ≡ false
same_text-other name other ne = elim (same_text name other) as (λ b. (same_text name other ≡ b) → b ≡ false) [
  | true ↦ (λ is. absurd (ne ((slice_eq-Decides unsigned_Decides name other (same_text name other) refl).0 is)))
  | false ↦ (λ is. refl)
] refl

place_of-get : (names : List (List ℕ)) (i : ℕ) → AllPairs ◌≢◌ names → i < length names → place_of (get_or names i []) names ≡ Some i
place_of-get [] i different lt = absurd (omega arith)
place_of-get (n ∷ ns) zero different lt = rw same_text-same refl
place_of-get (n ∷ ns) (suc i) different lt =
    let other : same_text n (get_or ns i []) ≡ false = same_text-other n (get_or ns i []) (different zero (suc i) [] (omega arith) (omega arith)) in
    let rest : place_of (get_or ns i []) ns ≡ Some i = place_of-get ns i (λ j k d below within. different (suc j) (suc k) d (omega arith) (omega arith)) (omega arith) in
    rw (other, rest) refl

-- ---- one entry

-- what follows the name: the values of an input, or a default and rows
abbrev pub content_nodes : EntryKind → Table → Nodes
content_nodes kind t =
    if is_input kind.head then nodes_from (map scalar_node (map (λ (r : Row). r.value) t.rows))
    else node (scalar_node t.default) (nodes_from (map row_node t.rows))

abbrev pub content_node : EntryKind → List ℕ → Table → Node
content_node kind name t = list 0 (node (atom 0 (head_text kind.head)) (node (atom 0 name) (content_nodes kind t)))

-- what is read of an entry's parts
record ContentReads (version : Version) (cycles : ℕ) (kind : EntryKind) (t : Table) (offset : ℕ) (us : Nodes) : Type 0 where
  known : head_of version (head_text kind.head) ≡ Some kind.head
  takes : head_takes cycles kind.head (1 + node_count us) ≡ true
  reads : content_form kind offset us ≡ Ok t

node_count-shape : {A : Type 0} (node_for : A → Node) (xs : List A) (us : Nodes) → all_without_offsets us ≡ nodes_from (map node_for xs) → node_count us ≡ length xs
node_count-shape node_for [] no_nodes e = refl
node_count-shape node_for [] (node u us) e = absurd (cc)
node_count-shape node_for (x ∷ xs) no_nodes e = absurd (cc)
node_count-shape node_for (x ∷ xs) (node u us) e = let rest = node_count-shape node_for xs us (cc) in omega arith

tabled_reads : (version : Version) (cycles : ℕ) (kind : EntryKind) (t : Table) (offset : ℕ) (us : Nodes) → IsTabled version cycles kind t → IsShortTable t
    → all_without_offsets us ≡ node (scalar_node t.default) (nodes_from (map row_node t.rows)) → ContentReads version cycles kind t offset us
tabled_reads version cycles kind t offset no_nodes content short e = absurd (cc)
tabled_reads version cycles kind t offset (node v vs) content short e =
    let default : without_offsets v ≡ scalar_node t.default = cc in
    let rows : all_without_offsets vs ≡ nodes_from (map row_node t.rows) = cc in
    let count : node_count vs ≡ length t.rows = node_count-shape row_node t.rows vs rows in
    let parts : 1 + (1 + node_count vs) ≡ 2 + length t.rows = omega arith in
    let tabled = content.tabled in
    record {
      known = content.known;
      takes = ap (head_takes cycles kind.head) parts ∙ content.takes;
      reads = rw tabled (table_form-table kind t v vs content.table short default rows);
    }

short_rows : (xs : List Scalar) → AllByRecursion IsShortRow (map value_row xs) → AllByRecursion IsShortScalar xs
short_rows [] short = tt
short_rows (x ∷ xs) short = (short.0.value, short_rows xs short.1)

each_value : (s : Sort) (xs : List Scalar) (us : Nodes) → AllByRecursion (λ x. scalar_sort x ≡ s) xs → AllByRecursion IsShortScalar xs
    → all_without_offsets us ≡ nodes_from (map scalar_node xs) → each_form (value_form s) us ≡ Ok (map value_row xs)
each_value s [] no_nodes sorted short e = refl
each_value s [] (node u us) sorted short e = absurd (cc)
each_value s (x ∷ xs) no_nodes sorted short e = absurd (cc)
each_value s (x ∷ xs) (node u us) sorted short e =
    let first : scalar_form s u ≡ Ok x = ap (λ t. scalar_form t u) (sym sorted.0) ∙ scalar_form-scalar_node x u short.0 (cc) in
    let rest : each_form (value_form s) us ≡ Ok (map value_row xs) = each_value s xs us sorted.1 short.1 (cc) in
    rw (first, rest) refl

values_form-values : (s : Sort) (xs : List Scalar) (us : Nodes) → AllByRecursion (λ x. scalar_sort x ≡ s) xs → AllByRecursion IsShortScalar xs
    → all_without_offsets us ≡ nodes_from (map scalar_node xs) → values_form s us ≡ Ok (values_table s xs)
unfolding values_form
values_form-values s xs us sorted short e = let rows = each_value s xs us sorted short e in rw rows refl

valued_reads : (version : Version) (cycles : ℕ) (kind : EntryKind) (xs : List Scalar) (offset : ℕ) (us : Nodes) → kind.head ≡ heads.Input → length xs ≡ cycles
    → AllByRecursion (λ x. scalar_sort x ≡ kind.sort) xs → IsShortTable (values_table kind.sort xs)
    → all_without_offsets us ≡ nodes_from (map scalar_node (map (λ (r : Row). r.value) (map value_row xs))) → ContentReads version cycles kind (values_table kind.sort xs) offset us
valued_reads version cycles kind xs offset us input size sorted short e =
    let shape : all_without_offsets us ≡ nodes_from (map scalar_node xs) = e ∙ ap (λ ys. nodes_from (map scalar_node ys)) (values_back xs) in
    let count : node_count us ≡ length xs = node_count-shape scalar_node xs us shape in
    let is : is_input kind.head ≡ true = ap is_input input in
    record {
      known = ap (λ h. head_of version (head_text h)) input ∙ input_known version ∙ ap (λ h. Some h) (sym input);
      takes = ap (λ h. head_takes cycles h (1 + node_count us)) input ∙ eq-eqb (1 + node_count us) (cycles + 1) (omega (arith, count, size));
      reads = rw is (values_form-values kind.sort xs us sorted (short_rows xs short.rows) shape);
    }

content_reads : (version : Version) (cycles : ℕ) (kind : EntryKind) (t : Table) (offset : ℕ) (us : Nodes) → IsContent version cycles kind t → IsShortTable t
    → all_without_offsets us ≡ content_nodes kind t → ContentReads version cycles kind t offset us
content_reads version cycles kind t offset us (inl content) short e =
    let tabled = content.tabled in tabled_reads version cycles kind t offset us content short (rw tabled at e)
content_reads version cycles kind t offset us (inr content) short e =
    let is : is_input kind.head ≡ true = ap is_input content.input in
    let table = content.table in
    let shape : all_without_offsets us ≡ nodes_from (map scalar_node (map (λ (r : Row). r.value) t.rows)) = rw is at e in
    subst (λ x. ContentReads version cycles kind x offset us) (sym table)
    (valued_reads version cycles kind content.values offset us content.input content.count content.sorted (subst IsShortTable table short)
    (shape ∙ ap (λ (x : Table). nodes_from (map scalar_node (map (λ (r : Row). r.value) x.rows))) table))

-- the entry of a name, in the place of a table that nothing gave yet
entry_reads : (layout : Layout) (d : DesignView) (given : List (Option Table)) (name : List ℕ) (i : ℕ) (kind : EntryKind) (t : Table) (u : Node)
    → IsName name → place_of name (all_names d) ≡ Some i → kind_at (kinds layout.version d) i ≡ kind → get_or given i None ≡ None
    → IsContent layout.version layout.cycles kind t → IsShortTable t → without_offsets u ≡ content_node kind name t
    → entry_form layout d given u ≡ Ok (set given i (Some t))
unfolding entry_form parts_form
entry_reads layout d given name i kind t (atom offset text) named place is_kind none content short e = absurd (cc)
entry_reads layout d given name i kind t (list offset no_nodes) named place is_kind none content short e = absurd (cc)
entry_reads layout d given name i kind t (list offset (node (list at parts) us)) named place is_kind none content short e = absurd (cc)
entry_reads layout d given name i kind t (list offset (node (atom at head) no_nodes)) named place is_kind none content short e = absurd (cc)
entry_reads layout d given name i kind t (list offset (node (atom at head) (node u us))) named place is_kind none content short e =
    let is_headed : head ≡ head_text kind.head = cc in
    let named_so : without_offsets u ≡ atom 0 name = cc in
    let inside : all_without_offsets us ≡ content_nodes kind t = cc in
    let parts = content_reads layout.version layout.cycles kind t offset us content short inside in
    let known = parts.known in
    let takes = parts.takes in
    let table = parts.reads in
    let read_name = name_form-name name u named named_so in
    let word = read_name.1 in
    let same_head : is_head kind.head kind.head ≡ true = same_text-same (head_text kind.head) in
    rw (is_headed, known, takes, word, place, is_kind, same_head, none, is_kind, table) refl

-- ---- all entries

-- an entry for each name, with its kind and its table
abbrev pub entry_nodes : List (List ℕ) → List EntryKind → List Table → List Node
entry_nodes (n ∷ ns) (k ∷ ks) (t ∷ ts) = content_node k n t ∷ entry_nodes ns ks ts
entry_nodes _ _ _ = []

-- the first tables are given
abbrev given_to : ℕ → List Table → List (Option Table)
given_to zero ts = map (λ _. None) ts
given_to (suc i) [] = []
given_to (suc i) (t ∷ ts) = Some t ∷ given_to i ts

given_to-get : (i : ℕ) (ts : List Table) → get_or (given_to i ts) i None ≡ None
given_to-get zero [] = refl
given_to-get zero (t ∷ ts) = refl
given_to-get (suc i) [] = refl
given_to-get (suc i) (t ∷ ts) = given_to-get i ts

given_to-set_suc : (i : ℕ) (ts : List Table) (e : Table) → i < length ts → set (given_to i ts) i (Some (get_or ts i e)) ≡ given_to (suc i) ts
given_to-set_suc i [] e lt = absurd (omega arith)
given_to-set_suc zero (t ∷ ts) e lt = refl
given_to-set_suc (suc i) (t ∷ ts) e lt = ap (λ rest. Some t ∷ rest) (given_to-set_suc i ts e (omega arith))

given_to-set : (i : ℕ) (ts : List Table) (e : Table) → i < length ts → set (given_to i ts) i (Some (get_or ts i e)) ≡ given_to (i + 1) ts
given_to-set i ts e lt = let next : suc i ≡ i + 1 = omega arith in given_to-set_suc i ts e lt ∙ ap (λ n. given_to n ts) next

given_to-all : (i : ℕ) (ts : List Table) → length ts ≤ i → given_to i ts ≡ map Some ts
given_to-all zero [] le = refl
given_to-all zero (t ∷ ts) le = absurd (omega arith)
given_to-all (suc i) [] le = refl
given_to-all (suc i) (t ∷ ts) le = ap (λ rest. Some t ∷ rest) (given_to-all i ts (omega arith))

nothing_given-tables : (ks : List EntryKind) (ts : List Table) → length ks ≡ length ts → nothing_given ks ≡ given_to zero ts
nothing_given-tables [] [] e = refl
nothing_given-tables [] (t ∷ ts) e = absurd (omega arith)
nothing_given-tables (k ∷ ks) [] e = absurd (omega arith)
nothing_given-tables (k ∷ ks) (t ∷ ts) e = ap (λ (rest : List (Option Table)). None ∷ rest) (nothing_given-tables ks ts (omega arith))

-- what stands at one place of the three lists
record AtPlace (version : Version) (cycles : ℕ) (ns : List (List ℕ)) (ks : List EntryKind) (ts : List Table) (i : ℕ) (e : Table) (x : Node) : Type 0 where
  name : IsName (get_or ns i [])
  content : IsContent version cycles (kind_at ks i) (get_or ts i e)
  short : IsShortTable (get_or ts i e)
  entry : x ≡ content_node (kind_at ks i) (get_or ns i []) (get_or ts i e)

at_place : (version : Version) (cycles : ℕ) (ns : List (List ℕ)) (ks : List EntryKind) (ts : List Table) (i : ℕ) (e : Table) (x : Node)
    → length ns ≡ length ks → AllByRecursion IsName ns → AllZip (IsContent version cycles) ks ts → AllByRecursion IsShortTable ts → i < length (entry_nodes ns ks ts)
    → AtPlace version cycles ns ks ts i e (get_or (entry_nodes ns ks ts) i x)
at_place version cycles [] ks ts i e x size names contents short lt = absurd (omega arith)
at_place version cycles (n ∷ ns) [] ts i e x size names contents short lt = absurd (omega arith)
at_place version cycles (n ∷ ns) (k ∷ ks) [] i e x size names contents short lt = absurd contents
at_place version cycles (n ∷ ns) (k ∷ ks) (t ∷ ts) zero e x size names contents short lt = record { name = names.0; content = contents.0; short = short.0; entry = refl }
at_place version cycles (n ∷ ns) (k ∷ ks) (t ∷ ts) (suc i) e x size names contents short lt =
    let rest = at_place version cycles ns ks ts i e x (omega arith) names.1 contents.1 short.1 (omega arith) in
    record { name = rest.name; content = rest.content; short = rest.short; entry = rest.entry }

length-entry_nodes : (ns : List (List ℕ)) (ks : List EntryKind) (ts : List Table) → length ns ≡ length ks → length ts ≡ length ks → length (entry_nodes ns ks ts) ≡ length ts
length-entry_nodes [] [] [] p q = refl
length-entry_nodes [] [] (t ∷ ts) p q = absurd (omega arith)
length-entry_nodes [] (k ∷ ks) ts p q = absurd (omega arith)
length-entry_nodes (n ∷ ns) [] ts p q = absurd (omega arith)
length-entry_nodes (n ∷ ns) (k ∷ ks) [] p q = absurd (omega arith)
length-entry_nodes (n ∷ ns) (k ∷ ks) (t ∷ ts) p q = let rest = length-entry_nodes ns ks ts (omega arith) (omega arith) in omega arith

shape_cons : (xs : List Node) (u : Node) (us : Nodes) → node (without_offsets u) (all_without_offsets us) ≡ nodes_from xs → 0 < length xs
shape_cons [] u us e = absurd (cc)
shape_cons (x ∷ xs) u us e = omega arith

shape_nil : (xs : List Node) → no_nodes ≡ nodes_from xs → length xs ≡ 0
shape_nil [] e = refl
shape_nil (x ∷ xs) e = absurd (cc)

module _ (layout : Layout) (d : DesignView) (ts : List Table) (e : Table)
    (size : length (all_names d) ≡ length (kinds layout.version d)) (names : AllByRecursion IsName (all_names d)) (different : AllPairs ◌≢◌ (all_names d))
    (contents : AllZip (IsContent layout.version layout.cycles) (kinds layout.version d) ts) (short : AllByRecursion IsShortTable ts) where
  entries_from : (i : ℕ) (us : Nodes) → all_without_offsets us ≡ nodes_from (drop i (entry_nodes (all_names d) (kinds layout.version d) ts)) → entries_form layout d (given_to i ts) us ≡ Ok (map Some ts)
  entries_from i no_nodes shape =
      let nodes = entry_nodes (all_names d) (kinds layout.version d) ts in
      let none : length (drop i nodes) ≡ 0 = shape_nil (drop i nodes) shape in
      let tables = AllZip-long (IsContent layout.version layout.cycles) (kinds layout.version d) ts contents in
      let count = length-entry_nodes (all_names d) (kinds layout.version d) ts size tables in
      ap Ok (given_to-all i ts (omega (arith, length-drop i nodes)))
  entries_from i (node u us) shape =
      let ns = all_names d in
      let ks = kinds layout.version d in
      let nodes = entry_nodes ns ks ts in
      let tables = AllZip-long (IsContent layout.version layout.cycles) ks ts contents in
      let count = length-entry_nodes ns ks ts size tables in
      let some : 0 < length (drop i nodes) = shape_cons (drop i nodes) u us shape in
      let lt : i < length nodes = omega (arith, length-drop i nodes) in
      let x = get_or nodes i (atom 0 []) in
      let step : drop i nodes ≡ x ∷ drop (i + 1) nodes = drop_more nodes i (atom 0 []) lt in
      let parts : node (without_offsets u) (all_without_offsets us) ≡ node x (nodes_from (drop (i + 1) nodes)) = shape ∙ ap nodes_from step in
      let here = at_place layout.version layout.cycles ns ks ts i e (atom 0 []) size names contents short lt in
      let first : entry_form layout d (given_to i ts) u ≡ Ok (set (given_to i ts) i (Some (get_or ts i e))) =
      entry_reads layout d (given_to i ts) (get_or ns i []) i (kind_at ks i) (get_or ts i e) u here.name
      (place_of-get ns i different (omega arith)) refl (given_to-get i ts) here.content here.short (cc (here.entry)) in
      let more : set (given_to i ts) i (Some (get_or ts i e)) ≡ given_to (i + 1) ts = given_to-set i ts e (omega arith) in
      let rest = entries_from (i + 1) us (cc) in
      rw (first, more) rest

-- ---- the whole text

whole_form-given : (offset : ℕ) (ks : List EntryKind) (ts : List Table) → length ts ≡ length ks → whole_form offset ks (map Some ts) ≡ Ok ts
whole_form-given offset [] [] e = refl
whole_form-given offset [] (t ∷ ts) e = absurd (omega arith)
whole_form-given offset (k ∷ ks) [] e = absurd (omega arith)
whole_form-given offset (k ∷ ks) (t ∷ ts) e = let rest = whole_form-given offset ks ts (omega arith) in rw rest refl

pub length-symbol_kinds : (version : Version) (distinct : List (List ℕ)) (f : ℕ) (ys : List Symbol) → length (symbol_kinds version distinct f ys) ≡ length ys
length-symbol_kinds version distinct f [] = refl
length-symbol_kinds version distinct f (y ∷ ys) = let rest = length-symbol_kinds version distinct (f + 1) ys in omega arith

-- a name for each kind
pub names-kinds : (version : Version) (d : DesignView) → length (all_names d) ≡ length (kinds version d)
names-kinds version d =
    let names = map (λ (y : Symbol). y.name) d.symbols in
    let entry_names = map (λ (x : Entry). x.name) d.pipe.entries in
    let ks = symbol_kinds version d.distinct 0 d.symbols in
    let entry_kinds = map entry_kind d.pipe.entries in
    length-append (names ++ entry_names) (map (λ (p : PortView). p.name) d.pipe.ports)
    ∙ omega (
      arith,
      length-append names entry_names,
      length-map d.symbols (λ (y : Symbol). y.name),
      length-map d.pipe.entries (λ (x : Entry). x.name),
      length-map d.pipe.ports (λ (p : PortView). p.name),
      length-symbol_kinds version d.distinct 0 d.symbols,
      length-map d.pipe.entries entry_kind,
      length-map d.pipe.ports (λ (p : PortView). input_kind p.sort),
      length-append ks entry_kinds,
      length-append (ks ++ entry_kinds) (map (λ (p : PortView). input_kind p.sort) d.pipe.ports),
    )

pub kinds_room : (version : Version) (d : DesignView) → length d.symbols + length d.pipe.entries ≤ length (kinds version d)
kinds_room version d =
    let ks = symbol_kinds version d.distinct 0 d.symbols in
    let entry_kinds = map entry_kind d.pipe.entries in
    omega (
      arith,
      length-symbol_kinds version d.distinct 0 d.symbols,
      length-map d.pipe.entries entry_kind,
      length-append ks entry_kinds,
      length-append (ks ++ entry_kinds) (map (λ (p : PortView). input_kind p.sort) d.pipe.ports),
    )

-- ---- the entries as they are written

tabled_node : (kind : EntryKind) (name : List ℕ) (t : Table) → is_input kind.head ≡ false → entry_node kind.head name t ≡ content_node kind name t
tabled_node kind name t tabled = rw tabled refl

symbol_nodes-entries : (version : Version) (distinct : List (List ℕ)) (f : ℕ) (ys : List Symbol) (ts : List Table) → length ts ≡ length ys
    → symbol_nodes version distinct f ys ts ≡ entry_nodes (map (λ (y : Symbol). y.name) ys) (symbol_kinds version distinct f ys) ts
symbol_nodes-entries version distinct f [] [] e = refl
symbol_nodes-entries version distinct f [] (t ∷ ts) e = absurd (omega arith)
symbol_nodes-entries version distinct f (y ∷ ys) [] e = absurd (omega arith)
symbol_nodes-entries version distinct f (y ∷ ys) (t ∷ ts) e =
    let kind = symbol_kind version (is_apart distinct f) y in
    ap (λ rest. entry_node kind.head y.name t ∷ rest) (symbol_nodes-entries version distinct (f + 1) ys ts (omega arith))
    ∙ ap (λ x. x ∷ entry_nodes (map (λ (z : Symbol). z.name) ys) (symbol_kinds version distinct (f + 1) ys) ts) (tabled_node kind y.name t (symbol_head-tabled version (is_apart distinct f) y.predicate))

pub sort_tabled : (s : Sort) → is_input (sort_kind s).head ≡ false
sort_tabled sort.Bool = refl
sort_tabled sort.Word = refl
sort_tabled sort.Memory = refl

state_nodes-entries : (es : List Entry) (vs : List Value) → length vs ≡ length es
    → state_nodes es vs ≡ entry_nodes (map (λ (x : Entry). x.name) es) (map entry_kind es) (map table_of_value vs)
state_nodes-entries [] [] e = refl
state_nodes-entries [] (v ∷ vs) e = absurd (omega arith)
state_nodes-entries (x ∷ xs) [] e = absurd (omega arith)
state_nodes-entries (x ∷ xs) (v ∷ vs) e =
    ap (λ rest. entry_node (entry_kind x).head x.name (table_of_value v) ∷ rest) (state_nodes-entries xs vs (omega arith))
    ∙ ap (λ y. y ∷ entry_nodes (map (λ (z : Entry). z.name) xs) (map entry_kind xs) (map table_of_value vs)) (tabled_node (entry_kind x) x.name (table_of_value v) (sort_tabled x.sort))

input_nodes-entries : (i : ℕ) (ps : List PortView) (inputs : List (List Scalar))
    → input_nodes i ps inputs ≡ entry_nodes (map (λ (p : PortView). p.name) ps) (map (λ (p : PortView). input_kind p.sort) ps) (input_tables i ps inputs)
input_nodes-entries i [] inputs = refl
input_nodes-entries i (p ∷ ps) inputs =
    ap (λ rest. values_node heads.Input p.name (column i inputs) ∷ rest) (input_nodes-entries (i + 1) ps inputs)
    ∙ ap (λ xs. values_node heads.Input p.name xs ∷ entry_nodes (map (λ (q : PortView). q.name) ps) (map (λ (q : PortView). input_kind q.sort) ps) (input_tables (i + 1) ps inputs)) (sym (values_back (column i inputs)))

entry_nodes-append : (ns ms : List (List ℕ)) (ks js : List EntryKind) (ts us : List Table) → length ns ≡ length ks → length ts ≡ length ks
    → entry_nodes (ns ++ ms) (ks ++ js) (ts ++ us) ≡ entry_nodes ns ks ts ++ entry_nodes ms js us
entry_nodes-append [] ms [] js [] us p q = refl
entry_nodes-append [] ms [] js (t ∷ ts) us p q = absurd (omega arith)
entry_nodes-append [] ms (k ∷ ks) js ts us p q = absurd (omega arith)
entry_nodes-append (n ∷ ns) ms [] js ts us p q = absurd (omega arith)
entry_nodes-append (n ∷ ns) ms (k ∷ ks) js [] us p q = absurd (omega arith)
entry_nodes-append (n ∷ ns) ms (k ∷ ks) js (t ∷ ts) us p q =
    ap (λ rest. content_node k n t ∷ rest) (entry_nodes-append ns ms ks js ts us (omega arith) (omega arith))

pub trail_nodes-entries : (version : Version) (d : DesignView) (t : Trail) → TrailFits d t → trail_nodes version d t ≡ entry_nodes (all_names d) (kinds version d) (tables_of d t)
trail_nodes-entries version d t fits =
    let names = map (λ (y : Symbol). y.name) d.symbols in
    let entry_names = map (λ (x : Entry). x.name) d.pipe.entries in
    let ks = symbol_kinds version d.distinct 0 d.symbols in
    let entry_kinds = map entry_kind d.pipe.entries in
    let states = map table_of_value t.state in
    let n : length t.interp ≡ length d.symbols = AllZip-long TableFits d.symbols t.interp fits.interp.tables in
    let m : length t.state ≡ length d.pipe.entries = AllZip-long (λ (e : Entry) v. value_sort v ≡ e.sort) d.pipe.entries t.state fits.state in
    let sizes = length-symbol_kinds version d.distinct 0 d.symbols in
    let name_count : length names ≡ length d.symbols = length-map d.symbols (λ (y : Symbol). y.name) in
    let entry_count : length entry_names ≡ length d.pipe.entries = length-map d.pipe.entries (λ (x : Entry). x.name) in
    let kind_count : length entry_kinds ≡ length d.pipe.entries = length-map d.pipe.entries entry_kind in
    let state_count : length states ≡ length t.state = length-map t.state table_of_value in
    let inner : entry_nodes (names ++ entry_names) (ks ++ entry_kinds) (t.interp ++ states) ≡ entry_nodes names ks t.interp ++ entry_nodes entry_names entry_kinds states =
    entry_nodes-append names entry_names ks entry_kinds t.interp states (omega arith) (omega arith) in
    let outer = entry_nodes-append (names ++ entry_names) (map (λ (p : PortView). p.name) d.pipe.ports) (ks ++ entry_kinds) (map (λ (p : PortView). input_kind p.sort) d.pipe.ports) (t.interp ++ states) (input_tables 0 d.pipe.ports t.inputs)
    (omega (arith, length-append names entry_names, length-append ks entry_kinds)) (omega (arith, length-append t.interp states, length-append ks entry_kinds)) in
    let symbols = symbol_nodes-entries version d.distinct 0 d.symbols t.interp n in
    let state = state_nodes-entries d.pipe.entries t.state m in
    let inputs = input_nodes-entries 0 d.pipe.ports t.inputs in
    rw (outer, inner, symbols, state, inputs) refl

-- the tree of a text: its head, what says its layout, and entries
abbrev pub text_node : Subject → List ℕ → List Node → Node
text_node subject second entries = list 0 (node (atom 0 (subject_text subject)) (node (atom 0 second) (nodes_from entries)))

-- a number of cycles as it is written, and a version
pub version_reads : (version : Version) (u : Node) → without_offsets u ≡ atom 0 (version_text version) → version_part u ≡ Ok (record { version = version; cycles = 1 })
version_reads One (list offset parts) e = absurd (cc)
version_reads One (atom offset text) e = let same : text ≡ codes "1" = cc in rw same refl
version_reads Two (list offset parts) e = absurd (cc)
version_reads Two (atom offset text) e = let same : text ≡ codes "2" = cc in rw same refl

pub cycles_read : (cycles : ℕ) (u : Node) → cycles ≤ most_cycles → without_offsets u ≡ atom 0 (decimal cycles) → cycles_part (offset_of u) (number_form most_cycles u) ≡ Ok (record { version = Two; cycles = cycles })
cycles_read cycles u few e = let read = number_form-word_node 16 cycles u few (omega arith) e in rw read refl

-- the file of a tree that is laid out so
record IsFileOf (subject : Subject) (layout : Layout) (entries : List Node) (us : Nodes) : Type 0 where
  offset : ℕ
  parts : Nodes
  file : file_form subject us ≡ Ok (offset, (layout, parts))
  shape : all_without_offsets parts ≡ all_without_offsets (nodes_from entries)

file_reads : (subject : Subject) (second : List ℕ) (layout : Layout) (entries : List Node) (us : Nodes)
    → ((u : Node) → without_offsets u ≡ atom 0 second → layout_part subject u ≡ Ok layout)
    → all_without_offsets us ≡ all_without_offsets (node (text_node subject second entries) no_nodes) → IsFileOf subject layout entries us
file_reads subject second layout entries no_nodes said e = absurd (cc)
file_reads subject second layout entries (node (atom offset text) us) said e = absurd (cc)
file_reads subject second layout entries (node (list offset no_nodes) us) said e = absurd (cc)
file_reads subject second layout entries (node (list offset (node (list at parts) ts)) us) said e = absurd (cc)
file_reads subject second layout entries (node (list offset (node (atom at text) no_nodes)) us) said e = absurd (cc)
file_reads subject second layout entries (node (list offset (node (atom at text) (node t ts))) (node u us)) said e = absurd (cc)
file_reads subject second layout entries (node (list offset (node (atom at text) (node t ts))) no_nodes) said e =
    let head : text ≡ subject_text subject = cc in
    let part : layout_part subject t ≡ Ok layout = said t (cc) in
    let headed : same_text text (subject_text subject) ≡ true = ap (λ h. same_text h (subject_text subject)) head ∙ same_text-same (subject_text subject) in
    record { offset = offset; parts = ts; file = rw (headed, part) refl; shape = cc }

-- the offsets of written trees are 0 already
word_nodes-bare : (ns : List ℕ) (x : Scalar) → all_without_offsets (nodes_from (map word_node ns ++ scalar_node x ∷ [])) ≡ nodes_from (map word_node ns ++ scalar_node x ∷ [])
word_nodes-bare [] x = refl
word_nodes-bare (n ∷ ns) x = ap (node (word_node n)) (word_nodes-bare ns x)

row_nodes-bare : (rs : List Row) → all_without_offsets (nodes_from (map row_node rs)) ≡ nodes_from (map row_node rs)
row_nodes-bare [] = refl
row_nodes-bare (r ∷ rs) =
    let first = word_nodes-bare r.args r.value in
    let rest = row_nodes-bare rs in
    rw (first, rest) refl

scalar_nodes-bare : (xs : List Scalar) → all_without_offsets (nodes_from (map scalar_node xs)) ≡ nodes_from (map scalar_node xs)
scalar_nodes-bare [] = refl
scalar_nodes-bare (x ∷ xs) = ap (node (scalar_node x)) (scalar_nodes-bare xs)

content_nodes-bare : (kind : EntryKind) (t : Table) → all_without_offsets (content_nodes kind t) ≡ content_nodes kind t
content_nodes-bare kind t = elim (is_input kind.head) as
    (λ b. all_without_offsets (if b then nodes_from (map scalar_node (map (λ (r : Row). r.value) t.rows)) else node (scalar_node t.default) (nodes_from (map row_node t.rows)))
    ≡ (if b then nodes_from (map scalar_node (map (λ (r : Row). r.value) t.rows)) else node (scalar_node t.default) (nodes_from (map row_node t.rows)))) [
      | true ↦ scalar_nodes-bare (map (λ (r : Row). r.value) t.rows)
      | false ↦ ap (node (scalar_node t.default)) (row_nodes-bare t.rows)
    ]

entry_nodes-bare : (ns : List (List ℕ)) (ks : List EntryKind) (ts : List Table) → all_without_offsets (nodes_from (entry_nodes ns ks ts)) ≡ nodes_from (entry_nodes ns ks ts)
entry_nodes-bare [] ks ts = refl
entry_nodes-bare (n ∷ ns) [] ts = refl
entry_nodes-bare (n ∷ ns) (k ∷ ks) [] = refl
entry_nodes-bare (n ∷ ns) (k ∷ ks) (t ∷ ts) =
    ap (λ inside. node (list 0 (node (atom 0 (head_text k.head)) (node (atom 0 n) inside))) (all_without_offsets (nodes_from (entry_nodes ns ks ts)))) (content_nodes-bare k t)
    ∙ ap (node (content_node k n t)) (entry_nodes-bare ns ks ts)

-- entries that are laid out as those of a trail give that trail
walk_form-laid : (layout : Layout) (d : DesignView) (t : Trail) (offset : ℕ) (us : Nodes) → IsLawful d → TrailFits d t → AllByRecursion IsShortTable (tables_of d t) → length t.inputs ≡ layout.cycles
    → all_without_offsets us ≡ all_without_offsets (nodes_from (trail_nodes layout.version d t)) → walk_form layout d offset us ≡ Ok t
unfolding walk_form
walk_form-laid layout d t offset us lawful fits short size e =
    let ks = kinds layout.version d in
    let ts = tables_of d t in
    let contents = trail_contents layout.version layout.cycles d t fits size in
    let count : length ts ≡ length ks = AllZip-long (IsContent layout.version layout.cycles) ks ts contents in
    let shape : all_without_offsets us ≡ nodes_from (drop 0 (entry_nodes (all_names d) ks ts)) =
    e ∙ ap (λ ns. all_without_offsets (nodes_from ns)) (trail_nodes-entries layout.version d t fits) ∙ entry_nodes-bare (all_names d) ks ts in
    let given : entries_form layout d (nothing_given ks) us ≡ Ok (map Some ts) =
    ap (λ g. entries_form layout d g us) (nothing_given-tables ks ts (sym count))
    ∙ entries_from layout d ts no_table (names-kinds layout.version d) lawful.names lawful.different_names contents short 0 us shape in
    let whole = whole_form-given offset ks ts count in
    let trail : trail_from d layout.cycles ts ≡ t = ap (λ n. trail_from d n ts) (sym size) ∙ trail_from-tables_of d t fits in
    rw (given, whole) (ap (distinct_form d.distinct offset) trail ∙ distinct_form-fits d t offset lawful fits)

-- trees that are laid out as a trail read as that trail
pub text_form-laid : (subject : Subject) (second : List ℕ) (layout : Layout) (d : DesignView) (t : Trail) (us : Nodes) → IsLawful d → TrailFits d t → AllByRecursion IsShortTable (tables_of d t)
    → length t.inputs ≡ layout.cycles → ((u : Node) → without_offsets u ≡ atom 0 second → layout_part subject u ≡ Ok layout)
    → all_without_offsets us ≡ all_without_offsets (node (text_node subject second (trail_nodes layout.version d t)) no_nodes) → text_form subject d us ≡ Ok t
unfolding text_form
text_form-laid subject second layout d t us lawful fits short size said e =
    let read = file_reads subject second layout (trail_nodes layout.version d t) us said e in
    let file = read.file in
    rw file (walk_form-laid layout d t read.offset read.parts lawful fits short size read.shape)
