-- The tables of a trail are those of its kinds, and give the trail back.
use Rattle.std.proofs.Common.{◌≡◌, ◌⊎◌, inl, inr, ℕ, ◌+◌, Bool, true, false, List, [], ◌∷◌, ◌++◌, length, map, take, drop, Some, refl, sym, ap, ◌∙◌, subst, arith}
use Rattle.std.specs.Prelude.{◌||◌, nat_eq}
use Rattle.std.specs.List.{AllByRecursion, AllZip, list_any, zip}
use Rattle.std.proofs.lemmas.Bool.{le-leb}
use Rattle.std.proofs.lemmas.List.{length-map, length-append, append_assoc}
use Rattle.std.proofs.Math.Seq.{take-append_seam, drop-append_seam}
use Rattle.std.proofs.lemmas.Slice.Zip.{AllZip-long}
use Rattle.bd_model.specs.DesignView.{DesignView, PortView}
use Rattle.bd_model.specs.Value.{slot_of, table_of}
use Rattle.bd_model.specs.Fits.{scalar_sort, value_sort, RowFits, TableFits, KeepsApart, TrailFits}
use Rattle.bd_model.specs.declared.table.Scalar.{Scalar}
use Rattle.bd_model.specs.declared.table.Scalar.TheVariants as scalar
use Rattle.bd_model.specs.declared.table.Row.{Row}
use Rattle.bd_model.specs.declared.table.Table.{Table}
use Rattle.bd_model.specs.declared.table.Slot.{Slot}
use Rattle.bd_model.specs.declared.table.Memory.{Memory}
use Rattle.bd_model.specs.declared.table.Value.{Value}
use Rattle.bd_model.specs.declared.table.Value.TheVariants as value
use Rattle.bd_model.specs.declared.design.Sort.{Sort}
use Rattle.bd_model.specs.declared.design.Sort.TheVariants as sort
use Rattle.bd_model.specs.declared.design.Symbol.{Symbol}
use Rattle.bd_model.specs.declared.design.Entry.{Entry}
use Rattle.bd_model.specs.declared.case.Trail.{Trail}
use Rattle.bd_case.specs.Kinds.{head_text, head_of, head_takes, is_input, is_apart, symbol_head, symbol_kind, symbol_kinds, sort_kind, entry_kind, input_kind, kinds}
use Rattle.bd_case.specs.Content.{column, constant_table, row_of, table_of_value, values_table, input_tables, tables_of, value_of_table, trail_from}
use Rattle.bd_case.specs.declared.kind.Version.{Version}
use Rattle.bd_case.specs.declared.kind.Version.TheVariants.{One, Two}
use Rattle.bd_case.specs.declared.kind.EntryHead.TheVariants as heads
use Rattle.bd_case.specs.declared.kind.EntryKind.{EntryKind}
use Rattle.bd_case.proofs.Inputs.{FitFrom, column_fits, length-column, inputs_back}
use Rattle.bd_case.proofs.Rows.{IsRowOf, IsTableOf}

-- ---- two lists, place by place

pub AllZip-append : {A B : Type 0} (R : A → B → Type 0) (xs : List A) (ys : List B) (us : List A) (vs : List B) → AllZip R xs ys → AllZip R us vs → AllZip R (xs ++ us) (ys ++ vs)
AllZip-append R [] [] us vs h g = g
AllZip-append R [] (y ∷ ys) us vs h g = absurd h
AllZip-append R (x ∷ xs) [] us vs h g = absurd h
AllZip-append R (x ∷ xs) (y ∷ ys) us vs h g = (h.0, AllZip-append R xs ys us vs h.1 g)

-- ---- what an entry may hold

-- a default and rows, under a head of the version with no more parts than it takes
pub record IsTabled (version : Version) (cycles : ℕ) (kind : EntryKind) (t : Table) : Type 0 where
  pub tabled : is_input kind.head ≡ false
  pub known : head_of version (head_text kind.head) ≡ Some kind.head
  pub takes : head_takes cycles kind.head (2 + length t.rows) ≡ true
  pub table : IsTableOf kind t

-- the values of an input, one for each cycle
pub record IsValued (cycles : ℕ) (kind : EntryKind) (t : Table) : Type 0 where
  pub input : kind.head ≡ heads.Input
  pub values : List Scalar
  pub count : length values ≡ cycles
  pub sorted : AllByRecursion (λ x. scalar_sort x ≡ kind.sort) values
  pub table : t ≡ values_table kind.sort values

abbrev pub IsContent : Version → ℕ → EntryKind → Table → Type 0
IsContent version cycles kind t = IsTabled version cycles kind t ⊎ IsValued cycles kind t

pub input_known : (version : Version) → head_of version (head_text heads.Input) ≡ Some heads.Input
unfolding head_of
input_known One = refl
input_known Two = refl

pub symbol_head-tabled : (version : Version) (apart predicate : Bool) → is_input (symbol_head version apart predicate) ≡ false
symbol_head-tabled One true true = refl
symbol_head-tabled One true false = refl
symbol_head-tabled One false true = refl
symbol_head-tabled One false false = refl
symbol_head-tabled Two true predicate = refl
symbol_head-tabled Two false true = refl
symbol_head-tabled Two false false = refl

symbol_head-known : (version : Version) (apart predicate : Bool) → head_of version (head_text (symbol_head version apart predicate)) ≡ Some (symbol_head version apart predicate)
unfolding head_of
symbol_head-known One true true = refl
symbol_head-known One true false = refl
symbol_head-known One false true = refl
symbol_head-known One false false = refl
symbol_head-known Two true predicate = refl
symbol_head-known Two false true = refl
symbol_head-known Two false false = refl

symbol_head-takes : (version : Version) (cycles : ℕ) (apart predicate : Bool) (rows : List Row) → (apart ≡ true → rows ≡ []) → head_takes cycles (symbol_head version apart predicate) (2 + length rows) ≡ true
symbol_head-takes One cycles true true rows h = le-leb 2 (2 + length rows) (omega arith)
symbol_head-takes One cycles true false rows h = le-leb 2 (2 + length rows) (omega arith)
symbol_head-takes One cycles false true rows h = le-leb 2 (2 + length rows) (omega arith)
symbol_head-takes One cycles false false rows h = le-leb 2 (2 + length rows) (omega arith)
symbol_head-takes Two cycles true predicate rows h = let none = h refl in rw none refl
symbol_head-takes Two cycles false true rows h = le-leb 2 (2 + length rows) (omega arith)
symbol_head-takes Two cycles false false rows h = le-leb 2 (2 + length rows) (omega arith)

symbol_rows : (version : Version) (apart : Bool) (y : Symbol) (rows : List Row) → AllByRecursion (RowFits y) rows → AllByRecursion (IsRowOf (symbol_kind version apart y)) rows
symbol_rows version apart y [] h = tt
symbol_rows version apart y (r ∷ rs) h = (record { arity = h.0.arity; value = h.0.value }, symbol_rows version apart y rs h.1)

symbol_content : (version : Version) (cycles : ℕ) (apart : Bool) (y : Symbol) (t : Table) → TableFits y t → (apart ≡ true → t.rows ≡ []) → IsTabled version cycles (symbol_kind version apart y) t
symbol_content version cycles apart y t fits none = record {
  tabled = symbol_head-tabled version apart y.predicate;
  known = symbol_head-known version apart y.predicate;
  takes = symbol_head-takes version cycles apart y.predicate t.rows none;
  table = record { default = fits.default; rows = symbol_rows version apart y t.rows fits.rows; apart = none };
}

-- a constant that is kept apart has no rows
in_group : (P : ℕ → Type 0) (group : List ℕ) (f : ℕ) → AllByRecursion P group → list_any (nat_eq f) group ≡ true → P f
in_group P [] f h e = absurd (cc)
in_group P (g ∷ gs) f h e = elim (nat_eq f g) as (λ b. (nat_eq f g ≡ b) → (b || list_any (nat_eq f) gs) ≡ true → P f) [
  | true ↦ (λ is any. let same : g ≡ f = grind (arith, is) in subst P same h.0)
  | false ↦ (λ is any. in_group P gs f h.1 any)
] refl e

pub apart_without_rows : (distinct : List (List ℕ)) (interp : List Table) (f : ℕ) → AllByRecursion (KeepsApart interp) distinct → is_apart distinct f ≡ true → (table_of interp f).rows ≡ []
apart_without_rows [] interp f h e = absurd (cc)
apart_without_rows (group ∷ groups) interp f h e = elim (list_any (nat_eq f) group) as (λ b. (list_any (nat_eq f) group ≡ b) → (b || is_apart groups f) ≡ true → (table_of interp f).rows ≡ []) [
  | true ↦ (λ is any. in_group (λ g. (table_of interp g).rows ≡ []) group f h.0.no_rows is)
  | false ↦ (λ is any. apart_without_rows groups interp f h.1 any)
] refl e

symbol_contents : (version : Version) (cycles : ℕ) (distinct : List (List ℕ)) (interp : List Table) → AllByRecursion (KeepsApart interp) distinct
    → (ys : List Symbol) (ts before : List Table) → interp ≡ before ++ ts → AllZip TableFits ys ts → AllZip (IsContent version cycles) (symbol_kinds version distinct (length before) ys) ts
symbol_contents version cycles distinct interp apart [] [] before e h = tt
symbol_contents version cycles distinct interp apart [] (t ∷ ts) before e h = absurd h
symbol_contents version cycles distinct interp apart (y ∷ ys) [] before e h = absurd h
symbol_contents version cycles distinct interp apart (y ∷ ys) (t ∷ ts) before e h =
    let here : table_of interp (length before) ≡ t = ap (λ (xs : List Table). table_of xs (length before)) e ∙ seam before t ts in
    let none : is_apart distinct (length before) ≡ true → t.rows ≡ [] = λ is. ap (λ (x : Table). x.rows) (sym here) ∙ apart_without_rows distinct interp (length before) apart is in
    let next : interp ≡ (before ++ t ∷ []) ++ ts = e ∙ sym (append_assoc before (t ∷ []) ts) in
    let count : length (before ++ t ∷ []) ≡ length before + 1 = length-append before (t ∷ []) in
    let rest = symbol_contents version cycles distinct interp apart ys ts (before ++ t ∷ []) next h.1 in
    (inl (symbol_content version cycles (is_apart distinct (length before)) y t h.0 none), subst (λ n. AllZip (IsContent version cycles) (symbol_kinds version distinct n ys) ts) count rest)
  where
    seam : (before : List Table) (t : Table) (ts : List Table) → table_of (before ++ t ∷ ts) (length before) ≡ t
    seam [] t ts = refl
    seam (b ∷ bs) t ts = seam bs t ts

slot_rows : (slots : List Slot) → AllByRecursion (IsRowOf (sort_kind sort.Memory)) (map row_of slots)
slot_rows [] = tt
slot_rows (s ∷ ss) = (record { arity = refl; value = refl }, slot_rows ss)

scalar_content : (version : Version) (cycles : ℕ) (x : Scalar) (s : Sort) → scalar_sort x ≡ s → IsTabled version cycles (sort_kind s) (constant_table x)
unfolding head_of
scalar_content One cycles (scalar.Bool b) sort.Bool e = record { tabled = refl; known = refl; takes = refl; table = record { default = refl; rows = tt; apart = λ h. refl } }
scalar_content Two cycles (scalar.Bool b) sort.Bool e = record { tabled = refl; known = refl; takes = refl; table = record { default = refl; rows = tt; apart = λ h. refl } }
scalar_content One cycles (scalar.Word n) sort.Word e = record { tabled = refl; known = refl; takes = refl; table = record { default = refl; rows = tt; apart = λ h. refl } }
scalar_content Two cycles (scalar.Word n) sort.Word e = record { tabled = refl; known = refl; takes = refl; table = record { default = refl; rows = tt; apart = λ h. refl } }
scalar_content version cycles (scalar.Bool b) sort.Word e = absurd (cc)
scalar_content version cycles (scalar.Bool b) sort.Memory e = absurd (cc)
scalar_content version cycles (scalar.Word n) sort.Bool e = absurd (cc)
scalar_content version cycles (scalar.Word n) sort.Memory e = absurd (cc)

memory_content : (version : Version) (cycles : ℕ) (m : Memory) → IsTabled version cycles (sort_kind sort.Memory) (table_of_value (value.Memory m))
unfolding head_of
memory_content One cycles m = record { tabled = refl; known = refl; takes = le-leb 2 (2 + length (map row_of m.rows)) (omega arith); table = record { default = refl; rows = slot_rows m.rows; apart = λ h. absurd (cc) } }
memory_content Two cycles m = record { tabled = refl; known = refl; takes = le-leb 2 (2 + length (map row_of m.rows)) (omega arith); table = record { default = refl; rows = slot_rows m.rows; apart = λ h. absurd (cc) } }

value_content : (version : Version) (cycles : ℕ) (e : Entry) (v : Value) → value_sort v ≡ e.sort → IsTabled version cycles (entry_kind e) (table_of_value v)
value_content version cycles e (value.Scalar x) h = scalar_content version cycles x e.sort h
value_content version cycles e (value.Memory m) h = subst (λ s. IsTabled version cycles (sort_kind s) (table_of_value (value.Memory m))) h (memory_content version cycles m)

entry_contents : (version : Version) (cycles : ℕ) (es : List Entry) (vs : List Value) → AllZip (λ (e : Entry) v. value_sort v ≡ e.sort) es vs → AllZip (IsContent version cycles) (map entry_kind es) (map table_of_value vs)
entry_contents version cycles [] [] h = tt
entry_contents version cycles [] (v ∷ vs) h = absurd h
entry_contents version cycles (e ∷ es) [] h = absurd h
entry_contents version cycles (e ∷ es) (v ∷ vs) h = (inl (value_content version cycles e v h.0), entry_contents version cycles es vs h.1)

input_contents : (version : Version) (cycles i : ℕ) (ps : List PortView) (inputs : List (List Scalar)) → length inputs ≡ cycles → FitFrom i ps inputs
    → AllZip (IsContent version cycles) (map (λ (p : PortView). input_kind p.sort) ps) (input_tables i ps inputs)
input_contents version cycles i [] inputs size fit = tt
input_contents version cycles i (p ∷ ps) inputs size fit =
    let here = column_fits p ps i inputs fit in
    (inr (record { input = refl; values = column i inputs; count = length-column i inputs ∙ size; sorted = here.0; table = refl }), input_contents version cycles (i + 1) ps inputs size here.1)

-- the tables of a fitting trail are those of its kinds
pub trail_contents : (version : Version) (cycles : ℕ) (d : DesignView) (t : Trail) → TrailFits d t → length t.inputs ≡ cycles → AllZip (IsContent version cycles) (kinds version d) (tables_of d t)
trail_contents version cycles d t fits size =
    let symbols = symbol_contents version cycles d.distinct t.interp fits.interp.apart d.symbols t.interp [] refl fits.interp.tables in
    let entries = entry_contents version cycles d.pipe.entries t.state fits.state in
    let inputs = input_contents version cycles 0 d.pipe.ports t.inputs size fits.inputs in
    AllZip-append (IsContent version cycles) (symbol_kinds version d.distinct 0 d.symbols ++ map entry_kind d.pipe.entries) (t.interp ++ map table_of_value t.state) _ _
    (AllZip-append (IsContent version cycles) (symbol_kinds version d.distinct 0 d.symbols) t.interp _ _ symbols entries) inputs

-- ---- back to the trail

slots_back : (slots : List Slot) → map slot_of (map row_of slots) ≡ slots
slots_back [] = refl
slots_back (s ∷ ss) = ap (λ rest. s ∷ rest) (slots_back ss)

value_back : (v : Value) (s : Sort) → value_sort v ≡ s → value_of_table s (table_of_value v) ≡ v
value_back (value.Scalar x) sort.Bool e = refl
value_back (value.Scalar x) sort.Word e = refl
value_back (value.Scalar (scalar.Bool b)) sort.Memory e = absurd (cc)
value_back (value.Scalar (scalar.Word n)) sort.Memory e = absurd (cc)
value_back (value.Memory m) sort.Bool e = absurd (cc)
value_back (value.Memory m) sort.Word e = absurd (cc)
value_back (value.Memory m) sort.Memory e = ap (λ slots. value.Memory (record { default = m.default; rows = slots })) (slots_back m.rows)

state_back : (es : List Entry) (vs : List Value) (rest : List Table) → AllZip (λ (e : Entry) v. value_sort v ≡ e.sort) es vs
    → map (λ (p : Entry × Table). value_of_table p.0.sort p.1) (zip es (map table_of_value vs ++ rest)) ≡ vs
state_back [] [] rest h = refl
state_back [] (v ∷ vs) rest h = absurd h
state_back (e ∷ es) [] rest h = absurd h
state_back (e ∷ es) (v ∷ vs) rest h =
    let first = value_back v e.sort h.0 in
    let others = state_back es vs rest h.1 in
    rw (first, others) refl

pub trail_from-tables_of : (d : DesignView) (t : Trail) → TrailFits d t → trail_from d (length t.inputs) (tables_of d t) ≡ t
trail_from-tables_of d t fits =
    let state = map table_of_value t.state in
    let inputs = input_tables 0 d.pipe.ports t.inputs in
    let n : length t.interp ≡ length d.symbols = AllZip-long TableFits d.symbols t.interp fits.interp.tables in
    let m : length t.state ≡ length d.pipe.entries = AllZip-long (λ (e : Entry) v. value_sort v ≡ e.sort) d.pipe.entries t.state fits.state in
    let grouped : tables_of d t ≡ t.interp ++ (state ++ inputs) = append_assoc t.interp state inputs in
    let size : length (t.interp ++ state) ≡ length d.symbols + length d.pipe.entries = length-append t.interp state ∙ (let k = length-map t.state table_of_value in omega (arith, n, m, k)) in
    let interp : take (length d.symbols) (tables_of d t) ≡ t.interp = rw (sym n, grouped) (take-append_seam t.interp (state ++ inputs)) in
    let rest : drop (length d.symbols) (tables_of d t) ≡ state ++ inputs = rw (sym n, grouped) (drop-append_seam t.interp (state ++ inputs)) in
    let last : drop (length d.symbols + length d.pipe.entries) (tables_of d t) ≡ inputs = rw (sym size) (drop-append_seam (t.interp ++ state) inputs) in
    let values = state_back d.pipe.entries t.state inputs fits.state in
    let scalars = inputs_back d.pipe.ports t.inputs fits.inputs in
    rw (interp, rest, last, values, scalars) refl
