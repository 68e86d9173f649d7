-- The case of tables fits the design: its parts have the declared sorts, and constants are kept apart.
use Rattle.std.proofs.Common.{◌≡◌, ◌≢◌, ℕ, ◌+◌, ◌*◌, ◌<◌, ◌⊎◌, inl, inr, IsTrue, Bool, false, if◌then◌else◌, List, [], ◌∷◌, length, map, slice_get, Some, Contains, get_or, refl, ap, sym, ◌∙◌, subst, arith, eq-eqb}
use Rattle.std.specs.List.{AllByRecursion, AllZip}
use Rattle.std.proofs.lemmas.Bool.{true≢false}
use Rattle.std.proofs.lemmas.List.{get_or_default}
use Rattle.std.proofs.lemmas.Option.{same_Some, slice_get-get_or}
use Rattle.bd_model.specs.DesignView.{DesignView, PortView}
use Rattle.bd_model.specs.declared.design.Sort.{Sort}
use Rattle.bd_model.specs.declared.design.Sort.TheVariants as sort
use Rattle.bd_model.specs.declared.design.Symbol.{Symbol}
use Rattle.bd_model.specs.declared.design.Entry as entry
use Rattle.bd_model.specs.declared.table.Scalar.{Scalar}
use Rattle.bd_model.specs.declared.table.Scalar.TheVariants as scalar
use Rattle.bd_model.specs.declared.table.Table.{Table}
use Rattle.bd_model.specs.declared.case.Case.{Case}
use Rattle.bd_model.specs.Fits.{Fits, KeepsApart, TableFits, result_sort, scalar_sort, value_sort}
use Rattle.bd_model.specs.Lawful.{IsConstant, IsLawfulGroup}
use Rattle.bd_model.specs.Value.{no_table, scalar_word, table_of}
use Rattle.bd_terms.specs.declared.node.Node.{Node}
use Rattle.bd_terms.specs.declared.node.Sym.{Sym}
use Rattle.bd_terms.specs.declared.node.Sym.TheVariants.{Function, Entry, Input}
use Rattle.bd_terms.specs.Graph.{Use, uses}
use Rattle.bd_terms.proofs.Places.{AllByRecursion-get}
use Rattle.bd_symbolic.specs.Widened.{HasLawfulSymbols}
use Rattle.bd_function.specs.declared.flat.FlatRow.{FlatRow}
use Rattle.bd_function.specs.declared.flat.FlatSym.{FlatSym}
use Rattle.bd_function.specs.declared.symbol_tables.SymTable.{SymTable}
use Rattle.bd_function.specs.Flat.{HaveSorts, IsFlat, arguments, row_of}
use Rattle.bd_function.specs.Tables.{default_by, sym_tables, table_with, world_of_tables}
use Rattle.bd_function.proofs.Applying.{Contains-later}
use Rattle.bd_function.proofs.Taking.{same-length}
use Rattle.bd_prop.specs.declared.atom.Atom.{Atom}
use Rattle.bd_transitive.specs.declared.graph.Order.{Order}
use Rattle.bd_transitive.specs.Orders.{IsOrder}
use Rattle.bd_transitive.specs.Triangle.{value_at}
use Rattle.bd_lift.specs.Counting.{ArgumentsDiffer, EachRowCounts, ValueCounts}
use Rattle.bd_lift.specs.Decoded.{AreClasses, AreDecodedBy, decoded_word, edge_truths, variable_use}
use Rattle.bd_lift.specs.Lifted.{AreKnown, AreToldApart, IsKnown, TellsApart}
use Rattle.bd_lift.specs.inner.Built.{IsBuilt, entry_value, function_default, function_table, functions_of, scalar_as}
use Rattle.bd_lift.specs.inner.First.{AreAlike, RowsDiffer}
use Rattle.bd_lift.proofs.Numbered.{AllByRecursion-numbered, AllZip-numbered, get-numbered}
use Rattle.bd_lift.proofs.Ends.{Ends, Alone, placed}
use Rattle.bd_lift.proofs.Deciding.{words-alone, words-edge}
use Rattle.bd_lift.proofs.Tables.{AreRowsOf, default-given, default-own, entry-sort, function-fits, scalar_as-sort, sort_arity, sort_result, use-arity, use-sort}
use Rattle.bd_lift.proofs.FirstRows.{AreAlike-same, AreRowsOf-enough, HasEnough, entry-differ, function-differ, function_default-enough, world-differ, world-enough}
use Rattle.bd_lift.proofs.Known.{IsFound, found, known-entry, known-function, known-rows}

AllByRecursion-of : {X : Type 0} → (P Q : X → Type 0) (xs : List X) → AllByRecursion Q xs → ((x : X) → Contains xs x → Q x → P x) → AllByRecursion P xs
AllByRecursion-of P Q [] h f = tt
AllByRecursion-of P Q (x ∷ xs) h f = (f x (0, omega arith, refl) h.0, AllByRecursion-of P Q xs h.1 (λ y p q. f y (Contains-later x xs y p) q))

-- what is needed of a formula, its values and its symbols
pub record IsSettled (d : DesignView) (nodes : List Node) (syms : List FlatSym) (order : Order) (atoms : List (Atom × Bool)) (classes : List ℕ) (v : ℕ → Scalar) : Type 0 where
  pub lawful : HasLawfulSymbols d
  pub known : AreKnown d nodes syms
  pub root : ℕ
  pub flat : IsFlat nodes root syms
  pub order_is : IsOrder order
  pub are : AreClasses order atoms classes
  pub by : AreDecodedBy nodes order atoms classes v
  pub sorts : HaveSorts v nodes
  pub apart : TellsApart d syms order (value_at (edge_truths atoms order.edges))

-- a constant has the word of a variable
pub record HasVariable (syms : List FlatSym) (order : Order) (classes : List ℕ) (f : ℕ) (x : Scalar) : Type 0 where
  pub holder : FlatSym
  pub listed : Contains syms holder
  pub same : holder.sym ≡ Function f
  pub row : FlatRow
  pub has : Contains holder.rows row
  pub first : slice_get holder.rows 0 ≡ Some row
  pub word : x ≡ scalar.Word (decoded_word order classes row.var)

module _ (d : DesignView) (nodes : List Node) (syms : List FlatSym) (order : Order) (atoms : List (Atom × Bool)) (classes : List ℕ) (v : ℕ → Scalar) (s : IsSettled d nodes syms order atoms classes v) where
  holder-rows : (k : Sym) (arity : ℕ) (z : Sort) → ((u : Use) → IsKnown d u → u.symbol ≡ k → (u.arity ≡ arity) × (u.sort ≡ z)) → (h : FlatSym) → Contains syms h → h.sym ≡ k → AreRowsOf arity z (map (row_of v nodes) h.rows)
  holder-rows k arity z is h p e = by_rows h.rows refl
    where
      by_rows : (rows : List FlatRow) → h.rows ≡ rows → AreRowsOf arity z (map (row_of v nodes) h.rows)
      by_rows [] q = subst (λ l. AreRowsOf arity z (map (row_of v nodes) l)) (sym q) tt
      by_rows (r ∷ rows) q =
          let row = s.known.each h p r (subst (λ l. Contains l r) (sym q) (0, omega arith, refl)) in
          let all = known-rows d v nodes syms s.sorts s.known h p row.applied row.known row.same in
          let use_is = is row.applied row.known (row.same ∙ e) in
          subst (λ a. AreRowsOf a z (map (row_of v nodes) h.rows)) use_is.0 (subst (λ y. AreRowsOf row.applied.arity y (map (row_of v nodes) h.rows)) use_is.1 all)

  -- a symbol's rows have its arity and sort
  symbol-rows : (k : Sym) (arity : ℕ) (z : Sort) → ((u : Use) → IsKnown d u → u.symbol ≡ k → (u.arity ≡ arity) × (u.sort ≡ z)) → AreRowsOf arity z (world_of_tables (sym_tables v nodes syms) k).rows
  symbol-rows k arity z is = elim (found v nodes syms k) [
    | inl e ↦ subst (λ (t : Table). AreRowsOf arity z t.rows) (sym e) tt
    | inr h ↦ subst (λ (t : Table). AreRowsOf arity z t.rows) (sym h.table) (holder-rows k arity z is h.holder h.listed h.same)
  ]

  pub function-rows : (f : ℕ) (y : Symbol) → slice_get d.symbols f ≡ Some y → AreRowsOf y.arity (result_sort y) (world_of_tables (sym_tables v nodes syms) (Function f)).rows
  function-rows f y at = symbol-rows (Function f) y.arity (result_sort y) (λ u known e.
      let is = known-function d u f known e in
      let same : is.0 ≡ y = same_Some is.0 y (sym is.1 ∙ at) in
      (ap (λ (x : Use). x.arity) is.2 ∙ ap (λ (z : Symbol). z.arity) same, ap (λ (x : Use). x.sort) is.2 ∙ ap result_sort same))

  pub entry-rows : (i : ℕ) (x : entry.Entry) → slice_get d.pipe.entries i ≡ Some x → AreRowsOf (sort_arity x.sort) (sort_result x.sort) (world_of_tables (sym_tables v nodes syms) (Entry i)).rows
  entry-rows i x at = symbol-rows (Entry i) (sort_arity x.sort) (sort_result x.sort) (λ u known e.
      let is = known-entry d u i known e in
      let same : is.0 ≡ x = same_Some is.0 x (sym is.1 ∙ at) in (
        ap (λ (z : Use). z.arity) is.2 ∙ use-arity (Entry i) is.0.sort ∙ ap (λ (z : entry.Entry). sort_arity z.sort) same,
        ap (λ (z : Use). z.sort) is.2 ∙ use-sort (Entry i) is.0.sort ∙ ap (λ (z : entry.Entry). sort_result z.sort) same,
      ))

  -- a constant has a number of its own, or the word of a variable
  constant-default : (f : ℕ) (y : Symbol) → slice_get d.symbols f ≡ Some y → y.arity ≡ 0 → y.predicate ≡ false
      → (function_default (length order.vertices) f y (world_of_tables (sym_tables v nodes syms) (Function f)) ≡ scalar.Word (length order.vertices + 2 * f + 1))
      ⊎ HasVariable syms order classes f (function_default (length order.vertices) f y (world_of_tables (sym_tables v nodes syms) (Function f)))
  constant-default f y at arity predicate = elim (found v nodes syms (Function f)) [
    | inl e ↦ inl (ap (function_default (length order.vertices) f y) e ∙ default-own (length order.vertices) f y no_table refl arity predicate)
    | inr h ↦ by_rows h h.holder.rows refl
  ]
    where
      by_rows : (h : IsFound v nodes syms (Function f)) (rows : List FlatRow) → h.holder.rows ≡ rows
          → (function_default (length order.vertices) f y (world_of_tables (sym_tables v nodes syms) (Function f)) ≡ scalar.Word (length order.vertices + 2 * f + 1))
          ⊎ HasVariable syms order classes f (function_default (length order.vertices) f y (world_of_tables (sym_tables v nodes syms) (Function f)))
      by_rows h [] q =
          let is : world_of_tables (sym_tables v nodes syms) (Function f) ≡ table_with [] = h.table ∙ ap (λ l. table_with (map (row_of v nodes) l)) q in
          inl (ap (function_default (length order.vertices) f y) is ∙ default-own (length order.vertices) f y (table_with []) refl arity predicate)
      by_rows h (r ∷ rows) q =
          let is : world_of_tables (sym_tables v nodes syms) (Function f) ≡ table_with (map (row_of v nodes) (r ∷ rows)) = h.table ∙ ap (λ l. table_with (map (row_of v nodes) l)) q in
          let there : Contains h.holder.rows r = subst (λ l. Contains l r) (sym q) (0, omega arith, refl) in
          let k = s.known.each h.holder h.listed r there in
          let known = known-function d k.applied f k.known (k.same ∙ h.same) in
          let same : known.0 ≡ y = same_Some known.0 y (sym known.1 ∙ at) in
          let kind : k.applied.sort ≡ sort.Word = ap (λ (u : Use). u.sort) known.2 ∙ ap result_sort same ∙ ap (λ b. if b then sort.Bool else sort.Word) predicate in
          let none : length (arguments v nodes r) ≡ 0 = same-length _ r.args ∙ k.arity ∙ ap (λ (u : Use). u.arity) known.2 ∙ ap (λ (z : Symbol). z.arity) same ∙ arity in
          let value : v r.var ≡ scalar.Word (decoded_word order classes r.var) = s.by.words r.var (subst (λ z. Contains (uses nodes) (variable_use r.var z)) kind k.variable) in
          inr (record {
            holder = h.holder;
            listed = h.listed;
            same = h.same;
            row = r;
            has = there;
            first = ap (λ l. slice_get l 0) q;
            word = ap (function_default (length order.vertices) f y) is
                ∙ default-given (length order.vertices) f y (table_with (map (row_of v nodes) (r ∷ rows))) refl
                ∙ ap (λ b. scalar_as (if b then sort.Bool else sort.Word) (default_by (arguments v nodes r) (v r.var))) predicate
                ∙ ap (λ x. scalar.Word (scalar_word x)) (no-arguments (arguments v nodes r) (v r.var) none ∙ value);
          })
        where
          no-arguments : (args : List ℕ) (x : Scalar) → length args ≡ 0 → default_by args x ≡ x
          no-arguments [] x e = refl
          no-arguments (a ∷ args) x e = absurd (omega (arith, e))

  -- a word of a variable is no constant's own number
  word-own : (x f : ℕ) → decoded_word order classes x ≡ length order.vertices + 2 * f + 1 → ⊥
  word-own x f e = elim (placed order classes x s.order_is s.are.below) [
    | Ends end is lt ↦ omega (arith, lt, e)
    | Alone none is ↦ omega (arith, is, e)
  ]

  -- the words of two variables that are told apart differ
  words-apart : (x y : ℕ) → x ≢ y → AreToldApart order (value_at (edge_truths atoms order.edges)) x y → decoded_word order classes x ≢ decoded_word order classes y
  words-apart x y ne (inl h) e =
      let true_is : IsTrue (value_at (edge_truths atoms order.edges) h.0) = (words-edge order atoms classes s.order_is s.are h.0 x y h.1).1 e in
      true≢false (sym true_is ∙ h.2)
  words-apart x y ne (inr (inl h)) e = words-alone order classes s.order_is s.are.below x y h ne e
  words-apart x y ne (inr (inr h)) e = words-alone order classes s.order_is s.are.below y x h (λ q. ne (sym q)) (sym e)

  constants-differ : (group : List ℕ) → Contains d.distinct group → (f g : ℕ) → Contains group f → Contains group g → f ≢ g → (x y : Scalar)
      → (x ≡ scalar.Word (length order.vertices + 2 * f + 1)) ⊎ HasVariable syms order classes f x → (y ≡ scalar.Word (length order.vertices + 2 * g + 1)) ⊎ HasVariable syms order classes g y → x ≢ y
  constants-differ group p f g pf pg ne x y (inl a) (inl b) e =
      let same : length order.vertices + 2 * f + 1 ≡ length order.vertices + 2 * g + 1 = ap scalar_word (sym a ∙ e ∙ b) in ne (omega (arith, same))
  constants-differ group p f g pf pg ne x y (inl a) (inr b) e = word-own b.row.var f (ap scalar_word (sym b.word ∙ sym e ∙ a))
  constants-differ group p f g pf pg ne x y (inr a) (inl b) e = word-own a.row.var g (ap scalar_word (sym a.word ∙ e ∙ b))
  constants-differ group p f g pf pg ne x y (inr a) (inr b) e =
      words-apart a.row.var b.row.var
      (λ q.
      let one = (s.flat.different a.holder b.holder a.row b.row a.listed a.has b.listed b.has q).0 in
      let bad : Function f ≡ Function g = sym a.same ∙ one ∙ b.same in ne (function-number f g bad))
      (s.apart.apart group p f g pf pg ne a.holder b.holder a.listed b.listed a.same b.same a.row b.row a.first b.first)
      (ap scalar_word (sym a.word ∙ e ∙ b.word))
    where
      function-number : (m n : ℕ) → Function m ≡ Function n → m ≡ n
      function-number m n h = cc

module _ (d : DesignView) (nodes : List Node) (syms : List FlatSym) (order : Order) (atoms : List (Atom × Bool)) (classes : List ℕ) (v : ℕ → Scalar) (s : IsSettled d nodes syms order atoms classes v)
    (tables : List SymTable) (alike : AreAlike (sym_tables v nodes syms) tables) where
  -- each symbol has enough of its rows
  pub has-enough : (k : Sym) → HasEnough (world_of_tables (sym_tables v nodes syms) k) (world_of_tables tables k)
  has-enough k = world-enough (sym_tables v nodes syms) tables alike k

  -- a function's table in the case
  pub table_of-built : (interp : List Table) → interp ≡ functions_of (length order.vertices) (world_of_tables tables) d.symbols → (f : ℕ) (y : Symbol) → slice_get d.symbols f ≡ Some y
      → table_of interp f ≡ function_table (length order.vertices) f y (world_of_tables tables (Function f))
  table_of-built interp is f y at = ap (λ l. table_of l f) is
      ∙ get-numbered (λ m z. function_table (length order.vertices) m z (world_of_tables tables (Function m))) 0 d.symbols f f y no_table at (omega arith)

  keeps-apart : (interp : List Table) → interp ≡ functions_of (length order.vertices) (world_of_tables tables) d.symbols → (group : List ℕ) → Contains d.distinct group → IsLawfulGroup d group → KeepsApart interp group
  keeps-apart interp is group p l = record {
    no_rows = AllByRecursion-of (λ f. (table_of interp f).rows ≡ []) (IsConstant d) group l.constants (λ f q c.
        ap (λ (t : Table). t.rows) (table_of-built interp is f c.0 c.1) ∙ ap (λ b. if b then [] else (world_of_tables tables (Function f)).rows) (eq-eqb c.0.arity 0 c.2));
    different = λ i j dft lt inside e.
        let f = get_or group i dft in
        let g = get_or group j dft in
        let within : i < length group = omega (arith, lt, inside) in
        let cf = AllByRecursion-get (IsConstant d) group i f l.constants (slice_get-get_or group i dft within) in
        let cg = AllByRecursion-get (IsConstant d) group j g l.constants (slice_get-get_or group j dft inside) in
        let df = table_of-built interp is f cf.0 cf.1 in
        let dg = table_of-built interp is g cg.0 cg.1 in
        constants-differ d nodes syms order atoms classes v s group p f g (slot group i dft within) (slot group j dft inside) (l.different i j dft lt inside) _ _
        (constant-default d nodes syms order atoms classes v s f cf.0 cf.1 cf.2 cf.3) (constant-default d nodes syms order atoms classes v s g cg.0 cg.1 cg.2 cg.3)
        (sym (ap (λ (t : Table). t.default) df ∙ own-default f cf.0) ∙ e ∙ ap (λ (t : Table). t.default) dg ∙ own-default g cg.0);
  }
    where
      own-default : (m : ℕ) (y : Symbol) → function_default (length order.vertices) m y (world_of_tables tables (Function m)) ≡ function_default (length order.vertices) m y (world_of_tables (sym_tables v nodes syms) (Function m))
      own-default m y = function_default-enough (length order.vertices) m y _ _ (has-enough (Function m))

      slot : (xs : List ℕ) (k dft : ℕ) → k < length xs → Contains xs (get_or xs k dft)
      slot xs k dft h = (k, h, get_or_default xs k (get_or xs k dft) dft h)

  -- the case fits
  pub built-fits-alike : (c : Case) → IsBuilt d (length order.vertices) (world_of_tables tables) c.interp c.state c.inputs → Fits d c
  built-fits-alike c b = record {
    interp = record {
      tables = subst (AllZip TableFits d.symbols) (sym b.functions)
          (AllZip-numbered TableFits (λ f y. function_table (length order.vertices) f y (world_of_tables tables (Function f))) 0 d.symbols
          (λ i j y at e.
          let same : i ≡ j = omega (arith, e) in
          function-fits (length order.vertices) j y (world_of_tables tables (Function j)) (AreRowsOf-enough _ _ _ _ (has-enough (Function j)).rows (function-rows d nodes syms order atoms classes v s j y (ap (slice_get d.symbols) (sym same) ∙ at)))));
      apart = AllByRecursion-of (KeepsApart c.interp) (IsLawfulGroup d) d.distinct s.lawful.distinct (keeps-apart c.interp b.functions);
    };
    state = subst (AllZip (λ (e : entry.Entry) x. value_sort x ≡ e.sort) d.pipe.entries) (sym b.entries)
        (AllZip-numbered (λ (e : entry.Entry) x. value_sort x ≡ e.sort) (λ i (x : entry.Entry). entry_value x.sort (world_of_tables tables (Entry i))) 0 d.pipe.entries
        (λ i j x at e. entry-sort x.sort (world_of_tables tables (Entry j))));
    inputs = subst (AllZip (λ (p : PortView) x. scalar_sort x ≡ p.sort) d.pipe.ports) (sym b.ports)
        (AllZip-numbered (λ (p : PortView) x. scalar_sort x ≡ p.sort) (λ i (p : PortView). scalar_as p.sort (world_of_tables tables (Input i)).default) 0 d.pipe.ports
        (λ i j p at e. scalar_as-sort p.sort (world_of_tables tables (Input j)).default (AllByRecursion-get (λ (q : PortView). q.sort ≢ sort.Memory) d.pipe.ports i p s.lawful.inputs at)));
  }

  -- and each of its rows counts
  pub built-counts : RowsDiffer tables → (c : Case) → IsBuilt d (length order.vertices) (world_of_tables tables) c.interp c.state c.inputs → EachRowCounts c
  built-counts differ c b = record {
    tables = subst (AllByRecursion (λ (t : Table). ArgumentsDiffer t.rows)) (sym b.functions)
        (AllByRecursion-numbered (λ (t : Table). ArgumentsDiffer t.rows) (λ f y. function_table (length order.vertices) f y (world_of_tables tables (Function f))) 0 d.symbols
        (λ i j y at e. function-differ (length order.vertices) j y (world_of_tables tables (Function j)) (world-differ tables differ (Function j))));
    memories = subst (AllByRecursion ValueCounts) (sym b.entries)
        (AllByRecursion-numbered ValueCounts (λ i (x : entry.Entry). entry_value x.sort (world_of_tables tables (Entry i))) 0 d.pipe.entries
        (λ i j x at e.
        let same : i ≡ j = omega (arith, e) in
        entry-differ x.sort (world_of_tables tables (Entry j))
        (AreRowsOf-enough _ _ _ _ (has-enough (Entry j)).rows (entry-rows d nodes syms order atoms classes v s j x (ap (slice_get d.pipe.entries) (sym same) ∙ at))) (world-differ tables differ (Entry j))));
  }

-- so does that of all rows
pub built-fits : (d : DesignView) (nodes : List Node) (syms : List FlatSym) (order : Order) (atoms : List (Atom × Bool)) (classes : List ℕ) (v : ℕ → Scalar) → IsSettled d nodes syms order atoms classes v
    → (c : Case) → IsBuilt d (length order.vertices) (world_of_tables (sym_tables v nodes syms)) c.interp c.state c.inputs → Fits d c
built-fits d nodes syms order atoms classes v s c b = built-fits-alike d nodes syms order atoms classes v s (sym_tables v nodes syms) (AreAlike-same (sym_tables v nodes syms)) c b
