-- The words of rows under values of the variables.
use lib.Pointwise.{pointwise}
use Rattle.std.proofs.Common.{◌≡◌, ◌≢◌, ℕ, zero, suc, ◌+◌, ◌<◌, ◌≤◌, inl, inr, ◌==◌, Bool, true, false, nat_eq, List, [], ◌∷◌, Option, None, Some, IfSome, Contains, drop, length, slice_get, slice_index_or, refl, ap, sym, ◌∙◌, subst, arith, eq-eqb, eqb-true, if◌then◌else◌}
use Rattle.std.specs.Cmp.Lexicographic.{same_text}
use Rattle.std.proofs.lemmas.Bool.{true≢false}
use Rattle.std.proofs.lemmas.Cmp.{nat_list_eq_equiv}
use Rattle.std.proofs.lemmas.Option.{none-some, same_Some}
use Rattle.bd_list.proofs.Membership.{Contains-cons, first, third}
use Rattle.bd_model.specs.declared.design.Sort.TheVariants as sort
use Rattle.bd_model.specs.declared.table.Scalar.{Scalar}
use Rattle.bd_model.specs.Value.{scalar_word}
use Rattle.bd_terms.specs.declared.node.Node.{Node}
use Rattle.bd_terms.specs.declared.node.Node.TheVariants.{App, Ite}
use Rattle.bd_terms.specs.Denotation.{truth, word}
use Rattle.bd_terms.specs.Graph.{IsGraph}
use Rattle.bd_terms.proofs.Graphs.{sort_at-get}
use Rattle.bd_terms.proofs.Places.{Contains-get}
use Rattle.bd_terms.proofs.Reaching.{children-below}
use Rattle.bd_function.specs.declared.flat.FlatRow.{FlatRow}
use Rattle.bd_function.specs.declared.flat.FlatSym.{FlatSym}
use Rattle.bd_function.specs.Flat.{IsFlat, arguments, first_value, under}
use Rattle.bd_equality.specs.declared.rows.RowPlace.{RowPlace}
use Rattle.bd_equality.specs.declared.rows.Tail.{Tail}
use Rattle.bd_equality.specs.Encoding.{IsVariable, KeepsMarkedApart, has_mark}
use Rattle.bd_equality.specs.Made.{AreDifferent, AreRows, AreTakenApart, IsRow, IsRowOf, IsUnmarkedWord, Pairs, RowFirst, RowSecond, TwoSymbols, Words}
use Rattle.bd_equality.specs.inner.Means.{value_of}
use Rattle.bd_equality.specs.inner.Rows.{AreMarkedSymbols, IsLeaf, IsRowAt, IsTail, equal_words}
use Rattle.bd_equality.specs.declared.wanted.Wanted.{Wanted}
use Rattle.bd_equality.specs.declared.wanted.Wanted.TheVariants.{Truth, Equation}
use Rattle.bd_equality.specs.declared.wanted.Way.TheVariants as way
use Rattle.bd_equality.specs.declared.wanted.Way.{Way as TheWay}
use Rattle.bd_equality.specs.inner.Split.{AreAlike, AreCompared, IsControl, IsRowWay, IsWay, StandBefore, args_of, arguments_at, row_at, row_of_symbol}
use Rattle.bd_equality.proofs.Flats.{word_is, word_ite}
use Rattle.bd_equality.proofs.Leaves.{unequal}

-- the list from a place on begins with what stands there
pub drop_at : {X : Type 0} → (xs : List X) (i : ℕ) (x : X) → slice_get xs i ≡ Some x → drop i xs ≡ x ∷ drop (i + 1) xs
drop_at [] i x h = absurd (none-some x h)
drop_at (y ∷ xs) zero x h = ap (λ z. z ∷ xs) (same_Some y x h)
drop_at (y ∷ xs) (suc i) x h = let e : suc i + 1 ≡ suc (i + 1) = omega arith in rw e (drop_at xs i x h)

same_arguments : (xs : List ℕ) → pointwise nat_eq xs xs ≡ true
same_arguments xs = nat_list_eq_equiv.refl xs

-- a row with these arguments, whose variable has the value
pub record IsFound (v : ℕ → Scalar) (nodes : List Node) (rows : List FlatRow) (args : List ℕ) (value : Scalar) : Type 0 where
  pub row : FlatRow
  pub has : Contains rows row
  pub same : arguments v nodes row ≡ args
  pub is : value ≡ v row.var

module _ (v : ℕ → Scalar) (nodes : List Node) where
  value-here : (q : FlatRow) (rows : List FlatRow) (args : List ℕ) (b : Bool) → pointwise nat_eq (arguments v nodes q) args ≡ b
      → first_value v nodes (q ∷ rows) args ≡ (if b then v q.var else first_value v nodes rows args)
  value-here q rows args b e = ap (λ t. if t then v q.var else first_value v nodes rows args) e

  -- the first row with the arguments of one of them
  pub found : (rows : List FlatRow) (r : FlatRow) → Contains rows r → IsFound v nodes rows (arguments v nodes r) (first_value v nodes rows (arguments v nodes r))
  found [] r (i, lt, e) = absurd (omega arith)
  found (q ∷ rows) r h = by (pointwise nat_eq (arguments v nodes q) (arguments v nodes r)) refl (λ rest. found rows r rest)
    where
      by : (b : Bool) → pointwise nat_eq (arguments v nodes q) (arguments v nodes r) ≡ b → (Contains rows r → IsFound v nodes rows (arguments v nodes r) (first_value v nodes rows (arguments v nodes r)))
          → IsFound v nodes (q ∷ rows) (arguments v nodes r) (first_value v nodes (q ∷ rows) (arguments v nodes r))
      by true e later = record { row = q; has = first q rows; same = same_text _ _ (sym e); is = value-here q rows (arguments v nodes r) true e }
      by false e later = elim (Contains-cons q rows r h) [
        | inl same ↦ absurd (true≢false (sym (same_arguments (arguments v nodes r)) ∙ ap (λ z. pointwise nat_eq (arguments v nodes z) (arguments v nodes r)) (sym same) ∙ e))
        | inr rest ↦
            let f = later rest in
            record { row = f.row; has = (suc f.has.0, omega (arith, f.has.1), f.has.2); same = f.same; is = value-here q rows (arguments v nodes r) false e ∙ f.is }
      ]

module _ (nodes : List Node) (g : IsGraph nodes) (root : ℕ) (syms : List FlatSym) (flat : IsFlat nodes root syms) (marked : Option (List ℕ)) where
  module _ (v : ℕ → Scalar) (k : KeepsMarkedApart nodes marked v) where
    -- rows that are equal have equal arguments
    same_rows : (s : FlatSym) → Contains syms s → (q r : FlatRow) (a b : ℕ) → IsRow nodes marked s q a → IsRow nodes marked s r b → word (under v) nodes a ≡ word (under v) nodes b
        → arguments v nodes q ≡ arguments v nodes r
    same_rows s listed q r a b ia ib same =
        let x = found v nodes s.rows q ia.has in
        let y = found v nodes s.rows r ib.has in
        let values : scalar_word (v x.row.var) ≡ scalar_word (v y.row.var) = sym (ap scalar_word x.is) ∙ sym (ia.first v) ∙ same ∙ ib.first v ∙ ap scalar_word y.is in
        by x y values (x.row.var == y.row.var) refl
      where
        by : (x : IsFound v nodes s.rows (arguments v nodes q) (first_value v nodes s.rows (arguments v nodes q)))
            (y : IsFound v nodes s.rows (arguments v nodes r) (first_value v nodes s.rows (arguments v nodes r)))
            → scalar_word (v x.row.var) ≡ scalar_word (v y.row.var) → (t : Bool) → (x.row.var == y.row.var) ≡ t → arguments v nodes q ≡ arguments v nodes r
        by x y values true e =
            let one = (flat.different s s x.row y.row listed x.has listed y.has (eqb-true x.row.var y.row.var e)).1 in
            sym x.same ∙ ap (arguments v nodes) one ∙ y.same
        by x y values false e =
            let other : x.row.var ≢ y.row.var = λ z. true≢false (sym (eq-eqb x.row.var y.row.var z) ∙ e) in
            absurd (k.apart x.row.var y.row.var (ia.symbol.words x.row x.has) (ib.symbol.words y.row y.has) other (ia.symbol.marks x.row x.has) values)

    -- two rows of a marked symbol are equal exactly if their arguments are
    pub rows_equal : (a b : ℕ) (left right : List ℕ) → AreRows nodes syms marked a b left right → value_of nodes (Words a b) v ≡ value_of nodes (Pairs left right) v
    rows_equal a b left right h =
        by (pointwise nat_eq (arguments v nodes h.first) (arguments v nodes h.second)) refl
        ∙ (λ i. equal_words nodes v (h.first_arguments i) (h.second_arguments i))
      where
        by : (t : Bool) → pointwise nat_eq (arguments v nodes h.first) (arguments v nodes h.second) ≡ t
            → (word (under v) nodes a == word (under v) nodes b) ≡ pointwise nat_eq (arguments v nodes h.first) (arguments v nodes h.second)
        by true e =
            let same = same_text (arguments v nodes h.first) (arguments v nodes h.second) (sym e) in
            eq-eqb _ _ (h.is_first.first v ∙ ap (λ l. scalar_word (first_value v nodes h.holder.rows l)) same ∙ sym (h.is_second.first v)) ∙ sym e
        by false e =
            unequal (word (under v) nodes a) (word (under v) nodes b)
            (λ same.
            let args = same_rows h.holder h.listed h.first h.second a b h.is_first h.is_second same in
            true≢false (sym (same_arguments (arguments v nodes h.second)) ∙ ap (λ l. pointwise nat_eq l (arguments v nodes h.second)) (sym args) ∙ e)) ∙ sym e

    -- a row has the value of a variable of its symbol
    pub record IsAmong (s : FlatSym) (id : ℕ) : Type 0 where
      pub row : FlatRow
      pub has : Contains s.rows row
      pub is : word (under v) nodes id ≡ scalar_word (v row.var)
      pub variable : IsVariable nodes sort.Word row.var
      pub mark : has_mark marked row.var ≡ true

    among : (s : FlatSym) (id : ℕ) → IsRowOf nodes syms marked s id → IsAmong s id
    among s id h =
        let f = found v nodes s.rows h.row h.is.has in
        record { row = f.row; has = f.has; is = h.is.first v ∙ ap scalar_word f.is; variable = h.is.symbol.words f.row f.has; mark = h.is.symbol.marks f.row f.has }

    unmarked_value : (id : ℕ) (u : IsUnmarkedWord nodes marked id) → IsVariable nodes sort.Word u.variable × (word (under v) nodes id ≡ scalar_word (v u.variable))
    unmarked_value id u =
        let w = word_is nodes g root syms flat id (App u.is.symbol u.is.args) u.is.there (sort_at-get nodes g id (App u.is.symbol u.is.args) u.is.there) refl in
        (subst (IsVariable nodes sort.Word) (sym u.is.is) w.0, w.1 v ∙ ap (λ x. scalar_word (v x)) (sym u.is.is))

    row_apart : (s : FlatSym) (a b : ℕ) → IsRowOf nodes syms marked s a → (u : IsUnmarkedWord nodes marked b) → word (under v) nodes a ≢ word (under v) nodes b
    row_apart s a b r u same =
        let x = among s a r in
        let y = unmarked_value b u in
        let other : x.row.var ≢ u.variable = λ e. true≢false (sym x.mark ∙ ap (has_mark marked) e ∙ u.unmarked) in
        k.apart x.row.var u.variable x.variable y.0 other x.mark (sym x.is ∙ same ∙ y.1)

    words_apart : (a b : ℕ) → AreDifferent nodes syms marked a b → word (under v) nodes a ≢ word (under v) nodes b
    words_apart a b (TwoSymbols s t ne p q) same =
        let x = among s a p in
        let y = among t b q in
        let other : x.row.var ≢ y.row.var = λ e. ne (flat.different s t x.row y.row p.listed x.has q.listed y.has e).0 in
        k.apart x.row.var y.row.var x.variable y.variable other x.mark (sym x.is ∙ same ∙ y.is)
    words_apart a b (RowFirst s r u) same = row_apart s a b r u same
    words_apart a b (RowSecond s u r) same = row_apart s b a r u (sym same)

    -- two different rows are never equal
    pub never_equal : (a b : ℕ) → AreDifferent nodes syms marked a b → value_of nodes (Words a b) v ≡ false
    never_equal a b h = unequal (word (under v) nodes a) (word (under v) nodes b) (words_apart a b h)

choice : (b : Bool) (x y : Scalar) → (if b then scalar_word x else scalar_word y) ≡ scalar_word (if b then x else y)
choice true x y = refl
choice false x y = refl

before-later : (xs : List ℕ) (a b : ℕ) → a < b → StandBefore xs a → StandBefore xs b
before-later [] a b lt h = tt
before-later (x ∷ xs) a b lt h = (omega (arith, lt, h.0), before-later xs a b lt h.1)

-- a row at its place
pub record IsRowThere (syms : List FlatSym) (symbol row : ℕ) (r : FlatRow) : Type 0 where
  pub holder : FlatSym
  pub listed : slice_get syms symbol ≡ Some holder
  pub has : slice_get holder.rows row ≡ Some r

pub row_there : (syms : List FlatSym) (symbol row : ℕ) (r : FlatRow) → row_at syms symbol row ≡ Some r → IsRowThere syms symbol row r
row_there syms symbol row r e = by (slice_get syms symbol) refl e
  where
    by : (o : Option FlatSym) → slice_get syms symbol ≡ o → row_of_symbol o row ≡ Some r → IsRowThere syms symbol row r
    by None f h = absurd (none-some r h)
    by (Some s) f h = record { holder = s; listed = f; has = h }

-- its arguments
pub arguments_there : (syms : List FlatSym) (symbol row : ℕ) (holder : FlatSym) (r : FlatRow) → slice_get syms symbol ≡ Some holder → slice_get holder.rows row ≡ Some r → r.args ≡ arguments_at syms symbol row
arguments_there syms symbol row holder r listed has = sym (ap (λ o. args_of (row_of_symbol o row)) listed ∙ ap args_of has)

module _ (nodes : List Node) (syms : List FlatSym) (marked : Option (List ℕ)) where
  -- the variable of a row is a tail
  pub tail_own : (said : List Bool) (place : RowPlace) (id : ℕ) (r : FlatRow) → AreMarkedSymbols nodes syms marked said → slice_index_or said place.symbol false ≡ true → row_at syms place.symbol place.row ≡ Some r
      → IsLeaf nodes id r.var → StandBefore r.args id → IsTail nodes syms marked (record { symbol = place.symbol; row = place.row; from = place.row }) id
  tail_own said place id r symbols is at leaf before =
      let t = row_there syms place.symbol place.row r at in
      record {
        holder = t.holder;
        listed = t.listed;
        symbol = symbols.each place.symbol t.holder t.listed is;
        row = r;
        has = t.has;
        before = before;
        is = λ v.
            leaf.value v
            ∙ ap scalar_word (sym (ap (λ l. first_value v nodes l (arguments v nodes r)) (drop_at t.holder.rows place.row r t.has) ∙ value-here v nodes r (drop (place.row + 1) t.holder.rows) (arguments v nodes r) true (same_arguments (arguments v nodes r))));
      }

  -- a tail from the first row on is a row
  pub row_of_tail : (tail : Tail) (id : ℕ) → tail.from ≡ 0 → IsTail nodes syms marked tail id → IsRowAt nodes syms marked (record { symbol = tail.symbol; row = tail.row }) id
  row_of_tail tail id none t = record {
    holder = t.holder;
    listed = t.listed;
    row = t.row;
    has = t.has;
    before = t.before;
    is = record {
      symbol = t.symbol;
      has = Contains-get t.holder.rows tail.row t.row t.has;
      first = λ v. t.is v ∙ ap (λ n. scalar_word (first_value v nodes (drop n t.holder.rows) (arguments v nodes t.row))) none;
    };
  }

  -- rows of two symbols are different, and those of one with as many arguments are compared
  pub rows_apart : (root : ℕ) → IsFlat nodes root syms → (p q : RowPlace) (a b : ℕ) → p.symbol ≢ q.symbol → IsRowAt nodes syms marked p a → IsRowAt nodes syms marked q b → AreDifferent nodes syms marked a b
  rows_apart root flat p q a b other x y =
      TwoSymbols x.holder y.holder (λ same. other (flat.once p.symbol q.symbol x.holder y.holder x.listed y.listed same))
      (record { listed = Contains-get syms p.symbol x.holder x.listed; row = x.row; is = x.is })
      (record { listed = Contains-get syms q.symbol y.holder y.listed; row = y.row; is = y.is })

  pub rows_compared : (p q : RowPlace) (a b : ℕ) → p.symbol ≡ q.symbol → length (arguments_at syms p.symbol p.row) ≡ length (arguments_at syms p.symbol q.row) → IsRowAt nodes syms marked p a → IsRowAt nodes syms marked q b
      → AreCompared nodes syms marked a b (arguments_at syms p.symbol p.row) (arguments_at syms p.symbol q.row)
  rows_compared p q a b same alike x y =
      let one : y.holder ≡ x.holder = same_Some y.holder x.holder (sym y.listed ∙ ap (slice_get syms) (sym same) ∙ x.listed) in
      let has : slice_get x.holder.rows q.row ≡ Some y.row = ap (λ (s : FlatSym). slice_get s.rows q.row) (sym one) ∙ y.has in
      let left = arguments_there syms p.symbol p.row x.holder x.row x.listed x.has in
      let right = arguments_there syms p.symbol q.row x.holder y.row x.listed has in
      record {
        rows = record {
          holder = x.holder;
          listed = Contains-get syms p.symbol x.holder x.listed;
          first = x.row;
          second = y.row;
          is_first = x.is;
          is_second = subst (λ (s : FlatSym). IsRow nodes marked s y.row b) one y.is;
          first_arguments = left;
          second_arguments = right;
        };
        alike = alike;
        left_before = subst (λ l. StandBefore l a) left x.before;
        right_before = subst (λ l. StandBefore l b) right y.before;
      }

  -- the word of a row, as one of its symbol's
  pub row_among : (p : RowPlace) (id : ℕ) (x : IsRowAt nodes syms marked p id) → IsRowOf nodes syms marked x.holder id
  row_among p id x = record { listed = Contains-get syms p.symbol x.holder x.listed; row = x.row; is = x.is }

  -- a row and a variable that isn't marked
  pub row_first : (p : RowPlace) (a b : ℕ) (r : Option TheWay) → IsRowAt nodes syms marked p a → IfSome r (λ w. (w ≡ way.Never) × IsUnmarkedWord nodes marked b) → IfSome r (IsRowWay nodes syms marked a b)
  row_first p a b None x h = tt
  row_first p a b (Some w) x h = subst (IsRowWay nodes syms marked a b) (sym h.0) (RowFirst x.holder (row_among p a x) h.1)

  pub row_second : (p : RowPlace) (a b : ℕ) (r : Option TheWay) → IsRowAt nodes syms marked p b → IfSome r (λ w. (w ≡ way.Never) × IsUnmarkedWord nodes marked a) → IfSome r (IsRowWay nodes syms marked a b)
  row_second p a b None x h = tt
  row_second p a b (Some w) x h = subst (IsRowWay nodes syms marked a b) (sym h.0) (RowSecond x.holder h.1 (row_among p b x))

  -- two words of which one has a control, and how rows are taken apart
  pub apart_of : (a b c : ℕ) → a ≤ b → (a == b) ≡ false → IsControl nodes a b c → AreTakenApart nodes a b
  apart_of a b c le other is =
      let ne : a ≢ b = λ e. true≢false (sym (eq-eqb a b e) ∙ other) in
      record { before = omega (arith, le, ne); nested = λ n. elim is [ inl h ↦ none-some c (sym n.0 ∙ h) | inr h ↦ none-some c (sym n.1 ∙ h) ] }

  pub row_way_is : (a b : ℕ) (w : TheWay) → AreTakenApart nodes a b → IsRowWay nodes syms marked a b w → IsWay nodes syms marked (Equation a b) w
  row_way_is a b way.Plain apart h = absurd h
  row_way_is a b (way.Control c) apart h = absurd h
  row_way_is a b (way.Arguments p) apart h = (apart, h)
  row_way_is a b way.Never apart h = (apart, h)

  -- a way of rows compares as many arguments
  pub alike_of : (p : Wanted) (w : TheWay) → IsWay nodes syms marked p w → AreAlike syms w
  alike_of (Truth i) w h = subst (AreAlike syms) (sym h) tt
  alike_of (Equation a b) way.Plain h = tt
  alike_of (Equation a b) (way.Control c) h = tt
  alike_of (Equation a b) (way.Arguments p) h = h.1.alike
  alike_of (Equation a b) way.Never h = tt

-- with one row more before it, a tail is one
pub tail_longer : (nodes : List Node) → IsGraph nodes → (syms : List FlatSym) (tail : Tail) (from control on : ℕ) (q r : FlatRow) (left right : List ℕ) → tail.from ≡ from + 1 → row_at syms tail.symbol from ≡ Some q
    → row_at syms tail.symbol tail.row ≡ Some r → left ≡ q.args → right ≡ r.args → IsLeaf nodes on q.var → ((v : ℕ → Scalar) → truth (under v) nodes control ≡ equal_words nodes v left right)
    → (marked : Option (List ℕ)) (id off : ℕ) → slice_get nodes id ≡ Some (Ite control on off) → IsTail nodes syms marked tail off → IsTail nodes syms marked (record { symbol = tail.symbol; row = tail.row; from = from }) id
tail_longer nodes g syms tail from control on q r left right next at own l m leaf same marked id off node t =
    let x = row_there syms tail.symbol from q at in
    let y = row_there syms tail.symbol tail.row r own in
    let xs : x.holder ≡ t.holder = same_Some x.holder t.holder (sym x.listed ∙ t.listed) in
    let ys : y.holder ≡ t.holder = same_Some y.holder t.holder (sym y.listed ∙ t.listed) in
    let there : slice_get t.holder.rows from ≡ Some q = ap (λ (s : FlatSym). slice_get s.rows from) (sym xs) ∙ x.has in
    let one : t.row ≡ r = same_Some t.row r (sym t.has ∙ ap (λ (s : FlatSym). slice_get s.rows tail.row) (sym ys) ∙ y.has) in
    record {
      holder = t.holder;
      listed = t.listed;
      symbol = t.symbol;
      row = t.row;
      has = t.has;
      before = before-later t.row.args off id (children-below nodes g id (Ite control on off) node off (third control on off [])) t.before;
      is = λ v.
          let equal : truth (under v) nodes control ≡ equal_words nodes v q.args t.row.args = same v ∙ (λ i. equal_words nodes v (l i) (m i)) ∙ ap (λ (z : FlatRow). equal_words nodes v q.args z.args) (sym one) in
          let rest : word (under v) nodes off ≡ scalar_word (first_value v nodes (drop (from + 1) t.holder.rows) (arguments v nodes t.row)) =
          t.is v ∙ ap (λ n. scalar_word (first_value v nodes (drop n t.holder.rows) (arguments v nodes t.row))) next in
          word_ite nodes g id control on off node v
          ∙ (λ i. if equal i then leaf.value v i else rest i)
          ∙ choice (equal_words nodes v q.args t.row.args) (v q.var) (first_value v nodes (drop (from + 1) t.holder.rows) (arguments v nodes t.row))
          ∙ ap scalar_word (sym (ap (λ l. first_value v nodes l (arguments v nodes t.row)) (drop_at t.holder.rows from q there)));
    }
