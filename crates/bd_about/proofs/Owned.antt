-- The last row that passes a test decides, where all that pass have one value.
use Rattle.std.proofs.Common.{◌≡◌, ℕ, Bool, true, false, List, [], ◌∷◌, Contains, None, Some, refl, sym, ◌∙◌, ap, slice_get}
use Rattle.std.specs.Prelude.{◌&&◌, ◌||◌, ◌==◌, if◌then◌else◌}
use Rattle.std.specs.List.{list_any}
use Rattle.std.proofs.lemmas.Bool.{eqb-true}
use Rattle.std.proofs.lemmas.List.Elements.{Contains-append_right}
use Rattle.std.proofs.lemmas.Option.{same_Some, slice_get-get_or}
use Rattle.bd_function.specs.declared.flat.FlatRow.{FlatRow}
use Rattle.bd_function.specs.declared.flat.FlatSym.{FlatSym}
use Rattle.bd_function.specs.Flat.{IsFlat}
use Rattle.bd_terms.specs.declared.node.Node.{Node}
use Rattle.bd_tseitin.specs.declared.row.AtomVar.{AtomVar}
use Rattle.bd_tseitin.specs.Rows.{AreRows}
use Rattle.bd_about.specs.Equations.{has_row}
use Rattle.bd_about.specs.inner.Owned.{is_found, last_by}
use Rattle.bd_list.proofs.Membership.{first}

-- all that pass have one value
pub record HaveOneValue {X Y : Type 0} (test : X → Bool) (value : X → Y) (xs : List X) : Type 0 where
  pub same : (a b : X) → Contains xs a → Contains xs b → test a ≡ true → test b ≡ true → value a ≡ value b

-- all that pass have this value
pub record HaveThisValue {X Y : Type 0} (test : X → Bool) (value : X → Y) (v : Y) (xs : List X) : Type 0 where
  pub same : (a : X) → Contains xs a → test a ≡ true → value a ≡ v

later : {X : Type 0} (x : X) (xs : List X) (a : X) → Contains xs a → Contains (x ∷ xs) a
later x xs a h = Contains-append_right (x ∷ []) xs a h

module _ {X Y : Type 0} (test : X → Bool) (value : X → Y) where
  rest-one : (x : X) (xs : List X) → HaveOneValue test value (x ∷ xs) → HaveOneValue test value xs
  rest-one x xs h = record { same = λ a b p q. h.same a b (later x xs a p) (later x xs b q) }

  rest-this : (x : X) (v : Y) (xs : List X) → HaveThisValue test value v (x ∷ xs) → HaveThisValue test value v xs
  rest-this x v xs h = record { same = λ a p. h.same a (later x xs a p) }

  head-this : (x : X) (xs : List X) → HaveOneValue test value (x ∷ xs) → test x ≡ true → HaveThisValue test value (value x) xs
  head-this x xs h on = record { same = λ a p passes. h.same a x (later x xs a p) (first x xs) passes on }

  -- the value stays
  stays : (v : Y) (xs : List X) → HaveThisValue test value v xs → last_by test value (Some v) xs ≡ Some v
  stays v [] h = refl
  stays v (x ∷ xs) h = ap (λ o. last_by test value o xs) (by (test x) refl) ∙ stays v xs (rest-this x v xs h)
    where
      by : (b : Bool) → test x ≡ b → (if b then Some (value x) else Some v) ≡ Some v
      by true on = ap Some (h.same x (first x xs) on)
      by false off = refl

  -- none passes where the value doesn't
  none : (passes : Y → Bool) (v : Y) (xs : List X) → HaveThisValue test value v xs → passes v ≡ false → list_any (λ x. test x && passes (value x)) xs ≡ false
  none passes v [] h off = refl
  none passes v (x ∷ xs) h off = ap (λ b. b || list_any (λ y. test y && passes (value y)) xs) (by (test x) refl) ∙ none passes v xs (rest-this x v xs h) off
    where
      by : (b : Bool) → test x ≡ b → (b && passes (value x)) ≡ false
      by true on = ap passes (h.same x (first x xs) on) ∙ off
      by false fails = refl

  pub last_decides : (passes : Y → Bool) (xs : List X) → HaveOneValue test value xs → is_found passes (last_by test value None xs) ≡ list_any (λ x. test x && passes (value x)) xs
  last_decides passes [] h = refl
  last_decides passes (x ∷ xs) h = by (last_decides passes xs (rest-one x xs h)) (test x) refl
    where
      rest : Bool
      rest = list_any (λ y. test y && passes (value y)) xs

      more : test x ≡ true → (c : Bool) → passes (value x) ≡ c → passes (value x) ≡ (passes (value x) || rest)
      more on true is = is ∙ sym (ap (λ c. c || rest) is)
      more on false is = is ∙ sym (ap (λ c. c || rest) is ∙ none passes (value x) xs (head-this x xs h on) is)

      by : is_found passes (last_by test value None xs) ≡ rest → (b : Bool) → test x ≡ b → is_found passes (last_by test value (if b then Some (value x) else None) xs) ≡ ((b && passes (value x)) || rest)
      by others true on = ap (is_found passes) (stays (value x) xs (head-this x xs h on)) ∙ more on (passes (value x)) refl
      by others false off = others

at : {X : Type 0} (xs : List X) (x : X) (h : Contains xs x) → slice_get xs h.0 ≡ Some x
at xs x h = slice_get-get_or xs h.0 x h.1 ∙ ap Some h.2

-- rows in which no variable stands twice
pub one-atom : (vars : ℕ) (rows : List AtomVar) → AreRows vars rows → (x : ℕ) → HaveOneValue (λ (r : AtomVar). r.var == x) (λ (r : AtomVar). r.atom) rows
one-atom vars rows h x = record {
  same = λ a b p q is_a is_b.
      let place : p.0 ≡ q.0 = h.variables p.0 q.0 a b (at rows a p) (at rows b q) (eqb-true a.var x is_a ∙ sym (eqb-true b.var x is_b)) in
      ap (λ (r : AtomVar). r.atom) (same_Some a b (sym (at rows a p) ∙ ap (slice_get rows) place ∙ at rows b q));
}

-- a row with this variable
row-of : (rows : List FlatRow) (x : ℕ) → has_row rows x ≡ true → (r : FlatRow) × Contains rows r × (r.var ≡ x)
row-of [] x on = absurd (cc on)
row-of (r ∷ rs) x on = by (λ found. row-of rs x found) (r.var == x) refl
  where
    by : (has_row rs x ≡ true → (q : FlatRow) × Contains rs q × (q.var ≡ x)) → (b : Bool) → (r.var == x) ≡ b → (q : FlatRow) × Contains (r ∷ rs) q × (q.var ≡ x)
    by others true is = (r, first r rs, eqb-true r.var x is)
    by others false off = let found = others (sym (ap (λ b. b || has_row rs x) off) ∙ on) in (found.0, later r rs found.0 found.1, found.2)

-- symbols of which no two have a row with one variable
pub one-symbol : (nodes : List Node) (root : ℕ) (syms : List FlatSym) → IsFlat nodes root syms → (x : ℕ) → HaveOneValue (λ (h : FlatSym). has_row h.rows x) (λ (h : FlatSym). h.sym) syms
one-symbol nodes root syms flat x = record {
  same = λ s t p q on_s on_t.
      let a = row-of s.rows x on_s in
      let b = row-of t.rows x on_t in
      (flat.different s t a.0 b.0 p a.1 q b.1 (a.2 ∙ sym b.2)).0;
}
