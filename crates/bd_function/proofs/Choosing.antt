-- Values of variables that are chosen: a new variable has the value of its application where no earlier row of its symbol
-- has arguments with the same values, and else its choice.
use Rattle.std.proofs.Common.{◌≡◌, ℕ, zero, suc, ◌<◌, ◌≤◌, ◌==◌, ◌⊎◌, inl, inr, Bool, true, false, List, [], ◌∷◌, ◌++◌, length, slice_get, Some, Contains, nat_eq, refl, ap, sym, ◌∙◌, subst, arith, if◌then◌else◌}
use Rattle.std.specs.List.{All}
use Rattle.std.proofs.lemmas.Bool.{eqb-true, false≢true}
use Rattle.std.proofs.lemmas.List.Elements.{Contains-append_cases, Contains-append_left, Contains-append_right}
use lib.Pointwise.{pointwise}
use Rattle.bd_model.specs.declared.design.Sort.{Sort}
use Rattle.bd_model.specs.declared.design.Sort.TheVariants as sort
use Rattle.bd_model.specs.declared.table.Scalar.{Scalar}
use Rattle.bd_model.specs.declared.table.Scalar.TheVariants as scalar
use Rattle.bd_model.specs.Table.{row_value, at}
use Rattle.bd_terms.specs.declared.node.Sym.{Sym}
use Rattle.bd_terms.specs.declared.node.Sym.TheVariants.{Var}
use Rattle.bd_terms.specs.declared.node.Node.{Node}
use Rattle.bd_terms.specs.Graph.{Extends, HasSort, Use, uses}
use Rattle.bd_terms.specs.Denotation.{World, words}
use Rattle.bd_terms.proofs.Places.{Contains-get}
use Rattle.bd_function.specs.declared.flat.FlatRow.{FlatRow}
use Rattle.bd_function.specs.declared.flat.FlatSym.{FlatSym}
use Rattle.bd_function.specs.Flat.{IsChosen, IsFirst, IsFirstVariable, application, arguments, first_value, under}
use Rattle.bd_function.specs.inner.Taken.{Chooses, IsApplied, IsVariableBelow, use_of, with_row}
use Rattle.bd_function.proofs.Applying.{Contains-later, KeepsValues, KeepsValues-Extends, first_value-front, pointwise-same, rows-same, uses-Extends, with_row-cases, with_row-later, with_row-there}
use Rattle.bd_function.proofs.Nesting.{words-Extends}
use Rattle.bd_function.proofs.LaterVariables.{pointwise-equal, with_value, with_value-agree, with_value-other, with_value-same, words-agree}
use Rattle.bd_list.proofs.Membership.{Contains-none, Contains-one}

-- the first rows of the symbol are kept
abbrev pub KeepsRows : World → (ℕ → Scalar) → List Node → FlatSym → Type 0
KeepsRows w v nodes s = (r : FlatRow) → Contains s.rows r → first_value v nodes s.rows (arguments v nodes r) ≡ at (w s.sym) (arguments v nodes r)

-- and are so where the rows have the same values
KeepsRows-same : (w : World) (v v' : ℕ → Scalar) (old new : List Node) (s : FlatSym) → ((r : FlatRow) → Contains s.rows r → KeepsValues v v' old new r)
    → KeepsRows w v old s → KeepsRows w v' new s
KeepsRows-same w v v' old new s h k = λ r p.
    let args = (h r p).same in
    let rows = rows-same v v' old new s.rows h in
    (λ i. row_value (rows i) (args i) (scalar.Bool false)) ∙ k r p ∙ (λ i. at (w s.sym) (sym args i))

-- a first row is still one where its symbol has no further rows but of later variables
IsFirst-later : (w : World) (v v' : ℕ → Scalar) (old : List Node) (root : ℕ) (before after : List Node) (s t : FlatSym) (r : FlatRow) → Extends before after → t.sym ≡ s.sym
    → ((q : FlatRow) → Contains t.rows q → Contains s.rows q ⊎ (r.var ≤ q.var)) → ((q : FlatRow) → Contains s.rows q → KeepsValues v v' before after q) → Contains s.rows r
    → IsFirst w v old root before s r → IsFirst w v' old root after t r
IsFirst-later w v v' old root before after s t r e named cases keeps has f =
    let k = keeps r has in
    record {
      id = f.id;
      kind = f.kind;
      args = f.args;
      reached = f.reached;
      there = f.there ∙ sym (λ i. Some (application f.kind (named i) f.args));
      variable = uses-Extends before after e _ f.variable;
      same = k.same ∙ f.same;
      value = k.value ∙ f.value ∙ (λ i. at (w (sym named i)) (sym k.same i));
      first = λ q p same. elim (cases q p) [
        | inl there ↦ f.first q there (sym (keeps q there).same ∙ same ∙ k.same)
        | inr later ↦ later
      ];
    }

-- a row with arguments of these values
record HasEqual (v : ℕ → Scalar) (nodes : List Node) (rows : List FlatRow) (args : List ℕ) : Type 0 where
  row : FlatRow
  has : Contains rows row
  same : arguments v nodes row ≡ args

abbrev HasNone : (ℕ → Scalar) → List Node → List FlatRow → List ℕ → Type 0
HasNone v nodes rows args = (r : FlatRow) → Contains rows r → arguments v nodes r ≡ args → ⊥

-- lists of numbers that differ
pointwise-other : (xs ys : List ℕ) → (xs ≡ ys → ⊥) → pointwise nat_eq xs ys ≡ false
pointwise-other xs ys h = tested (pointwise nat_eq xs ys) refl
  where
    tested : (t : Bool) → pointwise nat_eq xs ys ≡ t → t ≡ false
    tested true e = absurd (h (pointwise-equal xs ys e))
    tested false e = refl

-- whether there is such a row
find_equal : (v : ℕ → Scalar) (nodes : List Node) (rows : List FlatRow) (args : List ℕ) → HasEqual v nodes rows args ⊎ HasNone v nodes rows args
find_equal v nodes [] args = inr (λ r p same. Contains-none r p)
find_equal v nodes (q ∷ rows) args = tested (pointwise nat_eq (arguments v nodes q) args) refl (find_equal v nodes rows args)
  where
    none : pointwise nat_eq (arguments v nodes q) args ≡ false → HasNone v nodes rows args → HasNone v nodes (q ∷ rows) args
    none h n r (zero, b, e) same = false≢true (sym h ∙ ap (λ l. pointwise nat_eq l args) (ap (arguments v nodes) e ∙ same) ∙ pointwise-same args)
    none h n r (suc i, b, e) same = n r (i, omega arith, e) same

    tested : (t : Bool) → pointwise nat_eq (arguments v nodes q) args ≡ t → HasEqual v nodes rows args ⊎ HasNone v nodes rows args → HasEqual v nodes (q ∷ rows) args ⊎ HasNone v nodes (q ∷ rows) args
    tested true h rest = inl (record { row = q; has = (0, omega arith, refl); same = pointwise-equal (arguments v nodes q) args h })
    tested false h (inl e) = inl (record { row = e.row; has = Contains-later q rows e.row e.has; same = e.same })
    tested false h (inr n) = inr (none h n)

-- where there is none, a row after the others is the first with its arguments
first_value-own : (v : ℕ → Scalar) (nodes : List Node) (rows : List FlatRow) (new : FlatRow) → HasNone v nodes rows (arguments v nodes new)
    → first_value v nodes (rows ++ new ∷ []) (arguments v nodes new) ≡ v new.var
first_value-own v nodes [] new h = ap (λ t. if t then v new.var else scalar.Bool false) (pointwise-same (arguments v nodes new))
first_value-own v nodes (q ∷ rows) new h =
    let test = pointwise-other (arguments v nodes q) (arguments v nodes new) (h q (0, omega arith, refl)) in
    ap (λ t. if t then v q.var else first_value v nodes (rows ++ new ∷ []) (arguments v nodes new)) test
    ∙ first_value-own v nodes rows new (λ r p. h r (Contains-later q rows r p))

-- an earlier row: one over words of the graph, whose variable is below the number
pub record IsOlder (nodes : List Node) (n : ℕ) (r : FlatRow) : Type 0 where
  pub words : All (λ a. HasSort nodes a sort.Word) r.args
  pub below : r.var < n

-- chosen values stay so where the graph grows
pub Chooses-Extends : (old : List Node) (root : ℕ) (before after : List Node) (ss : List FlatSym) (w : World) (choice v : ℕ → Scalar) → Extends before after
    → ((s : FlatSym) → Contains ss s → (r : FlatRow) → Contains s.rows r → All (λ a. HasSort before a sort.Word) r.args)
    → Chooses old root before ss w choice v → Chooses old root after ss w choice v
Chooses-Extends old root before after ss w choice v e rows c =
    let keeps = λ (s : FlatSym) (p : Contains ss s) (r : FlatRow) (q : Contains s.rows r). KeepsValues-Extends v before after e r (rows s p r q) in
    record {
      keeps = record { first = λ s p. KeepsRows-same w v v before after s (keeps s p) (c.keeps.first s p) };
      each = λ x. elim (c.each x) [
        | inl chose ↦ inl chose
        | inr f ↦ inr (record {
          holder = f.holder;
          listed = f.listed;
          row = f.row;
          has = f.has;
          same = f.same;
          is = IsFirst-later w v v old root before after f.holder f.holder f.row e refl (λ q p. inl p) (keeps f.holder f.listed) f.has f.is;
        })
      ];
    }

-- and where a symbol without rows is added
pub Chooses-symbol : (old : List Node) (root : ℕ) (nodes : List Node) (ss : List FlatSym) (k : Sym) (w : World) (choice v : ℕ → Scalar)
    → Chooses old root nodes ss w choice v → Chooses old root nodes (ss ++ (record { sym = k; rows = [] }) ∷ []) w choice v
Chooses-symbol old root nodes ss k w choice v c = record {
  keeps = record {
    first = λ s p r q. elim (Contains-append_cases ss ((record { sym = k; rows = [] }) ∷ []) s p) [
      | inl there ↦ c.keeps.first s there r q
      | inr here ↦ absurd (Contains-none r (subst (λ (x : FlatSym). Contains x.rows r) (sym (Contains-one _ s here)) q))
    ];
  };
  each = λ x. elim (c.each x) [
    | inl chose ↦ inl chose
    | inr f ↦ inr (record {
      holder = f.holder;
      listed = Contains-append_left ss _ f.holder f.listed;
      row = f.row;
      has = f.has;
      same = f.same;
      is = f.is;
    })
  ];
}

-- a row is put after those of the symbol at the place, with a later variable
pub record AddsRow (before after : List Node) (ss : List FlatSym) (place : ℕ) (h : FlatSym) (new : FlatRow) (s : Sort) : Type 0 where
  pub extends : Extends before after
  pub there : slice_get ss place ≡ Some h
  pub rows : (y : FlatSym) → Contains ss y → (r : FlatRow) → Contains y.rows r → IsOlder before new.var r
  pub below : (u : Use) → Contains (uses before) u → IsVariableBelow new.var u
  pub words : All (λ a. HasSort before a sort.Word) new.args
  pub variable : Contains (uses after) (use_of (Var new.var) 0 s)

-- the symbol with a row after its others
abbrev with_last : FlatSym → FlatRow → FlatSym
with_last h new = record { sym = h.sym; rows = h.rows ++ new ∷ [] }

-- words have the same values with a value for the new variable
words-with_value : (before after : List Node) (n : ℕ) (v : ℕ → Scalar) (x : Scalar) (args : List ℕ) → Extends before after → ((u : Use) → Contains (uses before) u → IsVariableBelow n u)
    → All (λ a. HasSort before a sort.Word) args → words (under (with_value v n x)) after args ≡ words (under v) before args
words-with_value before after n v x args e below h =
    words-Extends (under (with_value v n x)) before after e args h
    ∙ words-agree (under (with_value v n x)) (under v) before args (with_value-agree v n x (uses before) below)

-- so earlier rows keep their values
AddsRow-older : (before after : List Node) (ss : List FlatSym) (place : ℕ) (h : FlatSym) (new : FlatRow) (s : Sort) → AddsRow before after ss place h new s → (v : ℕ → Scalar) (x : Scalar)
    → (y : FlatSym) → Contains ss y → (r : FlatRow) → Contains y.rows r → KeepsValues v (with_value v new.var x) before after r
AddsRow-older before after ss place h new s a v x y p r q =
    let older = a.rows y p r q in
    record {
      same = words-with_value before after new.var v x r.args a.extends a.below older.words;
      value = with_value-other v new.var x r.var older.below;
    }

same_or_not : (m n : ℕ) → (m ≡ n) ⊎ ((m == n) ≡ false)
same_or_not m n = tested (m == n) refl
  where
    tested : (t : Bool) → (m == n) ≡ t → (m ≡ n) ⊎ ((m == n) ≡ false)
    tested true e = inl (eqb-true m n e)
    tested false e = inr e

-- a variable of a first row is still one
AddsRow-first : (before after : List Node) (ss : List FlatSym) (place : ℕ) (h : FlatSym) (new : FlatRow) (s : Sort) → AddsRow before after ss place h new s
    → (old : List Node) (root : ℕ) (w : World) (v : ℕ → Scalar) (x : Scalar) (m : ℕ)
    → IsFirstVariable w v old root before ss m → IsFirstVariable w (with_value v new.var x) old root after (with_row ss place new) m
AddsRow-first before after ss place h new s a old root w v x m f =
    let l = with_row-later ss place new f.holder f.listed in
    record {
      holder = l.later;
      listed = l.listed;
      row = f.row;
      has = subst (λ rs. Contains rs f.row) (sym l.grows) (Contains-append_left f.holder.rows l.more f.row f.has);
      same = f.same;
      is = IsFirst-later w v (with_value v new.var x) old root before after f.holder l.later f.row a.extends l.same
          (λ q p. elim (Contains-append_cases f.holder.rows l.more q (subst (λ rs. Contains rs q) l.grows p)) [
            | inl there ↦ inl there
            | inr further ↦ let known = (a.rows f.holder f.listed f.row f.has).below in let from = l.from q further in inr (omega (arith, known, from))
          ])
          (AddsRow-older before after ss place h new s a v x f.holder f.listed) f.has f.is;
    }

-- values are chosen with this one for the new variable, where its symbol's first row with the new one's arguments is kept
AddsRow-with : (before after : List Node) (ss : List FlatSym) (place : ℕ) (h : FlatSym) (new : FlatRow) (s : Sort) → AddsRow before after ss place h new s
    → (old : List Node) (root : ℕ) (w : World) (choice v : ℕ → Scalar) → Chooses old root before ss w choice v → (x : Scalar)
    → first_value (with_value v new.var x) after (h.rows ++ new ∷ []) (arguments (with_value v new.var x) after new) ≡ at (w h.sym) (arguments (with_value v new.var x) after new)
    → (x ≡ choice new.var) ⊎ IsFirst w (with_value v new.var x) old root after (with_last h new) new
    → IsChosen old root after (with_row ss place new) w choice
AddsRow-with before after ss place h new s a old root w choice v c x own is =
    let more : ℕ → Scalar = with_value v new.var x in
    let kept : (y : FlatSym) → Contains ss y → KeepsRows w more after y =
    λ y p. KeepsRows-same w v more before after y (AddsRow-older before after ss place h new s a v x y p) (c.keeps.first y p) in
    let last : KeepsRows w more after (with_last h new) = λ r q. elim (Contains-append_cases h.rows (new ∷ []) r q) [
      | inl there ↦ first_value-front more after h.rows (new ∷ []) r there ∙ kept h (Contains-get ss place h a.there) r there
      | inr here ↦ subst (λ (z : FlatRow). first_value more after (h.rows ++ new ∷ []) (arguments more after z) ≡ at (w h.sym) (arguments more after z)) (Contains-one new r here) own
    ] in
    record {
      values = more;
      keeps = record {
        first = λ y p. elim (with_row-cases ss place h new a.there y p) [
          | inl there ↦ kept y there
          | inr same ↦ subst (KeepsRows w more after) (sym same) last
        ];
      };
      each = λ m. elim (same_or_not m new.var) [
        | inl e ↦ elim is [
          | inl chose ↦ inl (ap more e ∙ with_value-same v new.var x ∙ chose ∙ ap choice (sym e))
          | inr f ↦ inr (record {
            holder = with_last h new;
            listed = with_row-there ss place h new a.there;
            row = new;
            has = Contains-append_right h.rows (new ∷ []) new (0, omega arith, refl);
            same = sym e;
            is = f;
          })
        ]
        | inr other ↦ elim (c.each m) [
          | inl chose ↦ inl (ap (λ t. if t then x else v m) other ∙ chose)
          | inr f ↦ inr (AddsRow-first before after ss place h new s a old root w v x m f)
        ]
      ];
    }

-- there are chosen values with a row more, one of an application that the old root reaches
pub AddsRow-IsChosen : (before after : List Node) (ss : List FlatSym) (place : ℕ) (h : FlatSym) (new : FlatRow) (s : Sort) → AddsRow before after ss place h new s
    → (old : List Node) (root : ℕ) (w : World) (choice v : ℕ → Scalar) → Chooses old root before ss w choice v
    → IsApplied old root w (use_of h.sym (length new.args) s) (words (under v) before new.args) → IsChosen old root after (with_row ss place new) w choice
AddsRow-IsChosen before after ss place h new s a old root w choice v c term =
    let values : List ℕ = words (under v) before new.args in
    let inside : Contains ss h = Contains-get ss place h a.there in
    elim (find_equal v before h.rows values) [
      | inl q ↦
          let x : Scalar = choice new.var in
          let more : ℕ → Scalar = with_value v new.var x in
          let older = AddsRow-older before after ss place h new s a v x h inside in
          let same : arguments more after q.row ≡ arguments more after new =
          (older q.row q.has).same ∙ q.same ∙ sym (words-with_value before after new.var v x new.args a.extends a.below a.words) in
          AddsRow-with before after ss place h new s a old root w choice v c x
          (subst (λ l. first_value more after (h.rows ++ new ∷ []) l ≡ at (w h.sym) l) same
          (first_value-front more after h.rows (new ∷ []) q.row q.has ∙ KeepsRows-same w v more before after h older (c.keeps.first h inside) q.row q.has))
          (inl refl)
      | inr none ↦
          let x : Scalar = at (w h.sym) values in
          let more : ℕ → Scalar = with_value v new.var x in
          let older = AddsRow-older before after ss place h new s a v x h inside in
          let own : arguments more after new ≡ values = words-with_value before after new.var v x new.args a.extends a.below a.words in
          let other : HasNone more after h.rows (arguments more after new) = λ r p e. none r p (sym (older r p).same ∙ e ∙ own) in
          let value : more new.var ≡ at (w h.sym) (arguments more after new) = with_value-same v new.var x ∙ (λ i. at (w h.sym) (sym own i)) in
          AddsRow-with before after ss place h new s a old root w choice v c x (first_value-own more after h.rows new other ∙ value)
          (inr (record {
            id = term.id;
            kind = s;
            args = term.terms;
            reached = term.reached;
            there = term.there;
            variable = a.variable;
            same = own ∙ term.same;
            value = value;
            first = λ r p e. elim (Contains-append_cases h.rows (new ∷ []) r p) [
              | inl there ↦ absurd (other r there e)
              | inr here ↦ subst (λ (z : FlatRow). new.var ≤ z.var) (Contains-one new r here) (omega arith)
            ];
          }))
    ]
