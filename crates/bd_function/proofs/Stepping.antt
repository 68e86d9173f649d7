-- An application that is put after the others keeps what holds of those before it.
use Rattle.std.proofs.Common.{◌≡◌, ℕ, suc, ◌<◌, ◌⊎◌, inl, inr, false, List, [], ◌∷◌, ◌++◌, length, map, slice_get, Some, Contains, get_or, refl, ap, sym, ◌∙◌, subst, arith, length-append}
use Rattle.std.specs.List.{All}
use Rattle.std.proofs.lemmas.List.{get_or_default}
use Rattle.std.proofs.lemmas.List.Elements.{Contains-append_cases, Contains-append_left, Contains-append_right}
use Rattle.std.proofs.Math.Seq.{get_or-append_seam}
use Rattle.bd_model.specs.declared.design.Sort.{Sort}
use Rattle.bd_model.specs.declared.design.Sort.TheVariants as sort
use Rattle.bd_model.specs.declared.table.Scalar.{Scalar}
use Rattle.bd_model.specs.Table.{row_value, at}
use Rattle.bd_model.specs.declared.table.Scalar.TheVariants as scalar
use Rattle.bd_terms.specs.declared.node.Sym.{Sym}
use Rattle.bd_terms.specs.declared.node.Sym.TheVariants.{Var}
use Rattle.bd_terms.specs.declared.node.Node.{Node}
use Rattle.bd_terms.specs.Graph.{AddsUses, Extends, HasSort, IsGraph, Use, sort_at, uses}
use Rattle.bd_terms.specs.Denotation.{World, Denotes, denoted, words}
use Rattle.bd_terms.proofs.Places.{All-of, Contains-get}
use Rattle.bd_terms.proofs.Growth.{All-HasSort-Extends, Extends-trans, HasSort-Extends, denoted-Extends, get-Extends}
use Rattle.bd_function.specs.declared.flat.FlatRow.{FlatRow}
use Rattle.bd_function.specs.declared.flat.FlatSym.{FlatSym}
use Rattle.bd_function.specs.declared.eliminate.Taken.{Taken}
use Rattle.bd_function.specs.Flat.{IsChosen, KeepsFirst, application, arguments, first_value, under}
use Rattle.bd_function.specs.Flattened.{StandsFor}
use Rattle.bd_terms.specs.Renamed.{id_at}
use Rattle.bd_function.specs.inner.Nested.{AreEarlier, IsEarlier, IsNestedChoice, chosen}
use Rattle.bd_function.specs.inner.Taken.{AddsSymbol, AddsVariable, AreAlike, Chooses, HasRow, HasUse, IsApplied, IsRow, IsTaken, IsVariableBelow, Steps, as_sort, row_sort, use_of, with_row}
use Rattle.bd_function.proofs.Nesting.{words-Extends}
use Rattle.bd_function.proofs.Choosing.{AddsRow-IsChosen, Chooses-symbol}
use Rattle.bd_function.proofs.Applying.{IsRow-later, Later, chosen-first, first_value-front, row_sort-later, rows_of-Extends, uses-Extends, with_row-cases, with_row-later, with_row-named, with_row-there}
use Rattle.bd_list.proofs.Membership.{Contains-none, Contains-one}

HasRow-empty : (ss : List FlatSym) (k symbol : Sym) (r : FlatRow) → HasRow (ss ++ (record { sym = k; rows = [] }) ∷ []) symbol r → HasRow ss symbol r
HasRow-empty ss k symbol r h = elim (Contains-append_cases ss ((record { sym = k; rows = [] }) ∷ []) h.holder h.listed) [
  | inl q ↦ record { holder = h.holder; listed = q; same = h.same; has = h.has }
  | inr q ↦ absurd (Contains-none r (subst (λ (x : FlatSym). Contains x.rows r) (sym (Contains-one _ h.holder q)) h.has))
]

-- a variable and a symbol more are no row more
pub HasRow-old : (t t1 t2 : Taken) (own : ℕ) (s : Sort) (k : Sym) (place : ℕ) → AddsVariable t t1 own s → AddsSymbol t1 t2 k place
    → (symbol : Sym) (r : FlatRow) → HasRow t2.rows.items symbol r → HasRow t.rows.items symbol r
HasRow-old t t1 t2 own s k place v a symbol r h = elim a.adds [
  | inl e ↦ subst (λ l. HasRow l symbol r) (e ∙ v.rows) h
  | inr e ↦ subst (λ l. HasRow l symbol r) v.rows (HasRow-empty t1.rows.items k symbol r (subst (λ l. HasRow l symbol r) e h))
]

-- and the symbols are still there
pub Contains-old : (t t1 t2 : Taken) (own : ℕ) (s : Sort) (k : Sym) (place : ℕ) → AddsVariable t t1 own s → AddsSymbol t1 t2 k place
    → (x : FlatSym) → Contains t.rows.items x → Contains t2.rows.items x
Contains-old t t1 t2 own s k place v a x p = elim a.adds [
  | inl e ↦ subst (λ l. Contains l x) (sym (e ∙ v.rows)) p
  | inr e ↦ subst (λ l. Contains l x) (sym e) (Contains-append_left t1.rows.items _ x (subst (λ l. Contains l x) (sym v.rows) p))
]

pub extends_two : (t t1 t2 : Taken) (own : ℕ) (s : Sort) (k : Sym) (place : ℕ) → AddsVariable t t1 own s → AddsSymbol t1 t2 k place → Extends t.graph t2.graph
extends_two t t1 t2 own s k place v a = subst (Extends t.graph) (sym a.graph) v.term.extends

pub own_sorted : (t t1 t2 : Taken) (own : ℕ) (s : Sort) (k : Sym) (place : ℕ) → AddsVariable t t1 own s → AddsSymbol t1 t2 k place → HasSort t2.graph own s
own_sorted t t1 t2 own s k place v a = subst (λ l. HasSort l own s) (sym a.graph) v.term.sorted

-- a row of the symbol is one of its arity and sort
pub record IsAlike (t2 : Taken) (arity : ℕ) (s : Sort) (r : FlatRow) : Type 0 where
  pub row : IsRow t2.graph t2.variables.items r
  pub many : length r.args ≡ arity
  pub kind : row_sort t2.graph t2.variables.items r ≡ s

pub alike_row : (t t1 t2 : Taken) (own arity : ℕ) (s : Sort) (k : Sym) (place : ℕ) → IsTaken t → AreAlike t (use_of k arity s ∷ []) → AddsVariable t t1 own s → (a : AddsSymbol t1 t2 k place)
    → (r : FlatRow) → Contains a.holder.rows r → IsAlike t2 arity s r
alike_row t t1 t2 own arity s k place taken alike v a r p =
    let e = extends_two t t1 t2 own s k place v a in
    let vars : t2.variables.items ≡ t.variables.items ++ own ∷ [] = a.variables ∙ v.variables in
    let h = HasRow-old t t1 t2 own s k place v a k r (record { holder = a.holder; listed = Contains-get t2.rows.items place a.holder a.there; same = a.same; has = p }) in
    let row = taken.rows h.holder h.listed r h.has in
    let fit = alike.alike (use_of k arity s) (0, omega arith, refl) h.holder h.listed h.same r h.has in
    record {
      row = subst (λ l. IsRow t2.graph l r) (sym vars) (IsRow-later t.graph t2.graph e t.variables.items own r row);
      many = fit.0;
      kind = ap (λ l. row_sort t2.graph l r) vars ∙ row_sort-later t.graph t2.graph e t.variables.items own r row ∙ fit.1;
    }

-- the rows of the symbol are earlier ones of its arity and sort
pub earlier_rows : (t t1 t2 : Taken) (own arity : ℕ) (s : Sort) (k : Sym) (place : ℕ) → IsTaken t → AreAlike t (use_of k arity s ∷ []) → AddsVariable t t1 own s → (a : AddsSymbol t1 t2 k place)
    → AreEarlier t2.graph t2.variables.items arity (sort_at t2.graph own) a.holder.rows
earlier_rows t t1 t2 own arity s k place taken alike v a = All-of (IsEarlier t2.graph t2.variables.items arity (sort_at t2.graph own)) a.holder.rows (λ r p.
    let l = alike_row t t1 t2 own arity s k place taken alike v a r p in
    record {
      arguments = l.row.words;
      many = l.many;
      known = l.row.known;
      sorted = record { inside = l.row.inside; sorted = l.kind ∙ sym (own_sorted t t1 t2 own s k place v a).sorted };
    })

-- what the application's step does to terms, variables and rows
pub record Applies (t2 t4 : Taken) (own id place var : ℕ) (args : List ℕ) (holder : FlatSym) : Type 0 where
  pub graph : IsGraph t2.graph → IsGraph t4.graph
  pub extends : Extends t2.graph t4.graph
  pub adds : AddsUses t2.graph t4.graph []
  pub sorted : HasSort t4.graph id (sort_at t2.graph own)
  pub denotes : Denotes t4.graph id (λ w. chosen w t2.graph t2.variables.items holder.rows args (denoted w t2.graph own))
  pub variables : t4.variables.items ≡ t2.variables.items
  pub symbols : t4.symbols.keys ≡ t2.symbols.keys
  pub rows : t4.rows.items ≡ with_row t2.rows.items place (record { args = args; var = var })
  pub made : IsNestedChoice t4.graph t2.variables.items holder.rows args own id

-- a row is an earlier one, or the new one
pub HasRow-cases : (t t1 t2 : Taken) (own : ℕ) (s : Sort) (k : Sym) (place : ℕ) (new : FlatRow) → AddsVariable t t1 own s → AddsSymbol t1 t2 k place
    → (symbol : Sym) (r : FlatRow) → HasRow (with_row t2.rows.items place new) symbol r → HasRow t.rows.items symbol r ⊎ ((symbol ≡ k) × (r ≡ new))
HasRow-cases t t1 t2 own s k place new v a symbol r h = elim (with_row-cases t2.rows.items place a.holder new a.there h.holder h.listed) [
  | inl q ↦ inl (HasRow-old t t1 t2 own s k place v a symbol r (record { holder = h.holder; listed = q; same = h.same; has = h.has }))
  | inr e ↦
      let is : symbol ≡ a.holder.sym = sym h.same ∙ ap (λ (x : FlatSym). x.sym) e in
      elim (Contains-append_cases a.holder.rows (new ∷ []) r (subst (λ (x : FlatSym). Contains x.rows r) e h.has)) [
        | inl q ↦ inl (HasRow-old t t1 t2 own s k place v a symbol r (record { holder = a.holder; listed = Contains-get t2.rows.items place a.holder a.there; same = sym is; has = q }))
        | inr q ↦ inr (is ∙ a.same, sym (Contains-one new r q))
      ]
]

-- the first rows that are kept were kept before
pub first_before : (w : World) (v : ℕ → Scalar) (old new : List Node) → Extends old new → (before after : List FlatSym) (n : ℕ)
    → ((x : FlatSym) → Contains before x → (r : FlatRow) → Contains x.rows r → All (λ a. HasSort old a sort.Word) r.args)
    → ((x : FlatSym) → Contains before x → Later after n x) → KeepsFirst w v new after → KeepsFirst w v old before
first_before w v old new e before after n h later keeps = record {
  first = λ x p r q.
      let l = later x p in
      let args : arguments v new r ≡ arguments v old r = words-Extends (under v) old new e r.args (h x p r q) in
      let rows = rows_of-Extends v old new e x.rows (h x p) in
      let k = keeps.first l.later l.listed r (subst (λ l. Contains l r) (sym l.grows) (Contains-append_left x.rows l.more r q)) in
      (λ i. row_value (sym rows i) (sym args i) (scalar.Bool false))
      ∙ sym (first_value-front v new x.rows l.more r q)
      ∙ ap (λ (rs : List FlatRow). first_value v new rs (arguments v new r)) (sym l.grows)
      ∙ k ∙ (λ i. at (w (l.same i)) (args i));
}

-- a row is still there when one is put after the others
HasRow-later : (t t1 t2 : Taken) (own : ℕ) (s : Sort) (k : Sym) (place : ℕ) (new : FlatRow) → AddsVariable t t1 own s → AddsSymbol t1 t2 k place
    → (symbol : Sym) (r : FlatRow) → HasRow t.rows.items symbol r → HasRow (with_row t2.rows.items place new) symbol r
HasRow-later t t1 t2 own s k place new v a symbol r h =
    let l = with_row-later t2.rows.items place new h.holder (Contains-old t t1 t2 own s k place v a h.holder h.listed) in
    record { holder = l.later; listed = l.listed; same = l.same ∙ h.same; has = subst (λ rs. Contains rs r) (sym l.grows) (Contains-append_left h.holder.rows l.more r h.has) }

-- values that are chosen are so with a symbol more
Chooses-old : (t t1 t2 : Taken) (own : ℕ) (s : Sort) (k : Sym) (place : ℕ) → AddsVariable t t1 own s → AddsSymbol t1 t2 k place → (old : List Node) (root : ℕ) (w : World) (choice v : ℕ → Scalar)
    → Chooses old root t.graph t.rows.items w choice v → Chooses old root t.graph t2.rows.items w choice v
Chooses-old t t1 t2 own s k place var a old root w choice v c = elim a.adds [
  | inl e ↦ subst (λ l. Chooses old root t.graph l w choice v) (sym (e ∙ var.rows)) c
  | inr e ↦ subst (λ l. Chooses old root t.graph l w choice v) (sym (e ∙ ap (λ l. l ++ (record { sym = k; rows = [] }) ∷ []) var.rows)) (Chooses-symbol old root t.graph t.rows.items k w choice v c)
]

-- there are chosen values with a further variable
Applies-chosen : (t t1 t2 t4 : Taken) (own id place : ℕ) (args : List ℕ) (s : Sort) (k : Sym) → IsTaken t → All (λ a. HasSort t.graph a sort.Word) args → AddsVariable t t1 own s
    → (a : AddsSymbol t1 t2 k place) → Applies t2 t4 own id place (length t.variables.items) args a.holder
    → (old : List Node) (root : ℕ) (w : World) (choice v : ℕ → Scalar) → Chooses old root t.graph t.rows.items w choice v
    → ((u : Use) → Contains (use_of k (length args) s ∷ []) u → IsApplied old root w u (words (under v) t.graph args)) → IsChosen old root t4.graph t4.rows.items w choice
Applies-chosen t t1 t2 t4 own id place args s k taken inside var a ap4 old root w choice v c terms =
    let new : FlatRow = record { args = args; var = length t.variables.items } in
    let e14 = subst (λ l. Extends l t4.graph) a.graph ap4.extends in
    subst (λ l. IsChosen old root t4.graph l w choice) (sym ap4.rows)
    (AddsRow-IsChosen t.graph t4.graph t2.rows.items place a.holder new s (record {
      extends = Extends-trans t.graph t2.graph t4.graph (extends_two t t1 t2 own s k place var a) ap4.extends;
      there = a.there;
      rows = λ y p r q.
          let h = HasRow-old t t1 t2 own s k place var a y.sym r (record { holder = y; listed = p; same = refl; has = q }) in
          let row = taken.rows h.holder h.listed r h.has in
          record { words = row.words; below = row.known };
      below = taken.applied;
      words = inside;
      variable = uses-Extends t1.graph t4.graph e14 _ var.term.applied;
    }) old root w choice v (Chooses-old t t1 t2 own s k place var a old root w choice v c)
    (subst (λ x. IsApplied old root w (use_of x (length args) s) (words (under v) t.graph args)) (sym a.same) (terms (use_of k (length args) s) (0, omega arith, refl))))

-- an earlier row has an earlier variable
different_more : (t : Taken) → IsTaken t → (k : Sym) (new : FlatRow) → new.var ≡ length t.variables.items → (x y : Sym) (q r : FlatRow) → q.var ≡ r.var
    → HasRow t.rows.items x q ⊎ ((x ≡ k) × (q ≡ new)) → HasRow t.rows.items y r ⊎ ((y ≡ k) × (r ≡ new)) → (x ≡ y) × (q ≡ r)
different_more t taken k new n x y q r e (inl h) (inl l) = taken.different x y q r h l e
different_more t taken k new n x y q r e (inl h) (inr l) =
    let var : r.var ≡ new.var = ap (λ (z : FlatRow). z.var) l.1 in
    absurd (omega (arith, (taken.rows h.holder h.listed q h.has).known, e, var, n))
different_more t taken k new n x y q r e (inr h) (inl l) =
    let var : q.var ≡ new.var = ap (λ (z : FlatRow). z.var) h.1 in
    absurd (omega (arith, (taken.rows l.holder l.listed r l.has).known, e, var, n))
different_more t taken k new n x y q r e (inr h) (inr l) = (h.0 ∙ sym l.0, h.1 ∙ sym l.1)

-- the application of the symbol is a step
pub Applies-Steps : (t t1 t2 t4 : Taken) (own id place : ℕ) (args : List ℕ) (s : Sort) (k : Sym) → IsTaken t → AreAlike t (use_of k (length args) s ∷ [])
    → All (λ a. HasSort t.graph a sort.Word) args → AddsVariable t t1 own s → (a : AddsSymbol t1 t2 k place)
    → Applies t2 t4 own id place (length t.variables.items) args a.holder
    → Steps t t4 (use_of k (length args) s ∷ []) args id s (λ w v. as_sort s (at (w k) (words (under v) t.graph args)))
Applies-Steps t t1 t2 t4 own id place args s k taken alike inside v a ap4 =
    let n : ℕ = length t.variables.items in
    let new : FlatRow = record { args = args; var = n } in
    let e02 = extends_two t t1 t2 own s k place v a in
    let e04 = Extends-trans t.graph t2.graph t4.graph e02 ap4.extends in
    let e14 = subst (λ l. Extends l t4.graph) a.graph ap4.extends in
    let vars : t4.variables.items ≡ t.variables.items ++ own ∷ [] = ap4.variables ∙ a.variables ∙ v.variables in
    let own2 = own_sorted t t1 t2 own s k place v a in
    let place_own : id_at (t.variables.items ++ own ∷ []) n ≡ own = get_or-append_seam t.variables.items own [] 0 in
    let kind : row_sort t4.graph (t.variables.items ++ own ∷ []) new ≡ s = ap (sort_at t4.graph) place_own ∙ (HasSort-Extends t2.graph t4.graph ap4.extends own s own2).sorted in
    let row : IsRow t4.graph (t.variables.items ++ own ∷ []) new = record {
      words = All-HasSort-Extends t.graph t4.graph e04 sort.Word args inside;
      known = omega (arith, length-append t.variables.items (own ∷ []));
      inside = subst (λ i. i < length t4.graph) (sym place_own) (HasSort-Extends t2.graph t4.graph ap4.extends own s own2).inside;
      applied = subst (λ x. Contains (uses t4.graph) (use_of (Var n) 0 x)) (sym kind) (uses-Extends t1.graph t4.graph e14 _ v.term.applied);
      value = λ b. ap (denoted (under b) t4.graph) place_own ∙ denoted-Extends (under b) t1.graph t4.graph e14 own v.term.sorted.inside ∙ v.term.denotes.is (under b) ∙ ap (λ x. as_sort x (b n)) (sym kind);
      stands =
          subst (StandsFor t4.graph (row_sort t4.graph (t.variables.items ++ own ∷ []) new) n) (sym place_own)
          (subst (λ x. StandsFor t4.graph x n own) (sym kind) (get-Extends t1.graph t4.graph e14 own (application s (Var n) []) v.term.stands));
    } in
    record {
      extends = e04;
      taken = record {
        graph = ap4.graph (subst IsGraph (sym a.graph) v.term.graph);
        rows = λ x p r q. elim (HasRow-cases t t1 t2 own s k place new v a x.sym r (record { holder = x; listed = subst (λ l. Contains l x) ap4.rows p; same = refl; has = q })) [
          | inl h ↦ subst (λ l. IsRow t4.graph l r) (sym vars) (IsRow-later t.graph t4.graph e04 t.variables.items own r (taken.rows h.holder h.listed r h.has))
          | inr h ↦ subst (λ l. IsRow t4.graph l r) (sym vars) (subst (IsRow t4.graph (t.variables.items ++ own ∷ [])) (sym h.1) row)
        ];
        applied = λ u p. subst (λ l. IsVariableBelow (length l) u) (sym vars) (below_more t t1 own s v taken u
            (elim (Contains-append_cases (uses t2.graph) [] u (ap4.adds.within u p)) [ inl q ↦ subst (λ l. Contains (uses l) u) a.graph q | inr q ↦ absurd (Contains-none u q) ]));
        named = ap (map (λ (x : FlatSym). x.sym)) ap4.rows ∙ with_row-named t2.rows.items place new ∙ a.named ∙ sym ap4.symbols;
        once = λ i j x h l. a.once i j x (subst (λ ks. slice_get ks i ≡ Some x) ap4.symbols h) (subst (λ ks. slice_get ks j ≡ Some x) ap4.symbols l);
        different = λ x y q r h l e. different_more t taken k new refl x y q r e
            (HasRow-cases t t1 t2 own s k place new v a x q (subst (λ rs. HasRow rs x q) ap4.rows h))
            (HasRow-cases t t1 t2 own s k place new v a y r (subst (λ rs. HasRow rs y r) ap4.rows l));
      };
      rows = λ symbol r h. elim (HasRow-cases t t1 t2 own s k place new v a symbol r (subst (λ l. HasRow l symbol r) ap4.rows h)) [
        | inl q ↦ record { from = inl (q, ap (λ l. row_sort t4.graph l r) vars ∙ row_sort-later t.graph t4.graph e04 t.variables.items own r (taken.rows q.holder q.listed r q.has)) }
        | inr q ↦ record {
          from = inr (record {
            use_ = use_of k (length args) s;
            among = (0, omega arith, refl);
            same = sym q.0;
            arity = ap (λ (x : FlatRow). length x.args) q.1;
            sorted = ap (λ l. row_sort t4.graph l r) vars ∙ ap (row_sort t4.graph (t.variables.items ++ own ∷ [])) q.1 ∙ kind;
          });
        }
      ];
      kept = λ symbol r h. record {
        has = subst (λ l. HasRow l symbol r) (sym ap4.rows) (HasRow-later t t1 t2 own s k place new v a symbol r h);
        sorted = ap (λ l. row_sort t4.graph l r) vars ∙ row_sort-later t.graph t4.graph e04 t.variables.items own r (taken.rows h.holder h.listed r h.has);
      };
      all = λ u p.
          let is : use_of k (length args) s ≡ u = Contains-one _ u p in
          subst (HasUse t4) is (record {
            row = new;
            has = record {
              holder = record { sym = a.holder.sym; rows = a.holder.rows ++ new ∷ [] };
              listed = subst (λ l. Contains l (record { sym = a.holder.sym; rows = a.holder.rows ++ new ∷ [] })) (sym ap4.rows) (with_row-there t2.rows.items place a.holder new a.there);
              same = a.same;
              has = Contains-append_right a.holder.rows (new ∷ []) new (0, omega arith, refl);
            };
            arity = refl;
            sorted = ap (λ l. row_sort t4.graph l new) vars ∙ kind;
          });
      chosen = Applies-chosen t t1 t2 t4 own id place args s k taken inside v a ap4;
      first = λ w b keeps. first_before w b t.graph t4.graph e04 t.rows.items (with_row t2.rows.items place new) n
          (λ x p r q. (taken.rows x p r q).words)
          (λ x p. with_row-later t2.rows.items place new x (Contains-old t t1 t2 own s k place v a x p))
          (subst (KeepsFirst w b t4.graph) ap4.rows keeps);
      sorted = subst (HasSort t4.graph id) own2.sorted ap4.sorted;
      means = λ w b keeps.
          let kept = (subst (KeepsFirst w b t4.graph) ap4.rows keeps).first (record { sym = a.holder.sym; rows = a.holder.rows ++ new ∷ [] }) (with_row-there t2.rows.items place a.holder new a.there)
          new (Contains-append_right a.holder.rows (new ∷ []) new (0, omega arith, refl)) in
          let args2 = All-HasSort-Extends t.graph t2.graph e02 sort.Word args inside in
          let later : arguments b t4.graph new ≡ arguments b t2.graph new = words-Extends (under b) t2.graph t4.graph ap4.extends args args2 in
          let older : arguments b t2.graph new ≡ words (under b) t.graph args = words-Extends (under b) t.graph t2.graph e02 args inside in
          let rows = rows_of-Extends b t2.graph t4.graph ap4.extends (a.holder.rows ++ new ∷ []) (λ r p.
          elim (Contains-append_cases a.holder.rows (new ∷ []) r p) [
            | inl q ↦ (alike_row t t1 t2 own (length args) s k place taken alike v a r q).row.words
            | inr q ↦ subst (λ (x : FlatRow). All (λ c. HasSort t2.graph c sort.Word) x.args) (Contains-one new r q) args2
          ]) in
          let chose = chosen-first b t2.graph t2.variables.items a.holder.rows new own s
          (λ r p. let l = alike_row t t1 t2 own (length args) s k place taken alike v a r p in l.row.value b ∙ ap (λ x. as_sort x (b r.var)) l.kind)
          (ap (λ l. denoted (under b) l own) a.graph ∙ v.term.denotes.is (under b)) in
          ap4.denotes.is (under b) ∙ chose
          ∙ ap (as_sort s) ((λ i. row_value (sym rows i) (sym later i) (scalar.Bool false)) ∙ kept ∙ (λ i. at (w (a.same i)) ((later ∙ older) i)));
    }
  where
    below_more : (t t1 : Taken) (own : ℕ) (s : Sort) → AddsVariable t t1 own s → IsTaken t → (u : Use) → Contains (uses t1.graph) u → IsVariableBelow (length (t.variables.items ++ own ∷ [])) u
    below_more t t1 own s v taken u p = elim (Contains-append_cases (uses t.graph) (use_of (Var (length t.variables.items)) 0 s ∷ []) u (v.term.adds.within u p)) [
      | inl q ↦ let b = taken.applied u q in record { number = b.number; below = omega (arith, b.below, length-append t.variables.items (own ∷ [])); same = b.same; plain = b.plain }
      | inr q ↦ let e = Contains-one _ u q in
          record { number = length t.variables.items; below = omega (arith, length-append t.variables.items (own ∷ [])); same = ap (λ (x : Use). x.symbol) (sym e); plain = ap (λ (x : Use). x.arity) (sym e) }
    ]
