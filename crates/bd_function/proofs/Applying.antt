-- What holds of rows and of the first ones when an application is put after the others.
use Rattle.std.proofs.Common.{◌≡◌, ℕ, zero, suc, ◌<◌, ◌≤◌, ◌⊎◌, inl, inr, Bool, true, false, ◌&&◌, if◌then◌else◌, List, [], ◌∷◌, ◌++◌, length, map, slice_get, Some, Contains, nat_eq, refl, ap, sym, ◌∙◌, subst, arith, eq-eqb, length-append}
use Rattle.std.specs.List.{All}
use Rattle.std.proofs.lemmas.Option.{none-some, same_Some}
use Rattle.std.proofs.lemmas.List.{get_or_append_left, append-nil}
use Rattle.std.proofs.lemmas.List.Elements.{Contains-append_left, Contains-append_right}
use Rattle.std.proofs.lemmas.Grind.{flat_map-append}
use lib.Pointwise.{pointwise}
use Rattle.bd_model.specs.declared.design.Sort.{Sort}
use Rattle.bd_model.specs.declared.design.Sort.TheVariants as sort
use Rattle.bd_model.specs.declared.table.Scalar.{Scalar}
use Rattle.bd_model.specs.declared.table.Scalar.TheVariants as scalar
use Rattle.bd_model.specs.Table.{at}
use Rattle.bd_terms.specs.declared.node.Sym.TheVariants.{Var}
use Rattle.bd_terms.specs.declared.node.Node.{Node}
use Rattle.bd_terms.specs.Graph.{Extends, HasSort, Use, node_uses, sort_at, uses}
use Rattle.bd_terms.specs.Denotation.{denoted}
use Rattle.bd_terms.proofs.Growth.{All-HasSort-Extends, denoted-Extends, get-Extends, inside-Extends, sort_at-Extends}
use Rattle.bd_function.specs.declared.flat.FlatRow.{FlatRow}
use Rattle.bd_function.specs.declared.flat.FlatSym.{FlatSym}
use Rattle.bd_function.specs.Flat.{application, arguments, first_value, row_of, under}
use Rattle.bd_function.specs.Flattened.{StandsFor}
use Rattle.bd_terms.specs.Renamed.{id_at}
use Rattle.bd_function.specs.inner.Nested.{chosen}
use Rattle.bd_function.specs.inner.Taken.{IsRow, as_sort, row_sort, use_of, with_row}
use Rattle.bd_function.proofs.Nesting.{words-Extends}
use Rattle.bd_list.proofs.Membership.{Contains-none, Contains-one}

pub Contains-later : {X : Type 0} → (x : X) (xs : List X) (y : X) → Contains xs y → Contains (x ∷ xs) y
Contains-later x xs y p = Contains-append_right (x ∷ []) xs y p

pub pointwise-same : (args : List ℕ) → pointwise nat_eq args args ≡ true
pointwise-same [] = refl
pointwise-same (a ∷ args) = let head : nat_eq a a ≡ true = eq-eqb a a refl in let tail = pointwise-same args in λ i. head i && tail i

if-true : {X : Type 0} → (t : Bool) (x y z : X) → t ≡ true → (if t then x else y) ≡ (if t then x else z)
if-true true x y z h = refl
if-true false x y z h = absurd (true_is h)
  where
    true_is : false ≡ true → ⊥
    true_is e = cc

-- a row after the others changes nothing for those before it
pub first_value-front : (v : ℕ → Scalar) (nodes : List Node) (rows more : List FlatRow) (r : FlatRow) → Contains rows r
    → first_value v nodes (rows ++ more) (arguments v nodes r) ≡ first_value v nodes rows (arguments v nodes r)
first_value-front v nodes [] more r p = absurd (Contains-none r p)
first_value-front v nodes (q ∷ rows) more r (zero, h, e) =
    let test : pointwise nat_eq (arguments v nodes q) (arguments v nodes r) ≡ true = ap (λ x. pointwise nat_eq (arguments v nodes x) (arguments v nodes r)) e ∙ pointwise-same (arguments v nodes r) in
    if-true (pointwise nat_eq (arguments v nodes q) (arguments v nodes r)) (v q.var) _ _ test
first_value-front v nodes (q ∷ rows) more r (suc k, h, e) =
    let rest = first_value-front v nodes rows more r (k, omega arith, e) in
    λ i. if pointwise nat_eq (arguments v nodes q) (arguments v nodes r) then v q.var else rest i

-- the row's arguments and its variable have the same values
pub record KeepsValues (v v' : ℕ → Scalar) (old new : List Node) (r : FlatRow) : Type 0 where
  pub same : arguments v' new r ≡ arguments v old r
  pub value : v' r.var ≡ v r.var

-- rows of such give the same
pub rows-same : (v v' : ℕ → Scalar) (old new : List Node) (rows : List FlatRow) → ((r : FlatRow) → Contains rows r → KeepsValues v v' old new r) → map (row_of v' new) rows ≡ map (row_of v old) rows
rows-same v v' old new [] h = refl
rows-same v v' old new (r ∷ rows) h =
    let k = h r (0, omega arith, refl) in
    let rest = rows-same v v' old new rows (λ q p. h q (Contains-later r rows q p)) in
    λ i. record { args = k.same i; value = k.value i } ∷ rest i

-- rows are such where the graph grows
pub KeepsValues-Extends : (v : ℕ → Scalar) (old new : List Node) → Extends old new → (r : FlatRow) → All (λ a. HasSort old a sort.Word) r.args → KeepsValues v v old new r
KeepsValues-Extends v old new e r h = record { same = words-Extends (under v) old new e r.args h; value = refl }

pub rows_of-Extends : (v : ℕ → Scalar) (old new : List Node) → Extends old new → (rows : List FlatRow) → ((r : FlatRow) → Contains rows r → All (λ a. HasSort old a sort.Word) r.args)
    → map (row_of v new) rows ≡ map (row_of v old) rows
rows_of-Extends v old new e rows h = rows-same v v old new rows (λ r p. KeepsValues-Extends v old new e r (h r p))

as_sort-if : (s : Sort) (t : Bool) (x y : Scalar) → as_sort s (if t then x else y) ≡ (if t then as_sort s x else as_sort s y)
as_sort-if s true x y = refl
as_sort-if s false x y = refl

-- the nested ite denotes the value of the first row with equal arguments
pub chosen-first : (v : ℕ → Scalar) (nodes : List Node) (variables : List ℕ) (rows : List FlatRow) (new : FlatRow) (own : ℕ) (s : Sort)
    → ((r : FlatRow) → Contains rows r → denoted (under v) nodes (id_at variables r.var) ≡ as_sort s (v r.var))
    → denoted (under v) nodes own ≡ as_sort s (v new.var)
    → chosen (under v) nodes variables rows new.args (denoted (under v) nodes own) ≡ as_sort s (first_value v nodes (rows ++ new ∷ []) (arguments v nodes new))
chosen-first v nodes variables [] new own s h k =
    k ∙ ap (as_sort s) (sym (first_own (pointwise nat_eq (arguments v nodes new) (arguments v nodes new)) (pointwise-same (arguments v nodes new))))
  where
    first_own : (t : Bool) → t ≡ true → (if t then v new.var else scalar.Bool false) ≡ v new.var
    first_own true e = refl
    first_own false e = cc
chosen-first v nodes variables (r ∷ rows) new own s h k =
    let test = pointwise nat_eq (arguments v nodes r) (arguments v nodes new) in
    let yes = h r (0, omega arith, refl) in
    let no = chosen-first v nodes variables rows new own s (λ q p. h q (Contains-later r rows q p)) k in
    (λ i. if test then yes i else no i) ∙ sym (as_sort-if s test (v r.var) (first_value v nodes (rows ++ new ∷ []) (arguments v nodes new)))

-- what is applied stays so
pub uses-Extends : (old new : List Node) → Extends old new → (u : Use) → Contains (uses old) u → Contains (uses new) u
uses-Extends old new e u p =
    subst (λ l. Contains l u) (sym (ap uses e.grows ∙ flat_map-append node_uses old e.more)) (Contains-append_left (uses old) (uses e.more) u p)

-- rows keep what holds of them
pub row_sort-later : (old new : List Node) → Extends old new → (variables : List ℕ) (own : ℕ) (r : FlatRow) → IsRow old variables r → row_sort new (variables ++ own ∷ []) r ≡ row_sort old variables r
row_sort-later old new e variables own r h =
    ap (sort_at new) (get_or_append_left variables (own ∷ []) 0 r.var h.known) ∙ sort_at-Extends old new e (id_at variables r.var) h.inside

pub IsRow-later : (old new : List Node) → Extends old new → (variables : List ℕ) (own : ℕ) (r : FlatRow) → IsRow old variables r → IsRow new (variables ++ own ∷ []) r
IsRow-later old new e variables own r h =
    let place : id_at (variables ++ own ∷ []) r.var ≡ id_at variables r.var = get_or_append_left variables (own ∷ []) 0 r.var h.known in
    let kind = row_sort-later old new e variables own r h in
    record {
      words = All-HasSort-Extends old new e sort.Word r.args h.words;
      known = omega (arith, h.known, length-append variables (own ∷ []));
      inside = subst (λ i. i < length new) (sym place) (inside-Extends old new e (id_at variables r.var) h.inside);
      applied = subst (λ s. Contains (uses new) (use_of (Var r.var) 0 s)) (sym kind) (uses-Extends old new e _ h.applied);
      value = λ v. ap (denoted (under v) new) place ∙ denoted-Extends (under v) old new e (id_at variables r.var) h.inside ∙ h.value v ∙ ap (λ s. as_sort s (v r.var)) (sym kind);
      stands =
          subst (StandsFor new (row_sort new (variables ++ own ∷ []) r) r.var) (sym place)
          (subst (λ s. StandsFor new s r.var (id_at variables r.var)) (sym kind)
          (get-Extends old new e (id_at variables r.var) (application (row_sort old variables r) (Var r.var) []) h.stands));
    }

-- the symbol at the place with a row more, or another one
pub with_row-cases : (ss : List FlatSym) (p : ℕ) (h : FlatSym) (new : FlatRow) → slice_get ss p ≡ Some h → (x : FlatSym) → Contains (with_row ss p new) x
    → Contains ss x ⊎ (x ≡ record { sym = h.sym; rows = h.rows ++ new ∷ [] })
with_row-cases [] p h new at x q = absurd (none-some h at)
with_row-cases (s ∷ ss) zero h new at x (zero, k, e) = inr (sym e ∙ ap (λ (z : FlatSym). record { sym = z.sym; rows = z.rows ++ new ∷ [] }) (same_Some s h at))
with_row-cases (s ∷ ss) zero h new at x (suc j, k, e) = inl (suc j, omega arith, e)
with_row-cases (s ∷ ss) (suc p) h new at x (zero, k, e) = inl (zero, omega arith, e)
with_row-cases (s ∷ ss) (suc p) h new at x (suc j, k, e) =
    elim (with_row-cases ss p h new at x (j, omega arith, e)) [ inl q ↦ inl (Contains-later s ss x q) | inr q ↦ inr q ]

-- a symbol with further rows, of variables from the number on
pub record Later (ss : List FlatSym) (n : ℕ) (s : FlatSym) : Type 0 where
  pub later : FlatSym
  pub listed : Contains ss later
  pub same : later.sym ≡ s.sym
  pub more : List FlatRow
  pub from : (r : FlatRow) → Contains more r → n ≤ r.var
  pub grows : later.rows ≡ s.rows ++ more

pub Later-same : (ss : List FlatSym) (n : ℕ) (s : FlatSym) → Contains ss s → Later ss n s
Later-same ss n s p = record { later = s; listed = p; same = refl; more = []; from = λ r q. absurd (Contains-none r q); grows = sym (append-nil s.rows) }

pub with_row-later : (ss : List FlatSym) (p : ℕ) (new : FlatRow) (s : FlatSym) → Contains ss s → Later (with_row ss p new) new.var s
with_row-later [] p new s q = absurd (Contains-none s q)
with_row-later (x ∷ ss) zero new s (zero, h, e) = record {
  later = record { sym = x.sym; rows = x.rows ++ new ∷ [] };
  listed = (0, omega arith, refl);
  same = ap (λ (z : FlatSym). z.sym) e;
  more = new ∷ [];
  from = λ r q. subst (λ (z : FlatRow). new.var ≤ z.var) (Contains-one new r q) (omega arith);
  grows = ap (λ (z : FlatSym). z.rows ++ new ∷ []) e;
}
with_row-later (x ∷ ss) zero new s (suc k, h, e) = Later-same _ new.var s (Contains-later (record { sym = x.sym; rows = x.rows ++ new ∷ [] }) ss s (k, omega arith, e))
with_row-later (x ∷ ss) (suc p) new s (zero, h, e) = Later-same _ new.var s (0, omega arith, e)
with_row-later (x ∷ ss) (suc p) new s (suc k, h, e) =
    let l = with_row-later ss p new s (k, omega arith, e) in
    record { later = l.later; listed = Contains-later x (with_row ss p new) l.later l.listed; same = l.same; more = l.more; from = l.from; grows = l.grows }

-- the symbol at the place has the row
pub with_row-there : (ss : List FlatSym) (p : ℕ) (h : FlatSym) (new : FlatRow) → slice_get ss p ≡ Some h → Contains (with_row ss p new) (record { sym = h.sym; rows = h.rows ++ new ∷ [] })
with_row-there [] p h new at = absurd (none-some h at)
with_row-there (s ∷ ss) zero h new at = (0, omega arith, ap (λ (z : FlatSym). record { sym = z.sym; rows = z.rows ++ new ∷ [] }) (same_Some s h at))
with_row-there (s ∷ ss) (suc p) h new at = Contains-later s (with_row ss p new) _ (with_row-there ss p h new at)

pub with_row-named : (ss : List FlatSym) (p : ℕ) (new : FlatRow) → map (λ (s : FlatSym). s.sym) (with_row ss p new) ≡ map (λ (s : FlatSym). s.sym) ss
with_row-named [] p new = refl
with_row-named (s ∷ ss) zero new = refl
with_row-named (s ∷ ss) (suc p) new = ap (λ l. s.sym ∷ l) (with_row-named ss p new)
