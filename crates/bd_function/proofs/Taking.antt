-- A term that is taken over into the new graph.
use Rattle.std.proofs.Common.{◌≡◌, ℕ, suc, inl, inr, List, [], ◌∷◌, length, map, slice_get, Some, Contains, Result, Ok, Err, IfOk, refl, ap, sym, ◌∙◌, subst, arith}
use Rattle.std.specs.declared.alloc.AllocError.{AllocError}
use Rattle.std.proofs.lemmas.List.Elements.{Contains-append_cases}
use Rattle.bd_model.specs.declared.design.Sort.{Sort}
use Rattle.bd_model.specs.declared.design.Sort.TheVariants as sort
use Rattle.bd_model.specs.declared.table.Scalar.{Scalar}
use Rattle.bd_model.specs.Table.{at}
use Rattle.bd_terms.specs.declared.node.Sym.{Sym}
use Rattle.bd_terms.specs.declared.node.Sym.TheVariants.{Var}
use Rattle.bd_terms.specs.declared.node.Node.{Node}
use Rattle.bd_terms.specs.declared.node.Node.TheVariants.{True, Not, And, Or, Ite, Eq, App, Pred, Read, Write, Init}
use Rattle.bd_terms.specs.Graph.{AddsUses, Extends, HasSort, IsGraph, Use, children, node_sort, node_uses, sorts, uses}
use Rattle.bd_terms.specs.Denotation.{World, Denoted, Denotes, denoted, node_value, values, words}
use Rattle.bd_terms.proofs.Growth.{All-HasSort-Extends, denoted-Extends, get-Extends, inside-Extends, sort_at-Extends}
use Rattle.bd_function.specs.declared.flat.FlatRow.{FlatRow}
use Rattle.bd_function.specs.declared.flat.FlatSym.{FlatSym}
use Rattle.bd_function.specs.declared.eliminate.Taken.{Taken}
use Rattle.bd_function.specs.Flat.{application, under}
use Rattle.bd_function.specs.Flattened.{StandsFor}
use Rattle.bd_terms.specs.Renamed.{id_at, renamed}
use Rattle.bd_function.specs.inner.Taken.{AreAlike, Chooses, HasRow, IsPlain, IsRow, IsTaken, IsVariableBelow, Steps, as_sort, row_sort, use_of}
use Rattle.bd_function.proofs.Applying.{Later-same, uses-Extends}
use Rattle.bd_function.proofs.Choosing.{Chooses-Extends}
use Rattle.bd_function.proofs.Nesting.{words-Extends}
use Rattle.bd_function.proofs.Stepping.{first_before}
use Rattle.bd_list.proofs.Membership.{Contains-none}

pub same-length : {X Y : Type 0} → (f : X → Y) (xs : List X) → length (map f xs) ≡ length xs
same-length f [] = refl
same-length f (x ∷ xs) = ap suc (same-length f xs)

-- a node that applies no symbol denotes the same in each world
node_value-none : (v w : World) (done : List Denoted) (node : Node) → IsPlain node → node_uses node ≡ [] → node_value v done node ≡ node_value w done node
node_value-none v w done True p h = refl
node_value-none v w done (Not a) p h = refl
node_value-none v w done (And a b) p h = refl
node_value-none v w done (Or a b) p h = refl
node_value-none v w done (Ite c a b) p h = refl
node_value-none v w done (Eq a b) p h = refl
node_value-none v w done (App s args) p h = absurd (Contains-none (use_of s (length args) sort.Word) (subst (λ l. Contains l (use_of s (length args) sort.Word)) h (0, omega arith, refl)))
node_value-none v w done (Pred s args) p h = absurd (Contains-none (use_of s (length args) sort.Bool) (subst (λ l. Contains l (use_of s (length args) sort.Bool)) h (0, omega arith, refl)))
node_value-none v w done (Read m a) p h = refl
node_value-none v w done (Write m a d) p h = refl
node_value-none v w done (Init e) p h = absurd p

-- a renamed node is of no memory where the node is
pub IsPlain-renamed : (ids : List ℕ) (node : Node) → IsPlain node → IsPlain (renamed ids node)
IsPlain-renamed ids True p = tt
IsPlain-renamed ids (Not a) p = tt
IsPlain-renamed ids (And a b) p = tt
IsPlain-renamed ids (Or a b) p = tt
IsPlain-renamed ids (Ite c a b) p = tt
IsPlain-renamed ids (Eq a b) p = tt
IsPlain-renamed ids (App s args) p = tt
IsPlain-renamed ids (Pred s args) p = tt
IsPlain-renamed ids (Read m a) p = absurd p
IsPlain-renamed ids (Write m a d) p = absurd p
IsPlain-renamed ids (Init e) p = absurd p

-- and applies the same symbol
pub node_uses-renamed : (ids : List ℕ) (node : Node) → node_uses (renamed ids node) ≡ node_uses node
node_uses-renamed ids True = refl
node_uses-renamed ids (Not a) = refl
node_uses-renamed ids (And a b) = refl
node_uses-renamed ids (Or a b) = refl
node_uses-renamed ids (Ite c a b) = refl
node_uses-renamed ids (Eq a b) = refl
node_uses-renamed ids (App s args) = ap (λ n. use_of s n sort.Word ∷ []) (same-length (id_at ids) args)
node_uses-renamed ids (Pred s args) = ap (λ n. use_of s n sort.Bool ∷ []) (same-length (id_at ids) args)
node_uses-renamed ids (Read m a) = refl
node_uses-renamed ids (Write m a d) = refl
node_uses-renamed ids (Init e) = refl

-- a node of no memory that is no application applies no symbol
pub node_uses-none : (node : Node) → IsPlain node → ((s : Sym) (args : List ℕ) → node ≡ App s args → ⊥) → ((s : Sym) (args : List ℕ) → node ≡ Pred s args → ⊥) → node_uses node ≡ []
node_uses-none True p h k = refl
node_uses-none (Not a) p h k = refl
node_uses-none (And a b) p h k = refl
node_uses-none (Or a b) p h k = refl
node_uses-none (Ite c a b) p h k = refl
node_uses-none (Eq a b) p h k = refl
node_uses-none (App s args) p h k = absurd (h s args refl)
node_uses-none (Pred s args) p h k = absurd (k s args refl)
node_uses-none (Read m a) p h k = refl
node_uses-none (Write m a d) p h k = refl
node_uses-none (Init e) p h k = absurd p

row_sort-Extends : (old new : List Node) → Extends old new → (variables : List ℕ) (r : FlatRow) → IsRow old variables r → row_sort new variables r ≡ row_sort old variables r
row_sort-Extends old new e variables r h = sort_at-Extends old new e (id_at variables r.var) h.inside

IsRow-Extends : (old new : List Node) → Extends old new → (variables : List ℕ) (r : FlatRow) → IsRow old variables r → IsRow new variables r
IsRow-Extends old new e variables r h =
    let kind = row_sort-Extends old new e variables r h in
    record {
      words = All-HasSort-Extends old new e sort.Word r.args h.words;
      known = h.known;
      inside = inside-Extends old new e (id_at variables r.var) h.inside;
      applied = subst (λ s. Contains (uses new) (use_of (Var r.var) 0 s)) (sym kind) (uses-Extends old new e _ h.applied);
      value = λ v. denoted-Extends (under v) old new e (id_at variables r.var) h.inside ∙ h.value v ∙ ap (λ s. as_sort s (v r.var)) (sym kind);
      stands =
          subst (λ s. StandsFor new s r.var (id_at variables r.var)) (sym kind)
          (get-Extends old new e (id_at variables r.var) (application (row_sort old variables r) (Var r.var) []) h.stands);
    }

-- a term that applies no symbol is a step
Steps-none : (t t' : Taken) (us : List Use) (args : List ℕ) (id : ℕ) (s : Sort) (value : World → (ℕ → Scalar) → Denoted) → IsTaken t → us ≡ [] → IsGraph t'.graph
    → Extends t.graph t'.graph → AddsUses t.graph t'.graph [] → HasSort t'.graph id s → ((w : World) (v : ℕ → Scalar) → denoted (under v) t'.graph id ≡ value w v)
    → t'.variables.items ≡ t.variables.items → t'.symbols.keys ≡ t.symbols.keys → t'.rows.items ≡ t.rows.items → Steps t t' us args id s value
Steps-none t t' us args id s value taken none g e u has means vars keys rows = record {
  extends = e;
  taken = record {
    graph = g;
    rows = λ x p r q. subst (λ l. IsRow t'.graph l r) (sym vars) (IsRow-Extends t.graph t'.graph e t.variables.items r (taken.rows x (subst (λ l. Contains l x) rows p) r q));
    applied = λ x p. subst (λ l. IsVariableBelow (length l) x) (sym vars) (elim (Contains-append_cases (uses t.graph) [] x (u.within x p)) [ inl q ↦ taken.applied x q | inr q ↦ absurd (Contains-none x q) ]);
    named = ap (map (λ (x : FlatSym). x.sym)) rows ∙ taken.named ∙ sym keys;
    once = λ i j x h l. taken.once i j x (subst (λ ks. slice_get ks i ≡ Some x) keys h) (subst (λ ks. slice_get ks j ≡ Some x) keys l);
    different = λ x y q r h l e. taken.different x y q r (subst (λ rs. HasRow rs x q) rows h) (subst (λ rs. HasRow rs y r) rows l) e;
  };
  rows = λ symbol r h. let old = subst (λ l. HasRow l symbol r) rows h in
      record { from = inl (old, ap (λ l. row_sort t'.graph l r) vars ∙ row_sort-Extends t.graph t'.graph e t.variables.items r (taken.rows old.holder old.listed r old.has)) };
  kept = λ symbol r h. record {
    has = subst (λ l. HasRow l symbol r) (sym rows) h;
    sorted = ap (λ l. row_sort t'.graph l r) vars ∙ row_sort-Extends t.graph t'.graph e t.variables.items r (taken.rows h.holder h.listed r h.has);
  };
  all = λ x p. absurd (Contains-none x (subst (λ l. Contains l x) none p));
  chosen = λ old root w choice v c terms. let k = later old root w choice v c in record { values = v; keeps = k.keeps; each = k.each };
  first = λ w v keeps. first_before w v t.graph t'.graph e t.rows.items t'.rows.items 0 (λ x p r q. (taken.rows x p r q).words)
      (λ x p. Later-same t'.rows.items 0 x (subst (λ l. Contains l x) (sym rows) p)) keeps;
  sorted = has;
  means = λ w v keeps. means w v;
}
  where
    later : (old : List Node) (root : ℕ) (w : World) (choice v : ℕ → Scalar) → Chooses old root t.graph t.rows.items w choice v → Chooses old root t'.graph t'.rows.items w choice v
    later old root w choice v c =
        subst (λ l. Chooses old root t'.graph l w choice v) (sym rows) (Chooses-Extends old root t.graph t'.graph t.rows.items w choice v e (λ x p r q. (taken.rows x p r q).words) c)

-- the step of a node over terms of the graph
abbrev pub StepsTerm : Taken → Taken → Node → ℕ → Type 0
StepsTerm t t' n id = Steps t t' (node_uses n) (children n) id (node_sort (sorts t.graph) n) (λ w v. node_value w (values (under v) t.graph) n)

-- the step of a node of the old graph
abbrev pub StepsNode : Taken → Taken → List ℕ → Node → ℕ → Type 0
StepsNode t t' ids node id = Steps t t' (node_uses node) (children (renamed ids node)) id (node_sort (sorts t.graph) (renamed ids node)) (λ w v. node_value w (values (under v) t.graph) (renamed ids node))

-- it is that of the renamed node
pub Steps-renamed : (t t' : Taken) (ids : List ℕ) (node n : Node) (r : Result ℕ AllocError) → n ≡ renamed ids node → IfOk r (λ id. StepsTerm t t' n id) → IfOk r (λ id. StepsNode t t' ids node id)
Steps-renamed t t' ids node n (Err x) e h = tt
Steps-renamed t t' ids node n (Ok id) e h =
    subst (λ us. Steps t t' us (children (renamed ids node)) id (node_sort (sorts t.graph) (renamed ids node)) (λ w v. node_value w (values (under v) t.graph) (renamed ids node))) (node_uses-renamed ids node)
    (subst (λ x. StepsTerm t t' x id) e h)

-- a built term that applies no symbol is a step
pub Steps-built : (t t' : Taken) (n : Node) (r : Result ℕ AllocError) → IsTaken t → IsPlain n → node_uses n ≡ []
    → IfOk r (λ id. Denotes t'.graph id (λ w. node_value w (values w t.graph) n))
    → IfOk r (λ id. HasSort t'.graph id (node_sort (sorts t.graph) n))
    → IsGraph t'.graph → Extends t.graph t'.graph → AddsUses t.graph t'.graph (node_uses n)
    → t'.variables.items ≡ t.variables.items → t'.symbols.keys ≡ t.symbols.keys → t'.rows.items ≡ t.rows.items
    → IfOk r (λ id. StepsTerm t t' n id)
Steps-built t t' n (Err x) taken plain none d s g e u vars keys rows = tt
Steps-built t t' n (Ok id) taken plain none d s g e u vars keys rows =
    Steps-none t t' (node_uses n) (children n) id (node_sort (sorts t.graph) n) (λ w v. node_value w (values (under v) t.graph) n) taken none g e (subst (AddsUses t.graph t'.graph) none u) s
    (λ w v. d.is (under v) ∙ node_value-none (under v) w (values (under v) t.graph) n plain none) vars keys rows
