-- Rows that edges without one get, and the variables of edges.
use Rattle.std.proofs.Common.{◌≡◌, ◌≢◌, ℕ, ◌+◌, ◌<◌, List, [], ◌∷◌, ◌++◌, All, AllPairs, Contains, length, get_or, slice_get, refl, ap, sym, ◌∙◌, subst, inl, inr, ⊎_elim, append_assoc, length-append, arith}
use Rattle.std.proofs.lemmas.Bool.{cases_lt}
use Rattle.std.proofs.lemmas.List.{append-nil, get_or_append_left, get_or_default, get_or_push, length_push}
use Rattle.std.proofs.lemmas.List.Elements.{All-append, All-cons, All-contains, All-from_get_or, All-nil, All-weaker, Contains-append_cases, Contains-append_left, Contains-append_right}
use Rattle.std.proofs.lemmas.Option.{same_Some}
use Rattle.bd_prop.specs.declared.atom.Atom.{Atom}
use Rattle.bd_prop.specs.declared.atom.Atom.TheVariants as atom
use Rattle.bd_transitive.specs.declared.graph.Edge.{Edge}
use Rattle.bd_transitive.specs.Edges.{AreEdges}
use Rattle.bd_transitive.proofs.Ends.{no_edge}
use Rattle.bd_tseitin.specs.declared.row.AtomVar.{AtomVar}
use Rattle.bd_tseitin.specs.Rows.{AreRows, HasAtom}
use Rattle.bd_tseitin.proofs.Further.{AreRows-push}
use Rattle.bd_transitive.proofs.OrderSpans.{at_from_Contains}
use Rattle.bd_verify.specs.Kept.{AddsRows, AreVariables, IsFurtherRow, edge_row}

pub AddsRows-none : (edges : List Edge) (vars : ℕ) (rows : List AtomVar) → AreRows vars rows → AddsRows edges vars rows vars rows
AddsRows-none edges vars rows are = record {
  more = [];
  grown = sym (append-nil rows);
  counted = omega arith;
  further = All-nil (IsFurtherRow edges vars rows);
  are = are;
}

pub AddsRows-one : (edge : Edge) (vars : ℕ) (rows : List AtomVar) → AreRows vars rows → (HasAtom rows (atom.Edge edge.from edge.to) → ⊥)
    → AddsRows (edge ∷ []) vars rows (vars + 1) (rows ++ edge_row edge (vars + 1) ∷ [])
AddsRows-one edge vars rows are new = record {
  more = edge_row edge (vars + 1) ∷ [];
  grown = refl;
  counted = omega arith;
  further = All-cons (IsFurtherRow (edge ∷ []) vars rows) (edge_row edge (vars + 1)) []
      (record { edge = edge; listed = (0, omega arith, refl); same = refl; new = new; after = omega arith }) (All-nil (IsFurtherRow (edge ∷ []) vars rows));
  are = AreRows-push vars rows (atom.Edge edge.from edge.to) are new;
}

-- a variable and a row more keep the variables few
pub few-more : (most vars : ℕ) (rows : List AtomVar) (row : AtomVar) → vars < most + length rows → vars + 1 < most + length (rows ++ row ∷ [])
few-more most vars rows row few = let size = length_push rows row in omega (arith, few, size)

has-more : (rows more : List AtomVar) (a : Atom) → HasAtom rows a → HasAtom (rows ++ more) a
has-more rows more a (r, has, same) = (r, Contains-append_left rows more r has, same)

pub AddsRows-trans : (es fs : List Edge) (m : ℕ) (a : List AtomVar) (n : ℕ) (b : List AtomVar) (k : ℕ) (c : List AtomVar) → AddsRows es m a n b → AddsRows fs n b k c → AddsRows (es ++ fs) m a k c
AddsRows-trans es fs m a n b k c p q = record {
  more = p.more ++ q.more;
  grown = q.grown ∙ ap (λ l. l ++ q.more) p.grown ∙ append_assoc a p.more q.more;
  counted = let first = p.counted in let second = q.counted in let size = length-append p.more q.more in omega arith;
  further = All-append (IsFurtherRow (es ++ fs) m a) p.more q.more
      (All-weaker (IsFurtherRow es m a) (IsFurtherRow (es ++ fs) m a) (λ r h. record {
        edge = h.edge;
        listed = Contains-append_left es fs h.edge h.listed;
        same = h.same;
        new = h.new;
        after = h.after;
      }) p.more p.further)
      (All-weaker (IsFurtherRow fs n b) (IsFurtherRow (es ++ fs) m a) (λ r h. record {
        edge = h.edge;
        listed = Contains-append_right es fs h.edge h.listed;
        same = h.same;
        new = λ old. h.new (subst (λ l. HasAtom l r.atom) (sym p.grown) (has-more a p.more r.atom old));
        after = let first = p.counted in let above = h.after in omega arith;
      }) q.more q.further);
  are = q.are;
}

pub AddsRows-among : (es fs : List Edge) (m : ℕ) (a : List AtomVar) (n : ℕ) (b : List AtomVar) → ((e : Edge) → Contains es e → Contains fs e) → AddsRows es m a n b → AddsRows fs m a n b
AddsRows-among es fs m a n b among p = record {
  more = p.more;
  grown = p.grown;
  counted = p.counted;
  further = All-weaker (IsFurtherRow es m a) (IsFurtherRow fs m a) (λ r h. record {
    edge = h.edge;
    listed = among h.edge h.listed;
    same = h.same;
    new = h.new;
    after = h.after;
  }) p.more p.further;
  are = p.are;
}

-- old rows stay
pub AddsRows-keeps : (es : List Edge) (m : ℕ) (a : List AtomVar) (n : ℕ) (b : List AtomVar) → AddsRows es m a n b → (r : AtomVar) → Contains a r → Contains b r
AddsRows-keeps es m a n b p r has = subst (λ l. Contains l r) (sym p.grown) (Contains-append_left a p.more r has)

pub AreVariables-none : (rows : List AtomVar) → AreVariables rows [] []
AreVariables-none rows = record { counted = refl; each = λ e d lt. absurd (omega arith) }

pub AreVariables-more : (rows rows' : List AtomVar) (edges : List Edge) (vars : List ℕ) (edge : Edge) (var : ℕ) → AreVariables rows edges vars → ((r : AtomVar) → Contains rows r → Contains rows' r)
    → Contains rows' (edge_row edge var) → AreVariables rows' (edges ++ edge ∷ []) (vars ++ var ∷ [])
AreVariables-more rows rows' edges vars edge var h keeps has = record {
  counted = length_push vars var ∙ ap (λ n. n + 1) h.counted ∙ sym (length_push edges edge);
  each = λ e d lt. ⊎_elim
      (λ old.
      let size = h.counted in
      let first : get_or (edges ++ edge ∷ []) e d ≡ get_or edges e d = get_or_append_left edges (edge ∷ []) d e old in
      let second : get_or (vars ++ var ∷ []) e 0 ≡ get_or vars e 0 = get_or_append_left vars (var ∷ []) 0 e (omega arith) in
      subst (Contains rows') (λ i. edge_row (sym first i) (sym second i)) (keeps (edge_row (get_or edges e d) (get_or vars e 0)) (h.each e d old)))
      (λ after.
      let size = h.counted in
      let whole = length_push edges edge in
      let first : get_or (edges ++ edge ∷ []) e d ≡ edge = get_or_push edges edge d e (omega arith) in
      let second : get_or (vars ++ var ∷ []) e 0 ≡ var = get_or_push vars var 0 e (omega arith) in
      subst (Contains rows') (λ i. edge_row (sym first i) (sym second i)) has)
      (cases_lt e (length edges));
}

pub AreVariables-grown : (rows rows' : List AtomVar) (edges : List Edge) (vars : List ℕ) → AreVariables rows edges vars → ((r : AtomVar) → Contains rows r → Contains rows' r) → AreVariables rows' edges vars
AreVariables-grown rows rows' edges vars h keeps = record { counted = h.counted; each = λ e d lt. keeps (edge_row (get_or edges e d) (get_or vars e 0)) (h.each e d lt) }

-- what holds of each row's variable holds of them
pub AreVariables-all : (P : ℕ → Type 0) (rows : List AtomVar) (edges : List Edge) (vars : List ℕ) → All (λ (r : AtomVar). P r.var) rows → AreVariables rows edges vars → All P vars
AreVariables-all P rows edges vars all h = All-from_get_or P vars 0 (λ e lt.
    let size = h.counted in
    All-contains (λ (r : AtomVar). P r.var) rows (edge_row (get_or edges e no_edge) (get_or vars e 0)) all (h.each e no_edge (omega arith)))

-- a variable has one row
pub one-row : (n : ℕ) (rows : List AtomVar) → AreRows n rows → (r s : AtomVar) → Contains rows r → Contains rows s → r.var ≡ s.var → r ≡ s
one-row n rows are r s p q e =
    let a = at_from_Contains rows r p in
    let b = at_from_Contains rows s q in
    let same : a.0 ≡ b.0 = are.variables a.0 b.0 r s a.1 b.1 e in
    same_Some r s (sym a.1 ∙ ap (slice_get rows) same ∙ b.1)

ends-of : (a b c d : ℕ) → atom.Edge a b ≡ atom.Edge c d → (a ≡ c) × (b ≡ d)
ends-of a b c d e = (cc, cc)

-- different edges have different variables
pub AreVariables-different : (n : ℕ) (rows : List AtomVar) (edges : List Edge) (vars : List ℕ) → AreRows n rows → AreEdges edges → AreVariables rows edges vars → AllPairs (λ x y. x ≢ y) vars
AreVariables-different n rows edges vars are simple h i j d less lt same =
    let size = h.counted in
    let e = get_or edges i no_edge in
    let f = get_or edges j no_edge in
    let in_i : i < length vars = omega arith in
    let first : get_or vars i 0 ≡ get_or vars j 0 = get_or_default vars i 0 d in_i ∙ same ∙ get_or_default vars j d 0 lt in
    let one = one-row n rows are (edge_row e (get_or vars i 0)) (edge_row f (get_or vars j 0)) (h.each i no_edge (omega arith)) (h.each j no_edge (omega arith)) first in
    let ends = ends-of e.from e.to f.from f.to (ap (λ (r : AtomVar). r.atom) one) in
    simple.once i j no_edge less (omega arith) (inl ends)

-- edges of two lists of which the second is part of the first
pub among-both : (es fs : List Edge) → ((e : Edge) → Contains fs e → Contains es e) → (e : Edge) → Contains (es ++ fs) e → Contains es e
among-both es fs among e has = elim (Contains-append_cases es fs e has) [ inl first ↦ first | inr second ↦ among e second ]
