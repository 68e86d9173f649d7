-- Equations of variables.
use Rattle.std.proofs.Common.{◌≡◌, ◌≢◌, ℕ, ◌<◌, ◌≤◌, inl, inr, ◌==◌, ◌||◌, not, min, max, Bool, true, false, List, [], ◌∷◌, Option, None, Some, Result, Ok, Err, IfOk, slice_get, refl, ap, sym, ◌∙◌, subst, arith, eq-eqb, eqb-true, length}
use Rattle.std.proofs.lemmas.Bool.{false≢true, true≢false, or_parts, cases_lt}
use Rattle.std.proofs.lemmas.Cmp.{nat_eq_equiv}
use Rattle.std.proofs.lemmas.Option.{slice_get_within}
use Rattle.bd_model.specs.declared.design.Sort.TheVariants as sort
use Rattle.bd_model.specs.declared.table.Scalar.{Scalar}
use Rattle.bd_model.specs.Value.{scalar_word}
use Rattle.bd_terms.specs.declared.node.Sym.{Sym}
use Rattle.bd_terms.specs.declared.node.Node.{Node}
use Rattle.bd_terms.specs.declared.node.Node.TheVariants.{App}
use Rattle.bd_terms.specs.Graph.{HasSort, IsGraph}
use Rattle.bd_terms.specs.Denotation.{word}
use Rattle.bd_terms.proofs.Graphs.{sort_at-get}
use Rattle.bd_function.specs.declared.flat.FlatSym.{FlatSym}
use Rattle.bd_function.specs.Flat.{IsFlat, under}
use Rattle.bd_prop.specs.declared.atom.Atom.{Atom}
use Rattle.bd_prop.specs.declared.atom.Atom.TheVariants.{Edge as EdgeOf}
use Rattle.bd_prop.specs.declared.node.PropNode.{PropNode}
use Rattle.bd_prop.specs.declared.node.PropNode.TheVariants.{True, Atom as AtomOf, Not}
use Rattle.bd_prop.specs.Form.{Adds, HasForm, not_form}
use Rattle.bd_prop.specs.Graph.{Extends, StandsAt}
use Rattle.bd_prop.specs.Truth.{truth_at}
use Rattle.bd_equality.specs.Encoding.{KeepsMarkedApart, atom_value, has_mark}
use Rattle.bd_equality.specs.Edges.{IsEdge}
use Rattle.bd_equality.specs.inner.Split.{IsWhole}
use Rattle.bd_equality.specs.Made.{IsVariableWord, head, node_head, Words, Itself, OneVariable, Marked, HasEdge, negated, plainly, symbol_variable}
use Rattle.bd_equality.specs.inner.Means.{Gives, IsAny, edge, node_variable, value_of}
use Rattle.bd_equality.specs.inner.Rows.{IsLeaf}
use Rattle.bd_equality.proofs.Flats.{word_is}
use Rattle.bd_equality.proofs.Giving.{Gives-adds, adds_not, atoms-adds}
use Rattle.bd_equality.proofs.Making.{Comes-Extends, Extends-trans, comes}

pub leaf_of : (nodes : List Node) → IsGraph nodes → (root : ℕ) (syms : List FlatSym) → IsFlat nodes root syms → (id : ℕ) (node : Node) → HasSort nodes id sort.Word
    → slice_get nodes id ≡ Some node → head nodes id ≡ None → (x : ℕ) → x ≡ node_variable node → IsLeaf nodes id x
leaf_of nodes g root syms flat id node h there none x e =
    let is = word_is nodes g root syms flat id node there h.sorted (ap node_head (sym there) ∙ none) in
    let leaf : IsLeaf nodes id (node_variable node) = record {
      variable = is.0;
      value = is.1;
      word = record { symbol = is.2.0; args = is.2.1; there = there ∙ ap Some is.2.2; is = ap node_variable is.2.2 };
    } in
    subst (IsLeaf nodes id) (sym e) leaf

-- an application is a variable
pub leaf_at : (nodes : List Node) → IsGraph nodes → (root : ℕ) (syms : List FlatSym) → IsFlat nodes root syms → (id : ℕ) (s : Sym) (args : List ℕ) (x : ℕ) → slice_get nodes id ≡ Some (App s args) → symbol_variable s ≡ x → IsLeaf nodes id x
leaf_at nodes g root syms flat id s args x there is =
    leaf_of nodes g root syms flat id (App s args) (record { inside = slice_get_within nodes id (App s args) there; sorted = sort_at-get nodes g id (App s args) there }) there (ap node_head there) x (sym is)

-- one word is equal to itself
pub Gives-itself : {E : Type 0} (nodes : List Node) (syms : List FlatSym) (marked : Option (List ℕ)) (p p' : List PropNode) (a b : ℕ) (r : Result ℕ E) → a ≡ b → Extends p p' → IfOk r (λ id. id < length p')
    → IfOk r (λ id. StandsAt p' id True × Adds p True p') → IfOk r (λ id. (v : Atom → Bool) → truth_at v p' id ≡ true) → IfOk r (λ id. Gives nodes syms marked IsAny p p' id (Words a b))
Gives-itself nodes syms marked p p' a b (Err x) same e inside has is = tt
Gives-itself nodes syms marked p p' a b (Ok id) same e inside has is =
    Gives-adds nodes syms marked IsAny p p' True id (Words a b) tt e inside has.1
    (λ v k. is (atom_value v) ∙ sym (eq-eqb (word (under v) nodes a) (word (under v) nodes b) (ap (word (under v) nodes) same)))
    (λ ways h. Itself a b id same (comes p p' [] (plainly True) id tt has))

-- two words that aren't taken apart, and aren't one, are no ites
pub whole_apart : (nodes : List Node) (a b : ℕ) → IsWhole nodes a b → (a == b) ≡ false → (head nodes a ≡ None) × (head nodes b ≡ None)
whole_apart nodes a b (inl same) other = absurd (true≢false (sym (eq-eqb a b same) ∙ other))
whole_apart nodes a b (inr plain) other = plain

pub unequal : (m n : ℕ) → m ≢ n → (m == n) ≡ false
unequal m n ne = by (m == n) refl
  where
    by : (b : Bool) → (m == n) ≡ b → (m == n) ≡ false
    by true e = absurd (ne (eqb-true m n e))
    by false e = e

module _ (nodes : List Node) (syms : List FlatSym) (marked : Option (List ℕ)) (a b x y : ℕ) (la : IsLeaf nodes a x) (lb : IsLeaf nodes b y) where
  equal_is : (v : ℕ → Scalar) → value_of nodes (Words a b) v ≡ (scalar_word (v x) == scalar_word (v y))
  equal_is v = λ i. la.value v i == lb.value v i

  -- one variable is equal to itself
  pub Gives-variable : {E : Type 0} (p p' : List PropNode) (r : Result ℕ E) → x ≡ y → Extends p p' → IfOk r (λ id. id < length p')
      → IfOk r (λ id. StandsAt p' id True × Adds p True p') → IfOk r (λ id. (v : Atom → Bool) → truth_at v p' id ≡ true) → IfOk r (λ id. Gives nodes syms marked IsAny p p' id (Words a b))
  Gives-variable p p' (Err z) same e inside has is = tt
  Gives-variable p p' (Ok id) same e inside has is =
      Gives-adds nodes syms marked IsAny p p' True id (Words a b) tt e inside has.1
      (λ v k. is (atom_value v) ∙ sym (equal_is v ∙ eq-eqb (scalar_word (v x)) (scalar_word (v y)) (ap (λ z. scalar_word (v z)) same)))
      (λ ways h. OneVariable a b y id (subst (IsVariableWord nodes a) same la.word) lb.word (comes p p' [] (plainly True) id tt has))

  differ_by : (v : ℕ → Scalar) → KeepsMarkedApart nodes marked v → x ≢ y → (c d : Bool) → has_mark marked x ≡ c → has_mark marked y ≡ d → (c || d) ≡ true → scalar_word (v x) ≢ scalar_word (v y)
  differ_by v k other true d p q m = k.apart x y la.variable lb.variable other p
  differ_by v k other false true p q m = λ same. k.apart y x lb.variable la.variable (λ z. other (sym z)) q (sym same)
  differ_by v k other false false p q m = absurd (false≢true m)

  -- a marked variable is equal to no other one
  pub Gives-marked : {E : Type 0} (p q r : List PropNode) (truth : ℕ) (res : Result ℕ E) → x ≢ y → (has_mark marked x || has_mark marked y) ≡ true
      → Extends p q → StandsAt q truth True × Adds p True q → ((v : Atom → Bool) → truth_at v q truth ≡ true)
      → Extends q r → IfOk res (λ id. id < length r) → IfOk res (λ id. HasForm q (not_form q truth) r id) → IfOk res (λ id. (v : Atom → Bool) → truth_at v r id ≡ not (truth_at v q truth))
      → IfOk res (λ id. Gives nodes syms marked IsAny p r id (Words a b))
  Gives-marked p q r truth (Err z) other m e has is e' inside' has' is' = tt
  Gives-marked p q r truth (Ok id) other m e has is e' inside' has' is' = let inside_truth = slice_get_within q truth True has.0 in record {
    extends = Extends-trans p q r e e';
    atoms = λ h. atoms-adds nodes syms marked q r (Not truth) tt (adds_not q r id truth has') (atoms-adds nodes syms marked p q True tt has.1 h);
    means = record {
      inside = inside';
      is = λ v k. is' (atom_value v) ∙ ap not (is (atom_value v))
          ∙ sym (equal_is v ∙ unequal (scalar_word (v x)) (scalar_word (v y)) (differ_by v k other (has_mark marked x) (has_mark marked y) refl refl m));
      made = λ ways h.
          let mid = comes p q [] (plainly True) truth tt has in
          Marked a b x y truth id la.word lb.word other m (Comes-Extends q r [] (plainly True) truth e' mid) (comes q r (truth ∷ []) (negated truth) id (inside_truth, tt) has');
    };
  }

  ordered : (v : ℕ → Scalar) → (scalar_word (v (min x y)) == scalar_word (v (max x y))) ≡ (scalar_word (v x) == scalar_word (v y))
  ordered v = elim (cases_lt x y) [
    | inl lt ↦ let p : min x y ≡ x = omega arith in let q : max x y ≡ y = omega arith in (λ i. scalar_word (v (p i)) == scalar_word (v (q i)))
    | inr le ↦ let p : min x y ≡ y = omega arith in let q : max x y ≡ x = omega arith in (λ i. scalar_word (v (p i)) == scalar_word (v (q i))) ∙ nat_eq_equiv.symm (scalar_word (v y)) (scalar_word (v x))
  ]

  above : (m n : ℕ) → n ≤ m → m ≢ n → n < m
  above m n le ne = omega arith

  is_edge : x ≢ y → has_mark marked x ≡ false → has_mark marked y ≡ false → IsEdge nodes marked (edge (min x y) (max x y))
  is_edge other mx my = elim (cases_lt x y) [
    | inl lt ↦
        let p : min x y ≡ x = omega arith in
        let q : max x y ≡ y = omega arith in
        let straight : IsEdge nodes marked (edge x y) = record {
          from = record { variable = la.variable; unmarked = mx };
          to = record { variable = lb.variable; unmarked = my };
          below = lt;
        } in
        subst (λ z. IsEdge nodes marked (edge z (max x y))) (sym p) (subst (λ z. IsEdge nodes marked (edge x z)) (sym q) straight)
    | inr le ↦
        let p : min x y ≡ y = omega arith in
        let q : max x y ≡ x = omega arith in
        let turned : IsEdge nodes marked (edge y x) = record {
          from = record { variable = lb.variable; unmarked = my };
          to = record { variable = la.variable; unmarked = mx };
          below = above x y le other;
        } in
        subst (λ z. IsEdge nodes marked (edge z (max x y))) (sym p) (subst (λ z. IsEdge nodes marked (edge y z)) (sym q) turned)
  ]

  -- two others have an edge
  pub Gives-edge : {E : Type 0} (p p' : List PropNode) (low high : ℕ) (r : Result ℕ E) → x ≢ y → (has_mark marked x || has_mark marked y) ≡ false → low ≡ min x y → high ≡ max x y → Extends p p' → IfOk r (λ id. id < length p')
      → IfOk r (λ id. StandsAt p' id (AtomOf (EdgeOf low high)) × Adds p (AtomOf (EdgeOf low high)) p') → IfOk r (λ id. (v : Atom → Bool) → truth_at v p' id ≡ v (EdgeOf low high))
      → IfOk r (λ id. Gives nodes syms marked IsAny p p' id (Words a b))
  Gives-edge p p' low high (Err z) other m l h e inside has is = tt
  Gives-edge p p' low high (Ok id) other m l h e inside has is =
      let plain = or_parts (has_mark marked x) (has_mark marked y) m in
      let fits : IsEdge nodes marked (edge low high) = subst (λ z. IsEdge nodes marked (edge z high)) (sym l) (subst (λ z. IsEdge nodes marked (edge (min x y) z)) (sym h) (is_edge other plain.0 plain.1)) in
      Gives-adds nodes syms marked IsAny p p' (AtomOf (EdgeOf low high)) id (Words a b) fits e inside has.1
      (λ v k. is (atom_value v) ∙ (λ i. scalar_word (v (l i)) == scalar_word (v (h i))) ∙ ordered v ∙ sym (equal_is v))
      (λ ways any. HasEdge a b x y id la.word lb.word other m (comes p p' [] (plainly (AtomOf (EdgeOf (min x y) (max x y)))) id tt
      (subst (λ z. plainly (AtomOf (EdgeOf z (max x y))) p p' id) l (subst (λ z. plainly (AtomOf (EdgeOf low z)) p p' id) h has))))
