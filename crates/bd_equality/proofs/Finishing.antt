-- What a visit makes that is finished.
use Rattle.std.proofs.Common.{◌≡◌, ℕ, zero, suc, ◌+◌, ◌<◌, ◌≤◌, ◌&&◌, ◌++◌, inr, not, drop, map, if◌then◌else◌, false, Bool, true, List, [], ◌∷◌, Option, None, Some, Result, Ok, Err, IfOk, length, slice_get, refl, ap, sym, ◌∙◌, subst}
use Rattle.std.specs.Option.{is_some}
use Rattle.std.proofs.lemmas.Bool.{true≢false}
use Rattle.std.proofs.lemmas.Option.{none-some, same_Some, slice_get_within}
use Rattle.std.proofs.lemmas.List.{drop_all}
use Rattle.std.proofs.lemmas.Result.{IfOk-weaker}
use Rattle.bd_terms.specs.declared.node.Node.{Node}
use Rattle.bd_terms.specs.Graph.{IsGraph}
use Rattle.bd_function.specs.declared.flat.FlatSym.{FlatSym}
use Rattle.bd_function.specs.Flat.{IsFlat}
use Rattle.bd_prop.specs.declared.atom.Atom.{Atom}
use Rattle.bd_prop.specs.declared.node.PropNode.{PropNode}
use Rattle.bd_prop.specs.declared.node.PropNode.TheVariants as prop
use Rattle.bd_prop.specs.Form.{Adds as AddsNode, HasForm, and_form, ite_form, not_form}
use Rattle.bd_prop.specs.Graph.{Extends, StandsAt}
use Rattle.bd_prop.specs.Truth.{truth_at}
use Rattle.bd_equality.specs.declared.settled.Done.{Done}
use Rattle.bd_equality.specs.declared.wanted.RowPair.{RowPair}
use Rattle.bd_equality.specs.declared.wanted.Visit.{Visit}
use Rattle.bd_equality.specs.declared.wanted.Visit.TheVariants.{Enter, Finish}
use Rattle.bd_equality.specs.declared.wanted.Wanted.{Wanted}
use Rattle.bd_equality.specs.declared.wanted.Wanted.TheVariants.{Truth, Equation}
use Rattle.bd_equality.specs.declared.wanted.Way.TheVariants as way
use Rattle.bd_equality.specs.declared.wanted.Way.{Way as TheWay}
use Rattle.bd_equality.specs.Encoding.{atom_value}
use Rattle.bd_equality.specs.Made.{AreTakenApart, Different, Never, Pairs, Term, Words, negated, plainly}
use Rattle.bd_equality.specs.inner.Split.{IsControl, IsWay, arguments_at, between, equations, node_parts, part, parts, subject_of}
use Rattle.bd_equality.specs.inner.Means.{Gives, IsAny}
use Rattle.bd_equality.specs.inner.Sets.{known}
use Rattle.bd_equality.specs.inner.Steps.{AreInside, AreKnown, Enters, GivesNever, Include, IncludeWith, IsEncoding, IsKnown, IsNode}
use Rattle.bd_equality.proofs.Giving.{Gives-kind, adds_not, atoms-adds}
use Rattle.bd_equality.proofs.Making.{Comes-Extends, Extends-trans, comes}
use Rattle.bd_equality.proofs.Rowing.{drop_at, never_equal}
use Rattle.bd_equality.proofs.Stepping.{Gives-chosen, Gives-compared, Gives-none, Gives-pair}

-- a node that is kept stands in the graph
pub node_inside : (p : List PropNode) (settled : List (Wanted × Done)) (w : Wanted) (node : ℕ) → AreInside p settled → IsNode settled w node → node < length p
node_inside p settled w node h is = subst (λ k. k < length p) (sym is.same) (h.inside w is.done is.known)

-- what isn't kept
pub unknown : (settled : List (Wanted × Done)) (w : Wanted) (o : Option Done) → o ≡ known settled w → is_some o ≡ false → known settled w ≡ None
unknown settled w None e f = sym e
unknown settled w (Some d) e f = absurd (true≢false f)

pub known_of : (settled : List (Wanted × Done)) (w : Wanted) (o : Option Done) → o ≡ known settled w → is_some o ≡ true → IsKnown settled w
known_of settled w None e f = absurd (true≢false (sym f))
known_of settled w (Some d) e f = record { done = d; known = sym e }

-- what is entered, with what it rests on above it
pub entered_of : (nodes : List Node) (syms : List FlatSym) (marked : Option (List ℕ)) (settled : List (Wanted × Done)) (old mid new : List Visit) (p : Wanted) (w : TheWay) → IsWay nodes syms marked p w → mid ≡ old ++ Finish p w ∷ []
    → new ≡ mid ++ map Enter (parts nodes syms p w) → Enters nodes syms marked settled old new p
entered_of nodes syms marked settled old mid new p w is e f = inr (w, is, f ∙ ap (λ l. l ++ map Enter (parts nodes syms p w)) e)

-- the parts of a truth value, by its node
pub node_known : (settled : List (Wanted × Done)) (o : Option Node) (node : Node) → o ≡ Some node → AreKnown settled (node_parts o) → AreKnown settled (node_parts (Some node))
node_known settled o node e h = subst (λ z. AreKnown settled (node_parts z)) e h

-- what is wanted, and the way, by what they are
pub way_is : (nodes : List Node) (syms : List FlatSym) (marked : Option (List ℕ)) (p q : Wanted) (w x : TheWay) → p ≡ q → w ≡ x → IsWay nodes syms marked p w → IsWay nodes syms marked q x
way_is nodes syms marked p q w x e f h = subst (λ z. IsWay nodes syms marked q z) f (subst (λ z. IsWay nodes syms marked z w) e h)

pub parts_known : (nodes : List Node) (syms : List FlatSym) (settled : List (Wanted × Done)) (p q : Wanted) (w x : TheWay) → p ≡ q → w ≡ x → AreKnown settled (parts nodes syms p w) → AreKnown settled (parts nodes syms q x)
parts_known nodes syms settled p q w x e f h = subst (λ z. AreKnown settled (parts nodes syms q z)) f (subst (λ z. AreKnown settled (parts nodes syms z w)) e h)

-- two words that are never equal
pub never_of : {E : Type 0} (p q r : List PropNode) (truth : ℕ) (res : Result ℕ E) → Extends p q → StandsAt q truth prop.True × AddsNode p prop.True q → ((v : Atom → Bool) → truth_at v q truth ≡ true)
    → Extends q r → IfOk res (λ id. id < length r) → IfOk res (λ id. HasForm q (not_form q truth) r id) → IfOk res (λ id. (v : Atom → Bool) → truth_at v r id ≡ not (truth_at v q truth)) → IfOk res (GivesNever p r)
never_of p q r truth (Err z) e has is e' inside form value = tt
never_of p q r truth (Ok id) e has is e' inside form value = let inside_truth = slice_get_within q truth prop.True has.0 in record {
  gives = λ nodes syms marked a b apart other never. record {
    extends = Extends-trans p q r e e';
    atoms = λ h. atoms-adds nodes syms marked q r (prop.Not truth) tt (adds_not q r id truth form) (atoms-adds nodes syms marked p q prop.True tt has.1 h);
    means = record {
      inside = inside;
      is = λ v k. value (atom_value v) ∙ ap not (is (atom_value v)) ∙ sym (never v k);
      made = λ ways k.
          let mid = comes p q [] (plainly prop.True) truth tt has in
          Different a b truth id apart k other (Comes-Extends q r [] (plainly prop.True) truth e' mid) (comes q r (truth ∷ []) (negated truth) id (inside_truth, tt) form);
    };
  };
}

module _ (nodes : List Node) (syms : List FlatSym) (marked : Option (List ℕ)) (settled : List (Wanted × Done)) (p p' : List PropNode) where
  -- a node for what is wanted in a way, by what both are
  pub gives_as : (v q : Wanted) (w x : TheWay) (id : ℕ) → v ≡ q → w ≡ x → Gives nodes syms marked (IncludeWith syms settled q x) p p' id (subject_of q) → Gives nodes syms marked (IncludeWith syms settled v w) p p' id (subject_of v)
  gives_as v q w x id e f g =
      subst (λ z. Gives nodes syms marked (IncludeWith syms settled z w) p p' id (subject_of z)) (sym e)
      (subst (λ z. Gives nodes syms marked (IncludeWith syms settled q z) p p' id (subject_of q)) (sym f) g)

  -- the node of a truth value, in any way
  pub gives_truth : {E : Type 0} (v : Wanted) (w : TheWay) (i : ℕ) (r : Result ℕ E) → v ≡ Truth i → IfOk r (λ id. Gives nodes syms marked (Include syms settled) p p' id (Term i))
      → IfOk r (λ id. Gives nodes syms marked (IncludeWith syms settled v w) p p' id (subject_of v))
  gives_truth v w i (Err z) e g = tt
  gives_truth v w i (Ok id) e g =
      gives_as v (Truth i) w w id e refl (Gives-kind nodes syms marked (Include syms settled) (IncludeWith syms settled (Truth i) w) p p' id (Term i) (λ ways k. k.earlier) g)

  -- and of an equation, in each way
  module _ {E : Type 0} (v : Wanted) (w : TheWay) (a b : ℕ) (r : Result ℕ E) (e : v ≡ Equation a b) where
    pub gives_plain : w ≡ way.Plain → IfOk r (λ id. Gives nodes syms marked IsAny p p' id (Words a b)) → IfOk r (λ id. Gives nodes syms marked (IncludeWith syms settled v w) p p' id (subject_of v))
    gives_plain f g =
        IfOk-weaker r (λ id. Gives nodes syms marked IsAny p p' id (Words a b)) (λ id. Gives nodes syms marked (IncludeWith syms settled v w) p p' id (subject_of v))
        (λ id k. gives_as v (Equation a b) w way.Plain id e f (Gives-kind nodes syms marked IsAny (IncludeWith syms settled (Equation a b) way.Plain) p p' id (Words a b) (λ ways h. tt) k)) g

    pub gives_control : (c : ℕ) → w ≡ way.Control c → IfOk r (λ id. Gives nodes syms marked (IncludeWith syms settled (Equation a b) (way.Control c)) p p' id (Words a b))
        → IfOk r (λ id. Gives nodes syms marked (IncludeWith syms settled v w) p p' id (subject_of v))
    gives_control c f g =
        IfOk-weaker r (λ id. Gives nodes syms marked (IncludeWith syms settled (Equation a b) (way.Control c)) p p' id (Words a b)) (λ id. Gives nodes syms marked (IncludeWith syms settled v w) p p' id (subject_of v))
        (λ id k. gives_as v (Equation a b) w (way.Control c) id e f k) g

    pub gives_arguments : IsGraph nodes → (root : ℕ) → IsFlat nodes root syms → (pair : RowPair) → w ≡ way.Arguments pair → IsWay nodes syms marked v w
        → IfOk r (λ id. Gives nodes syms marked (Include syms settled) p p' id (Pairs (arguments_at syms pair.symbol pair.left) (arguments_at syms pair.symbol pair.right)))
        → IfOk r (λ id. Gives nodes syms marked (IncludeWith syms settled v w) p p' id (subject_of v))
    gives_arguments graph root flat pair f is g =
        let rows = way_is nodes syms marked v (Equation a b) w (way.Arguments pair) e f is in
        IfOk-weaker r (λ id. Gives nodes syms marked (Include syms settled) p p' id (Pairs (arguments_at syms pair.symbol pair.left) (arguments_at syms pair.symbol pair.right)))
        (λ id. Gives nodes syms marked (IncludeWith syms settled v w) p p' id (subject_of v))
        (λ id k. gives_as v (Equation a b) w (way.Arguments pair) id e f (Gives-compared nodes syms marked graph root flat settled p p' a b id pair rows.0 rows.1 k)) g

    pub gives_never : IsGraph nodes → (root : ℕ) → IsFlat nodes root syms → w ≡ way.Never → IsWay nodes syms marked v w → IfOk r (GivesNever p p')
        → IfOk r (λ id. Gives nodes syms marked (IncludeWith syms settled v w) p p' id (subject_of v))
    gives_never graph root flat f is g =
        let rows = way_is nodes syms marked v (Equation a b) w way.Never e f is in
        IfOk-weaker r (GivesNever p p') (λ id. Gives nodes syms marked (IncludeWith syms settled v w) p p' id (subject_of v))
        (λ id k. gives_as v (Equation a b) w way.Never id e f
        (Gives-kind nodes syms marked (λ ways. ways a b ≡ Some Never) (IncludeWith syms settled (Equation a b) way.Never) p p' id (Words a b) (λ ways h. h.way)
        (k.gives nodes syms marked a b rows.0 rows.1 (λ v h. never_equal nodes graph root syms flat marked v h a b rows.1)))) g

-- an equation by a control
pub chosen_of : {E : Type 0} (nodes : List Node) → IsGraph nodes → (syms : List FlatSym) (marked : Option (List ℕ)) (settled : List (Wanted × Done)) (p p' : List PropNode) (a b c w x y : ℕ) (r : Result ℕ E)
    → AreTakenApart nodes a b → IsControl nodes a b c → IsEncoding nodes syms marked p settled → IsNode settled (Truth c) w → IsNode settled (part nodes true c a b) x → IsNode settled (part nodes false c a b) y
    → Extends p p' → IfOk r (λ id. id < length p') → IfOk r (λ id. HasForm p (ite_form p w x y) p' id)
    → IfOk r (λ id. (v : Atom → Bool) → truth_at v p' id ≡ (if truth_at v p w then truth_at v p x else truth_at v p y))
    → IfOk r (λ id. Gives nodes syms marked (IncludeWith syms settled (Equation a b) (way.Control c)) p p' id (Words a b))
chosen_of nodes g syms marked settled p p' a b c w x y (Err z) apart is h nc ny nn e inside form truth = tt
chosen_of nodes g syms marked settled p p' a b c w x y (Ok id) apart is h nc ny nn e inside form truth = Gives-chosen nodes syms marked g settled p p' a b c w x y id apart is h nc ny nn e inside form truth

-- the equations of pairs, from the last on
pub known_at : (settled : List (Wanted × Done)) (left right : List ℕ) (k a b : ℕ) → slice_get left k ≡ Some a → slice_get right k ≡ Some b → AreKnown settled (equations left right) → IsKnown settled (between a b)
known_at settled [] right k a b l r h = absurd (none-some a l)
known_at settled (x ∷ xs) [] k a b l r h = absurd (none-some b r)
known_at settled (x ∷ xs) (y ∷ ys) zero a b l r h = subst (λ z. IsKnown settled (between z b)) (same_Some x a l) (subst (λ z. IsKnown settled (between x z)) (same_Some y b r) h.0)
known_at settled (x ∷ xs) (y ∷ ys) (suc k) a b l r h = known_at settled xs ys k a b l r h.1

module _ (nodes : List Node) (syms : List FlatSym) (marked : Option (List ℕ)) (settled : List (Wanted × Done)) (left right : List ℕ) where
  abbrev pub GivesPairs : List PropNode → List PropNode → ℕ → ℕ → Type 0
  GivesPairs p p' id n = Gives nodes syms marked (Include syms settled) p p' id (Pairs (drop n left) (drop n right))

  pub pairs_start : (p p' : List PropNode) (id n : ℕ) → length left ≤ n → length right ≤ n → Extends p p' → id < length p' → StandsAt p' id prop.True × AddsNode p prop.True p'
      → ((v : Atom → Bool) → truth_at v p' id ≡ true) → GivesPairs p p' id n
  pairs_start p p' id n l r e inside has is =
      subst (λ z. Gives nodes syms marked (Include syms settled) p p' id (Pairs z (drop n right))) (sym (drop_all n left l))
      (subst (λ z. Gives nodes syms marked (Include syms settled) p p' id (Pairs [] z)) (sym (drop_all n right r)) (Gives-none nodes syms marked (Include syms settled) p p' id e inside has is))

  pub pairs_more : (p q r : List PropNode) (k a b x y id : ℕ) → slice_get left k ≡ Some a → slice_get right k ≡ Some b → IsEncoding nodes syms marked p settled → IsNode settled (between a b) x → GivesPairs p q y (k + 1)
      → Extends q r → id < length r → HasForm q (and_form q x y) r id → ((v : Atom → Bool) → truth_at v r id ≡ (truth_at v q x && truth_at v q y)) → GivesPairs p r id k
  pairs_more p q r k a b x y id l m h n g e inside form truth =
      subst (λ z. Gives nodes syms marked (Include syms settled) p r id (Pairs z (drop k right))) (sym (drop_at left k a l))
      (subst (λ z. Gives nodes syms marked (Include syms settled) p r id (Pairs (a ∷ drop (k + 1) left) z)) (sym (drop_at right k b m))
      (Gives-pair nodes syms marked settled p q r a b x y id (drop (k + 1) left) (drop (k + 1) right) h n g e inside form truth))
