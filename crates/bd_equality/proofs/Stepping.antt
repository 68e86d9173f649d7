-- One step more of the encoding.
use Rattle.std.proofs.Common.{◌≡◌, ℕ, ◌<◌, if◌then◌else◌, ◌==◌, ◌&&◌, inl, inr, Bool, true, false, List, [], ◌∷◌, Option, None, Some, length, slice_get, refl, ap, sym, ◌∙◌, subst, eqb-true, eq-eqb}
use Rattle.std.proofs.lemmas.Bool.{and_parts, false≢true}
use Rattle.std.proofs.lemmas.Option.{none-some, same_Some}
use Rattle.bd_terms.specs.declared.node.Node.{Node}
use Rattle.bd_terms.specs.declared.node.Node.TheVariants.{Eq}
use Rattle.bd_terms.specs.Graph.{IsGraph}
use Rattle.bd_function.specs.declared.flat.FlatSym.{FlatSym}
use Rattle.bd_function.specs.Flat.{IsFlat}
use Rattle.bd_prop.specs.declared.atom.Atom.{Atom}
use Rattle.bd_prop.specs.declared.node.PropNode.{PropNode}
use Rattle.bd_prop.specs.declared.node.PropNode.TheVariants as prop
use Rattle.bd_prop.specs.Form.{Adds as AddsNode, HasForm, and_form, ite_form}
use Rattle.bd_prop.specs.Graph.{Extends, StandsAt}
use Rattle.bd_prop.specs.Truth.{truth_at}
use Rattle.bd_equality.specs.declared.settled.Done.{Done}
use Rattle.bd_equality.specs.declared.wanted.RowPair.{RowPair}
use Rattle.bd_equality.specs.declared.wanted.Wanted.{Wanted}
use Rattle.bd_equality.specs.declared.wanted.Wanted.TheVariants.{Truth, Equation}
use Rattle.bd_equality.specs.declared.wanted.Way.TheVariants as way
use Rattle.bd_equality.specs.Encoding.{atom_value}
use Rattle.bd_equality.specs.Made.{APair, AreTakenApart, Chosen, Compared, Made, NoPair, OfEq, Pairs, Subject, Term, Way, Ways, Words, branch, conjoined, plainly, selected}
use Rattle.bd_equality.specs.inner.Split.{AreCompared, IsControl, arguments_at, between, part, subject_of, way_of}
use Rattle.bd_equality.specs.inner.Means.{Gives, Means}
use Rattle.bd_equality.specs.inner.Sets.{is_wanted, known}
use Rattle.bd_equality.specs.inner.Steps.{AreInside, HasWay, Include, IncludeWith, IsEncoding, IsNode, Settles}
use Rattle.bd_equality.proofs.Flats.{truth_is}
use Rattle.bd_equality.proofs.Giving.{Gives-adds, Means-Extends, Means-kind, Means-turned, adds_and, adds_ite}
use Rattle.bd_equality.proofs.Making.{Extends-self, Extends-trans, MadeBy-Extends, comes}
use Rattle.bd_equality.proofs.Rowing.{rows_equal}
use Rattle.bd_equality.proofs.Splits.{between_either, words_branch}

-- what is the same is found, and nothing else
pub wanted_same : (p q : Wanted) → is_wanted p q ≡ true → p ≡ q
wanted_same (Truth i) (Truth j) h = ap Truth (eqb-true i j h)
wanted_same (Equation a b) (Equation x y) h = let e = and_parts (a == x) (b == y) h in (λ k. Equation (eqb-true a x e.0 k) (eqb-true b y e.1 k))
wanted_same (Truth i) (Equation x y) h = absurd (false≢true h)
wanted_same (Equation a b) (Truth j) h = absurd (false≢true h)

pub wanted_itself : (p : Wanted) → is_wanted p p ≡ true
wanted_itself (Truth i) = eq-eqb i i refl
wanted_itself (Equation a b) = (λ k. eq-eqb a a refl k && eq-eqb b b refl k)

module _ (nodes : List Node) (syms : List FlatSym) (marked : Option (List ℕ)) where
  -- what is settled has its node
  pub part_means : (p : List PropNode) (settled : List (Wanted × Done)) → IsEncoding nodes syms marked p settled → (w : Wanted) (node : ℕ) → IsNode settled w node
      → Means nodes syms marked (Include syms settled) p node (subject_of w)
  part_means p settled h w node is = subst (λ n. Means nodes syms marked (Include syms settled) p n (subject_of w)) (sym is.same) (h.means w is.done is.known)

  -- what stands for the equation of two words, whichever stands first, stands for theirs
  pub Means-between : (kind : Ways → Type 0) (p : List PropNode) (a b id : ℕ) → Means nodes syms marked kind p id (subject_of (between a b)) → Means nodes syms marked kind p id (Words a b)
  Means-between kind p a b id m = elim (between_either a b) [
    | inl q ↦ subst (λ (x : Wanted). Means nodes syms marked kind p id (subject_of x)) q.0 m
    | inr q ↦ Means-turned nodes syms marked kind p a b id (subst (λ (x : Wanted). Means nodes syms marked kind p id (subject_of x)) q.0 m)
  ]

  -- the node of a term that is an equation is that of the equation
  pub Means-equation : IsGraph nodes → (kind : Ways → Type 0) (p : List PropNode) (i a b id : ℕ) → slice_get nodes i ≡ Some (Eq a b) → Means nodes syms marked kind p id (Words a b) → Means nodes syms marked kind p id (Term i)
  Means-equation g kind p i a b id there m = record {
    inside = m.inside;
    is = λ v k. m.is v k ∙ sym (truth_is nodes g i (Eq a b) there v);
    made = λ ways h. OfEq i a b id there (m.made ways h);
  }

  -- nothing is added
  pub Gives-same : (kind : Ways → Type 0) (p : List PropNode) (id : ℕ) (subject : Subject) → Means nodes syms marked kind p id subject → Gives nodes syms marked kind p p id subject
  Gives-same kind p id subject m = record { extends = Extends-self p; atoms = λ h. h; means = m }

  -- an equation by a control
  pub Gives-chosen : IsGraph nodes → (settled : List (Wanted × Done)) (p p' : List PropNode) (a b c w x y id : ℕ) → AreTakenApart nodes a b → IsControl nodes a b c → IsEncoding nodes syms marked p settled
      → IsNode settled (Truth c) w → IsNode settled (part nodes true c a b) x → IsNode settled (part nodes false c a b) y
      → Extends p p' → id < length p' → HasForm p (ite_form p w x y) p' id
      → ((v : Atom → Bool) → truth_at v p' id ≡ (if truth_at v p w then truth_at v p x else truth_at v p y))
      → Gives nodes syms marked (IncludeWith syms settled (Equation a b) (way.Control c)) p p' id (Words a b)
  Gives-chosen g settled p p' a b c w x y id apart is h nc ny nn grows inside form truth =
      let mc = part_means p settled h (Truth c) w nc in
      let l = Means-between (Include syms settled) p (branch nodes true c a) (branch nodes true c b) x (part_means p settled h (part nodes true c a b) x ny) in
      let r = Means-between (Include syms settled) p (branch nodes false c a) (branch nodes false c b) y (part_means p settled h (part nodes false c a b) y nn) in
      Gives-adds nodes syms marked (IncludeWith syms settled (Equation a b) (way.Control c)) p p' (prop.Ite w x y) id (Words a b) tt grows inside (adds_ite p p' id w x y form)
      (λ v k. truth (atom_value v) ∙ (λ j. if mc.is v k j then l.is v k j else r.is v k j) ∙ sym (words_branch nodes g a b c v))
      (λ ways k.
      Chosen a b c w x y id apart k.way is (MadeBy-Extends nodes syms marked ways p p' grows _ w (mc.made ways k.earlier)) (MadeBy-Extends nodes syms marked ways p p' grows _ x (l.made ways k.earlier))
      (MadeBy-Extends nodes syms marked ways p p' grows _ y (r.made ways k.earlier)) (comes p p' (w ∷ x ∷ y ∷ []) (selected w x y) id (mc.inside, (l.inside, (r.inside, tt))) form))

  -- an equation of two rows
  pub Gives-compared : IsGraph nodes → (root : ℕ) → IsFlat nodes root syms → (settled : List (Wanted × Done)) (p p' : List PropNode) (a b id : ℕ) (pair : RowPair) → AreTakenApart nodes a b
      → AreCompared nodes syms marked a b (arguments_at syms pair.symbol pair.left) (arguments_at syms pair.symbol pair.right)
      → Gives nodes syms marked (Include syms settled) p p' id (Pairs (arguments_at syms pair.symbol pair.left) (arguments_at syms pair.symbol pair.right))
      → Gives nodes syms marked (IncludeWith syms settled (Equation a b) (way.Arguments pair)) p p' id (Words a b)
  Gives-compared g root flat settled p p' a b id pair apart rows m = record {
    extends = m.extends;
    atoms = m.atoms;
    means = record {
      inside = m.means.inside;
      is = λ v k. m.means.is v k ∙ sym (rows_equal nodes g root syms flat marked v k a b (arguments_at syms pair.symbol pair.left) (arguments_at syms pair.symbol pair.right) rows.rows);
      made = λ ways k. Compared a b (arguments_at syms pair.symbol pair.left) (arguments_at syms pair.symbol pair.right) id apart k.way rows.rows (m.means.made ways k.earlier);
    };
  }

  -- no pair is left
  pub Gives-none : (kind : Ways → Type 0) (p p' : List PropNode) (id : ℕ) → Extends p p' → id < length p' → StandsAt p' id prop.True × AddsNode p prop.True p' → ((v : Atom → Bool) → truth_at v p' id ≡ true)
      → Gives nodes syms marked kind p p' id (Pairs [] [])
  Gives-none kind p p' id e inside has is =
      Gives-adds nodes syms marked kind p p' prop.True id (Pairs [] []) tt e inside has.1 (λ v k. is (atom_value v)) (λ ways k. NoPair id (comes p p' [] (plainly prop.True) id tt has))

  -- one pair more
  pub Gives-pair : (settled : List (Wanted × Done)) (p q r : List PropNode) (a b x y id : ℕ) (left right : List ℕ) → IsEncoding nodes syms marked p settled → IsNode settled (between a b) x
      → Gives nodes syms marked (Include syms settled) p q y (Pairs left right) → Extends q r → id < length r → HasForm q (and_form q x y) r id
      → ((v : Atom → Bool) → truth_at v r id ≡ (truth_at v q x && truth_at v q y)) → Gives nodes syms marked (Include syms settled) p r id (Pairs (a ∷ left) (b ∷ right))
  Gives-pair settled p q r a b x y id left right h n m e inside form truth =
      let mx = Means-Extends nodes syms marked (Include syms settled) p q x (Words a b) m.extends (Means-between (Include syms settled) p a b x (part_means p settled h (between a b) x n)) in
      let step = Gives-adds nodes syms marked (Include syms settled) q r (prop.And x y) id (Pairs (a ∷ left) (b ∷ right)) tt e inside (adds_and q r id x y form)
      (λ v k. truth (atom_value v) ∙ (λ j. mx.is v k j && m.means.is v k j))
      (λ ways k. APair a b left right x y id (MadeBy-Extends nodes syms marked ways q r e _ x (mx.made ways k)) (MadeBy-Extends nodes syms marked ways q r e _ y (m.means.made ways k))
      (comes q r (x ∷ y ∷ []) (conjoined x y) id (mx.inside, (m.means.inside, tt)) form)) in
      record { extends = Extends-trans p q r m.extends e; atoms = λ k. step.atoms (m.atoms k); means = step.means }

  -- a node is kept
  module _ (settled settled' : List (Wanted × Done)) (wanted : Wanted) (done : Done) (fresh : known settled wanted ≡ None)
      (keeps : (w : Wanted) → known settled' w ≡ (if is_wanted wanted w then Some done else known settled w)) where
    kept_here : known settled' wanted ≡ Some done
    kept_here = keeps wanted ∙ ap (λ b. if b then Some done else known settled wanted) (wanted_itself wanted)

    kept_other : (w : Wanted) (d : Done) → known settled w ≡ Some d → known settled' w ≡ Some d
    kept_other w d k = by (is_wanted wanted w) refl
      where
        by : (b : Bool) → is_wanted wanted w ≡ b → known settled' w ≡ Some d
        by true e = absurd (none-some d (sym fresh ∙ ap (known settled) (wanted_same wanted w e) ∙ k))
        by false e = keeps w ∙ ap (λ b. if b then Some done else known settled w) e ∙ k

    include_less : (ways : Ways) → Include syms settled' ways → Include syms settled ways
    include_less ways h = record { same = λ a b d k. h.same a b d (kept_other (Equation a b) d k) }

    has_way : (ways : Ways) (w : Wanted) → known settled' w ≡ Some done → Include syms settled' ways → HasWay syms ways w done.way
    has_way ways (Truth i) k h = tt
    has_way ways (Equation a b) k h = h.same a b done k

    include_with : (ways : Ways) → Include syms settled' ways → IncludeWith syms settled wanted done.way ways
    include_with ways h = record { earlier = include_less ways h; way = has_way ways wanted kept_here h }

    pub Settles-keep : (p p' : List PropNode) → IsEncoding nodes syms marked p settled
        → Gives nodes syms marked (IncludeWith syms settled wanted done.way) p p' done.node (subject_of wanted) → Settles nodes syms marked settled p' settled' wanted
    Settles-keep p p' h m = record {
      encoding = record { atoms = m.atoms h.atoms; means = λ w d k. by w d k (is_wanted wanted w) refl };
      stays = λ w k. record { done = k.done; known = kept_other w k.done k.known };
      known = record { done = done; known = kept_here };
    }
      where
        by : (w : Wanted) (d : Done) → known settled' w ≡ Some d → (b : Bool) → is_wanted wanted w ≡ b → Means nodes syms marked (Include syms settled') p' d.node (subject_of w)
        by w d k true e =
            let is : done ≡ d = same_Some done d (sym (keeps w ∙ ap (λ b. if b then Some done else known settled w) e) ∙ k) in
            subst (λ x. Means nodes syms marked (Include syms settled') p' d.node (subject_of x)) (wanted_same wanted w e)
            (subst (λ x. Means nodes syms marked (Include syms settled') p' x.node (subject_of wanted)) is
            (Means-kind nodes syms marked (IncludeWith syms settled wanted done.way) (Include syms settled') p' done.node (subject_of wanted) include_with m.means))
        by w d k false e =
            let before : known settled w ≡ Some d = sym (keeps w ∙ ap (λ b. if b then Some done else known settled w) e) ∙ k in
            Means-kind nodes syms marked (Include syms settled) (Include syms settled') p' d.node (subject_of w) include_less
            (Means-Extends nodes syms marked (Include syms settled) p p' d.node (subject_of w) m.extends (h.means w d before))

  -- what is settled already stays so
  pub Settles-known : (p : List PropNode) (settled : List (Wanted × Done)) (wanted : Wanted) (done : Done) → IsEncoding nodes syms marked p settled → known settled wanted ≡ Some done → Settles nodes syms marked settled p settled wanted
  Settles-known p settled wanted done h k = record { encoding = h; stays = λ w k. k; known = record { done = done; known = k } }

  -- at first nothing is encoded
  pub IsEncoding-start : (p : List PropNode) (settled : List (Wanted × Done)) → p ≡ [] → settled ≡ [] → IsEncoding nodes syms marked p settled
  IsEncoding-start p settled e s = record {
    atoms = record {
      edges = λ id x y at. absurd (none-some _ (ap (λ l. slice_get l id) (sym e) ∙ at));
      truths = λ id x at. absurd (none-some _ (ap (λ l. slice_get l id) (sym e) ∙ at));
    };
    means = λ w d k. absurd (none-some d (ap (λ l. known l w) (sym s) ∙ k));
  }

  -- the nodes stand in the graph
  pub inside_of : (p : List PropNode) (settled : List (Wanted × Done)) → IsEncoding nodes syms marked p settled → AreInside p settled
  inside_of p settled h = record { inside = λ w d k. (h.means w d k).inside }

  -- the way that is kept
  way_among : Option Done → Option Way
  way_among None = None
  way_among (Some d) = way_of syms d.way

  way_among-some : (d : Done) → way_among (Some d) ≡ way_of syms d.way
  unfolding way_among
  way_among-some d = refl

  -- with the ways in which all was settled
  pub Made-of : (p : List PropNode) (settled : List (Wanted × Done)) (id : ℕ) (subject : Subject) → Means nodes syms marked (Include syms settled) p id subject → Made nodes syms marked p subject id
  Made-of p settled id subject m = record {
    ways = λ a b. way_among (known settled (Equation a b));
    made = m.made (λ a b. way_among (known settled (Equation a b))) (record { same = λ a b d k. ap way_among k ∙ way_among-some d });
  }
