-- What a root that claims of a trail that each cycle commutes decides, and the world of a trail.
use Rattle.std.proofs.Common.{◌≡◌, ℕ, zero, suc, ◌+◌, ◌*◌, ◌<◌, ◌⊎◌, inl, inr, false, List, [], ◌∷◌, ◌++◌, length, take, slice_index_or, refl, ap, sym, ◌∙◌, subst, arith}
use Rattle.std.specs.Prelude.{IsTrue, flat_map}
use Rattle.std.specs.List.{AllByRecursion}
use Rattle.std.proofs.Math.Nat.{eq-or-lt_of_le}
use Rattle.bd_model.specs.DesignView.{DesignView, PortView}
use Rattle.bd_model.specs.Conditions.{MeetsInvariant}
use Rattle.bd_model.specs.Cycle.{after, flushed, inputs_at, state_after, step}
use Rattle.bd_model.specs.Fits.{Fits, InputsFit, ScalarsFit, TrailFits, scalar_sort}
use Rattle.bd_model.specs.TrailJudged.{CycleCommutes}
use Rattle.bd_model.specs.declared.case.Case.{Case}
use Rattle.bd_model.specs.declared.case.Trail.{Trail}
use Rattle.bd_model.specs.declared.design.Sort.TheVariants as sort
use Rattle.bd_model.specs.declared.table.Scalar.{Scalar}
use Rattle.bd_model.specs.declared.table.Scalar.TheVariants as scalar
use Rattle.bd_model.specs.declared.table.Table.{Table}
use Rattle.bd_model.specs.declared.table.Value.{Value}
use Rattle.bd_model.proofs.Settled.{Settled, IsTrue-settled, Commutes-settled}
use Rattle.bd_terms.specs.declared.node.Node.{Node}
use Rattle.bd_terms.specs.declared.node.Sym.TheVariants as symbol
use Rattle.bd_terms.specs.Denotation.{World, truth, truth_of}
use Rattle.bd_terms.specs.Graph.{HasSort, IsGraph}
use Rattle.bd_terms.specs.Valid.{KeepsConstantsApart}
use Rattle.bd_symbolic.specs.World.{constant}
use Rattle.bd_symbolic.specs.Widened.{HasLawfulSymbols, case_of_trail, trail_of, widened}
use Rattle.bd_symbolic.proofs.Cutting.{cut-again, cut-fits, length-cut}
use Rattle.bd_symbolic.proofs.Widening.{trail-fits, widened-symbols}
use Rattle.bd_goal.specs.Bounded.{BoundedDecides, ClaimsRuns, DecidesRuns, IsBroken, IsTrailOver, trail_world}
use Rattle.bd_goal.specs.Claims.{case_world}
use Rattle.bd_goal.specs.Formula.{address_count}
use Rattle.bd_goal.specs.Symbols.{ReachesKnown}
use Rattle.bd_goal.proofs.Alike.{denoted-same}
use Rattle.bd_goal.proofs.Deciding.{case_world-apart}
use Rattle.bd_goal.proofs.Lists.{zip-length}
use Rattle.bd_goal.proofs.Realized.{case_of, case_of-fits, each-at, known-gives, words_of}
use Rattle.bd_goal.proofs.Telling.{CommutesAt-any, told_commutes, told_words}

-- joined lists of one length have their items one after another
joined-there : {X : Type 0} → (width : ℕ) (lists : List (List X)) (n i : ℕ) (d : X) → AllByRecursion (λ l. length l ≡ width) lists → n < length lists → i < width
    → slice_index_or (flat_map (λ l. l) lists) (n * width + i) d ≡ slice_index_or (slice_index_or lists n []) i d
joined-there width [] n i d h below within = absurd (omega (arith, below))
joined-there width (l ∷ lists) zero i d h below within =
    let e : 0 * width + i ≡ i = omega arith in
    ap (λ k. slice_index_or (l ++ flat_map (λ l. l) lists) k d) e ∙ front l (flat_map (λ l. l) lists) i d (omega (arith, within, h.0)) where
      front : {X : Type 0} → (xs ys : List X) (i : ℕ) (d : X) → i < length xs → slice_index_or (xs ++ ys) i d ≡ slice_index_or xs i d
      front [] ys i d within = absurd (omega (arith, within))
      front (x ∷ xs) ys zero d within = refl
      front (x ∷ xs) ys (suc i) d within = front xs ys i d (omega (arith, within))
joined-there width (l ∷ lists) (suc n) i d h below within =
    let e : suc n * width + i ≡ width + (n * width + i) = omega arith in
    ap (λ k. slice_index_or (l ++ flat_map (λ l. l) lists) k d) (e ∙ ap (λ k. k + (n * width + i)) (sym h.0)) ∙ back l (flat_map (λ l. l) lists) (n * width + i) d
    ∙ joined-there width lists n i d h.1 (omega (arith, below)) within where
      back : {X : Type 0} → (xs ys : List X) (i : ℕ) (d : X) → slice_index_or (xs ++ ys) (length xs + i) d ≡ slice_index_or ys i d
      back [] ys i d = let e : 0 + i ≡ i = omega arith in ap (λ k. slice_index_or ys k d) e
      back (x ∷ xs) ys i d = let e : suc (length xs) + i ≡ suc (length xs + i) = omega arith in ap (λ k. slice_index_or (x ∷ xs ++ ys) k d) e ∙ back xs ys i d

each-length : (ports : List PortView) (lists : List (List Scalar)) → AllByRecursion (ScalarsFit ports) lists → AllByRecursion (λ l. length l ≡ length ports) lists
each-length ports [] h = tt
each-length ports (l ∷ lists) h = (sym (zip-length (λ (p : PortView) x. scalar_sort x ≡ p.sort) ports l h.0), each-length ports lists h.1)

-- the inputs of a trail's cycle fit
pub inputs-fit : (d : DesignView) (t : Trail) (n : ℕ) → TrailFits d t → n < length t.inputs → InputsFit d (inputs_at t n)
inputs-fit d t n fits within = each-at (InputsFit d) t.inputs fits.inputs n [] within

-- and stand in its world by their numbers
pub inputs-there : (d : DesignView) (t : Trail) (q : List ℕ) (n : ℕ) → TrailFits d t → n < length t.inputs → (i : ℕ) → i < length (inputs_at t n)
    → trail_world t q (symbol.Input (n * length d.pipe.ports + i)) ≡ constant (slice_index_or (inputs_at t n) i (scalar.Bool false))
inputs-there d t q n fits below i within =
    let width = zip-length (λ (p : PortView) x. scalar_sort x ≡ p.sort) d.pipe.ports (inputs_at t n) (inputs-fit d t n fits below) in
    ap constant (joined-there (length d.pipe.ports) t.inputs n i (scalar.Bool false) (each-length d.pipe.ports t.inputs fits.inputs) below (omega (arith, within, width)))

after-next : (d : DesignView) (interp : List Table) (state : List Value) (lists : List (List Scalar)) (n : ℕ) → n < length lists
    → after d interp state (take (n + 1) lists) ≡ step d.pipe interp (after d interp state (take n lists)) (slice_index_or lists n [])
after-next d interp state [] n h = absurd (omega (arith, h))
after-next d interp state (l ∷ lists) zero h = refl
after-next d interp state (l ∷ lists) (suc n) h =
    let e : suc n + 1 ≡ suc (n + 1) = omega arith in
    ap (λ k. after d interp state (take k (l ∷ lists))) e ∙ after-next d interp (step d.pipe interp state l) lists n (omega (arith, h))

-- the state after one cycle more
pub state_after-next : (d : DesignView) (t : Trail) (n : ℕ) → n < length t.inputs → state_after d t (n + 1) ≡ step d.pipe t.interp (state_after d t n) (inputs_at t n)
state_after-next d t n h = after-next d t.interp t.state t.inputs n h

-- the first of some numbers below n at which a claim fails, or none
pub record FirstFails (P : ℕ → Type 0) (n : ℕ) : Type 0 where
  pub at : ℕ
  pub below : at < n
  pub fails : ¬ P at
  pub earlier : (m : ℕ) → m < at → P m

pub search-first : (P : ℕ → Type 0) → ((n : ℕ) → Settled (P n)) → (n : ℕ) → FirstFails P n ⊎ ((m : ℕ) → m < n → P m)
search-first P settled zero = inr (λ m h. absurd (omega (arith, h)))
search-first P settled (suc n) = elim (search-first P settled n) [
  | inl found ↦ inl (record { at = found.at; below = later found.at n found.below; fails = found.fails; earlier = found.earlier })
  | inr all ↦ elim (settled n) [
    | inl holds ↦ inr (λ m h. last m h holds all)
    | inr fails ↦ inl (record { at = n; below = omega arith; fails = fails; earlier = all })
  ]
] where
  later : (a n : ℕ) → a < n → a < suc n
  later a n h = omega (arith, h)

  last : (m : ℕ) → m < suc n → P n → ((k : ℕ) → k < n → P k) → P m
  last m h holds all = elim (place m n h) [ inl e ↦ subst P (sym e) holds | inr lt ↦ all m lt ] where
    place : (m n : ℕ) → m < suc n → (m ≡ n) ⊎ (m < n)
    place m n h = eq-or-lt_of_le (omega (arith, h))

module _ (d : DesignView) (cycles n : ℕ) (nodes : List Node) (root : ℕ) (lawful : HasLawfulSymbols d) (g : IsGraph nodes) (sorted : HasSort nodes root sort.Bool) (known : ReachesKnown (widened d cycles) n nodes root)
    (claims : ClaimsRuns d cycles nodes root) where
  fits-widened : (t : Trail) → IsTrailOver d cycles t → Fits (widened d cycles) (case_of_trail t)
  fits-widened t over = subst (λ k. Fits (widened d k) (case_of_trail t)) over.counted (trail-fits d t over.fits)

  from_trail : (t : Trail) → IsTrailOver d cycles t → IsBroken d t → (q : List ℕ) × KeepsConstantsApart d (trail_world t q) × (¬ IsTrue (truth (trail_world t q) nodes root))
  from_trail t over (cycle, (inside, (m, is, breaks))) =
      let q : List ℕ = told_words d (flushed d) t.interp (state_after d t m) (inputs_at t m) (m * address_count d) in (
        q,
        case_world-apart (widened d cycles) (case_of_trail t) q (widened-symbols d cycles lawful) (fits-widened t over),
        λ holds. breaks.broken (told_commutes d (flushed d) t.interp (state_after d t m) (inputs_at t m) (m * address_count d) ((claims.means t q over).0 holds inside m breaks.within)),
      )

  to_trail : (t : Trail) (q : List ℕ) → IsTrailOver d cycles t → ¬ IsTrue (truth (trail_world t q) nodes root) → IsBroken d t
  to_trail t q over fails = by_inside (IsTrue-settled _) (search-first (CycleCommutes d t) (λ k. Commutes-settled d (flushed d) t.interp (state_after d t k) (inputs_at t k)) (length t.inputs)) where
    by_inside : Settled (MeetsInvariant d t.interp t.state) → FirstFails (CycleCommutes d t) (length t.inputs) ⊎ ((m : ℕ) → m < length t.inputs → CycleCommutes d t m) → IsBroken d t
    by_inside (inr out) found = absurd (fails ((claims.means t q over).1 (λ inside. absurd (out inside))))
    by_inside (inl inside) (inl found) = (found.at + 1, (inside, (found.at, refl, record { within = found.below; broken = found.fails; earlier = found.earlier })))
    by_inside (inl inside) (inr all) =
        absurd (fails ((claims.means t q over).1 (λ _ m within. CommutesAt-any d (flushed d) t.interp (state_after d t m) (inputs_at t m) (m * address_count d) q (all m within))))

  from_world : (w : World) → KeepsConstantsApart d w → ¬ IsTrue (truth w nodes root) → (t : Trail) × IsTrailOver d cycles t × IsBroken d t
  from_world w apart fails =
      let wide = widened-symbols d cycles lawful in
      let c : Case = case_of (widened d cycles) w in
      let q : List ℕ = words_of n w in
      let fits : Fits (widened d cycles) c = case_of-fits (widened d cycles) w wide apart in
      let t : Trail = trail_of cycles (length d.pipe.ports) c in
      let over : IsTrailOver d cycles t = record { fits = cut-fits d cycles c fits; counted = length-cut cycles (length d.pipe.ports) c.inputs } in
      let again : case_of_trail t ≡ c = cut-again d cycles c fits in
      let same : truth w nodes root ≡ truth (case_world c q) nodes root =
      ap truth_of (denoted-same w (case_world c q) nodes g root sorted.inside (λ u r. known-gives (widened d cycles) n w wide u (known.known u r))) in
      (t, over, to_trail t q over (λ holds. fails (same ∙ subst (λ k. IsTrue (truth (case_world k q) nodes root)) again holds)))

  runs-decide : DecidesRuns d cycles nodes root
  runs-decide = record {
    valid = (
      λ valid t over broken. let found = from_trail t over broken in found.2 (valid (trail_world t found.0) found.1),
      λ none w apart. by_truth w apart none (IsTrue-settled (truth w nodes root)),
    );
    from_trail = from_trail;
    to_trail = to_trail;
    from_world = from_world;
  } where
    by_truth : (w : World) → KeepsConstantsApart d w → ((t : Trail) → IsTrailOver d cycles t → ¬ IsBroken d t) → Settled (IsTrue (truth w nodes root)) → IsTrue (truth w nodes root)
    by_truth w apart none (inl holds) = holds
    by_truth w apart none (inr fails) = let found = from_world w apart fails in absurd (none found.0 found.1 found.2)

-- the formula of a bounded run decides which trails are broken
pub bounded-decides : BoundedDecides
bounded-decides d cycles n nodes root lawful g sorted known claims = runs-decide d cycles n nodes root lawful g sorted known claims
