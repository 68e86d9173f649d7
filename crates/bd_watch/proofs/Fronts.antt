-- Where literals and decisions stand on a trail.
use Rattle.std.proofs.Common.{◌≡◌, ℕ, zero, suc, ◌+◌, ◌-◌, ◌<◌, ◌≤◌, true, List, [], ◌∷◌, Option, None, Some, length, get_or, take, refl, sym, ap, ◌∙◌, subst, inl, inr, arith}
use Rattle.std.specs.Prelude.{slice_get, IfSome, IfNone}
use Rattle.std.specs.List.{enumerate_from, filter_map, cons_option}
use Rattle.std.proofs.lemmas.Bool.{false≢true, cases_lt, or_cases}
use Rattle.std.proofs.lemmas.Option.{get_or_from_slice_get, slice_get_within, slice_get-get_or}
use Rattle.bd_cnf.specs.Literal.{Literal, literal_eq, has_literal, has_variable}
use Rattle.bd_cnf.specs.Trail.{IsPartOf}
use Rattle.bd_cnf.proofs.Literals.{literal_eq-true}
use Rattle.bd_watch.specs.Levels.{Assigned, assigned, literals, decisions}
use Rattle.bd_watch.specs.Trails.{place_of_decision, decision_places, IsPlaceOf, IsDecisionAt, IsLastStart, IsStartFrom}
use Rattle.bd_watch.specs.Watching.{front}
use Rattle.bd_cnf.specs.Standing.{IsBelow}
use Rattle.bd_watch.proofs.Parts.{has_here, has_later, literal_of, all_has}
use Rattle.bd_watch.proofs.Guards.{front_all}

-- an entry stands in front of each later place
pub in_front : (trail : List Assigned) (place end : ℕ) (d : Assigned) → place < end → place < length trail → has_literal (front trail end) (get_or trail place d).literal ≡ true
in_front [] place end d h low = absurd (omega arith)
in_front (a ∷ es) place zero d h low = absurd (omega arith)
in_front (a ∷ es) zero (suc end) d h low = has_here a.literal (literals (take end es))
in_front (a ∷ es) (suc place) (suc end) d h low = has_later (get_or es place d).literal a.literal (literals (take end es)) (in_front es place end d (omega arith) (omega arith))

-- a literal in front of a place stands at some place
pub record IsThere (trail : List Assigned) (end : ℕ) (l : Literal) : Type 0 where
  pub place : ℕ
  pub before : place < end
  pub within : place < length trail
  pub is : (d : Assigned) → (get_or trail place d).literal ≡ l

pub place_in_front : (trail : List Assigned) (end : ℕ) (l : Literal) → has_literal (front trail end) l ≡ true → IsThere trail end l
place_in_front trail zero l h = absurd (false≢true h)
place_in_front [] (suc end) l h = absurd (false≢true h)
place_in_front (a ∷ es) (suc end) l h =
    elim (or_cases (literal_eq l a.literal) _ h) [
      | inl same ↦ record { place = zero; before = omega arith; within = omega arith; is = λ d. sym (literal_eq-true l a.literal same) }
      | inr there ↦ let so = place_in_front es end l there in record { place = suc so.place; before = omega (arith, so.before); within = omega (arith, so.within); is = so.is }
    ]

pub place_of : (trail : List Assigned) (l : Literal) → has_literal (literals trail) l ≡ true → IsThere trail (length trail) l
place_of trail l h = place_in_front trail (length trail) l (subst (λ ls. has_literal ls l ≡ true) (sym (front_all trail (length trail) (omega arith))) h)

-- a shorter front is a part of a longer one
pub front_within : (trail : List Assigned) (low high : ℕ) → low ≤ high → IsPartOf (front trail low) (front trail high)
front_within trail low high h l there =
    let so = place_in_front trail low l there in
    let d : Assigned = assigned l None in
    subst (λ (m : Literal). has_literal (front trail high) m ≡ true) (so.is d) (in_front trail so.place high d (omega (arith, so.before)) so.within)

-- the place of a variable that has a value, in a table that has the places
pub placed_variable : (trail : List Assigned) (places : List ℕ) (var : ℕ) → ((p : ℕ) (d : Assigned) → p < length trail → get_or places (get_or trail p d).literal.var 0 ≡ p) → has_variable (literals trail) var ≡ true → IsPlaceOf trail var (get_or places var 0)
placed_variable trail places var placed h =
    let (l, here, same) = literal_of (literals trail) var h in
    let so = place_of trail l here in
    let d : Assigned = assigned l None in
    let at : get_or places var 0 ≡ so.place = ap (λ v. get_or places v 0) (sym (ap (λ (m : Literal). m.var) (so.is d) ∙ same)) ∙ placed so.place d so.within in
    subst (IsPlaceOf trail var) (sym at) (record { within = so.within; is = λ e. ap (λ (m : Literal). m.var) (so.is e) ∙ same })

abbrev places : ℕ → List Assigned → List ℕ
places n es = filter_map (λ (p : ℕ × Assigned). place_of_decision p.0 p.1.reason) (enumerate_from n es)

-- the place that is listed there is a decision's
record IsSound (n : ℕ) (es : List Assigned) (listed : ℕ) : Type 0 where
  pub place : ℕ
  pub is : listed ≡ n + place
  pub decision : IsDecisionAt es place

places_sound : (n : ℕ) (es : List Assigned) (i : ℕ) → i < length (places n es) → IsSound n es (get_or (places n es) i 0)
places_sound n [] i h = absurd (omega arith)
places_sound n (a ∷ es) i h = first (places_sound (n + 1) es) a.reason refl i h
  where
    later : (listed : ℕ) → IsSound (n + 1) es listed → IsSound n (a ∷ es) listed
    later listed so = record { place = suc so.place; is = omega (arith, so.is); decision = record { within = omega (arith, so.decision.within); undecided = so.decision.undecided } }

    first : ((j : ℕ) → j < length (places (n + 1) es) → IsSound (n + 1) es (get_or (places (n + 1) es) j 0)) → (r : Option ℕ) → a.reason ≡ r → (j : ℕ) → j < length (cons_option (place_of_decision n r) (places (n + 1) es)) → IsSound n (a ∷ es) (get_or (cons_option (place_of_decision n r) (places (n + 1) es)) j 0)
    first rest None e zero low = record { place = zero; is = omega arith; decision = record { within = omega arith; undecided = λ d. e } }
    first rest None e (suc j) low = later _ (rest j (omega arith))
    first rest (Some id) e j low = later _ (rest j low)

-- a number is listed
pub record IsIn (listed : List ℕ) (x : ℕ) : Type 0 where
  pub index : ℕ
  pub within : index < length listed
  pub is : get_or listed index 0 ≡ x

places_complete : (n : ℕ) (es : List Assigned) (place : ℕ) → IsDecisionAt es place → IsIn (places n es) (n + place)
places_complete n [] place at = let low : place < 0 = at.within in absurd (omega arith)
places_complete n (a ∷ es) zero at = now a.reason refl
  where
    now : (r : Option ℕ) → a.reason ≡ r → IsIn (cons_option (place_of_decision n r) (places (n + 1) es)) (n + zero)
    now None e = record { index = zero; within = omega arith; is = omega arith }
    now (Some id) e = let none : a.reason ≡ None = at.undecided a in cc
places_complete n (a ∷ es) (suc place) at = later (places_complete (n + 1) es place (record { within = let low : suc place < length (a ∷ es) = at.within in omega arith; undecided = at.undecided })) a.reason
  where
    later : IsIn (places (n + 1) es) ((n + 1) + place) → (r : Option ℕ) → IsIn (cons_option (place_of_decision n r) (places (n + 1) es)) (n + suc place)
    later so None = record { index = suc so.index; within = let low : so.index < length (places (n + 1) es) = so.within in omega arith; is = let e : get_or (places (n + 1) es) so.index 0 ≡ (n + 1) + place = so.is in e ∙ omega arith }
    later so (Some id) = record { index = so.index; within = so.within; is = let e : get_or (places (n + 1) es) so.index 0 ≡ (n + 1) + place = so.is in e ∙ omega arith }

places_rising : (n : ℕ) (es : List Assigned) (i j : ℕ) → i < j → j < length (places n es) → get_or (places n es) i 0 < get_or (places n es) j 0
places_rising n [] i j h low = absurd (omega arith)
places_rising n (a ∷ es) i j h low = first (places_rising (n + 1) es) a.reason i j h low
  where
    first : ((i j : ℕ) → i < j → j < length (places (n + 1) es) → get_or (places (n + 1) es) i 0 < get_or (places (n + 1) es) j 0) → (r : Option ℕ) → (i j : ℕ) → i < j → j < length (cons_option (place_of_decision n r) (places (n + 1) es)) → get_or (cons_option (place_of_decision n r) (places (n + 1) es)) i 0 < get_or (cons_option (place_of_decision n r) (places (n + 1) es)) j 0
    first rest None i zero h low = absurd (omega arith)
    first rest None zero (suc j) h low = let so = places_sound (n + 1) es j (omega arith) in omega (arith, so.is)
    first rest None (suc i) (suc j) h low = rest i j (omega arith) (omega arith)
    first rest (Some id) i j h low = rest i j h low

-- each place of a decision is listed, and no other
pub listed_decision : (starts : List ℕ) (trail : List Assigned) (i : ℕ) → starts ≡ decision_places trail → i < length starts → IsDecisionAt trail (get_or starts i 0)
listed_decision starts trail i e h =
    let so = places_sound 0 trail i (subst (λ ps. i < length ps) e h) in
    subst (IsDecisionAt trail) (sym (ap (λ ps. get_or ps i 0) e ∙ so.is ∙ omega arith)) so.decision

pub decision_listed : (starts : List ℕ) (trail : List Assigned) (place : ℕ) → starts ≡ decision_places trail → IsDecisionAt trail place → IsIn starts place
decision_listed starts trail place e at =
    let so = places_complete 0 trail place at in
    subst (λ ps. IsIn ps place) (sym e) (record { index = so.index; within = so.within; is = let f : get_or (decision_places trail) so.index 0 ≡ 0 + place = so.is in f ∙ omega arith })

pub listed_rising : (starts : List ℕ) (trail : List Assigned) (i j : ℕ) → starts ≡ decision_places trail → i ≤ j → j < length starts → get_or starts i 0 ≤ get_or starts j 0
listed_rising starts trail i j e h low =
    elim (cases_lt i j) [
      | inl below ↦ let up : get_or starts i 0 < get_or starts j 0 = subst (λ ps. get_or ps i 0 < get_or ps j 0) (sym e) (places_rising 0 trail i j below (subst (λ ps. j < length ps) e low)) in omega arith
      | inr above ↦ let same : i ≡ j = omega arith in subst (λ n. get_or starts n 0 ≤ get_or starts j 0) (sym same) (omega arith)
    ]

-- the last that is listed
pub last_start_is : (starts : List ℕ) (trail : List Assigned) (s : ℕ) → starts ≡ decision_places trail → Some s ≡ slice_get starts (length starts - 1) → IsLastStart trail s
last_start_is starts trail s e last =
    let low : length starts - 1 < length starts = slice_get_within starts (length starts - 1) s (sym last) in
    let at : get_or starts (length starts - 1) 0 ≡ s = get_or_from_slice_get starts (length starts - 1) s 0 (sym last) in
    record {
      decision = subst (IsDecisionAt trail) at (listed_decision starts trail (length starts - 1) e low);
      last = λ later so. let here = decision_listed starts trail later e so in
          let bound : get_or starts here.index 0 ≤ get_or starts (length starts - 1) 0 = listed_rising starts trail here.index (length starts - 1) e (omega (arith, here.within)) low in
          omega (arith, here.is, at);
    }

-- where all from an index on are after a place, and those before it aren't
pub start_from_is : (starts : List ℕ) (trail : List Assigned) (place count s : ℕ) → starts ≡ decision_places trail → ((i : ℕ) → count ≤ i → i < length starts → place ≤ get_or starts i 0) → (0 < count → get_or starts (count - 1) 0 < place) → count < length starts → get_or starts count 0 ≡ s → IsStartFrom trail place s
start_from_is starts trail place count s e after before low at =
    record {
      decision = subst (IsDecisionAt trail) at (listed_decision starts trail count e low);
      after = subst (λ n. place ≤ n) at (after count (omega arith) low);
      first = λ other so from. let here = decision_listed starts trail other e so in
          elim (cases_lt here.index count) [
            | inl early ↦
                let bound : get_or starts here.index 0 ≤ get_or starts (count - 1) 0 = listed_rising starts trail here.index (count - 1) e (omega arith) (omega arith) in
                let less : get_or starts (count - 1) 0 < place = before (omega arith) in
                absurd (omega (arith, here.is))
            | inr late ↦ let bound : get_or starts count 0 ≤ get_or starts here.index 0 = listed_rising starts trail count here.index e late here.within in omega (arith, here.is, at)
          ];
    }

-- without a decision anywhere there is none
pub no_decisions : (es : List Assigned) → ((place : ℕ) → IsDecisionAt es place → ⊥) → decisions es ≡ []
no_decisions [] none = refl
no_decisions (a ∷ es) none = first (no_decisions es (λ place at. none (suc place) (record { within = omega (arith, at.within); undecided = at.undecided }))) a.reason refl
  where
    first : decisions es ≡ [] → (r : Option ℕ) → a.reason ≡ r → decisions (assigned a.literal r ∷ es) ≡ []
    first rest None f = absurd (none zero (record { within = omega arith; undecided = λ d. f }))
    first rest (Some id) f = rest

-- nor without one that is listed
pub no_start : (starts : List ℕ) (trail : List Assigned) → starts ≡ decision_places trail → None ≡ slice_get starts (length starts - 1) → decisions trail ≡ []
no_start starts trail e last = no_decisions trail (λ place at. let here = decision_listed starts trail place e at in empty starts last here.index here.within)
  where
    empty : (ps : List ℕ) → None ≡ slice_get ps (length ps - 1) → (i : ℕ) → i < length ps → ⊥
    empty ps none i h = missing (slice_get-get_or ps (length ps - 1) 0 (omega arith))
      where
        missing : slice_get ps (length ps - 1) ≡ Some (get_or ps (length ps - 1) 0) → ⊥
        missing some = cc

-- what a list's last number says, as an answer
pub last_start_some : (starts : List ℕ) (trail : List Assigned) (r : Option ℕ) → starts ≡ decision_places trail → r ≡ slice_get starts (length starts - 1) → IfSome r (IsLastStart trail)
last_start_some starts trail None e last = tt
last_start_some starts trail (Some s) e last = last_start_is starts trail s e last

pub last_start_none : (starts : List ℕ) (trail : List Assigned) (r : Option ℕ) → starts ≡ decision_places trail → r ≡ slice_get starts (length starts - 1) → IfNone r (decisions trail ≡ [])
last_start_none starts trail None e last = no_start starts trail e last
last_start_none starts trail (Some s) e last = tt

-- none from there on
pub start_from_none : (starts : List ℕ) (trail : List Assigned) (place count : ℕ) → starts ≡ decision_places trail → length starts ≤ count → count ≤ length starts → (0 < count → get_or starts (count - 1) 0 < place) → (start : ℕ) → IsDecisionAt trail start → start < place
start_from_none starts trail place count e past most before start at =
    let here = decision_listed starts trail start e at in
    let bound : get_or starts here.index 0 ≤ get_or starts (count - 1) 0 = listed_rising starts trail here.index (count - 1) e (omega (arith, here.within)) (omega (arith, here.within)) in
    let less : get_or starts (count - 1) 0 < place = before (omega (arith, here.within)) in
    omega (arith, here.is)

-- a variable with a value has room
pub variable_below : (limit : ℕ) (trail : List Assigned) (var : ℕ) → IsBelow limit (literals trail) → has_variable (literals trail) var ≡ true → var < limit
variable_below limit trail var below h =
    let (l, here, same) = literal_of (literals trail) var h in
    subst (λ v. v < limit) same (all_has (λ (m : Literal). m.var < limit) (literals trail) l below here)
