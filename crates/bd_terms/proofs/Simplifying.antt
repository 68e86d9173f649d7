-- A simplified term has the sort and the denotation of the term.
use Rattle.std.proofs.Common.{◌≡◌, ℕ, zero, suc, ◌<◌, ◌≤◌, ◌⊎◌, inl, inr, Bool, true, false, not, ◌&&◌, ◌||◌, ◌==◌, if◌then◌else◌, List, [], length, slice_get, slice_index_or, Option, Some, None, take, drop, refl, ap, sym, ◌∙◌, arith, true≢false, eqb-true, eq-eqb}
use Rattle.std.proofs.lemmas.Option.{slice_get-get_or}
use Rattle.std.proofs.lemmas.List.{length-take-le, take-append-drop}
use Rattle.bd_model.specs.declared.design.Sort.{Sort}
use Rattle.bd_model.specs.declared.design.Sort.TheVariants as sort
use Rattle.bd_terms.specs.declared.node.Node.{Node}
use Rattle.bd_terms.specs.declared.node.Node.TheVariants.{True, Not, And, Or, Ite, Eq, App, Pred, Read, Write, Init}
use Rattle.bd_terms.specs.declared.simplify.Outcome.{Outcome}
use Rattle.bd_terms.specs.declared.simplify.Outcome.TheVariants.{Same, Built}
use Rattle.bd_terms.specs.Graph.{HasSort, FitsSorts, IsGraph, sorts, sort_at, node_sort, node_uses}
use Rattle.bd_terms.specs.Denotation.{World, Denoted, Truth, Word, Contents, truth_of, word_of, contents_of, node_value, values, denoted, denoted_sort, truth, word, contents}
use Rattle.bd_terms.specs.Simplified.{node_is_true, node_is_false, is_true, is_false, negated, simplified}
use Rattle.bd_terms.proofs.Graphs.{FitsSorts-get, sort_at-get, sort_at-front}
use Rattle.bd_terms.proofs.Denotations.{denoted-get}

if-sort : (t : Bool) (x y : Denoted) (s : Sort) → denoted_sort x ≡ s → denoted_sort y ≡ s → denoted_sort (if t then x else y) ≡ s
if-sort true x y s h k = h
if-sort false x y s h k = k

sort_at-take : (nodes : List Node) (i k : ℕ) → k < length (take i nodes) → sort_at nodes k ≡ sort_at (take i nodes) k
sort_at-take nodes i k h = ap (λ l. sort_at l k) (sym (take-append-drop i nodes)) ∙ sort_at-front (take i nodes) (drop i nodes) k h

-- the sort of the denotation of a node is that of the node, where it is so of the nodes before it
node_value-sort : (w : World) (nodes : List Node) (i : ℕ) (node : Node) → i ≤ length nodes → FitsSorts (take i nodes) node
    → ((k : ℕ) → k < i → denoted_sort (denoted w nodes k) ≡ sort_at nodes k)
    → denoted_sort (node_value w (values w nodes) node) ≡ node_sort (sorts nodes) node
node_value-sort w nodes i True le fits below = refl
node_value-sort w nodes i (Not a) le fits below = refl
node_value-sort w nodes i (And a b) le fits below = refl
node_value-sort w nodes i (Or a b) le fits below = refl
node_value-sort w nodes i (Ite c a b) le fits below =
    let size : length (take i nodes) ≡ i = length-take-le i nodes le in
    if-sort (truth w nodes c) (denoted w nodes a) (denoted w nodes b) (sort_at nodes a)
    (below a (omega (arith, fits.1.inside, size)))
    (below b (omega (arith, fits.2.inside, size)) ∙ sort_at-take nodes i b fits.2.inside ∙ fits.2.sorted ∙ sym (sort_at-take nodes i a fits.1.inside))
node_value-sort w nodes i (Eq a b) le fits below = refl
node_value-sort w nodes i (App s args) le fits below = refl
node_value-sort w nodes i (Pred s args) le fits below = refl
node_value-sort w nodes i (Read m a) le fits below = refl
node_value-sort w nodes i (Write m a d) le fits below = refl
node_value-sort w nodes i (Init e) le fits below = refl

denoted-sort_below : (w : World) (nodes : List Node) → IsGraph nodes → (n i : ℕ) → i < n → i < length nodes → denoted_sort (denoted w nodes i) ≡ sort_at nodes i
denoted-sort_below w nodes g zero i lt inside = absurd (omega arith)
denoted-sort_below w nodes g (suc n) i lt inside =
    let node = slice_index_or nodes i True in
    let h : slice_get nodes i ≡ Some node = slice_get-get_or nodes i True inside in
    ap denoted_sort (denoted-get w nodes g i node h)
    ∙ node_value-sort w nodes i node (omega arith) (g.fits i node h) (λ k below. denoted-sort_below w nodes g n k (omega arith) (omega arith))
    ∙ sym (sort_at-get nodes g i node h)

-- what a node denotes has the node's sort
pub denoted-sort : (w : World) (nodes : List Node) → IsGraph nodes → (i : ℕ) → i < length nodes → denoted_sort (denoted w nodes i) ≡ sort_at nodes i
denoted-sort w nodes g i inside = denoted-sort_below w nodes g (suc i) i (omega arith) inside

is_truth : (d : Denoted) → denoted_sort d ≡ sort.Bool → d ≡ Truth (truth_of d)
is_truth (Truth b) h = refl
is_truth (Word n) h = cc
is_truth (Contents m) h = cc

is_word : (d : Denoted) → denoted_sort d ≡ sort.Word → d ≡ Word (word_of d)
is_word (Truth b) h = cc
is_word (Word n) h = refl
is_word (Contents m) h = cc

-- a node of truth values denotes one, and so on
pub denoted-truth : (w : World) (nodes : List Node) → IsGraph nodes → (i : ℕ) → HasSort nodes i sort.Bool → denoted w nodes i ≡ Truth (truth w nodes i)
denoted-truth w nodes g i h = is_truth (denoted w nodes i) (denoted-sort w nodes g i h.inside ∙ h.sorted)

pub denoted-word : (w : World) (nodes : List Node) → IsGraph nodes → (i : ℕ) → HasSort nodes i sort.Word → denoted w nodes i ≡ Word (word w nodes i)
denoted-word w nodes g i h = is_word (denoted w nodes i) (denoted-sort w nodes g i h.inside ∙ h.sorted)

-- the node there is true
found_true : (o : Option Node) → node_is_true o ≡ true → o ≡ Some True
found_true (Some True) h = refl
found_true None h = cc
found_true (Some (Not a)) h = cc
found_true (Some (And a b)) h = cc
found_true (Some (Or a b)) h = cc
found_true (Some (Ite c a b)) h = cc
found_true (Some (Eq a b)) h = cc
found_true (Some (App s args)) h = cc
found_true (Some (Pred s args)) h = cc
found_true (Some (Read m a)) h = cc
found_true (Some (Write m a d)) h = cc
found_true (Some (Init e)) h = cc

truth-true : (w : World) (nodes : List Node) → IsGraph nodes → (i : ℕ) → is_true nodes i ≡ true → truth w nodes i ≡ true
truth-true w nodes g i h = ap truth_of (denoted-get w nodes g i True (found_true (slice_get nodes i) h))

truth-false_by : (w : World) (nodes : List Node) → IsGraph nodes → (i : ℕ) (o : Option Node) → slice_get nodes i ≡ o → node_is_false nodes o ≡ true → truth w nodes i ≡ false
truth-false_by w nodes g i (Some (Not a)) e h = ap truth_of (denoted-get w nodes g i (Not a) e) ∙ ap not (truth-true w nodes g a h)
truth-false_by w nodes g i None e h = cc
truth-false_by w nodes g i (Some True) e h = cc
truth-false_by w nodes g i (Some (And a b)) e h = cc
truth-false_by w nodes g i (Some (Or a b)) e h = cc
truth-false_by w nodes g i (Some (Ite c a b)) e h = cc
truth-false_by w nodes g i (Some (Eq a b)) e h = cc
truth-false_by w nodes g i (Some (App s args)) e h = cc
truth-false_by w nodes g i (Some (Pred s args)) e h = cc
truth-false_by w nodes g i (Some (Read m a)) e h = cc
truth-false_by w nodes g i (Some (Write m a d)) e h = cc
truth-false_by w nodes g i (Some (Init x)) e h = cc

truth-false : (w : World) (nodes : List Node) → IsGraph nodes → (i : ℕ) → is_false nodes i ≡ true → truth w nodes i ≡ false
truth-false w nodes g i h = truth-false_by w nodes g i (slice_get nodes i) refl h

if-either : (P : Outcome → Type 0) (t : Bool) (x y : Outcome) → (t ≡ true → P x) → (t ≡ false → P y) → P (if t then x else y)
if-either P true x y h k = h refl
if-either P false x y h k = k refl

or-two : (p q : Bool) {A B : Type 0} → p || q ≡ true → (p ≡ true → A) → (q ≡ true → B) → A ⊎ B
or-two true q h f g = inl (f refl)
or-two false q h f g = inr (g h)

or-three : (p q r : Bool) {A B C : Type 0} → p || q || r ≡ true → (p ≡ true → A) → (q ≡ true → B) → (r ≡ true → C) → A ⊎ (B ⊎ C)
or-three true q r h f g k = inl (f refl)
or-three false true r h f g k = inr (inl (g refl))
or-three false false r h f g k = inr (inr (k h))

and-second : (x y : Bool) → (x ≡ true) ⊎ ((y ≡ false) ⊎ (x ≡ y)) → y ≡ (x && y)
and-second true y h = refl
and-second false false h = refl
and-second false true (inl h) = absurd (true≢false (sym h))
and-second false true (inr (inl h)) = absurd (true≢false h)
and-second false true (inr (inr h)) = absurd (true≢false (sym h))

and-first : (x y : Bool) → (x ≡ false) ⊎ (y ≡ true) → x ≡ (x && y)
and-first false y h = refl
and-first true true h = refl
and-first true false (inl h) = absurd (true≢false h)
and-first true false (inr h) = absurd (true≢false (sym h))

or-second : (x y : Bool) → (x ≡ false) ⊎ ((y ≡ true) ⊎ (x ≡ y)) → y ≡ (x || y)
or-second false y h = refl
or-second true true h = refl
or-second true false (inl h) = absurd (true≢false h)
or-second true false (inr (inl h)) = absurd (true≢false (sym h))
or-second true false (inr (inr h)) = absurd (true≢false h)

or-first : (x y : Bool) → (x ≡ true) ⊎ (y ≡ false) → x ≡ (x || y)
or-first true y h = refl
or-first false false h = refl
or-first false true (inl h) = absurd (true≢false (sym h))
or-first false true (inr h) = absurd (true≢false h)

if-first : (t : Bool) (x y : Denoted) → (t ≡ true) ⊎ (x ≡ y) → x ≡ (if t then x else y)
if-first true x y h = refl
if-first false x y (inl h) = absurd (true≢false (sym h))
if-first false x y (inr h) = h

if-second : (t : Bool) (x y : Denoted) → t ≡ false → y ≡ (if t then x else y)
if-second true x y h = absurd (true≢false h)
if-second false x y h = refl

not-not : (x : Bool) → x ≡ not (not x)
not-not true = refl
not-not false = refl

-- what a form denotes
abbrev pub outcome_value : World → List Node → Outcome → Denoted
outcome_value w nodes (Same a) = denoted w nodes a
outcome_value w nodes (Built n) = node_value w (values w nodes) n

negated-value : (w : World) (nodes : List Node) → IsGraph nodes → (a : ℕ) (o : Option Node) → slice_get nodes a ≡ o
    → outcome_value w nodes (negated a o) ≡ node_value w (values w nodes) (Not a)
negated-value w nodes g a (Some (Not b)) e =
    denoted-truth w nodes g b (FitsSorts-get nodes g a (Not b) e)
    ∙ ap Truth (not-not (truth w nodes b) ∙ ap (λ d. not (truth_of d)) (sym (denoted-get w nodes g a (Not b) e)))
negated-value w nodes g a None e = refl
negated-value w nodes g a (Some True) e = refl
negated-value w nodes g a (Some (And b c)) e = refl
negated-value w nodes g a (Some (Or b c)) e = refl
negated-value w nodes g a (Some (Ite b c d)) e = refl
negated-value w nodes g a (Some (Eq b c)) e = refl
negated-value w nodes g a (Some (App s args)) e = refl
negated-value w nodes g a (Some (Pred s args)) e = refl
negated-value w nodes g a (Some (Read m b)) e = refl
negated-value w nodes g a (Some (Write m b d)) e = refl
negated-value w nodes g a (Some (Init x)) e = refl

-- a simplified term denotes what the term does
pub simplified-value : (w : World) (nodes : List Node) → IsGraph nodes → (node : Node) → FitsSorts nodes node
    → outcome_value w nodes (simplified nodes node) ≡ node_value w (values w nodes) node
simplified-value w nodes g (Not a) fits = negated-value w nodes g a (slice_get nodes a) refl
simplified-value w nodes g (And a b) fits =
    let P : Outcome → Type 0 = λ f. outcome_value w nodes f ≡ Truth (truth w nodes a && truth w nodes b) in
    if-either P (is_true nodes a || is_false nodes b || a == b) (Same b) (if is_false nodes a || is_true nodes b then Same a else Built (And a b))
    (λ h. denoted-truth w nodes g b fits.1 ∙ ap Truth (and-second (truth w nodes a) (truth w nodes b)
    (or-three (is_true nodes a) (is_false nodes b) (a == b) h (truth-true w nodes g a) (truth-false w nodes g b) (λ e. ap (truth w nodes) (eqb-true a b e)))))
    (λ _. if-either P (is_false nodes a || is_true nodes b) (Same a) (Built (And a b))
    (λ h. denoted-truth w nodes g a fits.0 ∙ ap Truth (and-first (truth w nodes a) (truth w nodes b)
    (or-two (is_false nodes a) (is_true nodes b) h (truth-false w nodes g a) (truth-true w nodes g b))))
    (λ _. refl))
simplified-value w nodes g (Or a b) fits =
    let P : Outcome → Type 0 = λ f. outcome_value w nodes f ≡ Truth (truth w nodes a || truth w nodes b) in
    if-either P (is_false nodes a || is_true nodes b || a == b) (Same b) (if is_true nodes a || is_false nodes b then Same a else Built (Or a b))
    (λ h. denoted-truth w nodes g b fits.1 ∙ ap Truth (or-second (truth w nodes a) (truth w nodes b)
    (or-three (is_false nodes a) (is_true nodes b) (a == b) h (truth-false w nodes g a) (truth-true w nodes g b) (λ e. ap (truth w nodes) (eqb-true a b e)))))
    (λ _. if-either P (is_true nodes a || is_false nodes b) (Same a) (Built (Or a b))
    (λ h. denoted-truth w nodes g a fits.0 ∙ ap Truth (or-first (truth w nodes a) (truth w nodes b)
    (or-two (is_true nodes a) (is_false nodes b) h (truth-true w nodes g a) (truth-false w nodes g b))))
    (λ _. refl))
simplified-value w nodes g (Ite c a b) fits =
    let P : Outcome → Type 0 = λ f. outcome_value w nodes f ≡ (if truth w nodes c then denoted w nodes a else denoted w nodes b) in
    if-either P (is_true nodes c || a == b) (Same a) (if is_false nodes c then Same b else Built (Ite c a b))
    (λ h. if-first (truth w nodes c) (denoted w nodes a) (denoted w nodes b)
    (or-two (is_true nodes c) (a == b) h (truth-true w nodes g c) (λ e. ap (denoted w nodes) (eqb-true a b e))))
    (λ _. if-either P (is_false nodes c) (Same b) (Built (Ite c a b))
    (λ h. if-second (truth w nodes c) (denoted w nodes a) (denoted w nodes b) (truth-false w nodes g c h))
    (λ _. refl))
simplified-value w nodes g (Eq a b) fits =
    let P : Outcome → Type 0 = λ f. outcome_value w nodes f ≡ Truth (word w nodes a == word w nodes b) in
    if-either P (a == b) (Built True) (Built (Eq a b))
    (λ h. ap Truth (sym (eq-eqb (word w nodes a) (word w nodes b) (ap (word w nodes) (eqb-true a b h)))))
    (λ _. refl)
simplified-value w nodes g True fits = refl
simplified-value w nodes g (App s args) fits = refl
simplified-value w nodes g (Pred s args) fits = refl
simplified-value w nodes g (Read m a) fits = refl
simplified-value w nodes g (Write m a d) fits = refl
simplified-value w nodes g (Init e) fits = refl

-- a form has the sort of a term, and applies no other symbol
abbrev pub OutcomeFits : List Node → Node → Outcome → Type 0
OutcomeFits nodes node (Same a) = HasSort nodes a (node_sort (sorts nodes) node)
OutcomeFits nodes node (Built n) = FitsSorts nodes n × (node_sort (sorts nodes) n ≡ node_sort (sorts nodes) node) × ((n ≡ node) ⊎ (node_uses n ≡ []))

negated-fits : (nodes : List Node) → IsGraph nodes → (a : ℕ) → HasSort nodes a sort.Bool → (o : Option Node) → slice_get nodes a ≡ o → OutcomeFits nodes (Not a) (negated a o)
negated-fits nodes g a h (Some (Not b)) e = FitsSorts-get nodes g a (Not b) e
negated-fits nodes g a h None e = (h, refl, inl refl)
negated-fits nodes g a h (Some True) e = (h, refl, inl refl)
negated-fits nodes g a h (Some (And b c)) e = (h, refl, inl refl)
negated-fits nodes g a h (Some (Or b c)) e = (h, refl, inl refl)
negated-fits nodes g a h (Some (Ite b c d)) e = (h, refl, inl refl)
negated-fits nodes g a h (Some (Eq b c)) e = (h, refl, inl refl)
negated-fits nodes g a h (Some (App s args)) e = (h, refl, inl refl)
negated-fits nodes g a h (Some (Pred s args)) e = (h, refl, inl refl)
negated-fits nodes g a h (Some (Read m b)) e = (h, refl, inl refl)
negated-fits nodes g a h (Some (Write m b d)) e = (h, refl, inl refl)
negated-fits nodes g a h (Some (Init x)) e = (h, refl, inl refl)

-- a simplified term has the term's sort, and applies no other symbol
pub simplified-fits : (nodes : List Node) → IsGraph nodes → (node : Node) → FitsSorts nodes node → OutcomeFits nodes node (simplified nodes node)
simplified-fits nodes g (Not a) fits = negated-fits nodes g a fits (slice_get nodes a) refl
simplified-fits nodes g (And a b) fits =
    if-either (OutcomeFits nodes (And a b)) (is_true nodes a || is_false nodes b || a == b) (Same b) (if is_false nodes a || is_true nodes b then Same a else Built (And a b))
    (λ _. fits.1)
    (λ _. if-either (OutcomeFits nodes (And a b)) (is_false nodes a || is_true nodes b) (Same a) (Built (And a b)) (λ _. fits.0) (λ _. (fits, refl, inl refl)))
simplified-fits nodes g (Or a b) fits =
    if-either (OutcomeFits nodes (Or a b)) (is_false nodes a || is_true nodes b || a == b) (Same b) (if is_true nodes a || is_false nodes b then Same a else Built (Or a b))
    (λ _. fits.1)
    (λ _. if-either (OutcomeFits nodes (Or a b)) (is_true nodes a || is_false nodes b) (Same a) (Built (Or a b)) (λ _. fits.0) (λ _. (fits, refl, inl refl)))
simplified-fits nodes g (Ite c a b) fits =
    if-either (OutcomeFits nodes (Ite c a b)) (is_true nodes c || a == b) (Same a) (if is_false nodes c then Same b else Built (Ite c a b))
    (λ _. fits.1)
    (λ _. if-either (OutcomeFits nodes (Ite c a b)) (is_false nodes c) (Same b) (Built (Ite c a b)) (λ _. fits.2) (λ _. (fits, refl, inl refl)))
simplified-fits nodes g (Eq a b) fits =
    if-either (OutcomeFits nodes (Eq a b)) (a == b) (Built True) (Built (Eq a b)) (λ _. (tt, refl, inr refl)) (λ _. (fits, refl, inl refl))
simplified-fits nodes g True fits = (tt, refl, inl refl)
simplified-fits nodes g (App s args) fits = (fits, refl, inl refl)
simplified-fits nodes g (Pred s args) fits = (fits, refl, inl refl)
simplified-fits nodes g (Read m a) fits = (fits, refl, inl refl)
simplified-fits nodes g (Write m a d) fits = (fits, refl, inl refl)
simplified-fits nodes g (Init e) fits = (tt, refl, inl refl)
