-- What walks hand on from a term is what its ways hand on.
use Rattle.std.proofs.Common.{◌≡◌, ℕ, ◌<◌, ◌⊎◌, inl, inr, Bool, true, false, ◌||◌, List, [], ◌∷◌, map, Contains, refl, sym, ◌∙◌, subst, true≢false}
use Rattle.std.proofs.lemmas.List.Elements.{Contains-append_right}
use Rattle.bd_terms.specs.declared.node.Node.{Node}
use Rattle.bd_terms.specs.declared.node.Node.TheVariants.{True, Not, And, Or, Ite, Eq, App, Pred, Read, Write, Init}
use Rattle.bd_terms.specs.Graph.{children}
use Rattle.bd_diverse.specs.declared.occurrences.Occurrences.{Occurrences}
use Rattle.bd_diverse.specs.Positive.{Way, Even, Odd, Control, Compared, Free, negated, side, steps}
use Rattle.bd_diverse.specs.inner.Walked.{flows, freely, has_way, is_any, joined, negated_ways, no_way, only_control, only_free, side_ways}
use Rattle.bd_list.proofs.Membership.{first, second, third, Contains-cons, Contains-none}
use Rattle.bd_list.proofs.Truths.{or_left, or_right, or_cases}

-- one of two, and one of three
pub one_of_two : {X : Type 0} (P : X → Type 0) (a b x : X) → P a → P b → Contains (a ∷ b ∷ []) x → P x
one_of_two P a b x pa pb h = elim (Contains-cons a (b ∷ []) x h) [
  | inl e ↦ subst P e pa
  | inr q ↦ elim (Contains-cons b [] x q) [ inl e ↦ subst P e pb | inr n ↦ absurd (Contains-none x n) ]
]

pub one_alone : {X : Type 0} (P : X → Type 0) (a x : X) → P a → Contains (a ∷ []) x → P x
one_alone P a x pa h = elim (Contains-cons a [] x h) [ inl e ↦ subst P e pa | inr n ↦ absurd (Contains-none x n) ]

pub one_of_three : {X : Type 0} (P : X → Type 0) (a b c x : X) → P a → P b → P c → Contains (a ∷ b ∷ c ∷ []) x → P x
one_of_three P a b c x pa pb pc h = elim (Contains-cons a (b ∷ c ∷ []) x h) [
  | inl e ↦ subst P e pa
  | inr q ↦ one_of_two P b c x pb pc q
]

pub one_mapped : {X Y : Type 0} (P : Y → Type 0) (f : X → Y) (xs : List X) (y : Y) → ((x : X) → Contains xs x → P (f x)) → Contains (map f xs) y → P y
one_mapped P f [] y h n = absurd (Contains-none y n)
one_mapped P f (x ∷ xs) y h n = elim (Contains-cons (f x) (map f xs) y n) [
  | inl e ↦ subst P e (h x (first x xs))
  | inr q ↦ one_mapped P f xs y (λ z p. h z (Contains-append_right (x ∷ []) xs z p)) q
]

pub Contains-map : {X Y : Type 0} (f : X → Y) (xs : List X) (x : X) → Contains xs x → Contains (map f xs) (f x)
Contains-map f [] x h = absurd (Contains-none x h)
Contains-map f (y ∷ xs) x h = elim (Contains-cons y xs x h) [
  | inl e ↦ subst (λ z. Contains (map f (y ∷ xs)) (f z)) e (first (f y) (map f xs))
  | inr q ↦ Contains-append_right (f y ∷ []) (map f xs) (f x) (Contains-map f xs x q)
]

-- some way is among them
pub record Some_way (w : Occurrences) : Type 0 where
  pub way : Way
  pub has : has_way w way ≡ true

some_by : (w : Occurrences) → (a b c d e : Bool) → w.even ≡ a → w.odd ≡ b → w.control ≡ c → w.compared ≡ d → w.free ≡ e → ((((a || b) || c) || d) || e) ≡ true → Some_way w
some_by w true b c d e ha hb hc hd he h = record { way = Even; has = ha }
some_by w false true c d e ha hb hc hd he h = record { way = Odd; has = hb }
some_by w false false true d e ha hb hc hd he h = record { way = Control; has = hc }
some_by w false false false true e ha hb hc hd he h = record { way = Compared; has = hd }
some_by w false false false false true ha hb hc hd he h = record { way = Free; has = he }
some_by w false false false false false ha hb hc hd he h = absurd (true≢false (sym h))

pub some_way : (w : Occurrences) → is_any w ≡ true → Some_way w
some_way w h = some_by w w.even w.odd w.control w.compared w.free refl refl refl refl refl h

pub any_from : (w : Occurrences) (way : Way) → has_way w way ≡ true → is_any w ≡ true
any_from w Even h = or_left _ w.free (or_left _ w.compared (or_left _ w.control (or_left w.even w.odd h)))
any_from w Odd h = or_left _ w.free (or_left _ w.compared (or_left _ w.control (or_right w.even w.odd h)))
any_from w Control h = or_left _ w.free (or_left _ w.compared (or_right (w.even || w.odd) w.control h))
any_from w Compared h = or_left _ w.free (or_right ((w.even || w.odd) || w.control) w.compared h)
any_from w Free h = or_right (((w.even || w.odd) || w.control) || w.compared) w.free h

-- where a way to a term comes from
pub record Origin (w : Occurrences) (node : Node) (next : Way) (c : ℕ) : Type 0 where
  pub way : Way
  pub has : has_way w way ≡ true
  pub step : Contains (steps way node) (next, c)

-- what a flow to a term hands on
abbrev pub Hands : Occurrences → Node → Way → ℕ × Occurrences → Type 0
Hands w node next f = has_way f.1 next ≡ true → Origin w node next f.0

from_not : (w : Occurrences) (a : ℕ) (next : Way) → Hands w (Not a) next (a, negated_ways w)
from_not w a Even h = record { way = Odd; has = h; step = first (Even, a) [] }
from_not w a Odd h = record { way = Even; has = h; step = first (Odd, a) [] }
from_not w a Control h = record { way = Control; has = h; step = first (Control, a) [] }
from_not w a Compared h = record { way = Compared; has = h; step = first (Compared, a) [] }
from_not w a Free h = record { way = Free; has = h; step = first (Free, a) [] }

from_control : (w : Occurrences) (c a b : ℕ) (next : Way) → is_any w ≡ true → Hands w (Ite c a b) next (c, only_control)
from_control w c a b Even any h = absurd (true≢false (sym h))
from_control w c a b Odd any h = absurd (true≢false (sym h))
from_control w c a b Control any h = let s = some_way w any in record { way = s.way; has = s.has; step = first (Control, c) ((s.way, a) ∷ (s.way, b) ∷ []) }
from_control w c a b Compared any h = absurd (true≢false (sym h))
from_control w c a b Free any h = absurd (true≢false (sym h))

from_side : (w : Occurrences) (a b c : ℕ) (next : Way) → ((way : Way) → Contains (steps way (Eq a b)) (side way, c)) → Hands w (Eq a b) next (c, side_ways w)
from_side w a b c Even at h = absurd (true≢false (sym h))
from_side w a b c Odd at h = absurd (true≢false (sym h))
from_side w a b c Control at h = absurd (true≢false (sym h))
from_side w a b c Compared at h = elim (or_cases w.odd w.control h) [
  | inl p ↦ record { way = Odd; has = p; step = at Odd }
  | inr p ↦ record { way = Control; has = p; step = at Control }
]
from_side w a b c Free at h = elim (or_cases (w.even || w.compared) w.free h) [
  | inl q ↦ elim (or_cases w.even w.compared q) [
    | inl p ↦ record { way = Even; has = p; step = at Even }
    | inr p ↦ record { way = Compared; has = p; step = at Compared }
  ]
  | inr p ↦ record { way = Free; has = p; step = at Free }
]

from_free : (w : Occurrences) (node : Node) (args : List ℕ) (next : Way) → ((way : Way) → steps way node ≡ map (λ c. (Free, c)) args) → is_any w ≡ true → (f : ℕ × Occurrences) → Contains (freely args) f → Hands w node next f
from_free w node args Even is any f p = one_mapped (Hands w node Even) (λ c. (c, only_free)) args f (λ c q h. absurd (true≢false (sym h))) p
from_free w node args Odd is any f p = one_mapped (Hands w node Odd) (λ c. (c, only_free)) args f (λ c q h. absurd (true≢false (sym h))) p
from_free w node args Control is any f p = one_mapped (Hands w node Control) (λ c. (c, only_free)) args f (λ c q h. absurd (true≢false (sym h))) p
from_free w node args Compared is any f p = one_mapped (Hands w node Compared) (λ c. (c, only_free)) args f (λ c q h. absurd (true≢false (sym h))) p
from_free w node args Free is any f p =
    let s = some_way w any in
    one_mapped (Hands w node Free) (λ c. (c, only_free)) args f
    (λ c q h. record { way = s.way; has = s.has; step = subst (λ (l : List (Way × ℕ)). Contains l (Free, c)) (sym (is s.way)) (Contains-map (λ (c : ℕ). (Free, c)) args c q) }) p

-- each flow hands on what some walk does
pub flow_sound : (w : Occurrences) (node : Node) (next : Way) (f : ℕ × Occurrences) → is_any w ≡ true → Contains (flows w node) f → Hands w node next f
flow_sound w (Not a) next f any p = one_alone (Hands w (Not a) next) (a, negated_ways w) f (from_not w a next) p
flow_sound w (And a b) next f any p =
    one_of_two (Hands w (And a b) next) (a, w) (b, w) f
    (λ h. record { way = next; has = h; step = first (next, a) ((next, b) ∷ []) })
    (λ h. record { way = next; has = h; step = second (next, a) (next, b) [] }) p
flow_sound w (Or a b) next f any p =
    one_of_two (Hands w (Or a b) next) (a, w) (b, w) f
    (λ h. record { way = next; has = h; step = first (next, a) ((next, b) ∷ []) })
    (λ h. record { way = next; has = h; step = second (next, a) (next, b) [] }) p
flow_sound w (Ite c a b) next f any p =
    one_of_three (Hands w (Ite c a b) next) (c, only_control) (a, w) (b, w) f
    (from_control w c a b next any)
    (λ h. record { way = next; has = h; step = second (Control, c) (next, a) ((next, b) ∷ []) })
    (λ h. record { way = next; has = h; step = third (Control, c) (next, a) (next, b) [] }) p
flow_sound w (Eq a b) next f any p =
    one_of_two (Hands w (Eq a b) next) (a, side_ways w) (b, side_ways w) f
    (from_side w a b a next (λ way. first (side way, a) ((side way, b) ∷ [])))
    (from_side w a b b next (λ way. second (side way, a) (side way, b) [])) p
flow_sound w True next f any p = from_free w True [] next (λ way. refl) any f p
flow_sound w (App s args) next f any p = from_free w (App s args) args next (λ way. refl) any f p
flow_sound w (Pred s args) next f any p = from_free w (Pred s args) args next (λ way. refl) any f p
flow_sound w (Read m a) next f any p = from_free w (Read m a) (m ∷ a ∷ []) next (λ way. refl) any f p
flow_sound w (Write m a d) next f any p = from_free w (Write m a d) (m ∷ a ∷ d ∷ []) next (λ way. refl) any f p
flow_sound w (Init e) next f any p = from_free w (Init e) [] next (λ way. refl) any f p

-- a flow that hands on the step of a walk
pub record Flowing (w : Occurrences) (node : Node) (step : Way × ℕ) : Type 0 where
  pub ways : Occurrences
  pub flow : Contains (flows w node) (step.1, ways)
  pub has : has_way ways step.0 ≡ true

not_flow : (w : Occurrences) (a : ℕ) (way : Way) → has_way w way ≡ true → Flowing w (Not a) (negated way, a)
not_flow w a Even h = record { ways = negated_ways w; flow = first (a, negated_ways w) []; has = h }
not_flow w a Odd h = record { ways = negated_ways w; flow = first (a, negated_ways w) []; has = h }
not_flow w a Control h = record { ways = negated_ways w; flow = first (a, negated_ways w) []; has = h }
not_flow w a Compared h = record { ways = negated_ways w; flow = first (a, negated_ways w) []; has = h }
not_flow w a Free h = record { ways = negated_ways w; flow = first (a, negated_ways w) []; has = h }

side_has : (w : Occurrences) (way : Way) → has_way w way ≡ true → has_way (side_ways w) (side way) ≡ true
side_has w Even h = or_left (w.even || w.compared) w.free (or_left w.even w.compared h)
side_has w Odd h = or_left w.odd w.control h
side_has w Control h = or_right w.odd w.control h
side_has w Compared h = or_left (w.even || w.compared) w.free (or_right w.even w.compared h)
side_has w Free h = or_right (w.even || w.compared) w.free h

free_flow : (w : Occurrences) (node : Node) (args : List ℕ) → flows w node ≡ freely args → (step : Way × ℕ) → Contains (map (λ (c : ℕ). (Free, c)) args) step → Flowing w node step
free_flow w node args is step p =
    one_mapped (Flowing w node) (λ (c : ℕ). (Free, c)) args step
    (λ c q. record { ways = only_free; flow = subst (λ (l : List (ℕ × Occurrences)). Contains l (c, only_free)) (sym is) (Contains-map (λ (c : ℕ). (c, only_free)) args c q); has = refl }) p

-- each walk's step is handed on by some flow
pub flow_complete : (w : Occurrences) (node : Node) (way : Way) (step : Way × ℕ) → has_way w way ≡ true → Contains (steps way node) step → Flowing w node step
flow_complete w (Not a) way step h p = one_alone (Flowing w (Not a)) (negated way, a) step (not_flow w a way h) p
flow_complete w (And a b) way step h p =
    one_of_two (Flowing w (And a b)) (way, a) (way, b) step
    (record { ways = w; flow = first (a, w) ((b, w) ∷ []); has = h })
    (record { ways = w; flow = second (a, w) (b, w) []; has = h }) p
flow_complete w (Or a b) way step h p =
    one_of_two (Flowing w (Or a b)) (way, a) (way, b) step
    (record { ways = w; flow = first (a, w) ((b, w) ∷ []); has = h })
    (record { ways = w; flow = second (a, w) (b, w) []; has = h }) p
flow_complete w (Ite c a b) way step h p =
    one_of_three (Flowing w (Ite c a b)) (Control, c) (way, a) (way, b) step
    (record { ways = only_control; flow = first (c, only_control) ((a, w) ∷ (b, w) ∷ []); has = refl })
    (record { ways = w; flow = second (c, only_control) (a, w) ((b, w) ∷ []); has = h })
    (record { ways = w; flow = third (c, only_control) (a, w) (b, w) []; has = h }) p
flow_complete w (Eq a b) way step h p =
    one_of_two (Flowing w (Eq a b)) (side way, a) (side way, b) step
    (record { ways = side_ways w; flow = first (a, side_ways w) ((b, side_ways w) ∷ []); has = side_has w way h })
    (record { ways = side_ways w; flow = second (a, side_ways w) (b, side_ways w) []; has = side_has w way h }) p
flow_complete w True way step h p = free_flow w True [] refl step p
flow_complete w (App s args) way step h p = free_flow w (App s args) args refl step p
flow_complete w (Pred s args) way step h p = free_flow w (Pred s args) args refl step p
flow_complete w (Read m a) way step h p = free_flow w (Read m a) (m ∷ a ∷ []) refl step p
flow_complete w (Write m a d) way step h p = free_flow w (Write m a d) (m ∷ a ∷ d ∷ []) refl step p
flow_complete w (Init e) way step h p = free_flow w (Init e) [] refl step p

free_child : (args : List ℕ) (step : Way × ℕ) → Contains (map (λ (c : ℕ). (Free, c)) args) step → Contains args step.1
free_child args step p = one_mapped (λ (s : Way × ℕ). Contains args s.1) (λ (c : ℕ). (Free, c)) args step (λ c q. q) p

-- a walk goes on to what the term stands over
pub step_child : (node : Node) (way : Way) (step : Way × ℕ) → Contains (steps way node) step → Contains (children node) step.1
step_child (Not a) way step p = one_alone (λ (s : Way × ℕ). Contains (children (Not a)) s.1) (negated way, a) step (first a []) p
step_child (And a b) way step p = one_of_two (λ (s : Way × ℕ). Contains (children (And a b)) s.1) (way, a) (way, b) step (first a (b ∷ [])) (second a b []) p
step_child (Or a b) way step p = one_of_two (λ (s : Way × ℕ). Contains (children (Or a b)) s.1) (way, a) (way, b) step (first a (b ∷ [])) (second a b []) p
step_child (Ite c a b) way step p =
    one_of_three (λ (s : Way × ℕ). Contains (children (Ite c a b)) s.1) (Control, c) (way, a) (way, b) step (first c (a ∷ b ∷ [])) (second c a (b ∷ [])) (third c a b []) p
step_child (Eq a b) way step p = one_of_two (λ (s : Way × ℕ). Contains (children (Eq a b)) s.1) (side way, a) (side way, b) step (first a (b ∷ [])) (second a b []) p
step_child True way step p = free_child [] step p
step_child (App s args) way step p = free_child args step p
step_child (Pred s args) way step p = free_child args step p
step_child (Read m a) way step p = free_child (m ∷ a ∷ []) step p
step_child (Write m a d) way step p = free_child (m ∷ a ∷ d ∷ []) step p
step_child (Init e) way step p = free_child [] step p

-- the way in which a walk goes on to a child
pub record Onward (way : Way) (node : Node) (c : ℕ) : Type 0 where
  pub next : Way
  pub step : Contains (steps way node) (next, c)

free_onward : (way : Way) (node : Node) (args : List ℕ) → steps way node ≡ map (λ (c : ℕ). (Free, c)) args → (c : ℕ) → Contains args c → Onward way node c
free_onward way node args is c p = record { next = Free; step = subst (λ (l : List (Way × ℕ)). Contains l (Free, c)) (sym is) (Contains-map (λ (c : ℕ). (Free, c)) args c p) }

-- and comes to each of them
pub child_step : (node : Node) (way : Way) (c : ℕ) → Contains (children node) c → Onward way node c
child_step (Not a) way c p = one_alone (Onward way (Not a)) a c (record { next = negated way; step = first (negated way, a) [] }) p
child_step (And a b) way c p =
    one_of_two (Onward way (And a b)) a b c (record { next = way; step = first (way, a) ((way, b) ∷ []) }) (record { next = way; step = second (way, a) (way, b) [] }) p
child_step (Or a b) way c p =
    one_of_two (Onward way (Or a b)) a b c (record { next = way; step = first (way, a) ((way, b) ∷ []) }) (record { next = way; step = second (way, a) (way, b) [] }) p
child_step (Ite d a b) way c p =
    one_of_three (Onward way (Ite d a b)) d a b c
    (record { next = Control; step = first (Control, d) ((way, a) ∷ (way, b) ∷ []) })
    (record { next = way; step = second (Control, d) (way, a) ((way, b) ∷ []) })
    (record { next = way; step = third (Control, d) (way, a) (way, b) [] }) p
child_step (Eq a b) way c p =
    one_of_two (Onward way (Eq a b)) a b c
    (record { next = side way; step = first (side way, a) ((side way, b) ∷ []) })
    (record { next = side way; step = second (side way, a) (side way, b) [] }) p
child_step True way c p = free_onward way True [] refl c p
child_step (App s args) way c p = free_onward way (App s args) args refl c p
child_step (Pred s args) way c p = free_onward way (Pred s args) args refl c p
child_step (Read m a) way c p = free_onward way (Read m a) (m ∷ a ∷ []) refl c p
child_step (Write m a d) way c p = free_onward way (Write m a d) (m ∷ a ∷ d ∷ []) refl c p
child_step (Init e) way c p = free_onward way (Init e) [] refl c p
