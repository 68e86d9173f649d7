-- The ways in which walks come to each term, as marks, and how they are handed on.
use Rattle.std.specs.Prelude.{ℕ, Bool, true, false, ◌||◌, List, [], ◌∷◌, map, slice_set, slice_index_or}
use Rattle.bd_terms.specs.declared.node.Node.{Node}
use Rattle.bd_terms.specs.declared.node.Node.TheVariants.{Not, And, Or, Ite, Eq}
use Rattle.bd_terms.specs.Graph.{children}
use Rattle.bd_diverse.specs.declared.occurrences.Occurrences.{Occurrences}
use Rattle.bd_diverse.specs.Positive.{Way, Even, Odd, Control, Compared, Free}

-- whether the way is among these
abbrev pub has_way : Occurrences → Way → Bool
has_way ways Even = ways.even
has_way ways Odd = ways.odd
has_way ways Control = ways.control
has_way ways Compared = ways.compared
has_way ways Free = ways.free

abbrev pub no_way : Occurrences
no_way = record { even = false; odd = false; control = false; compared = false; free = false }

abbrev pub only_even : Occurrences
only_even = record { even = true; odd = false; control = false; compared = false; free = false }

abbrev pub only_control : Occurrences
only_control = record { even = false; odd = false; control = true; compared = false; free = false }

abbrev pub only_free : Occurrences
only_free = record { even = false; odd = false; control = false; compared = false; free = true }

-- whether there is none
abbrev pub is_any : Occurrences → Bool
is_any w = w.even || w.odd || w.control || w.compared || w.free

abbrev pub joined : Occurrences → Occurrences → Occurrences
joined v w = record {
  even = v.even || w.even;
  odd = v.odd || w.odd;
  control = v.control || w.control;
  compared = v.compared || w.compared;
  free = v.free || w.free;
}

abbrev pub negated_ways : Occurrences → Occurrences
negated_ways w = record { even = w.odd; odd = w.even; control = w.control; compared = w.compared; free = w.free }

abbrev pub side_ways : Occurrences → Occurrences
side_ways w = record { even = false; odd = false; control = false; compared = w.odd || w.control; free = w.even || w.compared || w.free }

-- words that no general equation compares
abbrev pub freely : List ℕ → List (ℕ × Occurrences)
freely args = map (λ c. (c, only_free)) args

-- the ways in which walks go on from a term
abbrev pub flows : Occurrences → Node → List (ℕ × Occurrences)
flows w (Not a) = (a, negated_ways w) ∷ []
flows w (And a b) = (a, w) ∷ (b, w) ∷ []
flows w (Or a b) = (a, w) ∷ (b, w) ∷ []
flows w (Ite c a b) = (c, only_control) ∷ (a, w) ∷ (b, w) ∷ []
flows w (Eq a b) = (a, side_ways w) ∷ (b, side_ways w) ∷ []
flows w node = freely (children node)

abbrev pub ways_at : List Occurrences → ℕ → Occurrences
ways_at marks k = slice_index_or marks k no_way

-- the marks, and these ways at a place
abbrev pub with_ways : List Occurrences → ℕ → Occurrences → List Occurrences
with_ways marks k w = slice_set marks k (joined (ways_at marks k) w)

-- the marks, and ways at several places
abbrev pub with_flows : List Occurrences → List (ℕ × Occurrences) → List Occurrences
with_flows marks [] = marks
with_flows marks (f ∷ fs) = with_flows (with_ways marks f.0 f.1) fs
