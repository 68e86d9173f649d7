-- How the clauses that stand are kept: by places, at each an id, a clause, and whether it stands.
use Rattle.std.specs.Prelude.{refl, ℕ, ◌+◌, ◌≤◌, ◌<◌, ◌≡◌, ◌≢◌, Bool, List, [], ◌∷◌, length, slice_index, if◌then◌else◌}
use Rattle.std.specs.FinMap.{from_entries}
use Rattle.std.specs.Coded.{Coded, code_by, coded×, coded_ℕ}
use Rattle.bd_cnf.specs.Literal.{Literal}
use Rattle.bd_cnf.specs.Standing.{Standing, coded_standing}
use Rattle.bd_lrat.specs.inner.Rising.{RisesWithin}

-- the greatest id that was given, and the clauses that stand
pub record Store : Type 0 where
  pub last : ℕ
  pub clauses : Standing

abbrev pub store : ℕ → Standing → Store
store last clauses = record { last = last; clauses = clauses }

abbrev pub coded_store : Coded Store
coded_store = code_by (ℕ × Standing) (coded× coded_ℕ coded_standing) (λ s. (s.last, s.clauses)) (λ p. store p.0 p.1) (λ _. refl)

-- the clauses that stand, each with its id
abbrev pub entries : List ℕ → List Bool → List (List Literal) → List (ℕ × List Literal)
entries [] stands clauses = []
entries (id ∷ ids) [] clauses = []
entries (id ∷ ids) (s ∷ stands) [] = []
entries (id ∷ ids) (s ∷ stands) (clause ∷ clauses) = if s then (id, clause) ∷ entries ids stands clauses else entries ids stands clauses

-- the clauses that stand, by their ids
abbrev pub standing_of : List ℕ → List Bool → List (List Literal) → Standing
standing_of ids stands clauses = from_entries (entries ids stands clauses)

-- each id has a clause, and the ids rise from 1 up to the last
pub record IsStore (last : ℕ) (ids : List ℕ) (stands : List Bool) (clauses : List (List Literal)) : Type 0 where
  pub marked : length stands ≡ length ids
  pub filled : length clauses ≡ length ids
  pub rising : RisesWithin 1 (last + 1) ids

-- numbers in order
abbrev pub IsOrdered : List ℕ → Type 0
IsOrdered ids = (i j : ℕ) → i ≤ j → j < length ids → slice_index ids i ≤ slice_index ids j

-- the id stands at that place
abbrev pub IsPlaceOf : List ℕ → ℕ → ℕ → Type 0
IsPlaceOf ids id place = (place < length ids) × (slice_index ids place ≡ id)

-- the id stands at no place
abbrev pub HasNoPlace : List ℕ → ℕ → Type 0
HasNoPlace ids id = (place : ℕ) → place < length ids → slice_index ids place ≢ id
