-- Names that stand among those before them, and names that don't.
use Rattle.std.specs.Prelude.{ℕ, Bool, true, false, List, [], ◌∷◌, if◌then◌else◌}
use Rattle.bd_syntax.specs.Words.{same_text}
use Rattle.bd_syntax.specs.declared.form.Spot.{Spot}

-- a set of texts, by the test of its members
abbrev pub NameSet : Type 0
NameSet = List ℕ → Bool

abbrev pub no_texts : NameSet
no_texts = λ text. false

abbrev pub with_text : NameSet → List ℕ → NameSet
with_text texts name = λ text. if same_text name text then true else texts text

-- the set and all of these names
abbrev pub with_names : NameSet → List Spot → NameSet
with_names texts [] = texts
with_names texts (name ∷ names) = with_names (with_text texts name.text) names

-- the names that stand in the set or among those before them
abbrev pub repeated : NameSet → List Spot → List Spot
repeated before [] = []
repeated before (name ∷ names) =
    if before name.text then name ∷ repeated (with_text before name.text) names
    else repeated (with_text before name.text) names

-- the others
abbrev pub fresh : NameSet → List Spot → List Spot
fresh before [] = []
fresh before (name ∷ names) =
    if before name.text then fresh (with_text before name.text) names
    else name ∷ fresh (with_text before name.text) names
