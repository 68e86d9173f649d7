-- Names of entries at places that are told apart alike.
use Rattle.std.proofs.Common.{◌≡◌, ◌+◌, ◌++◌, ℕ, Bool, true, List, [], ◌∷◌, if◌then◌else◌, refl, ap, ◌∙◌}
use Rattle.std.specs.Prelude.{codes}
use Rattle.bd_model.specs.declared.design.Entry.{Entry}
use Rattle.bd_about.specs.PartLines.{listed_names, names_at, names_line}

names-alike : (f g : ℕ → Bool) → ((i : ℕ) → f i ≡ g i) → (i : ℕ) (es : List Entry) → names_at f i es ≡ names_at g i es
names-alike f g same i [] = refl
names-alike f g same i (e ∷ es) =
    ap (λ b. if b then e.name ∷ names_at f (i + 1) es else names_at f (i + 1) es) (same i)
    ∙ ap (λ names. if g i then e.name ∷ names else names) (names-alike f g same (i + 1) es)

pub line-alike : (f g : ℕ → Bool) (es : List Entry) → ((i : ℕ) → f i ≡ g i) → names_line f es ≡ names_line g es
line-alike f g es same = ap (λ names. listed_names true names ++ codes "\n") (names-alike f g same 0 es)
