-- How the reader finds the places and the kinds of names.
use Rattle.std.specs.Prelude.{◌≡◌, ℕ, List, nat_eq}
use Rattle.std.specs.Borrow.{Bor}
use Rattle.std.specs.HashMap.{HashMap, get}
use Rattle.std.specs.declared.hash.FoldHasher.{FoldHasher}
use Rattle.std.specs.declared.hash.BuildHasherDefault.{BuildHasherDefault}
use lib.Pointwise.{pointwise}
use Rattle.bd_model.specs.DesignView.{design_view}
use Rattle.bd_model.specs.Lawful.{all_names}
use Rattle.bd_case.specs.Kinds.{kinds}
use Rattle.bd_case.specs.Reading.{place_of}
use Rattle.bd_case.specs.declared.frame.Frame.{Frame}

-- the map has the first place of each name
abbrev pub Finds : HashMap (Bor (List ℕ)) ℕ (BuildHasherDefault FoldHasher) → List (List ℕ) → Type 0
Finds places names =
    (q : Bor (List ℕ)) → get (λ a b. pointwise nat_eq a.now b.now) places q ≡ place_of q.now names

-- places and kinds are those of the frame's design and layout
pub record IsFrame (frame : Frame) : Type 0 where
  pub places : Finds frame.places (all_names (design_view frame.design.now))
  pub kinds : frame.kinds.items ≡ kinds frame.layout.version (design_view frame.design.now)
