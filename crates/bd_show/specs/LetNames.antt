-- The names of the lets in a design's texts, in their order. A design doesn't keep them.
use Rattle.std.specs.Prelude.{◌≡◌, ℕ, List, [], codes, Option, Some, None, Ok, Vec, map}
use Rattle.std.specs.List.{filter_map}
use Rattle.std.specs.declared.alloc.Global.{Global}
use Rattle.bd_about.specs.declared.unread_lines.LetNames.{LetNames}
use Rattle.bd_text.specs.Faults.{HasNoFault}
use Rattle.bd_text.specs.Grammar.{Spells}
use Rattle.bd_text.specs.Nodes.{Nodes}
use Rattle.bd_syntax.specs.Forms.{AstView, InvView, ItemView, let_item}
use Rattle.bd_syntax.specs.Reading.{invariant_form, machine_form}
use Rattle.bd_syntax.specs.declared.ast.Kind.{Kind}
use Rattle.bd_syntax.specs.declared.ast.Kind.TheVariants.{Pipeline, Specification}
use Rattle.bd_show.specs.Files.{Texts}

abbrev pub let_name : ItemView → Option (List ℕ)
let_name (let_item offset name sort value) = Some name.text
let_name _ = None

abbrev pub let_names : List ItemView → List (List ℕ)
let_names items = filter_map let_name items

abbrev pub texts_of : List (Vec ℕ Global) → List (List ℕ)
texts_of names = map (λ (name : Vec ℕ Global). name.items) names

-- the text is one of a machine of this kind
pub record IsMachineText (kind : Kind) (bytes : List ℕ) : Type 0 where
  pub no_fault : HasNoFault bytes
  pub trees : Nodes
  pub spelled : Spells bytes trees
  pub ast : AstView
  pub read : machine_form kind trees ≡ Ok ast

-- and of an invariant
pub record IsInvariantText (bytes : List ℕ) : Type 0 where
  pub no_fault : HasNoFault bytes
  pub trees : Nodes
  pub spelled : Spells bytes trees
  pub ast : InvView
  pub read : invariant_form (codes "invariant") trees ≡ Ok ast

abbrev pub IsInvariantTextIf : Option (List ℕ) → Type 0
IsInvariantTextIf None = Unit {0}
IsInvariantTextIf (Some bytes) = IsInvariantText bytes

-- the texts of a design can be read once more
pub record AreReadable (texts : Texts) : Type 0 where
  pub pipe : IsMachineText Pipeline texts.pipe
  pub spec : IsMachineText Specification texts.spec
  pub inv : IsInvariantTextIf texts.inv

-- these are the names of the lets in a machine's text
pub record AreMachineLets (kind : Kind) (bytes : List ℕ) (names : List (Vec ℕ Global)) :
    Type 0 where
  pub trees : Nodes
  pub spelled : Spells bytes trees
  pub ast : AstView
  pub read : machine_form kind trees ≡ Ok ast
  pub named : texts_of names ≡ let_names ast.items

-- and in an invariant's
pub record AreInvariantLets (bytes : List ℕ) (names : List (Vec ℕ Global)) : Type 0 where
  pub trees : Nodes
  pub spelled : Spells bytes trees
  pub ast : InvView
  pub read : invariant_form (codes "invariant") trees ≡ Ok ast
  pub named : texts_of names ≡ let_names ast.items

abbrev pub AreGivenLets : Option (List ℕ) → List (Vec ℕ Global) → Type 0
AreGivenLets None names = names ≡ []
AreGivenLets (Some bytes) names = AreInvariantLets bytes names

-- the names of all lets in a design's texts
pub record AreLetNames (texts : Texts) (names : LetNames) : Type 0 where
  pub lets : AreMachineLets Pipeline texts.pipe names.lets.now
  pub spec_lets : AreMachineLets Specification texts.spec names.spec_lets.now
  pub inv_lets : AreGivenLets texts.inv names.inv_lets.now
