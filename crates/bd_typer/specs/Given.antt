-- Files as reading their forms gives them: what joining asks of what it is handed. The language is this project's
-- own.
use Rattle.std.specs.Prelude.{◌≡◌}
use Rattle.bd_syntax.specs.Completion.{CompView, IsCompAst, IsLimitedCompAst}
use Rattle.bd_syntax.specs.Forms.{AstView, InvView}
use Rattle.bd_syntax.specs.WellFormed.{IsAst, AreLimited, IsInvAst, IsLimitedInvAst}
use Rattle.bd_syntax.specs.declared.ast.Kind.{Kind}

-- a machine file of this kind, without a fault of form and within the limits
pub record IsMachineFile (kind : Kind) (ast : AstView) : Type 0 where
  pub kind-is : ast.kind ≡ kind
  pub formed : IsAst ast
  pub limited : AreLimited ast.items

-- a completion file without a fault of form and within the limits
pub record IsCompFile (ast : CompView) : Type 0 where
  pub formed : IsCompAst ast
  pub limited : IsLimitedCompAst ast

-- an invariant file without a fault of form and within the limits
pub record IsInvFile (ast : InvView) : Type 0 where
  pub formed : IsInvAst ast
  pub limited : IsLimitedInvAst ast
