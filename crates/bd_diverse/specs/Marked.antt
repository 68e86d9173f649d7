-- Variables of applications (Bryant, German and Velev 2001).
use Rattle.std.specs.Prelude.{◌≡◌, ℕ, List, Contains}
use Rattle.bd_terms.specs.declared.node.Sym.{Sym}
use Rattle.bd_function.specs.declared.flat.FlatRow.{FlatRow}
use Rattle.bd_function.specs.declared.flat.FlatSym.{FlatSym}

-- the variable is that of one of these rows
pub record HasVariable (rows : List FlatRow) (var : ℕ) : Type 0 where
  pub row : FlatRow
  pub has : Contains rows row
  pub same : row.var ≡ var

-- the variable is that of a row of one of these symbols
pub record HasMarkedRow (symbols : List Sym) (syms : List FlatSym) (var : ℕ) : Type 0 where
  pub holder : FlatSym
  pub listed : Contains syms holder
  pub among : Contains symbols holder.sym
  pub row : HasVariable holder.rows var
