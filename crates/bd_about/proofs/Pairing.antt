-- Symbols and pairs of symbols that compare as equal.
use Rattle.std.proofs.Common.{◌≡◌, Bool, true, false, cond, refl}
use Rattle.std.specs.Prelude.{◌&&◌, ◌||◌}
use Rattle.bd_terms.specs.contracts.node.SymPartialEq.TheImpl.{eq-value}
use Rattle.bd_terms.specs.declared.node.Sym.{Sym}
use Rattle.bd_terms.specs.declared.node.Sym.TheVariants.{Function, Entry, Input, Address, Var}
use Rattle.bd_function.specs.Tables.{is_symbol}
use Rattle.bd_about.specs.contracts.compared.SymbolPairPartialEq.TheImpl.{eq-value as pair_eq-value}
use Rattle.bd_about.specs.declared.compared.SymbolPair.{SymbolPair}
use Rattle.bd_about.specs.inner.Paired.{is_pair}

sym_eq-is : (a b : Sym) → eq-value.it a b ≡ is_symbol a b
sym_eq-is (Function x) (Function y) = refl
sym_eq-is (Function x) (Entry y) = refl
sym_eq-is (Function x) (Input y) = refl
sym_eq-is (Function x) (Address y) = refl
sym_eq-is (Function x) (Var y) = refl
sym_eq-is (Entry x) (Function y) = refl
sym_eq-is (Entry x) (Entry y) = refl
sym_eq-is (Entry x) (Input y) = refl
sym_eq-is (Entry x) (Address y) = refl
sym_eq-is (Entry x) (Var y) = refl
sym_eq-is (Input x) (Function y) = refl
sym_eq-is (Input x) (Entry y) = refl
sym_eq-is (Input x) (Input y) = refl
sym_eq-is (Input x) (Address y) = refl
sym_eq-is (Input x) (Var y) = refl
sym_eq-is (Address x) (Function y) = refl
sym_eq-is (Address x) (Entry y) = refl
sym_eq-is (Address x) (Input y) = refl
sym_eq-is (Address x) (Address y) = refl
sym_eq-is (Address x) (Var y) = refl
sym_eq-is (Var x) (Function y) = refl
sym_eq-is (Var x) (Entry y) = refl
sym_eq-is (Var x) (Input y) = refl
sym_eq-is (Var x) (Address y) = refl
sym_eq-is (Var x) (Var y) = refl

abbrev pub pair_eq : SymbolPair → SymbolPair → Bool
pair_eq = pair_eq-value.it

-- the derived `==` of pairs
pub pair_eq-is : (p q : SymbolPair) → pair_eq p q ≡ is_pair p.one p.other q
pair_eq-is p q = λ i. sym_eq-is p.one q.one i && sym_eq-is p.other q.other i

-- a test that was found, or another
pub or_by : (a b : Bool) → cond a true b ≡ (a || b)
or_by true b = refl
or_by false b = refl

-- tests in another order
pub or_between : (a b c : Bool) → ((a || b) || c) ≡ (b || (a || c))
or_between true true c = refl
or_between true false c = refl
or_between false b c = refl
