-- What is written lays its tree out, so it reads back.
use Rattle.std.proofs.Common.{◌≡◌, ℕ, zero, suc, List, [], ◌∷◌, get_or, refl, inl, sym, subst, arith}
use Rattle.std.proofs.lemmas.List.{append-nil}
use Rattle.std.proofs.lemmas.List.Elements.{All-nil, All-cons}
use Rattle.bd_text.specs.Layout.{IsSeparator, IsAtomByte}
use Rattle.bd_text.specs.Grammar.{Spells}
use Rattle.bd_text.specs.Faults.{HasNoFault}
use Rattle.bd_text.specs.Nodes.{Node, atom, list, Nodes, no_nodes, node}
use Rattle.bd_text.specs.Written.{written, written_parts, written_rest, LaysOut, LayOut, HasPlainAtoms, HavePlainAtoms, IsReadable, without_offsets, all_without_offsets}
use Rattle.bd_text.proofs.LaidOutReads.{laid_reads}

zero_no_atom : ¬ IsAtomByte 0
zero_no_atom h = absurd (omega (arith, h.0))

space_no_atom : ¬ IsAtomByte 32
space_no_atom h = absurd (omega (arith, h.0))

rest_begins : (ts : Nodes) → ¬ IsAtomByte (get_or (written_rest ts) 0 0)
rest_begins no_nodes = zero_no_atom
rest_begins (node t ts) = space_no_atom

mutual
  pub written_laid : (t : Node) → HasPlainAtoms t → LaysOut t (written t)
  written_laid (atom o text) w = (refl, w.0, w.1)
  written_laid (list o parts) w = (written_parts parts, refl, written_parts_laid parts w)

  pub written_parts_laid : (ts : Nodes) → HavePlainAtoms ts → LayOut ts (written_parts ts)
  written_parts_laid no_nodes w = All-nil IsSeparator
  written_parts_laid (node t ts) w =
      ([], written t, written_rest ts, refl, All-nil IsSeparator, written_laid t w.0, written_rest_laid ts w.1, rest_begins ts)

  pub written_rest_laid : (ts : Nodes) → HavePlainAtoms ts → LayOut ts (written_rest ts)
  written_rest_laid no_nodes w = All-nil IsSeparator
  written_rest_laid (node t ts) w = (
    32 ∷ [],
    written t,
    written_rest ts,
    refl,
    All-cons IsSeparator 32 [] (inl refl) (All-nil IsSeparator),
    written_laid t w.0,
    written_rest_laid ts w.1,
    rest_begins ts,
  )

one_tree : (t : Node) (us : Nodes) → all_without_offsets us ≡ node (without_offsets t) no_nodes → (u : Node) × (us ≡ node u no_nodes) × (without_offsets u ≡ without_offsets t)
one_tree t no_nodes e = absurd (cc)
one_tree t (node u no_nodes) e = (u, refl, cc)
one_tree t (node u (node v vs)) e = absurd (cc)

pub written_reads : (t : Node) → IsReadable t → HasNoFault (written t) × ((u : Node) × Spells (written t) (node u no_nodes) × (without_offsets u ≡ without_offsets t))
written_reads t h =
    let laid : LayOut (node t no_nodes) (written t) = ([], written t, [], sym (append-nil (written t)), All-nil IsSeparator, written_laid t h.0, All-nil IsSeparator, zero_no_atom) in
    let read = laid_reads (node t no_nodes) (written t) laid (omega (arith, h.1)) in
    let us = read.1.0 in
    let one = one_tree t us read.1.2 in
    (read.0, (one.0, subst (λ v. Spells (written t) v) one.1 read.1.1, one.2))

-- what is still to be written of the parts from an index on
abbrev pub written_from : ℕ → Nodes → List ℕ
written_from zero ts = written_parts ts
written_from (suc i) ts = written_rest ts
