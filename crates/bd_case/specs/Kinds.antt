-- What a case or a trail has an entry for, and how it is given. Both as text are this project's own; an interpretation, a
-- state and inputs are what Burch and Dill (1994) quantify over.
use Rattle.std.specs.Prelude.{◌==◌, ℕ, ◌+◌, Bool, true, false, List, [], ◌∷◌, ◌++◌, map, Option, codes, nat_eq, nat_le, find, if◌then◌else◌}
use Rattle.std.specs.List.{list_any}
use Rattle.bd_syntax.specs.Words.{same_text}
use Rattle.bd_model.specs.DesignView.{DesignView, PortView}
use Rattle.bd_model.specs.Fits.{result_sort}
use Rattle.bd_model.specs.declared.design.Sort.{Sort}
use Rattle.bd_model.specs.declared.design.Sort.TheVariants as sort
use Rattle.bd_model.specs.declared.design.Symbol.{Symbol}
use Rattle.bd_model.specs.declared.design.Entry.{Entry}
use Rattle.bd_case.specs.declared.kind.Subject.{Subject}
use Rattle.bd_case.specs.declared.kind.Subject.TheVariants as subjects
use Rattle.bd_case.specs.declared.kind.Version.{Version}
use Rattle.bd_case.specs.declared.kind.Version.TheVariants.{One, Two}
use Rattle.bd_case.specs.declared.kind.EntryHead.{EntryHead}
use Rattle.bd_case.specs.declared.kind.EntryHead.TheVariants.{Function, Predicate, Constant, Memory, Latch, Input}
use Rattle.bd_case.specs.declared.kind.EntryKind.{EntryKind}

-- what the text of a case begins with, and that of a trail
abbrev pub subject_text : Subject → List ℕ
subject_text subjects.Case = codes "case"
subject_text subjects.Trail = codes "trail"

abbrev pub head_text : EntryHead → List ℕ
head_text Function = codes "function"
head_text Predicate = codes "predicate"
head_text Constant = codes "constant"
head_text Memory = codes "memory"
head_text Latch = codes "latch"
head_text Input = codes "input"

-- the heads of a version
abbrev pub heads_of : Version → List EntryHead
heads_of One = Function ∷ Predicate ∷ Memory ∷ Latch ∷ Input ∷ []
heads_of Two = Constant ∷ Function ∷ Predicate ∷ Memory ∷ Latch ∷ Input ∷ []

-- the head that a text is
unfoldable pub head_of : Version → List ℕ → Option EntryHead
head_of version text = find (λ head. same_text text (head_text head)) (heads_of version)

-- how many parts follow it over so many cycles: (function NAME DEFAULT ROW ..), (predicate NAME DEFAULT ROW ..),
-- (constant NAME VALUE), (memory NAME DEFAULT ROW ..), (latch NAME VALUE), (input NAME VALUE ..)
abbrev pub head_takes : ℕ → EntryHead → ℕ → Bool
head_takes cycles Function parts = nat_le 2 parts
head_takes cycles Predicate parts = nat_le 2 parts
head_takes cycles Constant parts = parts == 2
head_takes cycles Memory parts = nat_le 2 parts
head_takes cycles Latch parts = parts == 2
head_takes cycles Input parts = parts == cycles + 1

abbrev pub is_input : EntryHead → Bool
is_input Input = true
is_input _ = false

-- whether a case may have no entry for it
abbrev pub may_lack : EntryHead → Bool
may_lack Function = true
may_lack Predicate = true
may_lack _ = false

-- the version in which the cases of a design are written
abbrev pub version_of : List (List ℕ) → Version
version_of [] = One
version_of (group ∷ groups) = Two

-- whether a symbol is a constant that is kept apart from others
abbrev pub is_apart : List (List ℕ) → ℕ → Bool
is_apart distinct f = list_any (λ group. list_any (nat_eq f) group) distinct

abbrev pub symbol_head : Version → Bool → Bool → EntryHead
symbol_head Two true predicate = Constant
symbol_head One true predicate = if predicate then Predicate else Function
symbol_head version false predicate = if predicate then Predicate else Function

abbrev pub symbol_kind : Version → Bool → Symbol → EntryKind
symbol_kind version apart y = record {
  head = symbol_head version apart y.predicate;
  sort = result_sort y;
  arity = y.arity;
  apart = apart;
}

-- the symbols from this number on
abbrev pub symbol_kinds : Version → List (List ℕ) → ℕ → List Symbol → List EntryKind
symbol_kinds version distinct f [] = []
symbol_kinds version distinct f (y ∷ ys) =
    symbol_kind version (is_apart distinct f) y ∷ symbol_kinds version distinct (f + 1) ys

-- a memory is a table of one address
abbrev pub sort_kind : Sort → EntryKind
sort_kind sort.Memory = record { head = Memory; sort = sort.Word; arity = 1; apart = false }
sort_kind s = record { head = Latch; sort = s; arity = 0; apart = false }

abbrev pub entry_kind : Entry → EntryKind
entry_kind e = sort_kind e.sort

abbrev pub input_kind : Sort → EntryKind
input_kind s = record { head = Input; sort = s; arity = 0; apart = false }

-- everything that a case or a trail gives, in the order of its text, as all_names names it: functions and predicates, latches
-- and memories, inputs
abbrev pub kinds : Version → DesignView → List EntryKind
kinds version d =
    (symbol_kinds version d.distinct 0 d.symbols ++ map entry_kind d.pipe.entries)
    ++ map (λ (p : PortView). input_kind p.sort) d.pipe.ports
