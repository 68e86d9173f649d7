-- Trails as cases: a design in which each input stands once for each cycle (unrolling: Biere, Cimatti, Clarke and Zhu
-- 1999), and what is asked of a design where its symbols alone count.
use Rattle.std.specs.Prelude.{◌≢◌, ℕ, zero, suc, List, [], ◌∷◌, ◌++◌, drop, flat_map, take}
use Rattle.std.specs.List.{AllByRecursion}
use Rattle.bd_model.specs.DesignView.{DesignView, PortView}
use Rattle.bd_model.specs.Lawful.{IsLawfulGroup}
use Rattle.bd_model.specs.declared.case.Case.{Case}
use Rattle.bd_model.specs.declared.case.Trail.{Trail}
use Rattle.bd_model.specs.declared.design.Sort.TheVariants as sort

-- a list so many times, one after another
abbrev pub repeated : {X : Type 0} → ℕ → List X → List X
repeated zero xs = []
repeated (suc n) xs = xs ++ repeated n xs

-- the design with its inputs so many times: input i of q inputs in cycle t, from 0, has the number t * q + i
abbrev pub widened : DesignView → ℕ → DesignView
widened d cycles = record d { pipe = record (d.pipe) { ports = repeated cycles d.pipe.ports } }

-- a trail as a case of the widened design: the inputs of its cycles one after another
abbrev pub case_of_trail : Trail → Case
case_of_trail t =
    record { interp = t.interp; state = t.state; inputs = flat_map (λ inputs. inputs) t.inputs }

-- the first so many lists of a width
abbrev pub cut : {X : Type 0} → ℕ → ℕ → List X → List (List X)
cut zero width xs = []
cut (suc n) width xs = take width xs ∷ cut n width (drop width xs)

-- a case of the widened design as a trail: its inputs cut into those of each cycle, of so many inputs
abbrev pub trail_of : ℕ → ℕ → Case → Trail
trail_of cycles width c =
    record { interp = c.interp; state = c.state; inputs = cut cycles width c.inputs }

-- no input is a memory, and the constants of each group are different ones
pub record HasLawfulSymbols (d : DesignView) : Type 0 where
  pub inputs : AllByRecursion (λ (p : PortView). p.sort ≢ sort.Memory) d.pipe.ports
  pub distinct : AllByRecursion (IsLawfulGroup d) d.distinct
