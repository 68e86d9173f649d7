-- A page that stands alone.
-- Source: the HTML Living Standard, of a document's type and its title.
use Rattle.std.specs.Prelude.{◌≡◌, ℕ, List, ◌++◌, codes}

-- a document of HTML with this title; what stands before the title and after it is free
pub record IsPage (title page : List ℕ) : Type 0 where
  pub head : List ℕ
  pub body : List ℕ
  pub whole : page ≡ codes "<!DOCTYPE html>\n" ++ head
      ++ codes "<title>" ++ title ++ codes "</title>\n" ++ body
