-- How a page is put together.
use Rattle.std.proofs.Common.{◌≡◌, ◌++◌, ℕ, List, append_assoc, codes}
use Rattle.bd_picture.specs.Page.{IsPage}

-- a document's type, what stands before the title, the title and the rest, one after another
pub page_made : (head title body page one two three four five : List ℕ) → one ≡ codes "<!DOCTYPE html>\n" → two ≡ one ++ head → three ≡ two ++ codes "<title>" → four ≡ three ++ title
    → five ≡ four ++ codes "</title>\n" → page ≡ five ++ body → IsPage title page
page_made head title body page one two three four five is1 is2 is3 is4 is5 is = record {
  head = head;
  body = body;
  whole = rw (is, is5, is4, is3, is2, is1) (simp append_assoc);
}
