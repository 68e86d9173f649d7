use Rattle.bd_picture.proofs.Pages.{page_made}
use Rattle.bd_picture.proofs.page.page_of.Goals as goal

pub returns : goal.returns
returns c =
    page_made _ _ _ _ _ _ _ _ _ c.in_ok-page.ensures.items c.in_ok-extend_from_slice.ensures.items c.in_ok-extend_from_slice-2.ensures.items
    (rw c.as_slice.ensures.value at c.in_ok-extend_from_slice-3.ensures.items) c.in_ok-extend_from_slice-4.ensures.items c.in_ok-extend_from_slice-5.ensures.items
