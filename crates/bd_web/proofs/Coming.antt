-- What comes back of a run on what is handed in.
use Rattle.std.proofs.Common.{◌≡◌, ℕ, List, [], Some, None, subst}
use Rattle.bd_app.specs.Meaning.{FilesSeen}
use Rattle.bd_app.specs.Program.{SinkSeen}
use Rattle.bd_files.specs.Devices.{FaultRecord}
use Rattle.bd_files.specs.Page.{PageState, new_page}
use Rattle.bd_files.specs.Shelf.{File, bytes_of}
use Rattle.bd_web.specs.Folder.{FolderState}
use Rattle.bd_web.specs.Handed.{AreHanded}
use Rattle.bd_web.specs.Ran.{Ends, empty, given}
use Rattle.bd_web.specs.inner.Laid.{HasCome, IsLaidRun}
use Rattle.bd_web.proofs.Endings.{right}

-- a folder and a page as a run sees them
abbrev pub folder_seen : List File → FaultRecord → FilesSeen
folder_seen files faults = record { held = Some (bytes_of files); faults = faults.count; blame = faults.blame; calls = None }

abbrev pub page_seen : PageState → SinkSeen
page_seen page = record { written = Some page.written; faults = page.faults; puts = page.next }

-- a run that began on a folder without faults and on empty pages
pub begins : (words : List (List ℕ)) (status : ℕ) (folder : FolderState) (out err : PageState) (left : FilesSeen) (out' err' : SinkSeen) (room room' : ℕ) → folder.faults ≡ record { count = 0; blame = None } → out ≡ new_page room [] → err ≡ new_page room' [] → Ends words status (folder_seen folder.files folder.faults) left (page_seen out) out' (page_seen err) err' → Ends words status (given folder.files) left empty out' empty err'
begins words status folder out err left out' err' room room' none new new' ends =
    subst (λ (faults : FaultRecord). Ends words status (folder_seen folder.files faults) left empty out' empty err') none
    (subst (λ (page : PageState). Ends words status (folder_seen folder.files folder.faults) left (page_seen page) out' empty err') new
    (subst (λ (page : PageState). Ends words status (folder_seen folder.files folder.faults) left (page_seen out) out' (page_seen page) err') new' ends))

-- a run that is laid out, on what is handed in
pub comes : (bytes lengths : List ℕ) (count status : ℕ) (words : List (List ℕ)) (files : List File) (back back_lengths : List ℕ) → AreHanded bytes lengths count words files → IsLaidRun words files status back back_lengths → HasCome bytes lengths count status back back_lengths
comes bytes lengths count status words files back back_lengths handed laid = record {
  parts = laid.parts;
  runs = record {
    words = words;
    files = files;
    handed = handed;
    run = laid.run;
    right = λ q program asks zero. right words status (given files) laid.run.left empty laid.run.out empty laid.run.err laid.run.ends q program asks zero;
  };
  laid = laid.laid;
}
