-- What a page in memory does at each put.
-- Source: this project's own interface to files and sinks.
use Rattle.std.specs.Prelude.{ℕ, ◌-◌, Bool, ◌&&◌, ◌==◌, List, [], ◌++◌, length, take, min, Option, Some, None, is_none, nat_le, unwrap_or, if◌then◌else◌}
use Rattle.std.specs.List.{find}
use Rattle.std.specs.Option.{option_map}
use Rattle.bd_files.specs.Devices.{count_after}
use Rattle.bd_files.specs.Numbers.{number_after}

-- `next` is the number of the next put, and `fails` has the numbers of the puts that are to fail,
-- each with how many bytes it keeps before
pub record PageState : Type 0 where
  pub written : List ℕ
  pub room : ℕ
  pub fails : List (ℕ × ℕ)
  pub next : Option ℕ
  pub faults : ℕ

-- a page of that room, before its first put
abbrev pub new_page : ℕ → List (ℕ × ℕ) → PageState
new_page room fails = record { written = []; room = room; fails = fails; next = Some 1; faults = 0 }

-- how many bytes the put of this number keeps before it fails, if it is to fail
abbrev pub limit_of : List (ℕ × ℕ) → Option ℕ → Option ℕ
limit_of fails None = None
limit_of fails (Some number) = option_map (λ fail. fail.1) (find (λ fail. fail.0 == number) fails)

-- how many more bytes the page has room for
abbrev pub room_left : PageState → ℕ
room_left page = page.room - length page.written

-- whether the next put takes all its bytes, of which there are `count`, and succeeds
abbrev pub takes_all : PageState → ℕ → Bool
takes_all page count = is_none (limit_of page.fails page.next) && nat_le count (room_left page)

-- what the next put keeps of its bytes
abbrev pub kept_of : PageState → List ℕ → List ℕ
kept_of page bytes =
    take (min (unwrap_or (limit_of page.fails page.next) (length bytes)) (room_left page)) bytes

-- the page after a put
abbrev pub page_after : PageState → List ℕ → PageState
page_after page bytes = record page {
  written = page.written ++ kept_of page bytes;
  next = number_after page.next;
  faults = if takes_all page (length bytes) then page.faults else count_after page.faults;
}
