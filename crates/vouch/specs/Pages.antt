-- A page is its kind and its payload: two pages are compared outright, kind, length and every byte.
use Rattle.std.specs.Prelude.{List, ℕ, ◌≤◌, take, replicate}
use Rattle.layout.specs.Value.{padded}
use Rattle.client.specs.declared.Page.{Page}
use Rattle.client.specs.declared.state.Job.{Job}
use Rattle.client.specs.Message.{page_limit}

-- data: kind 1, the first n bytes of bs, and blank past them
abbrev pub data_page : ℕ → List ℕ → Page
data_page n bs = record { kind = 1; len = n; bytes = padded page_limit 0 (take n bs) }

-- junk: kind 2, and no bytes
abbrev pub junk_page : Page
junk_page = record { kind = 2; len = 0; bytes = replicate page_limit 0 }

-- the page of an append: the first len bytes of its job
abbrev pub job_page : Job → Page
job_page j = data_page j.len j.bytes

-- all pages of a yard whose units hold so many bytes at a position
pub data IsPage (cap : ℕ) : Page → Type 0 where
  is_data : (n : ℕ) (bs : List ℕ) → n ≤ cap → IsPage cap (data_page n bs)
  is_junk : IsPage cap junk_page
