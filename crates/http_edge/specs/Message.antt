-- A message, and the head that bytes begin with.
use Rattle.std.specs.Prelude.{ℕ, ◌≤◌, List, length}
use Rattle.httparse.specs.Grammar.{RequestHead, print_request, ReadsRequest}
use Rattle.http_edge.specs.declared.limits.TheConstants.{MAX_FIELDS, MAX_HEAD}

-- a field's name and its value
abbrev pub Header : Type 0
Header = List ℕ × List ℕ

-- a request as a plain value
pub record Message : Type 0 where
  pub method : List ℕ
  pub target : List ℕ
  pub headers : List Header
  pub body : List ℕ

-- buf is a head within the limits and then after
pub record IsHeadAt (buf : List ℕ) (head : RequestHead) (after : List ℕ) : Type 0 where
  pub reads : ReadsRequest buf head after
  pub few : length head.fields ≤ MAX_FIELDS
  pub short : length (print_request head) ≤ MAX_HEAD
