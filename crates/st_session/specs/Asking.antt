-- A request that is polled.
use Rattle.std.specs.Prelude.{◌≡◌, ◌≤◌, ℕ, false, List, length}
use Rattle.st_fold.specs.declared.request.Ask.{Ask}
use Rattle.st_fold.specs.declared.request.Ask.TheVariants.{Get, Rows, Select, Watch}
use Rattle.st_fold.specs.declared.request.Request.{Request}
use Rattle.st_fold.specs.Reading.{is_watch, span_of}
use Rattle.st_key.specs.Spans.{all_keys, key_less}

-- a request, the number of polls that it is given, and the places of those that were made
pub record Asking : Type 0 where
  pub request : Request
  pub patience : ℕ
  pub places : List ℕ

-- only keys of users are looked at
abbrev pub IsOfUsers : Ask → Type 0
IsOfUsers ask = key_less all_keys.end (span_of ask).end ≡ false

-- the key of a request that looks at one key has at most 10,000 bytes
abbrev pub HasShortKey : Ask → Type 0
HasShortKey (Get key version) = length key ≤ 10000
HasShortKey (Rows range rows bytes backward version) = Unit {0}
HasShortKey (Select key or_equal offset range version) = Unit {0}
HasShortKey (Watch key value) = length key ≤ 10000

-- a session: its request asks for a version of users' keys, and it is given a poll
pub record IsAsking (asking : Asking) : Type 0 where
  pub patient : 1 ≤ asking.patience
  pub versioned : is_watch asking.request.ask ≡ false
  pub users : IsOfUsers asking.request.ask
