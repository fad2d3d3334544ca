-- What a request is told in a state.
use Rattle.std.specs.Prelude.{ℕ, not, ◌&&◌, nat_lt, List, Option, Some, None, if◌then◌else◌}
use Rattle.std.specs.List.{find}
use Rattle.std.specs.Option.{option_map}
use Rattle.st_key.specs.Spans.{Span, key_less}
use Rattle.st_key.specs.Parts.{greatest}
use Rattle.st_mutation.specs.declared.batch.Batch.{Batch}
use Rattle.st_fold.specs.declared.request.Ask.{Ask}
use Rattle.st_fold.specs.declared.request.Answer.{Answer}
use Rattle.st_fold.specs.Map.{folded}
use Rattle.st_fold.specs.Reading.{version_of, span_of, plain}
use Rattle.st_model.specs.declared.piece.Piece.{Piece}
use Rattle.st_model.specs.Pieces.{is_readable}
use Rattle.st_model.specs.State.{State}

pub data Reply : Type 0 where
  -- the version is below the oldest, which is told
  too_old : ℕ → Reply
  -- the version is above the newest, which is told
  not_yet : ℕ → Reply
  -- this key of those that are asked for isn't served
  wrong_shard : List ℕ → Reply
  -- what is found
  found : Answer → Reply

-- the least key of the span that lies in no readable piece. The pieces stand in key order
abbrev pub first_unreadable : List Piece → Span → Option (List ℕ)
first_unreadable pieces span =
    option_map (λ piece. greatest piece.begin span.begin)
    (find (λ piece. not (is_readable piece.phase) && key_less piece.begin span.end && key_less span.begin piece.end) pieces)

-- what is found, unless a key isn't served
abbrev pub reply_unless : Option (List ℕ) → Answer → Reply
reply_unless (Some key) answer = wrong_shard key
reply_unless None answer = found answer

-- the reply in a state: the version is judged first, and then the keys
abbrev pub reply : List Batch → State → Ask → Reply
reply log state ask =
    if nat_lt (version_of ask) state.oldest then too_old state.oldest
    else (if nat_lt state.newest (version_of ask) then not_yet state.newest
    else reply_unless (first_unreadable state.pieces (span_of ask)) (plain (folded log (version_of ask)) ask))
