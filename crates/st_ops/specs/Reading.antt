-- What bytes are read as, operation by operation.
use Rattle.std.specs.Prelude.{◌≡◌, ℕ, zero, suc, ◌-◌, ◌==◌, nat_lt, if◌then◌else◌, Bool, true, false, List, [], ◌∷◌, length, take, drop, Option, Some, None, Result, Ok, Err, option_and_then}
use Rattle.std.specs.Option.{option_map, option_map_or}
use Rattle.std.specs.Result.{result_map_both}
use Rattle.std.specs.Global.{Vec}
use Rattle.st_num.specs.Number.{number_at}
use Rattle.st_ops.specs.declared.op.Op.{Op}
use Rattle.st_ops.specs.declared.op.Op.TheVariants.{Set, Clear, SnapItem, SnapEnd, Commit}
use Rattle.st_ops.specs.declared.op.OpsRefusal.{OpsRefusal}
use Rattle.st_ops.specs.declared.op.OpsRefusal.TheVariants as why
use Rattle.st_ops.specs.declared.stage.Stage.{Stage}
use Rattle.st_ops.specs.declared.stage.Stage.TheVariants.{Changes, Items, Ended, Done}
use Rattle.st_ops.specs.Grammar.{less}

infixl 10 ◌>>=◌
abbrev pub ◌>>=◌ : {A B : Type 0} → Option A → (A → Option B) → Option B
o >>= f = option_and_then f o

-- so many bytes from the front, and those behind them, where there are as many
abbrev pub cut : ℕ → List ℕ → Option (List ℕ × List ℕ)
cut len bytes = if nat_lt (length bytes) len then None else Some (take len bytes, drop len bytes)

-- two fields behind both of their lengths, and the bytes behind them, where they are whole
abbrev pub fields_at : List ℕ → Option (List ℕ × List ℕ × List ℕ)
fields_at bytes = do
  first_len ← number_at 4 bytes 0
  second_len ← number_at 4 bytes 4
  first ← cut first_len (drop 8 bytes)
  second ← cut second_len first.1
  Some (first.0, second.0, second.1)

-- an operation of two fields, and the bytes behind it
abbrev pub two_at : (List ℕ → List ℕ → Op) → List ℕ → Option (Op × List ℕ)
two_at op bytes = option_map (λ found. (op found.0 found.1, found.2)) (fields_at bytes)

-- the operation at the front, and the bytes behind it, where a whole one stands there
abbrev pub op_at : List ℕ → Option (Op × List ℕ)
op_at [] = None
op_at (tag ∷ bytes) =
    if tag == 1 then two_at Set bytes else if tag == 2 then two_at Clear bytes else if tag == 3 then two_at SnapItem bytes
    else if tag == 4 then Some (SnapEnd, bytes) else if tag == 5 then Some (Commit, bytes) else None

-- the stage behind an operation, where it may follow
abbrev pub stage_after : Stage → Op → Option Stage
stage_after Changes (Set key value) = Some Changes
stage_after Changes (Clear begin end) = if less begin end then Some Changes else None
stage_after Changes (SnapItem key value) = Some (Items key)
stage_after (Items last) (SnapItem key value) = if less last key then Some (Items key) else None
stage_after Changes SnapEnd = Some Ended
stage_after (Items last) SnapEnd = Some Ended
stage_after Changes Commit = Some Done
stage_after (Items last) Commit = Some Done
stage_after Ended Commit = Some Done
stage_after stage op = None

-- whether a payload may end at this stage
abbrev pub is_done : Stage → Bool
is_done Done = true
is_done stage = false

-- the operation at the front, the stage behind it and the bytes behind it, where it may follow
abbrev pub next_at : Stage → List ℕ → Option (Op × Stage × List ℕ)
next_at stage bytes = do
  found ← op_at bytes
  next ← stage_after stage found.0
  Some (found.0, next, found.1)

-- the operations from a stage on, at most so many; or how many bytes were left where they break the grammar, 0 where more must come
abbrev pub read_on : ℕ → Stage → List ℕ → Result (List Op) ℕ
read_on count stage [] = if is_done stage then Ok [] else Err 0
read_on zero stage (tag ∷ bytes) = Err (length (tag ∷ bytes))
read_on (suc count) stage (tag ∷ bytes) =
    option_map_or
    (λ found. result_map_both (λ ops. found.0 ∷ ops) (λ left. left) (read_on count found.1 found.2))
    (next_at stage (tag ∷ bytes)) (Err (length (tag ∷ bytes)))

-- the operations of a payload; or the place of the first tag that breaks the grammar, the number of bytes where more must come.
-- An operation has a byte at least, so there are at most as many as bytes.
abbrev pub reading : List ℕ → Result (List Op) ℕ
reading bytes = result_map_both (λ ops. ops) (λ left. length bytes - left) (read_on (length bytes) Changes bytes)

-- the answer of a call that gives this reading, but for want of memory
abbrev pub Answers : Result (Vec Op) OpsRefusal → Result (List Op) ℕ → Type 0
Answers (Ok ops) read = read ≡ Ok ops.items
Answers (Err (why.BadOps at)) read = read ≡ Err at
Answers (Err why.NoMemory) read = Unit {0}
