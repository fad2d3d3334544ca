-- How many calls a commit makes.
use Rattle.std.proofs.Common.{◌≡◌, ◌≤◌, ℕ, Bool, true, false, if◌then◌else◌, List, [], ◌∷◌, ◌++◌, length, Option, Some, None, IfOk, IfErr, refl, arith}
use Rattle.st_disk.specs.History.{Files, of_file}
use Rattle.st_disk.specs.Recorded.{Call}
use Rattle.st_engine.specs.Commit.{Done, Past, begin_calls, commit_calls, commit_of, count_of, frame_place, outcome, past_end, past_number, payload_of}
use Rattle.st_engine.specs.Store.{Bounds, Kept}
use Rattle.st_ops.specs.declared.op.Op.{Op}
use Rattle.st_queue.specs.Due.{due_of}
use Rattle.st_queue.specs.Place.{current, is_unshut, next_file, next_generation, next_number}
use Rattle.st_queue.specs.Writing.{append_calls, enter_calls, header_bytes, put_calls}
use Rattle.st_queue.specs.declared.place.Place.{Place}

pub count-exact : (due : Bool) (place : Option Place) (payload : List ℕ) (files : Files) → length (commit_calls due place payload files) ≡ count_of due (is_unshut (of_file (next_file place) files))
count-exact due place payload files = by_test due (is_unshut (of_file (next_file place) files))
  where
    by_test : (due unshut : Bool)
        → length ((if due then ((if unshut then put_calls (next_file place) 0 (0 ∷ []) else []) ++ put_calls (next_file place) 1 (header_bytes (next_generation place) (next_number place))) ++ enter_calls (next_file place) else [])
        ++ append_calls (frame_place due place) payload) ≡ count_of due unshut
    by_test true true = refl
    by_test true false = refl
    by_test false unshut = refl

count-begun : (due : Bool) (place : Option Place) (files : Files) → length (begin_calls due place files) ≤ 6
count-begun due place files = by_test due (is_unshut (of_file (next_file place) files))
  where
    by_test : (due unshut : Bool)
        → length (if due then ((if unshut then put_calls (next_file place) 0 (0 ∷ []) else []) ++ put_calls (next_file place) 1 (header_bytes (next_generation place) (next_number place))) ++ enter_calls (next_file place) else []) ≤ 6
    by_test true true = omega arith
    by_test true false = omega arith
    by_test false unshut = omega arith

count-bounds : (n : ℕ) (due unshut : Bool) → n ≡ count_of due unshut → (4 ≤ n) × (n ≤ 10)
count-bounds n true true is = (omega (arith, is), omega (arith, is))
count-bounds n true false is = (omega (arith, is), omega (arith, is))
count-bounds n false unshut is = (omega (arith, is), omega (arith, is))

of-done : (P : Done → Type 0) (number end : Option Past) (begun : List Call) (done : Done) → P done → IfOk (outcome number end begun done) P
of-done P (Some past) end begun done is = tt
of-done P None (Some past) begun done is = tt
of-done P None None begun done is = is

of-refused : (number end : Option Past) (begun : List Call) (done : Done) → length begun ≤ 6 → IfErr (outcome number end begun done) (λ refused. length refused.calls ≤ 6)
of-refused (Some past) end begun done few = omega arith
of-refused None (Some past) begun done few = few
of-refused None None begun done few = tt

module _ (bounds : Bounds) (kept : Kept) (ops : List Op) where
  abbrev due : Bool
  due = due_of bounds.swap kept.store.discarded kept.files

  abbrev place : Option Place
  place = current kept.files

  abbrev payload : List ℕ
  payload = payload_of bounds.quota kept.store ops

  pub count-done : IfOk (commit_of bounds kept ops) (λ done. (4 ≤ length done.calls) × (length done.calls ≤ 10))
  count-done = of-done (λ done. (4 ≤ length done.calls) × (length done.calls ≤ 10)) (past_number due place) (past_end bounds.limit (frame_place due place) payload) (begin_calls due place kept.files) _
      (count-bounds (length (commit_calls due place payload kept.files)) due (is_unshut (of_file (next_file place) kept.files)) (count-exact due place payload kept.files))

  pub count-refused : IfErr (commit_of bounds kept ops) (λ refused. length refused.calls ≤ 6)
  count-refused = of-refused (past_number due place) (past_end bounds.limit (frame_place due place) payload) (begin_calls due place kept.files) _ (count-begun due place kept.files)
