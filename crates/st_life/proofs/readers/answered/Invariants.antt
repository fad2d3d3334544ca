use Rattle.std.proofs.Common.{◌≡◌, ◌+◌, ◌≤◌, ◌++◌, map, length, vec_len, vec_capacity}
use Rattle.std.specs.Vec.Iter.{into_iter_items, into_iter_len}
use Rattle.st_model.specs.Schedule.{answered_by}
use Rattle.st_life.specs.Waiting.{session_of}
use Rattle.st_life.proofs.readers.answered.Given as goal

-- with those of the sessions that are left, the answers are those of all; and there is room for them
abbrev pub invariant-loop-one : goal.invariant-loop-one
invariant-loop-one l =
    (goal.iterator-loop-one).can_next l.one-iterator ×
    (goal.iterator-loop-one).is_finite l.one-iterator ×
    (l.answers.items ++ map answered_by (map session_of (into_iter_items l.one-iterator)) ≡ map answered_by (map session_of l.fn.asked.items)) ×
    (into_iter_len l.one-iterator ≡ length (into_iter_items l.one-iterator)) ×
    (vec_len l.answers + length (into_iter_items l.one-iterator) ≤ vec_capacity l.answers)
