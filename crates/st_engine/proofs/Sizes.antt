-- How many bytes a map's items take, and that a first commit has room for all.
use Rattle.std.proofs.Common.{◌≡◌, ◌∙◌, ◌<◌, ◌≤◌, ◌+◌, ◌-◌, ℕ, Bool, true, false, cond, nat_lt, not, List, [], ◌∷◌, filter, sum_by, None, IsTrue, refl, sym, ap, subst, arith, le_refl, lt-ltb}
use Rattle.std.specs.Cmp.Lexicographic.{slice_cmp}
use Rattle.std.specs.FinMap.Entries.{by_order, put}
use Rattle.std.specs.List.{list_any}
use Rattle.std.specs.Ordering.{nat_cmp}
use Rattle.std.specs.declared.cmp.Ordering.{Ordering}
use Rattle.std.specs.declared.cmp.Ordering.TheVariants.{Less, Equal, Greater}
use Rattle.std.proofs.lemmas.Bool.{false≢true}
use Rattle.std.proofs.lemmas.List.Sums.{sum_by-cons}
use Rattle.std.proofs.lemmas.Map.Lookups.{exact_bytes}
use Rattle.st_fold.specs.Map.{Map}
use Rattle.st_key.specs.Spans.{within}
use Rattle.st_ops.specs.declared.op.Op.{Op}
use Rattle.st_ops.specs.declared.op.Op.TheVariants.{Set, Clear, SnapItem, SnapEnd, Commit}
use Rattle.st_engine.specs.Replay.{op_on, ops_on}
use Rattle.st_engine.specs.Snapshot.{is_end, item_of, items_within, room_of, size_of, sizes_of, snap, still_of}

-- how many bytes the items of these pairs take
abbrev pub sizes : Map → ℕ
sizes pairs = sum_by (λ pair. size_of (item_of pair)) pairs

sizes_cons : (pair : List ℕ × List ℕ) (pairs : Map) → sizes (pair ∷ pairs) ≡ size_of (item_of pair) + sizes pairs
sizes_cons pair pairs = sum_by-cons (λ pair. size_of (item_of pair)) pair pairs

put_less : (set one rest : ℕ) → set + (one + rest) ≤ (one + rest) + set
put_less set one rest = omega arith

put_equal : (set one rest : ℕ) → set + rest ≤ (one + rest) + set
put_equal set one rest = omega arith

put_greater : (set one rest new : ℕ) → new ≤ rest + set → one + new ≤ (one + rest) + set
put_greater set one rest new later = omega arith

-- a set adds at most its own bytes
put_sizes : (key value : List ℕ) (pairs : Map) → sizes (put (slice_cmp nat_cmp) key value pairs) ≤ sizes pairs + size_of (item_of (key, value))
put_sizes key value [] = omega arith
put_sizes key value (pair ∷ pairs) =
    subst (λ (n : ℕ). sizes (put (slice_cmp nat_cmp) key value (pair ∷ pairs)) ≤ n + size_of (item_of (key, value))) (sym (sizes_cons pair pairs))
    (by_cmp (slice_cmp nat_cmp key pair.0) refl (put_sizes key value pairs))
  where
    by_cmp : (o : Ordering) → slice_cmp nat_cmp key pair.0 ≡ o → sizes (put (slice_cmp nat_cmp) key value pairs) ≤ sizes pairs + size_of (item_of (key, value))
        → sizes (by_order o ((key, value) ∷ pair ∷ pairs) ((pair.0, value) ∷ pairs) (pair ∷ put (slice_cmp nat_cmp) key value pairs))
        ≤ (size_of (item_of pair) + sizes pairs) + size_of (item_of (key, value))
    by_cmp Less is later =
        subst (λ (n : ℕ). n ≤ (size_of (item_of pair) + sizes pairs) + size_of (item_of (key, value)))
        (sym (sizes_cons (key, value) (pair ∷ pairs) ∙ ap (λ (n : ℕ). size_of (item_of (key, value)) + n) (sizes_cons pair pairs)))
        (put_less (size_of (item_of (key, value))) (size_of (item_of pair)) (sizes pairs))
    by_cmp Equal is later =
        subst (λ (n : ℕ). n ≤ (size_of (item_of pair) + sizes pairs) + size_of (item_of (key, value)))
        (sym (sizes_cons (pair.0, value) pairs ∙ ap (λ (k : List ℕ). size_of (item_of (k, value)) + sizes pairs) (sym (exact_bytes key pair.0 is))))
        (put_equal (size_of (item_of (key, value))) (size_of (item_of pair)) (sizes pairs))
    by_cmp Greater is later =
        subst (λ (n : ℕ). n ≤ (size_of (item_of pair) + sizes pairs) + size_of (item_of (key, value)))
        (sym (sizes_cons pair (put (slice_cmp nat_cmp) key value pairs)))
        (put_greater (size_of (item_of (key, value))) (size_of (item_of pair)) (sizes pairs) (sizes (put (slice_cmp nat_cmp) key value pairs)) later)

keep_one : (one rest new : ℕ) → new ≤ rest → one + new ≤ one + rest
keep_one one rest new later = omega arith

drop_one : (one rest new : ℕ) → new ≤ rest → new ≤ one + rest
drop_one one rest new later = omega arith

-- a filter only takes away
filter_sizes : (test : (List ℕ × List ℕ) → Bool) (pairs : Map) → sizes (filter test pairs) ≤ sizes pairs
filter_sizes test [] = omega arith
filter_sizes test (pair ∷ pairs) =
    subst (λ (n : ℕ). sizes (filter test (pair ∷ pairs)) ≤ n) (sym (sizes_cons pair pairs)) (by_test (test pair) (filter_sizes test pairs))
  where
    by_test : (b : Bool) → sizes (filter test pairs) ≤ sizes pairs → sizes (cond b (pair ∷ filter test pairs) (filter test pairs)) ≤ size_of (item_of pair) + sizes pairs
    by_test true later =
        subst (λ (n : ℕ). n ≤ size_of (item_of pair) + sizes pairs) (sym (sizes_cons pair (filter test pairs)))
        (keep_one (size_of (item_of pair)) (sizes pairs) (sizes (filter test pairs)) later)
    by_test false later = drop_one (size_of (item_of pair)) (sizes pairs) (sizes (filter test pairs)) later

add_any : (new old more : ℕ) → new ≤ old → new ≤ old + more
add_any new old more le = omega arith

op_sizes : (pairs : Map) (op : Op) → sizes (op_on pairs op) ≤ sizes pairs + size_of op
op_sizes pairs (Set key value) = put_sizes key value pairs
op_sizes pairs (Clear begin end) =
    let keeps : (List ℕ × List ℕ) → Bool = λ pair. not (within (record { begin = begin; end = end }) pair.0) in
    add_any (sizes (filter keeps pairs)) (sizes pairs) (size_of (Clear begin end)) (filter_sizes keeps pairs)
op_sizes pairs (SnapItem key value) = add_any (sizes pairs) (sizes pairs) (size_of (SnapItem key value)) (le_refl (sizes pairs))
op_sizes pairs SnapEnd = add_any (sizes pairs) (sizes pairs) (size_of SnapEnd) (le_refl (sizes pairs))
op_sizes pairs Commit = add_any (sizes pairs) (sizes pairs) (size_of Commit) (le_refl (sizes pairs))

sizes_more : (new mid old one more : ℕ) → mid ≤ old + one → new ≤ mid + more → new ≤ old + (one + more)
sizes_more new mid old one more first second = omega arith

-- the pairs behind operations take at most as many bytes as those before and the operations
pub ops_sizes : (ops : List Op) (pairs : Map) → sizes (ops_on pairs ops) ≤ sizes pairs + sizes_of ops
ops_sizes [] pairs = add_any (sizes pairs) (sizes pairs) 0 (le_refl (sizes pairs))
ops_sizes (op ∷ ops) pairs =
    subst (λ (n : ℕ). sizes (ops_on pairs (op ∷ ops)) ≤ sizes pairs + n) (sym (sum_by-cons size_of op ops))
    (sizes_more (sizes (ops_on (op_on pairs op) ops)) (sizes (op_on pairs op)) (sizes pairs) (size_of op) (sizes_of ops) (op_sizes pairs op) (ops_sizes ops (op_on pairs op)))

some_room : (all one rest room : ℕ) → all ≡ one + rest → all < room → 0 < room
some_room all one rest room is less = omega arith

-- what is left of the room is enough for the others
left_room : (all one rest room : ℕ) → all ≡ one + rest → all < room → rest < room - one
left_room all one rest room is less = omega arith

-- items that leave room end the snapshot
pub ends_within : (pairs : Map) (room : ℕ) → sizes pairs < room → IsTrue (list_any is_end (items_within room pairs))
ends_within [] room less = refl
ends_within (pair ∷ pairs) room less =
    by_room (nat_lt 0 room) (lt-ltb 0 room (some_room (sizes (pair ∷ pairs)) (size_of (item_of pair)) (sizes pairs) room (sizes_cons pair pairs) less))
    (ends_within pairs (room - size_of (item_of pair)) (left_room (sizes (pair ∷ pairs)) (size_of (item_of pair)) (sizes pairs) room (sizes_cons pair pairs) less))
  where
    by_room : (b : Bool) → IsTrue b → IsTrue (list_any is_end (items_within (room - size_of (item_of pair)) pairs))
        → IsTrue (list_any is_end (cond b (item_of pair ∷ items_within (room - size_of (item_of pair)) pairs) []))
    by_room true is later = later
    by_room false is later = absurd (false≢true is)

all_still : (pairs : Map) → still_of None pairs ≡ pairs
all_still [] = refl
all_still (pair ∷ pairs) = ap (λ (l : Map). pair ∷ l) (all_still pairs)

below_quota : (new ops quota : ℕ) → new ≤ 0 + ops → 1 ≤ quota → new < quota + ops
below_quota new ops quota le one = omega arith

-- the first snapshot ends in the commit that begins it
pub first_ends : (quota : ℕ) (ops : List Op) → 1 ≤ quota → IsTrue (list_any is_end (snap None (room_of quota ops) (ops_on [] ops)))
first_ends quota ops one =
    subst (λ (l : Map). IsTrue (list_any is_end (items_within (room_of quota ops) l))) (sym (all_still (ops_on [] ops)))
    (ends_within (ops_on [] ops) (room_of quota ops) (below_quota (sizes (ops_on [] ops)) (sizes_of ops) quota (ops_sizes ops []) one))
