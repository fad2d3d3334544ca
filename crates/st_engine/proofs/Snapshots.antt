-- The items of a commit leave a recovery that has the map already.
use Rattle.std.proofs.Common.{◌≡◌, ◌∙◌, ◌-◌, ℕ, Bool, true, false, cond, nat_lt, not, ◌&&◌, List, [], ◌∷◌, ◌++◌, filter, fold, Option, Some, None, Result, Ok, IsTrue, refl, sym, ap, subst}
use Rattle.std.specs.Cmp.Lexicographic.{slice_cmp}
use Rattle.std.specs.FinMap.Entries.{below_all, is_sorted, put}
use Rattle.std.specs.List.{list_all}
use Rattle.std.specs.Ordering.{is_eq, is_lt, nat_cmp}
use Rattle.std.specs.Result.{result_unwrap_or}
use Rattle.std.specs.declared.cmp.Ordering.{Ordering}
use Rattle.std.specs.declared.cmp.Ordering.TheVariants.{Less, Equal, Greater}
use Rattle.std.proofs.lemmas.Bool.{and_from, and_parts, false≢true}
use Rattle.std.proofs.lemmas.List.Sums.{fold-append}
use Rattle.st_fold.specs.Map.{Map, value_at}
use Rattle.st_key.specs.KeyOrder.{less_irrefl, less_trans}
use Rattle.st_key.specs.Spans.{key_less}
use Rattle.st_ops.specs.Grammar.{is_change}
use Rattle.st_ops.specs.Reading.{reading}
use Rattle.st_ops.specs.declared.op.Op.{Op}
use Rattle.st_ops.specs.declared.op.Op.TheVariants.{Set, Clear, SnapItem, SnapEnd, Commit}
use Rattle.st_ptree.specs.Entries.{same}
use Rattle.st_queue.specs.declared.frame.Frame.{Frame}
use Rattle.st_engine.specs.Replay.{Recovery, frame_on, from_map, is_above, ops_on, recovered_by}
use Rattle.st_engine.specs.Snapshot.{cursor_behind, item_of, items_within, last_within, size_of, snap, still_of}
use Rattle.st_engine.proofs.Above.{equal_keys, same_itself}
use Rattle.st_engine.proofs.Gaps.{filter-rest, filter-twice}
use Rattle.st_engine.proofs.Sorted.{Sorted, same_map, sorted_filter, sorted_frames, sorted_ops, sorted_put, value_put, value_where}

-- the key is below all of these
abbrev pub Below : List ℕ → Map → Type 0
Below key pairs = IsTrue (below_all (slice_cmp nat_cmp) key pairs)

below_trans : (a b : List ℕ) (pairs : Map) → key_less a b ≡ true → Below b pairs → Below a pairs
below_trans a b [] less below = refl
below_trans a b (pair ∷ pairs) less below =
    and_from (key_less a pair.0) (below_all (slice_cmp nat_cmp) a pairs)
    (less_trans a b pair.0 less (and_parts (key_less b pair.0) (below_all (slice_cmp nat_cmp) b pairs) below).0)
    (below_trans a b pairs less (and_parts (key_less b pair.0) (below_all (slice_cmp nat_cmp) b pairs) below).1)

not_same : (o : Ordering) → is_lt o ≡ true → is_eq o ≡ false
not_same Less less = refl
not_same Equal less = absurd (false≢true less)
not_same Greater less = refl

-- a key that is below all has no value
below_none : (key : List ℕ) (pairs : Map) → Below key pairs → value_at pairs key ≡ None
below_none key [] below = refl
below_none key (pair ∷ pairs) below =
    ap (λ (t : Bool). cond t (Some pair.1) (value_at pairs key)) (not_same (slice_cmp nat_cmp key pair.0) (and_parts (key_less key pair.0) (below_all (slice_cmp nat_cmp) key pairs) below).0)
    ∙ below_none key pairs (and_parts (key_less key pair.0) (below_all (slice_cmp nat_cmp) key pairs) below).1

-- the keys of pairs that it is below are above it
all_above : (key : List ℕ) (pairs : Map) → Below key pairs → filter (λ pair. key_less key pair.0) pairs ≡ pairs
all_above key [] below = refl
all_above key (pair ∷ pairs) below =
    ap (λ (t : Bool). cond t (pair ∷ filter (λ pair. key_less key pair.0) pairs) (filter (λ pair. key_less key pair.0) pairs)) (and_parts (key_less key pair.0) (below_all (slice_cmp nat_cmp) key pairs) below).0
    ∙ ap (λ (l : Map). pair ∷ l) (all_above key pairs (and_parts (key_less key pair.0) (below_all (slice_cmp nat_cmp) key pairs) below).1)

above_trans : (cursor : Option (List ℕ)) (a b : List ℕ) → is_above cursor a ≡ true → key_less a b ≡ true → is_above cursor b ≡ true
above_trans None a b above less = refl
above_trans (Some last) a b above less = less_trans last a b above less

-- the first pair above the cursor
module _ (pairs : Map) (sorted : Sorted pairs) (cursor : Option (List ℕ)) (pair : List ℕ × List ℕ) (rest : Map) (still : still_of cursor pairs ≡ pair ∷ rest) where
  still_sorted : Sorted (pair ∷ rest)
  still_sorted = subst Sorted still (sorted_filter (is_above cursor) pairs sorted)

  below_rest : Below pair.0 rest
  below_rest = (and_parts (below_all (slice_cmp nat_cmp) pair.0 rest) (is_sorted (slice_cmp nat_cmp) rest) still_sorted).0

  value_still : (key : List ℕ) → cond (is_above cursor key) (value_at pairs key) None ≡ value_at (pair ∷ rest) key
  value_still key = sym (value_where (is_above cursor) pairs key) ∙ ap (λ (l : Map). value_at l key) still

  value_first : value_at (pair ∷ rest) pair.0 ≡ Some pair.1
  value_first = ap (λ (t : Bool). cond t (Some pair.1) (value_at rest pair.0)) (same_itself pair.0)

  -- it is above it and there
  first_there : (is_above cursor pair.0 ≡ true) × (value_at pairs pair.0 ≡ Some pair.1)
  first_there = by_test (is_above cursor pair.0) refl (value_still pair.0 ∙ value_first)
    where
      by_test : (t : Bool) → is_above cursor pair.0 ≡ t → cond t (value_at pairs pair.0) None ≡ Some pair.1 → (is_above cursor pair.0 ≡ true) × (value_at pairs pair.0 ≡ Some pair.1)
      by_test true is value = (is, value)
      by_test false is value = absurd (cc (value))

  -- no key is in the gap before it
  gap_empty : (key : List ℕ) → is_above cursor key ≡ true → key_less key pair.0 ≡ true → value_at pairs key ≡ None
  gap_empty key above less =
      sym (ap (λ (t : Bool). cond t (value_at pairs key) None) above) ∙ value_still key
      ∙ below_none key (pair ∷ rest) (and_from (key_less key pair.0) (below_all (slice_cmp nat_cmp) key rest) less (below_trans key pair.0 rest less below_rest))

  -- behind it are the others
  pub still_next : still_of (Some pair.0) pairs ≡ rest
  still_next =
      sym (filter-twice (λ p. key_less pair.0 p.0) (λ p. is_above cursor p.0) (λ p less. above_trans cursor pair.0 p.0 first_there.0 less) pairs)
      ∙ ap (filter (λ p. key_less pair.0 p.0)) still
      ∙ ap (λ (t : Bool). cond t (pair ∷ filter (λ p. key_less pair.0 p.0) rest) (filter (λ p. key_less pair.0 p.0) rest)) (less_irrefl pair.0)
      ∙ all_above pair.0 rest below_rest

  -- its item changes nothing
  pub item_keeps : recovered_by (record { pairs = pairs; last = cursor }) (item_of pair) ≡ record { pairs = pairs; last = Some pair.0 }
  item_keeps =
      let keeps : List ℕ → Bool = λ key. not (is_above cursor key && key_less key pair.0) in
      let same_pairs : put (slice_cmp nat_cmp) pair.0 pair.1 (filter (λ p. keeps p.0) pairs) ≡ pairs =
      same_map (put (slice_cmp nat_cmp) pair.0 pair.1 (filter (λ p. keeps p.0) pairs)) pairs
      (sorted_put pair.0 pair.1 (filter (λ p. keeps p.0) pairs) (sorted_filter keeps pairs sorted)) sorted
      (λ key.
      value_put pair.0 pair.1 (filter (λ p. keeps p.0) pairs) key
      ∙ ap (cond (same key pair.0) (Some pair.1)) (value_where keeps pairs key)
      ∙ by_key key (same key pair.0) refl (is_above cursor key) refl (key_less key pair.0) refl) in
      λ i. record { pairs = same_pairs i; last = Some pair.0 }
    where
      by_key : (key : List ℕ) (s : Bool) → same key pair.0 ≡ s → (a : Bool) → is_above cursor key ≡ a → (l : Bool) → key_less key pair.0 ≡ l
          → cond s (Some pair.1) (cond (not (a && l)) (value_at pairs key) None) ≡ value_at pairs key
      by_key key true is a above l less = sym (ap (value_at pairs) (equal_keys key pair.0 is) ∙ first_there.1)
      by_key key false is true above true less = sym (gap_empty key above less)
      by_key key false is true above false less = refl
      by_key key false is false above l less = refl

-- at the end no key is above the last one
pub end_keeps : (pairs : Map) (cursor : Option (List ℕ)) → still_of cursor pairs ≡ [] → recovered_by (record { pairs = pairs; last = cursor }) SnapEnd ≡ record { pairs = pairs; last = None }
end_keeps pairs cursor none =
    let kept : filter (λ pair. not (is_above cursor pair.0)) pairs ≡ pairs = filter-rest (λ pair. is_above cursor pair.0) pairs none in
    λ i. record { pairs = kept i; last = None }

-- The items of a commit change nothing.
module _ (pairs : Map) (sorted : Sorted pairs) where
  keeps_rest : (rest : Map) (cursor : Option (List ℕ)) (room : ℕ) → still_of cursor pairs ≡ rest
      → fold recovered_by (record { pairs = pairs; last = cursor }) (items_within room rest) ≡ record { pairs = pairs; last = last_within cursor room rest }
  keeps_rest [] cursor room still = end_keeps pairs cursor still
  keeps_rest (pair ∷ rest) cursor room still =
      by_room (nat_lt 0 room) (keeps_rest rest (Some pair.0) (room - size_of (item_of pair)) (still_next pairs sorted cursor pair rest still))
    where
      by_room : (b : Bool)
          → fold recovered_by (record { pairs = pairs; last = Some pair.0 }) (items_within (room - size_of (item_of pair)) rest)
          ≡ record { pairs = pairs; last = last_within (Some pair.0) (room - size_of (item_of pair)) rest }
          → fold recovered_by (record { pairs = pairs; last = cursor }) (cond b (item_of pair ∷ items_within (room - size_of (item_of pair)) rest) [])
          ≡ record { pairs = pairs; last = cond b (last_within (Some pair.0) (room - size_of (item_of pair)) rest) cursor }
      by_room true later =
          ap (λ (r : Recovery). fold recovered_by r (items_within (room - size_of (item_of pair)) rest)) (item_keeps pairs sorted cursor pair rest still) ∙ later
      by_room false later = refl

  pub snap_keeps : (cursor : Option (List ℕ)) (room : ℕ)
      → fold recovered_by (record { pairs = pairs; last = cursor }) (snap cursor room pairs) ≡ record { pairs = pairs; last = cursor_behind cursor room pairs }
  snap_keeps cursor room = keeps_rest (still_of cursor pairs) cursor room refl

-- sets and clears leave the last item
changes_alone : (ops : List Op) (r : Recovery) → IsTrue (list_all is_change ops) → fold recovered_by r ops ≡ record { pairs = ops_on r.pairs ops; last = r.last }
changes_alone [] r changes = refl
changes_alone (Set key value ∷ ops) r changes = changes_alone ops (recovered_by r (Set key value)) changes
changes_alone (Clear begin end ∷ ops) r changes = changes_alone ops (recovered_by r (Clear begin end)) (and_parts (key_less begin end) (list_all is_change ops) changes).1
changes_alone (SnapItem key value ∷ ops) r changes = absurd (false≢true changes)
changes_alone (SnapEnd ∷ ops) r changes = absurd (false≢true changes)
changes_alone (Commit ∷ ops) r changes = absurd (false≢true changes)

-- Nor does what a snapshot writes behind the operations of a commit change the map.
pub commit_keeps : (ops : List Op) → IsTrue (list_all is_change ops) → (pairs : Map) → Sorted pairs → (cursor : Option (List ℕ)) (room : ℕ)
    → fold recovered_by (record { pairs = pairs; last = cursor }) (ops ++ snap cursor room (ops_on pairs ops) ++ Commit ∷ [])
    ≡ record { pairs = ops_on pairs ops; last = cursor_behind cursor room (ops_on pairs ops) }
commit_keeps ops changes pairs sorted cursor room =
    let before : Recovery = record { pairs = pairs; last = cursor } in
    let written : List Op = snap cursor room (ops_on pairs ops) in
    fold-append recovered_by before (ops ++ written) (Commit ∷ [])
    ∙ ap (λ (r : Recovery). recovered_by r Commit)
    (fold-append recovered_by before ops written
    ∙ ap (λ (r : Recovery). fold recovered_by r written) (changes_alone ops before changes)
    ∙ snap_keeps (ops_on pairs ops) (sorted_ops ops pairs sorted) cursor room)

-- so the frame of a commit leaves the map behind its operations, and the cursor behind what it wrote
pub commit_frame : (ops : List Op) → IsTrue (list_all is_change ops) → (pairs : Map) → Sorted pairs → (cursor : Option (List ℕ)) (room : ℕ)
    → (frame : Frame) → reading frame.payload ≡ Ok (ops ++ snap cursor room (ops_on pairs ops) ++ Commit ∷ [])
    → frame_on (record { pairs = pairs; last = cursor }) frame ≡ record { pairs = ops_on pairs ops; last = cursor_behind cursor room (ops_on pairs ops) }
commit_frame ops changes pairs sorted cursor room frame read =
    ap (λ (read : Result (List Op) ℕ). fold recovered_by (record { pairs = pairs; last = cursor }) (result_unwrap_or read [])) read
    ∙ commit_keeps ops changes pairs sorted cursor room

-- behind frames that make a map of the empty one
pub frames_more : (ops : List Op) → IsTrue (list_all is_change ops) → (pairs : Map) (cursor : Option (List ℕ)) (room : ℕ)
    → (frame : Frame) → reading frame.payload ≡ Ok (ops ++ snap cursor room (ops_on pairs ops) ++ Commit ∷ [])
    → (frames : List Frame) → fold frame_on (from_map []) frames ≡ record { pairs = pairs; last = cursor }
    → fold frame_on (from_map []) (frames ++ frame ∷ []) ≡ record { pairs = ops_on pairs ops; last = cursor_behind cursor room (ops_on pairs ops) }
frames_more ops changes pairs cursor room frame read frames make =
    let sorted : Sorted pairs = subst (λ (r : Recovery). Sorted r.pairs) make (sorted_frames frames (from_map []) refl) in
    fold-append frame_on (from_map []) frames (frame ∷ [])
    ∙ ap (λ (r : Recovery). frame_on r frame) make
    ∙ commit_frame ops changes pairs sorted cursor room frame read
