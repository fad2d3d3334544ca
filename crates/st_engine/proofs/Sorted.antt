-- Sorted maps: what keeps a map sorted, and that two with the same values are one.
use Rattle.std.proofs.Common.{◌≡◌, ◌∙◌, ℕ, Bool, true, false, cond, not, ◌&&◌, T, List, [], ◌∷◌, filter, fold, Option, Some, None, IsTrue, refl, sym, ap, subst}
use Rattle.std.specs.Cmp.Lexicographic.{slice_cmp}
use Rattle.std.specs.FinMap.Entries.{find-put, find-where_key, is_sorted, is_sorted-put, is_sorted-where_key, put, same_entries}
use Rattle.std.specs.Ordering.{nat_cmp}
use Rattle.std.proofs.lemmas.Cmp.{nat_list_cmp_total}
use Rattle.std.proofs.lemmas.Bool.{false≢true}
use Rattle.std.proofs.lemmas.Map.Lookups.{exact_bytes}
use Rattle.st_fold.specs.Map.{Map, value_at}
use Rattle.st_key.specs.Spans.{key_less, within}
use Rattle.st_ops.specs.declared.op.Op.{Op}
use Rattle.st_ops.specs.declared.op.Op.TheVariants.{Set, Clear, SnapItem, SnapEnd, Commit}
use Rattle.st_ptree.specs.Entries.{same}
use Rattle.st_queue.specs.declared.frame.Frame.{Frame}
use Rattle.st_engine.specs.Replay.{Recovery, frame_on, is_above, op_on, ops_of, ops_on, recovered_by}
use Rattle.st_engine.proofs.Above.{equal_keys, same_itself}

-- the keys rise
abbrev pub Sorted : Map → Type 0
Sorted pairs = IsTrue (is_sorted (slice_cmp nat_cmp) pairs)

pub as_T : (b : Bool) → IsTrue b → T b
as_T b is = subst T (sym is) tt

pub as_IsTrue : (b : Bool) → T b → IsTrue b
as_IsTrue true is = refl
as_IsTrue false is = absurd is

-- two sorted maps in which each key has the same value are one
pub same_map : (a b : Map) → Sorted a → Sorted b → ((key : List ℕ) → value_at a key ≡ value_at b key) → a ≡ b
same_map a b a_sorted b_sorted each = same_entries (slice_cmp nat_cmp) nat_list_cmp_total exact_bytes a b (as_T _ a_sorted) (as_T _ b_sorted) each

-- the value of a key in what passes a test of keys
pub value_where : (test : List ℕ → Bool) (pairs : Map) (key : List ℕ) → value_at (filter (λ pair. test pair.0) pairs) key ≡ cond (test key) (value_at pairs key) None
value_where test pairs key = find-where_key (slice_cmp nat_cmp) test key (λ other e. ap test (sym (exact_bytes key other e))) pairs

-- the value of a key where another has a new one
pub value_put : (key value : List ℕ) (pairs : Map) (other : List ℕ) → value_at (put (slice_cmp nat_cmp) key value pairs) other ≡ cond (same other key) (Some value) (value_at pairs other)
value_put key value pairs other = find-put (slice_cmp nat_cmp) nat_list_cmp_total other key value pairs

pub sorted_filter : (test : List ℕ → Bool) (pairs : Map) → Sorted pairs → Sorted (filter (λ pair. test pair.0) pairs)
sorted_filter test pairs sorted = as_IsTrue _ (is_sorted-where_key (slice_cmp nat_cmp) test pairs (as_T _ sorted))

pub sorted_put : (key value : List ℕ) (pairs : Map) → Sorted pairs → Sorted (put (slice_cmp nat_cmp) key value pairs)
sorted_put key value pairs sorted = as_IsTrue _ (is_sorted-put (slice_cmp nat_cmp) nat_list_cmp_total key value pairs (as_T _ sorted))

pub sorted_op : (pairs : Map) (op : Op) → Sorted pairs → Sorted (op_on pairs op)
sorted_op pairs (Set key value) sorted = sorted_put key value pairs sorted
sorted_op pairs (Clear begin end) sorted = sorted_filter (λ key. not (within (record { begin = begin; end = end }) key)) pairs sorted
sorted_op pairs (SnapItem key value) sorted = sorted
sorted_op pairs SnapEnd sorted = sorted
sorted_op pairs Commit sorted = sorted

pub sorted_ops : (ops : List Op) (pairs : Map) → Sorted pairs → Sorted (ops_on pairs ops)
sorted_ops [] pairs sorted = sorted
sorted_ops (op ∷ ops) pairs sorted = sorted_ops ops (op_on pairs op) (sorted_op pairs op sorted)

pub sorted_by : (r : Recovery) (op : Op) → Sorted r.pairs → Sorted (recovered_by r op).pairs
sorted_by r (Set key value) sorted = sorted_op r.pairs (Set key value) sorted
sorted_by r (Clear begin end) sorted = sorted_op r.pairs (Clear begin end) sorted
sorted_by r (SnapItem key value) sorted =
    let gap : List ℕ → Bool = λ other. not (is_above r.last other && key_less other key) in
    sorted_put key value (filter (λ pair. gap pair.0) r.pairs) (sorted_filter gap r.pairs sorted)
sorted_by r SnapEnd sorted = sorted_filter (λ other. not (is_above r.last other)) r.pairs sorted
sorted_by r Commit sorted = sorted

pub sorted_recovered : (ops : List Op) (r : Recovery) → Sorted r.pairs → Sorted (fold recovered_by r ops).pairs
sorted_recovered [] r sorted = sorted
sorted_recovered (op ∷ ops) r sorted = sorted_recovered ops (recovered_by r op) (sorted_by r op sorted)

pub sorted_frames : (frames : List Frame) (r : Recovery) → Sorted r.pairs → Sorted (fold frame_on r frames).pairs
sorted_frames [] r sorted = sorted
sorted_frames (frame ∷ frames) r sorted = sorted_frames frames (frame_on r frame) (sorted_recovered (ops_of frame) r sorted)

-- A put at one key, beside a filter by a test of keys.
module _ (test : List ℕ → Bool) (key value : List ℕ) (pairs : Map) (sorted : Sorted pairs) where
  abbrev with_pair : Map → Map
  with_pair pairs = put (slice_cmp nat_cmp) key value pairs

  abbrev passing : Map → Map
  passing pairs = filter (λ pair. test pair.0) pairs

  -- the values of what passes, where the pair is there
  value_passing : (other : List ℕ) → value_at (passing (with_pair pairs)) other ≡ cond (test other) (cond (same other key) (Some value) (value_at pairs other)) None
  value_passing other = value_where test (with_pair pairs) other ∙ ap (λ (o : Option (List ℕ)). cond (test other) o None) (value_put key value pairs other)

  -- where the key passes
  pub filter_put_in : test key ≡ true → filter (λ pair. test pair.0) (put (slice_cmp nat_cmp) key value pairs) ≡ put (slice_cmp nat_cmp) key value (filter (λ pair. test pair.0) pairs)
  filter_put_in passes =
      same_map (passing (with_pair pairs)) (with_pair (passing pairs))
      (sorted_filter test (with_pair pairs) (sorted_put key value pairs sorted)) (sorted_put key value (passing pairs) (sorted_filter test pairs sorted))
      (λ other. value_passing other ∙ by_key other (same other key) refl ∙ sym (value_put key value (passing pairs) other ∙ ap (cond (same other key) (Some value)) (value_where test pairs other)))
    where
      by_key : (other : List ℕ) (b : Bool) → same other key ≡ b
          → cond (test other) (cond b (Some value) (value_at pairs other)) None ≡ cond b (Some value) (cond (test other) (value_at pairs other) None)
      by_key other true is = ap (λ (t : Bool). cond t (Some value) None) (ap test (equal_keys other key is) ∙ passes)
      by_key other false is = refl

  -- where it does not
  pub filter_put_out : test key ≡ false → filter (λ pair. test pair.0) (put (slice_cmp nat_cmp) key value pairs) ≡ filter (λ pair. test pair.0) pairs
  filter_put_out fails =
      same_map (passing (with_pair pairs)) (passing pairs)
      (sorted_filter test (with_pair pairs) (sorted_put key value pairs sorted)) (sorted_filter test pairs sorted)
      (λ other. value_passing other ∙ by_key other (same other key) refl ∙ sym (value_where test pairs other))
    where
      by_key : (other : List ℕ) (b : Bool) → same other key ≡ b
          → cond (test other) (cond b (Some value) (value_at pairs other)) None ≡ cond (test other) (value_at pairs other) None
      by_key other true is =
          let none : test other ≡ false = ap test (equal_keys other key is) ∙ fails in
          ap (λ (t : Bool). cond t (Some value) None) none ∙ sym (ap (λ (t : Bool). cond t (value_at pairs other) None) none)
      by_key other false is = refl

module _ (key value : List ℕ) (pairs : Map) (sorted : Sorted pairs) where
  -- what the key had before does not matter
  pub put_without : put (slice_cmp nat_cmp) key value (filter (λ pair. not (same key pair.0)) pairs) ≡ put (slice_cmp nat_cmp) key value pairs
  put_without =
      let others : List ℕ → Bool = λ other. not (same key other) in
      same_map (put (slice_cmp nat_cmp) key value (filter (λ pair. others pair.0) pairs)) (put (slice_cmp nat_cmp) key value pairs)
      (sorted_put key value (filter (λ pair. others pair.0) pairs) (sorted_filter others pairs sorted)) (sorted_put key value pairs sorted)
      (λ other.
      value_put key value (filter (λ pair. others pair.0) pairs) other
      ∙ ap (cond (same other key) (Some value)) (value_where others pairs other)
      ∙ by_key other (same other key) (same key other) refl refl
      ∙ sym (value_put key value pairs other))
    where
      by_key : (other : List ℕ) (b c : Bool) → same other key ≡ b → same key other ≡ c
          → cond b (Some value) (cond (not c) (value_at pairs other) None) ≡ cond b (Some value) (value_at pairs other)
      by_key other true c is turned = refl
      by_key other false true is turned = absurd (false≢true (sym is ∙ ap (same other) (equal_keys key other turned) ∙ same_itself other))
      by_key other false false is turned = refl

  -- a pair that is there already
  pub put_present : value_at pairs key ≡ Some value → put (slice_cmp nat_cmp) key value pairs ≡ pairs
  put_present present =
      same_map (put (slice_cmp nat_cmp) key value pairs) pairs (sorted_put key value pairs sorted) sorted
      (λ other. value_put key value pairs other ∙ by_key other (same other key) refl)
    where
      by_key : (other : List ℕ) (b : Bool) → same other key ≡ b → cond b (Some value) (value_at pairs other) ≡ value_at pairs other
      by_key other true is = sym (ap (value_at pairs) (equal_keys other key is) ∙ present)
      by_key other false is = refl
