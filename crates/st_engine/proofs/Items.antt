-- What a snapshot writes is a part of a payload.
use Rattle.std.proofs.Common.{◌≡◌, ◌∙◌, ◌-◌, ℕ, Bool, true, false, cond, if◌then◌else◌, nat_lt, ◌&&◌, ◌||◌, List, [], ◌∷◌, ◌++◌, Option, IsTrue, refl, sym, ap, subst, append_assoc, ◌⊎◌, ⊎_elim, inl, inr}
use Rattle.std.specs.Cmp.Lexicographic.{slice_cmp}
use Rattle.std.specs.FinMap.Entries.{below_all, is_sorted}
use Rattle.std.specs.List.{list_all, list_any}
use Rattle.std.specs.Ordering.{nat_cmp}
use Rattle.std.specs.Prelude.{Result, Ok}
use Rattle.std.specs.Result.{result_unwrap_or}
use Rattle.st_queue.specs.declared.frame.Frame.{Frame}
use Rattle.std.proofs.lemmas.Bool.{and_from, and_parts, false≢true}
use Rattle.st_fold.specs.Map.{Map}
use Rattle.st_key.specs.Spans.{key_less}
use Rattle.st_ops.specs.Grammar.{are_items, are_items_above, has_form, is_change, is_ending}
use Rattle.st_ops.specs.Reading.{reading}
use Rattle.st_ops.specs.declared.op.Op.{Op}
use Rattle.st_ops.specs.declared.op.Op.TheVariants.{Set, Clear, SnapItem, SnapEnd, Commit}
use Rattle.st_engine.specs.Replay.{is_above, ops_of}
use Rattle.st_engine.specs.Snapshot.{has_close, is_end, item_of, items_within, size_of, snap, still_of}
use Rattle.st_engine.proofs.Sorted.{Sorted, sorted_filter}
use Rattle.st_engine.proofs.Snapshots.{Below}

-- the items without the end, and the end where the snapshot ends
abbrev pub items_alone : ℕ → Map → List Op
items_alone room [] = []
items_alone room (pair ∷ pairs) = if nat_lt 0 room then item_of pair ∷ items_alone (room - size_of (item_of pair)) pairs else []

abbrev pub end_alone : ℕ → Map → List Op
end_alone room [] = SnapEnd ∷ []
end_alone room (pair ∷ pairs) = if nat_lt 0 room then end_alone (room - size_of (item_of pair)) pairs else []

pub items_parted : (pairs : Map) (room : ℕ) → items_within room pairs ≡ items_alone room pairs ++ end_alone room pairs
items_parted [] room = refl
items_parted (pair ∷ pairs) room = by_room (nat_lt 0 room) (items_parted pairs (room - size_of (item_of pair)))
  where
    by_room : (b : Bool)
        → items_within (room - size_of (item_of pair)) pairs ≡ items_alone (room - size_of (item_of pair)) pairs ++ end_alone (room - size_of (item_of pair)) pairs
        → cond b (item_of pair ∷ items_within (room - size_of (item_of pair)) pairs) []
        ≡ cond b (item_of pair ∷ items_alone (room - size_of (item_of pair)) pairs) [] ++ cond b (end_alone (room - size_of (item_of pair)) pairs) []
    by_room true later = ap (λ (l : List Op). item_of pair ∷ l) later
    by_room false later = refl

items_rise_above : (pairs : Map) (room : ℕ) (last : List ℕ) → Below last pairs → Sorted pairs → IsTrue (are_items_above last (items_alone room pairs))
items_rise_above [] room last below sorted = refl
items_rise_above (pair ∷ pairs) room last below sorted =
    by_room (nat_lt 0 room)
    (items_rise_above pairs (room - size_of (item_of pair)) pair.0
    (and_parts (below_all (slice_cmp nat_cmp) pair.0 pairs) (is_sorted (slice_cmp nat_cmp) pairs) sorted).0
    (and_parts (below_all (slice_cmp nat_cmp) pair.0 pairs) (is_sorted (slice_cmp nat_cmp) pairs) sorted).1)
  where
    by_room : (b : Bool) → IsTrue (are_items_above pair.0 (items_alone (room - size_of (item_of pair)) pairs))
        → IsTrue (are_items_above last (cond b (item_of pair ∷ items_alone (room - size_of (item_of pair)) pairs) []))
    by_room true later =
        and_from (key_less last pair.0) (are_items_above pair.0 (items_alone (room - size_of (item_of pair)) pairs))
        (and_parts (key_less last pair.0) (below_all (slice_cmp nat_cmp) last pairs) below).0 later
    by_room false later = refl

pub items_rise : (pairs : Map) (room : ℕ) → Sorted pairs → IsTrue (are_items (items_alone room pairs))
items_rise [] room sorted = refl
items_rise (pair ∷ pairs) room sorted =
    by_room (nat_lt 0 room)
    (items_rise_above pairs (room - size_of (item_of pair)) pair.0
    (and_parts (below_all (slice_cmp nat_cmp) pair.0 pairs) (is_sorted (slice_cmp nat_cmp) pairs) sorted).0
    (and_parts (below_all (slice_cmp nat_cmp) pair.0 pairs) (is_sorted (slice_cmp nat_cmp) pairs) sorted).1)
  where
    by_room : (b : Bool) → IsTrue (are_items_above pair.0 (items_alone (room - size_of (item_of pair)) pairs))
        → IsTrue (are_items (cond b (item_of pair ∷ items_alone (room - size_of (item_of pair)) pairs) []))
    by_room true later = later
    by_room false later = refl

-- the end is none, or SnapEnd
pub end_is : (pairs : Map) (room : ℕ) → (end_alone room pairs ≡ []) ⊎ (end_alone room pairs ≡ SnapEnd ∷ [])
end_is [] room = inr refl
end_is (pair ∷ pairs) room = by_room (nat_lt 0 room) (end_is pairs (room - size_of (item_of pair)))
  where
    by_room : (b : Bool)
        → (end_alone (room - size_of (item_of pair)) pairs ≡ []) ⊎ (end_alone (room - size_of (item_of pair)) pairs ≡ SnapEnd ∷ [])
        → (cond b (end_alone (room - size_of (item_of pair)) pairs) [] ≡ []) ⊎ (cond b (end_alone (room - size_of (item_of pair)) pairs) [] ≡ SnapEnd ∷ [])
    by_room true later = later
    by_room false later = inl refl

pub end_closes : (pairs : Map) (room : ℕ) → IsTrue (is_ending (end_alone room pairs ++ Commit ∷ []))
end_closes pairs room = ⊎_elim (λ is. ap (λ (l : List Op). is_ending (l ++ Commit ∷ [])) is) (λ is. ap (λ (l : List Op). is_ending (l ++ Commit ∷ [])) is) (end_is pairs room)

-- changes, what a snapshot writes, and the end have a payload's form
pub snap_form : ((changes items ending : List Op) → IsTrue (list_all is_change changes) → IsTrue (are_items items) → IsTrue (is_ending ending) → IsTrue (has_form (changes ++ items ++ ending)))
    → (ops : List Op) → IsTrue (list_all is_change ops) → (pairs : Map) → Sorted pairs → (cursor : Option (List ℕ)) (room : ℕ) → IsTrue (has_form (ops ++ snap cursor room pairs ++ Commit ∷ []))
snap_form joined ops changes pairs sorted cursor room =
    let still : Map = still_of cursor pairs in
    let items : List Op = items_alone room still in
    let ending : List Op = end_alone room still in
    let parts : ops ++ snap cursor room pairs ++ Commit ∷ [] ≡ ops ++ items ++ (ending ++ Commit ∷ []) =
    ap (λ (l : List Op). ops ++ l ++ Commit ∷ []) (items_parted still room)
    ∙ ap (λ (l : List Op). l ++ Commit ∷ []) (sym (append_assoc ops items ending))
    ∙ append_assoc (ops ++ items) ending (Commit ∷ []) in
    subst (λ (l : List Op). IsTrue (has_form l)) (sym parts)
    (joined ops items (ending ++ Commit ∷ []) changes (items_rise still room (sorted_filter (is_above cursor) pairs sorted)) (end_closes still room))

-- whether a snapshot ends in such a payload is told by what it writes alone
pub end_in : (ops written : List Op) → IsTrue (list_all is_change ops) → list_any is_end (ops ++ written ++ Commit ∷ []) ≡ list_any is_end written
end_in [] [] changes = refl
end_in [] (op ∷ written) changes = ap (λ (t : Bool). is_end op || t) (end_in [] written changes)
end_in (Set key value ∷ ops) written changes = end_in ops written changes
end_in (Clear begin end ∷ ops) written changes = end_in ops written (and_parts (key_less begin end) (list_all is_change ops) changes).1
end_in (SnapItem key value ∷ ops) written changes = absurd (false≢true changes)
end_in (SnapEnd ∷ ops) written changes = absurd (false≢true changes)
end_in (Commit ∷ ops) written changes = absurd (false≢true changes)

-- in a frame with such a payload a snapshot ends where it does in what was written
pub closes_frame : (ops written : List Op) (frame : Frame) → IsTrue (list_all is_change ops) → IsTrue (has_form (ops ++ written ++ Commit ∷ [])) → reading frame.payload ≡ Ok (ops ++ written ++ Commit ∷ [])
    → IsTrue (list_any is_end written) → IsTrue (has_close frame)
closes_frame ops written frame changes form read ends =
    let are : ops_of frame ≡ ops ++ written ++ Commit ∷ [] = ap (λ (r : Result (List Op) ℕ). result_unwrap_or r []) read in
    (λ i. has_form (are i) && list_any is_end (are i)) ∙ (λ i. form i && (end_in ops written changes ∙ ends) i)
