-- Where a snapshot ends, what the map was before it does not matter.
use Rattle.std.proofs.Common.{◌≡◌, ◌∙◌, ℕ, Bool, true, false, cond, not, ◌&&◌, ◌||◌, List, [], ◌∷◌, ◌++◌, filter, fold, Option, Some, None, Result, Ok, IsTrue, refl, sym, ap, subst}
use Rattle.std.specs.List.{list_any}
use Rattle.std.specs.Result.{result_unwrap_or}
use Rattle.std.proofs.lemmas.Bool.{and_parts, false≢true}
use Rattle.std.proofs.lemmas.List.Sums.{fold-append}
use Rattle.st_fold.specs.Map.{Map, value_at}
use Rattle.st_key.specs.KeyOrder.{less_connected}
use Rattle.st_key.specs.Spans.{key_less, within}
use Rattle.st_ops.specs.Grammar.{IsPayload, has_form, has_form_above, is_ending, less}
use Rattle.st_ops.specs.Reading.{reading}
use Rattle.st_ops.specs.declared.op.Op.{Op}
use Rattle.st_ops.specs.declared.op.Op.TheVariants.{Set, Clear, SnapItem, SnapEnd, Commit}
use Rattle.st_ptree.specs.Entries.{same}
use Rattle.st_queue.specs.declared.frame.Frame.{Frame}
use Rattle.st_engine.specs.Replay.{Recovery, frame_on, from_map, is_above, ops_of, recovered_by}
use Rattle.st_engine.specs.Snapshot.{has_end, is_end}
use Rattle.st_engine.proofs.Above.{same_itself}
use Rattle.st_engine.proofs.Sorted.{Sorted, same_map, sorted_by, sorted_filter, sorted_frames, sorted_recovered, value_put, value_where}

-- The pairs up to the last item, none where there is no last item: those that the end of a snapshot keeps.
abbrev pub low : Recovery → Map
low r = filter (λ pair. not (is_above r.last pair.0)) r.pairs

-- the same last item, and up to it the same values
pub record AreAlike (a b : Recovery) : Type 0 where
  pub last : a.last ≡ b.last
  pub values : (key : List ℕ) → is_above a.last key ≡ false → value_at a.pairs key ≡ value_at b.pairs key

-- the value of a key in the low pairs
value_low : (r : Recovery) (key : List ℕ) → value_at (low r) key ≡ cond (not (is_above r.last key)) (value_at r.pairs key) None
value_low r key = value_where (λ other. not (is_above r.last other)) r.pairs key

pub low_sorted : (r : Recovery) → Sorted r.pairs → Sorted (low r)
low_sorted r sorted = sorted_filter (λ other. not (is_above r.last other)) r.pairs sorted

-- of two such recoveries the low pairs are the same
pub low_alike : (a b : Recovery) → Sorted a.pairs → Sorted b.pairs → AreAlike a b → low a ≡ low b
low_alike a b a_sorted b_sorted alike =
    same_map (low a) (low b) (low_sorted a a_sorted) (low_sorted b b_sorted) (λ key. value_low a key ∙ by_test key (is_above a.last key) refl ∙ sym (value_low b key))
  where
    by_test : (key : List ℕ) (t : Bool) → is_above a.last key ≡ t
        → cond (not (is_above a.last key)) (value_at a.pairs key) None ≡ cond (not (is_above b.last key)) (value_at b.pairs key) None
    by_test key true is =
        ap (λ (t : Bool). cond (not t) (value_at a.pairs key) None) is
        ∙ sym (ap (λ (t : Bool). cond (not t) (value_at b.pairs key) None) (ap (λ (last : Option (List ℕ)). is_above last key) (sym alike.last) ∙ is))
    by_test key false is =
        ap (λ (t : Bool). cond (not t) (value_at a.pairs key) None) is
        ∙ alike.values key is
        ∙ sym (ap (λ (t : Bool). cond (not t) (value_at b.pairs key) None) (ap (λ (last : Option (List ℕ)). is_above last key) (sym alike.last) ∙ is))

-- and so they are such where the last item and the low pairs are the same
pub alike_low : (a b : Recovery) → a.last ≡ b.last → low a ≡ low b → AreAlike a b
alike_low a b last same_low = record {
  last = last;
  values = λ key below.
      let a_low : value_at (low a) key ≡ value_at a.pairs key = value_low a key ∙ ap (λ (t : Bool). cond (not t) (value_at a.pairs key) None) below in
      let b_low : value_at (low b) key ≡ value_at b.pairs key =
      value_low b key
      ∙ ap (λ (t : Bool). cond (not t) (value_at b.pairs key) None) (ap (λ (l : Option (List ℕ)). is_above l key) (sym last) ∙ below) in
      sym a_low ∙ ap (λ (pairs : Map). value_at pairs key) same_low ∙ b_low;
}

-- without a last item any two are such
pub alike_unbegun : (a b : Recovery) → a.last ≡ None → b.last ≡ None → AreAlike a b
alike_unbegun a b a_none b_none = record {
  last = a_none ∙ sym b_none;
  values = λ key below. absurd (false≢true (sym below ∙ ap (λ (last : Option (List ℕ)). is_above last key) a_none));
}

-- an item leaves two such again
alike_item : (a b : Recovery) (key value : List ℕ) → AreAlike a b → AreAlike (recovered_by a (SnapItem key value)) (recovered_by b (SnapItem key value))
alike_item a b key value alike = record {
  last = refl;
  values = λ other low. value_item a other ∙ by_key other low (same other key) refl (key_less other key) refl ∙ sym (value_item b other);
}
  where
    value_item : (r : Recovery) (other : List ℕ) → value_at (recovered_by r (SnapItem key value)).pairs other
        ≡ cond (same other key) (Some value) (cond (not (is_above r.last other && key_less other key)) (value_at r.pairs other) None)
    value_item r other =
        value_put key value (filter (λ pair. not (is_above r.last pair.0 && key_less pair.0 key)) r.pairs) other
        ∙ ap (cond (same other key) (Some value)) (value_where (λ k. not (is_above r.last k && key_less k key)) r.pairs other)

    by_above : (other : List ℕ) (t : Bool) → is_above a.last other ≡ t
        → cond (not (is_above a.last other && true)) (value_at a.pairs other) None ≡ cond (not (is_above b.last other && true)) (value_at b.pairs other) None
    by_above other true is =
        ap (λ (t : Bool). cond (not (t && true)) (value_at a.pairs other) None) is
        ∙ sym (ap (λ (t : Bool). cond (not (t && true)) (value_at b.pairs other) None) (ap (λ (last : Option (List ℕ)). is_above last other) (sym alike.last) ∙ is))
    by_above other false is =
        ap (λ (t : Bool). cond (not (t && true)) (value_at a.pairs other) None) is
        ∙ alike.values other is
        ∙ sym (ap (λ (t : Bool). cond (not (t && true)) (value_at b.pairs other) None) (ap (λ (last : Option (List ℕ)). is_above last other) (sym alike.last) ∙ is))

    by_key : (other : List ℕ) → key_less key other ≡ false → (s : Bool) → same other key ≡ s → (l : Bool) → key_less other key ≡ l
        → cond (same other key) (Some value) (cond (not (is_above a.last other && key_less other key)) (value_at a.pairs other) None)
        ≡ cond (same other key) (Some value) (cond (not (is_above b.last other && key_less other key)) (value_at b.pairs other) None)
    by_key other low true is l less_is =
        ap (λ (t : Bool). cond t (Some value) (cond (not (is_above a.last other && key_less other key)) (value_at a.pairs other) None)) is
        ∙ sym (ap (λ (t : Bool). cond t (Some value) (cond (not (is_above b.last other && key_less other key)) (value_at b.pairs other) None)) is)
    by_key other low false is true less_is =
        ap (λ (t : Bool). cond (same other key) (Some value) (cond (not (is_above a.last other && t)) (value_at a.pairs other) None)) less_is
        ∙ ap (cond (same other key) (Some value)) (by_above other (is_above a.last other) refl)
        ∙ sym (ap (λ (t : Bool). cond (same other key) (Some value) (cond (not (is_above b.last other && t)) (value_at b.pairs other) None)) less_is)
    by_key other low false is false less_is =
        absurd (false≢true (sym is ∙ ap (same other) (less_connected key other low less_is) ∙ same_itself other))

-- and so does each operation
pub alike_by : (a b : Recovery) (op : Op) → AreAlike a b → AreAlike (recovered_by a op) (recovered_by b op)
alike_by a b (Set key value) alike = record {
  last = alike.last;
  values = λ other low. value_put key value a.pairs other ∙ ap (cond (same other key) (Some value)) (alike.values other low) ∙ sym (value_put key value b.pairs other);
}
alike_by a b (Clear begin end) alike =
    let keeps : List ℕ → Bool = λ key. not (within (record { begin = begin; end = end }) key) in
    record {
      last = alike.last;
      values = λ other low.
          value_where keeps a.pairs other ∙ ap (λ (o : Option (List ℕ)). cond (keeps other) o None) (alike.values other low) ∙ sym (value_where keeps b.pairs other);
    }
alike_by a b (SnapItem key value) alike = alike_item a b key value alike
alike_by a b SnapEnd alike = record { last = refl; values = λ other low. absurd (false≢true (sym low)) }
alike_by a b Commit alike = alike

pub alike_ops : (ops : List Op) (a b : Recovery) → AreAlike a b → AreAlike (fold recovered_by a ops) (fold recovered_by b ops)
alike_ops [] a b alike = alike
alike_ops (op ∷ ops) a b alike = alike_ops ops (recovered_by a op) (recovered_by b op) (alike_by a b op alike)

-- the end of a snapshot leaves two such equal
pub equal_end : (a b : Recovery) → Sorted a.pairs → Sorted b.pairs → AreAlike a b → recovered_by a SnapEnd ≡ recovered_by b SnapEnd
equal_end a b a_sorted b_sorted alike = let pairs = low_alike a b a_sorted b_sorted alike in λ i. record { pairs = pairs i; last = None }

-- so of two such recoveries operations with an end leave equal ones
pub equal_ops : (ops : List Op) (a b : Recovery) → Sorted a.pairs → Sorted b.pairs → AreAlike a b → IsTrue (list_any is_end ops) → fold recovered_by a ops ≡ fold recovered_by b ops
equal_ops [] a b a_sorted b_sorted alike ends = absurd (false≢true ends)
equal_ops (SnapEnd ∷ ops) a b a_sorted b_sorted alike ends = ap (λ (r : Recovery). fold recovered_by r ops) (equal_end a b a_sorted b_sorted alike)
equal_ops (Set key value ∷ ops) a b a_sorted b_sorted alike ends =
    let op = Set key value in
    equal_ops ops (recovered_by a op) (recovered_by b op) (sorted_by a op a_sorted) (sorted_by b op b_sorted) (alike_by a b op alike) ends
equal_ops (Clear begin end ∷ ops) a b a_sorted b_sorted alike ends =
    let op = Clear begin end in
    equal_ops ops (recovered_by a op) (recovered_by b op) (sorted_by a op a_sorted) (sorted_by b op b_sorted) (alike_by a b op alike) ends
equal_ops (SnapItem key value ∷ ops) a b a_sorted b_sorted alike ends =
    let op = SnapItem key value in
    equal_ops ops (recovered_by a op) (recovered_by b op) (sorted_by a op a_sorted) (sorted_by b op b_sorted) (alike_by a b op alike) ends
equal_ops (Commit ∷ ops) a b a_sorted b_sorted alike ends = equal_ops ops a b a_sorted b_sorted alike ends

-- and so do frames with an end
pub equal_frames : (frames : List Frame) (a b : Recovery) → Sorted a.pairs → Sorted b.pairs → AreAlike a b → IsTrue (list_any has_end frames) → fold frame_on a frames ≡ fold frame_on b frames
equal_frames [] a b a_sorted b_sorted alike ends = absurd (false≢true ends)
equal_frames (frame ∷ frames) a b a_sorted b_sorted alike ends =
    by_end (has_end frame) refl ends
    (equal_frames frames (frame_on a frame) (frame_on b frame) (sorted_recovered (ops_of frame) a a_sorted) (sorted_recovered (ops_of frame) b b_sorted) (alike_ops (ops_of frame) a b alike))
  where
    by_end : (t : Bool) → has_end frame ≡ t → IsTrue (t || list_any has_end frames)
        → (IsTrue (list_any has_end frames) → fold frame_on (frame_on a frame) frames ≡ fold frame_on (frame_on b frame) frames)
        → fold frame_on (frame_on a frame) frames ≡ fold frame_on (frame_on b frame) frames
    by_end true is any later = ap (λ (r : Recovery). fold frame_on r frames) (equal_ops (ops_of frame) a b a_sorted b_sorted alike is)
    by_end false is any later = later any

pub independent : (ops : List Op) (a b : Map) → Sorted a → Sorted b → IsTrue (list_any is_end ops) → fold recovered_by (from_map a) ops ≡ fold recovered_by (from_map b) ops
independent ops a b a_sorted b_sorted ends = equal_ops ops (from_map a) (from_map b) a_sorted b_sorted (alike_unbegun (from_map a) (from_map b) refl refl) ends

pub independent_frames : (frames : List Frame) (a b : Map) → Sorted a → Sorted b → IsTrue (list_any has_end frames) → fold frame_on (from_map a) frames ≡ fold frame_on (from_map b) frames
independent_frames frames a b a_sorted b_sorted ends = equal_frames frames (from_map a) (from_map b) a_sorted b_sorted (alike_unbegun (from_map a) (from_map b) refl refl) ends

-- The operations of a payload in which a snapshot ends leave no last item.
ended_ending : (ops : List Op) (r : Recovery) → IsTrue (is_ending ops) → IsTrue (list_any is_end ops) → (fold recovered_by r ops).last ≡ None
ended_ending [] r form ends = absurd (false≢true form)
ended_ending (Set key value ∷ ops) r form ends = absurd (false≢true form)
ended_ending (Clear begin end ∷ ops) r form ends = absurd (false≢true form)
ended_ending (SnapItem key value ∷ ops) r form ends = absurd (false≢true form)
ended_ending (SnapEnd ∷ []) r form ends = absurd (false≢true form)
ended_ending (SnapEnd ∷ Set key value ∷ ops) r form ends = absurd (false≢true form)
ended_ending (SnapEnd ∷ Clear begin end ∷ ops) r form ends = absurd (false≢true form)
ended_ending (SnapEnd ∷ SnapItem key value ∷ ops) r form ends = absurd (false≢true form)
ended_ending (SnapEnd ∷ SnapEnd ∷ ops) r form ends = absurd (false≢true form)
ended_ending (SnapEnd ∷ Commit ∷ []) r form ends = refl
ended_ending (SnapEnd ∷ Commit ∷ op ∷ ops) r form ends = absurd (false≢true form)
ended_ending (Commit ∷ []) r form ends = absurd (false≢true ends)
ended_ending (Commit ∷ op ∷ ops) r form ends = absurd (false≢true form)

ended_above : (last : List ℕ) (ops : List Op) (r : Recovery) → IsTrue (has_form_above last ops) → IsTrue (list_any is_end ops) → (fold recovered_by r ops).last ≡ None
ended_above last [] r form ends = ended_ending [] r form ends
ended_above last (Set key value ∷ ops) r form ends = ended_ending (Set key value ∷ ops) r form ends
ended_above last (Clear begin end ∷ ops) r form ends = ended_ending (Clear begin end ∷ ops) r form ends
ended_above last (SnapItem key value ∷ ops) r form ends = ended_above key ops (recovered_by r (SnapItem key value)) (and_parts (less last key) (has_form_above key ops) form).1 ends
ended_above last (SnapEnd ∷ ops) r form ends = ended_ending (SnapEnd ∷ ops) r form ends
ended_above last (Commit ∷ ops) r form ends = ended_ending (Commit ∷ ops) r form ends

pub ended : (ops : List Op) (r : Recovery) → IsTrue (has_form ops) → IsTrue (list_any is_end ops) → (fold recovered_by r ops).last ≡ None
ended [] r form ends = ended_ending [] r form ends
ended (Set key value ∷ ops) r form ends = ended ops (recovered_by r (Set key value)) form ends
ended (Clear begin end ∷ ops) r form ends = ended ops (recovered_by r (Clear begin end)) (and_parts (less begin end) (has_form ops) form).1 ends
ended (SnapItem key value ∷ ops) r form ends = ended_above key ops (recovered_by r (SnapItem key value)) form ends
ended (SnapEnd ∷ ops) r form ends = ended_ending (SnapEnd ∷ ops) r form ends
ended (Commit ∷ ops) r form ends = ended_ending (Commit ∷ ops) r form ends

-- a frame in which a snapshot ends, with a payload's operations
pub record IsEnded (frame : Frame) : Type 0 where
  pub ends : IsTrue (has_end frame)
  pub form : IsTrue (has_form (ops_of frame))

pub ended_frame : (frame : Frame) (r : Recovery) → IsEnded frame → (frame_on r frame).last ≡ None
ended_frame frame r is = ended (ops_of frame) r is.form is.ends

-- a frame whose payload is known is such
pub is_ended : (ops : List Op) (frame : Frame) → reading frame.payload ≡ Ok ops → IsPayload ops → IsTrue (list_any is_end ops) → IsEnded frame
is_ended ops frame read payload ends =
    let are : ops ≡ ops_of frame = ap (λ (read : Result (List Op) ℕ). result_unwrap_or read []) (sym read) in
    record {
      ends = subst (λ (l : List Op). IsTrue (list_any is_end l)) are ends;
      form = subst (λ (l : List Op). IsTrue (has_form l)) are payload.form;
    }

-- Frames before which no snapshot was begun, and in which one ends, make the same of the empty map without those before them.
pub without_older : (older frames : List Frame) → (fold frame_on (from_map []) older).last ≡ None → IsTrue (list_any has_end frames)
    → fold frame_on (from_map []) (older ++ frames) ≡ fold frame_on (from_map []) frames
without_older older frames none ends =
    let before : Recovery = fold frame_on (from_map []) older in
    fold-append frame_on (from_map []) older frames
    ∙ equal_frames frames before (from_map []) (sorted_frames older (from_map []) refl) refl (alike_unbegun before (from_map []) none refl) ends
