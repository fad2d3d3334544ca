-- What a mount makes of a queue's frames, one after another.
use Rattle.std.proofs.Common.{◌≡◌, ◌∙◌, ◌<◌, ◌≤◌, ◌+◌, ◌-◌, ◌^◌, ◌++◌, ℕ, min, max, Bool, true, false, if◌then◌else◌, List, [], ◌∷◌, Option, None, IsTrue, refl, sym, ap, subst, arith}
use Rattle.std.specs.List.{AllByRecursion}
use Rattle.std.proofs.lemmas.List.Sums.{fold-append}
use Rattle.st_fold.specs.Map.{Map}
use Rattle.st_queue.specs.Reading.{Rises}
use Rattle.st_queue.specs.declared.frame.Frame.{Frame}
use Rattle.st_engine.specs.Holding.{Points, began_behind, points_of, points_on}
use Rattle.st_engine.specs.Kept.{Stand}
use Rattle.st_engine.specs.Replay.{Recovery, frame_on}
use Rattle.st_engine.specs.Snapshot.{has_close}
use Rattle.st_engine.proofs.Keeping.{appended, ended, nothing-stands}

-- so far these frames were read, and those are left
pub record Read (discarded began : ℕ) (pairs : Map) (cursor : Option (List ℕ)) (taken left : List Frame) : Type 0 where
  pub stand : Stand discarded began pairs cursor taken
  pub points : record { discarded = discarded; began = began } ≡ points_of taken
  pub order : discarded ≤ began
  pub below : (next : ℕ) → AllByRecursion (λ frame. frame.seq < next) taken → began ≤ next
  pub from : ℕ
  pub above : began ≤ from
  pub rises : Rises from left

pub none-read : (frames : List Frame) → Rises 0 frames → Read 0 0 [] None [] frames
none-read frames rises = record { stand = nothing-stands; points = refl; order = omega arith; below = λ next all. omega arith; from = 0; above = omega arith; rises = rises }

all-before : (P : Frame → Type 0) (l : List Frame) (frame : Frame) → AllByRecursion P (l ++ frame ∷ []) → AllByRecursion P l × P frame
all-before P [] frame all = (tt, all.0)
all-before P (x ∷ l) frame all = let rest = all-before P l frame all.1 in ((all.0, rest.0), rest.1)

module _ (discarded began : ℕ) (pairs : Map) (cursor : Option (List ℕ)) (taken left : List Frame) (frame : Frame) (read : Read discarded began pairs cursor taken (frame ∷ left)) (after : Recovery) (on : frame_on (record { pairs = pairs; last = cursor }) frame ≡ after) where
  one-more : has_close frame ≡ false → record { discarded = discarded; began = began } ≡ points_of (taken ++ frame ∷ [])
  one-more goes = read.points ∙ sym (fold-append points_on (record { discarded = 0; began = 0 }) taken (frame ∷ []) ∙ ap (λ (closed : Bool). if closed then record { discarded = (points_of taken).began; began = began_behind frame.seq } else points_of taken) goes)

  one-closed : has_close frame ≡ true → record { discarded = began; began = began_behind frame.seq } ≡ points_of (taken ++ frame ∷ [])
  one-closed closes = ap (λ (now : Points). record { discarded = now.began; began = began_behind frame.seq }) read.points
      ∙ sym (fold-append points_on (record { discarded = 0; began = 0 }) taken (frame ∷ []) ∙ ap (λ (closed : Bool). if closed then record { discarded = (points_of taken).began; began = began_behind frame.seq } else points_of taken) closes)

  pub read-on : has_close frame ≡ false → Read discarded began after.pairs after.last (taken ++ frame ∷ []) left
  read-on goes = record {
    stand = appended discarded began pairs cursor taken read.stand frame after on (omega (arith, read.order, read.above, read.rises.0)) (omega (arith, read.above, read.rises.0));
    points = one-more goes;
    order = read.order;
    below = λ next all. read.below next (all-before (λ (f : Frame). f.seq < next) taken frame all).0;
    from = frame.seq + 1;
    above = omega (arith, read.above, read.rises.0);
    rises = read.rises.1;
  }

  pub read-closed : IsTrue (has_close frame) → (next : ℕ) → next ≡ min (frame.seq + 1) (2 ^ 64 - 1) → began < 2 ^ 64 → Read began next after.pairs after.last (taken ++ frame ∷ []) left
  read-closed closes next is small =
      let larger : max discarded began ≡ began = omega (arith, read.order) in
      record {
        stand = subst (λ (d : ℕ). Stand d next after.pairs after.last (taken ++ frame ∷ [])) larger
            (ended discarded began pairs cursor taken read.stand frame after on next closes (omega (arith, read.order, read.above, read.rises.0)) (omega (arith, read.above, read.rises.0)));
        points = ap (λ (n : ℕ). record { discarded = began; began = n }) is ∙ one-closed closes;
        order = omega (arith, is, small, read.above, read.rises.0);
        below = λ n all. omega (arith, is, (all-before (λ (f : Frame). f.seq < n) taken frame all).1);
        from = frame.seq + 1;
        above = omega (arith, is);
        rises = read.rises.1;
      }
